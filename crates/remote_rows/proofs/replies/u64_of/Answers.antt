use Rattle.std.proofs.Common.{sym, arith}
use Rattle.std.proofs.lemmas.Nat.{be_bytes_8}
use Rattle.remote_rows.proofs.replies.u64_of.Goals as goal

pub returns : goal.returns
returns c = sym (be_bytes_8 c.args.bytes.now c.read_u64.result c.requires (λ i. omega (arith, c.type_inv.bytes i)) (omega arith))
