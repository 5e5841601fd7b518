use Rattle.std.proofs.Common.{sym, arith}
use Rattle.std.proofs.lemmas.Nat.{be_bytes_4}
use Rattle.remote_rows.proofs.replies.u32_of.Goals as goal

pub returns : goal.returns
returns c = sym (be_bytes_4 c.args.bytes.now c.read_u32.result c.requires (λ i. omega (arith, c.type_inv.bytes i)) (omega arith))
