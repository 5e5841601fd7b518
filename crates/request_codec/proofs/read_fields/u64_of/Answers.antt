use Rattle.std.proofs.Common.{arith}
use Rattle.request_codec.proofs.Fields.{spells_8}
use Rattle.request_codec.proofs.read_fields.u64_of.Goals as goal

pub returns : goal.returns
returns c = spells_8 c.args.bytes.now c.read_u64.result c.requires (λ i. omega (arith, c.type_inv.bytes i)) (omega arith)
