use Rattle.std.proofs.Common.{arith}
use Rattle.request_codec.proofs.Fields.{spells_4}
use Rattle.request_codec.proofs.read_fields.u32_of.Goals as goal

pub returns : goal.returns
returns c = spells_4 c.args.bytes.now c.read_u32.result c.requires (λ i. omega (arith, c.type_inv.bytes i)) (omega arith)
