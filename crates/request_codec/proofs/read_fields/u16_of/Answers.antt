use Rattle.std.proofs.Common.{arith}
use Rattle.request_codec.proofs.Fields.{spells_2}
use Rattle.request_codec.proofs.read_fields.u16_of.Goals as goal

pub returns : goal.returns
returns c = spells_2 c.args.bytes.now c.read_u16.result c.requires (λ i. omega (arith, c.type_inv.bytes i)) (omega arith)
