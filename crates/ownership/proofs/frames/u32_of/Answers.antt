use Rattle.std.proofs.Common.{arith}
use Rattle.ownership.proofs.Bodies.{spells_4}
use Rattle.ownership.proofs.frames.u32_of.Goals as goal

pub returns-clause-bytes : goal.returns-clause-bytes
returns-clause-bytes c = spells_4 c.args.bytes.now c.read_u32.result c.requires (λ i. omega (arith, c.type_inv.bytes i)) (omega arith)
