use Rattle.std.proofs.Common.{refl}
use Rattle.si_model.specs.Reads.{cell_of}
use Rattle.audit.proofs.SpannedCells.{begins_if}
use Rattle.audit.proofs.audit.spans.first_name.Goals as goal

pub returns-in-Some : goal.returns-in-Some
returns-in-Some c = rw c.in-Some.is (begins_if (cell_of c.in-Some.row.now c.in-Some.family.now) c.name_of.result c.name_of.ensures)

pub returns-in-None : goal.returns-in-None
returns-in-None c = λ x comes. refl
