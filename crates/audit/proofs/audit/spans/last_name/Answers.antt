use Rattle.si_model.specs.Replies.{reach_of}
use Rattle.audit.proofs.SpannedCells.{ends_behind_if}
use Rattle.audit.proofs.audit.spans.last_name.Goals as goal

pub returns-in-End-Some : goal.returns-in-End-Some
returns-in-End-Some c = rw c.in-End-Some.is-1 (ends_behind_if c.in-End-Some.row.now (reach_of c.args.reach.now) c.name_after.result c.name_after.ensures)
