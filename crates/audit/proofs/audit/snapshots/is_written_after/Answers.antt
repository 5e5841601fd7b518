use Rattle.si_model.specs.Reads.{cell_of}
use Rattle.audit.proofs.audit.snapshots.is_written_after.Goals as goal

pub returns-in-Some : goal.returns-in-Some
returns-in-Some c = c.ends_after.ensures c.args.commits.now (cell_of c.args.row.now c.args.family.now) c.in-Some.ensures
