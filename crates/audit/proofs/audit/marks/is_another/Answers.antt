use Rattle.audit.proofs.HeldCells.{is_another}
use Rattle.audit.proofs.audit.marks.is_another.Goals as goal

pub returns : goal.returns
returns c = is_another (c.args.row.now, c.args.family.now) c.args.name.now c.is_name.result c.is_name.ensures.0 c.is_name.ensures.1
