use Rattle.std.proofs.Common.{sym, ap}
use Rattle.cell_key.specs.Keys.{qualifier_name}
use Rattle.cell_key.proofs.keys.Qualifier.name.Goals as goal

pub returns-in-Lock : goal.returns-in-Lock
returns-in-Lock c = ap qualifier_name (sym c.in-Lock.is)
