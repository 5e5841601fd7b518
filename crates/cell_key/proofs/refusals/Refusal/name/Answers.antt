use Rattle.std.proofs.Common.{sym, ap}
use Rattle.cell_key.specs.Refusals.{refusal_name}
use Rattle.cell_key.proofs.refusals.Refusal.name.Goals as goal

pub returns-in-BadSplit : goal.returns-in-BadSplit
returns-in-BadSplit c = ap refusal_name (sym c.in-BadSplit.is)
