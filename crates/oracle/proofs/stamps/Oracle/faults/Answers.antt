use Rattle.std.proofs.Common.{◌∙◌}
use Rattle.oracle.proofs.stamps.Oracle.faults.Goals as goal

pub returns : goal.returns
returns g c = c.faults.ensures ∙ (λ i. g.M.MarkStore.faults (c.self.view_is i).marks)
