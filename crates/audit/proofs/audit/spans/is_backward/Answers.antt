use Rattle.std.proofs.Common.{sym, ap, ◌∙◌}
use Rattle.std.specs.Ordering.{is_gt}
use Rattle.audit.proofs.SpannedCells.{empty_part}
use Rattle.audit.proofs.audit.spans.is_backward.Goals as goal

pub returns-in-Some-Some-clause-empty : goal.returns-in-Some-Some-clause-empty
returns-in-Some-Some-clause-empty c = rw (c.in-Some-Some.is-0, c.in-Some-Some.is-1) (λ t name. empty_part c.in-Some-Some.first c.in-Some-Some.last (ap is_gt (sym c.cmp.ensures) ∙ (sym c.is_gt.ensures ∙ t)) name)
