-- The pushed tablet is the only one.
use Rattle.std.proofs.Common.{[], ◌∷◌, ◌++◌, ap, ◌∙◌}
use Rattle.row_atomic.proofs.cluster.first_tablet.Goals as goal

pub returns-clause-tablet : goal.returns-clause-tablet
returns-clause-tablet c = record {
  tablet = c.new-tablet.result;
  alone = c.in_ok-push.ensures.items ∙ ap (λ ts. ts ++ c.new-tablet.result ∷ []) c.new-tablets.ensures.items;
  range = c.new-tablet.ensures.range;
  memory = c.new-tablet.ensures.memory;
  files = c.new-tablet.ensures.files;
}
