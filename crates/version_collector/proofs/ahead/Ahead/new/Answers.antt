use Rattle.std.proofs.Common.{refl, ◌∙◌}
use Rattle.version_collector.proofs.AheadCells.{nothing_ahead}
use Rattle.version_collector.proofs.ahead.Ahead.new.Goals as goal

pub returns : goal.returns
returns c = λ cells after. nothing_ahead cells after _ _ refl (c.into_iter.ensures.rest ∙ c.new.ensures.items)
