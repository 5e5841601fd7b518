use Rattle.tablet.specs.Views.{lists_of, range_of}
use Rattle.tablet.proofs.Held.{held_lists}
use Rattle.tablet.proofs.Shown.{shown}
use Rattle.tablet.proofs.laws.shows_its_lists.Goals as goal

pub returns : goal.returns
returns c = λ m t h. shown (range_of t) (lists_of m t) (held_lists m t h)
