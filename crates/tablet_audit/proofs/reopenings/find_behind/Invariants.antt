use Rattle.std.proofs.Common.{◌≡◌, length}
use Rattle.tablet_audit.specs.Runs.{reopening_behind}
use Rattle.tablet_audit.proofs.reopenings.find_behind.Given as goal

abbrev pub invariant-places : goal.invariant-places
invariant-places l = reopening_behind l.number l.reopenings ≡ reopening_behind l.number l.rest

abbrev pub decreases-places : goal.decreases-places
decreases-places l = length l.rest
