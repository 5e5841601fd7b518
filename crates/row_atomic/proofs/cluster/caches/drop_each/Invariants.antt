-- The tablets are the same as before.
use Rattle.std.proofs.Common.{Option}
use Rattle.std.specs.List.{AllZip}
use Rattle.file_store.specs.Store.{Contents}
use Rattle.tablet.specs.Views.{IsSameTablet}
use Rattle.row_atomic.proofs.cluster.caches.drop_each.Given as goal

abbrev pub invariant-loop-tablet : goal.invariant-loop-tablet
invariant-loop-tablet l = record {
  same : (told : Option Contents) → AllZip (IsSameTablet told) l.initial.tablets l.tablets;
}
