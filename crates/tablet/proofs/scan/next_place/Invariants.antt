-- so far no value at or above `past` was passed
use Rattle.std.proofs.Common.{◌≡◌}
use Rattle.tablet.proofs.ReadPlaces.{HasPassed}
use Rattle.tablet.proofs.scan.next_place.Given as goal

abbrev pub invariant-loop-source : goal.invariant-loop-source
invariant-loop-source g l = record {
  same : g.F.Files.contents l.store ≡ g.F.Files.contents l.initial.store;
  quiet : g.F.Files.faults l.store ≡ g.F.Files.faults l.initial.store;
  told : g.S.Source.holds (g.F.Files.contents l.initial.store) l.initial.source → g.S.Source.holds (g.F.Files.contents l.initial.store) l.source
      × HasPassed l.past (g.S.Source.remaining (g.F.Files.contents l.initial.store) l.initial.source) (g.S.Source.remaining (g.F.Files.contents l.initial.store) l.source);
}

abbrev pub decreases-loop-source : goal.decreases-loop-source
decreases-loop-source g l = g.S.Source.left l.source
