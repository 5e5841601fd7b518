-- the cells of the entries passed so far are gathered
use Rattle.std.proofs.Common.{◌≡◌}
use Rattle.tablet.specs.Gathering.{IsWithin}
use Rattle.tablet.proofs.NextVersions.{HasGone}
use Rattle.tablet.proofs.scan.next_versions.Given as goal

abbrev pub invariant-loop-gathering : goal.invariant-loop-gathering
invariant-loop-gathering g l = record {
  same : g.F.Files.contents l.store ≡ g.F.Files.contents l.initial.store;
  quiet : g.F.Files.faults l.store ≡ g.F.Files.faults l.initial.store;
  within : IsWithin l.gathering;
  limits : l.gathering.limits ≡ l.fn.limits;
  hi : l.gathering.hi ≡ l.hi;
  told : g.S.Source.holds (g.F.Files.contents l.initial.store) l.initial.source → g.S.Source.holds (g.F.Files.contents l.initial.store) l.source
      × HasGone (g.S.Source.remaining (g.F.Files.contents l.initial.store) l.initial.source) (g.S.Source.remaining (g.F.Files.contents l.initial.store) l.source) l.gathering;
}

abbrev pub decreases-loop-gathering : goal.decreases-loop-gathering
decreases-loop-gathering g l = g.S.Source.left l.source
