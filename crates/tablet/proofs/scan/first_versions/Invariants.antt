-- the versions found so far, followed by those of the rest, are all
use Rattle.std.proofs.Common.{◌≡◌, ◌≤◌, ◌++◌, length, map}
use Rattle.std.specs.List.{AllByRecursion}
use Rattle.cell_key.specs.Versions.{IsVersion, stamped}
use Rattle.tablet.specs.Reads.{stamped_values}
use Rattle.tablet.proofs.scan.first_versions.Given as goal

abbrev pub invariant-wanted : goal.invariant-wanted
invariant-wanted g l = record {
  same : g.F.Files.contents l.store ≡ g.F.Files.contents l.initial.store;
  quiet : g.F.Files.faults l.store ≡ g.F.Files.faults l.initial.store;
  few : length l.found.items ≤ l.most;
  limits : AllByRecursion (λ version. IsVersion version.0 version.1.items) l.found.items;
  told : g.S.Source.holds (g.F.Files.contents l.initial.store) l.initial.source → g.S.Source.holds (g.F.Files.contents l.initial.store) l.source
      × (map stamped l.found.items ++ stamped_values (g.S.Source.remaining (g.F.Files.contents l.initial.store) l.source) ≡ stamped_values (g.S.Source.remaining (g.F.Files.contents l.initial.store) l.initial.source));
}

abbrev pub decreases-wanted : goal.decreases-wanted
decreases-wanted g l = g.S.Source.left l.source
