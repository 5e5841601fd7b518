use Rattle.std.proofs.Common.{◌≡◌, ◌++◌, length, map}
use Rattle.std.specs.Prelude.{IfSome}
use Rattle.std.specs.List.{AllByRecursion}
use Rattle.sorted_file.specs.File.{IsOpen, name_of}
use Rattle.tablet.proofs.tablet.Tablet.load.Given as goal

abbrev pub invariant-names : goal.invariant-names
invariant-names g l = record {
  contents : g.F.Files.contents l.files ≡ g.F.Files.contents l.initial.files;
  quiet : g.F.Files.faults l.files ≡ g.F.Files.faults l.initial.files;
  named : l.newer ++ map name_of l.open ≡ l.fn.names;
  opened : IfSome (g.F.Files.contents l.initial.files) (λ m. AllByRecursion (IsOpen m) l.open);
}

abbrev pub decreases-names : goal.decreases-names
decreases-names g l = length l.newer
