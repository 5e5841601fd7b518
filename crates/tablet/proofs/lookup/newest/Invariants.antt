use Rattle.std.proofs.Common.{◌≡◌, ◌≤◌, ℕ, List, Option, drop, map, option_map}
use Rattle.std.specs.Prelude.{IfSome}
use Rattle.std.specs.List.{AllByRecursion, AllZip}
use Rattle.cell_key.specs.Entries.{merged, or_else}
use Rattle.sorted_file.specs.Newest.{found_bytes, IsNewestEntry, IsShortValue}
use Rattle.sorted_file.specs.File.{IsOpen, IsSameFile, listed}
use Rattle.tablet.proofs.lookup.newest.Given as goal

-- with the newest entry of the remaining files after the stamp found, what was found is the newest of all files
abbrev pub invariant-loop-file : goal.invariant-loop-file
invariant-loop-file g l = record {
  same : g.F.Files.contents l.store ≡ g.F.Files.contents l.initial.store;
  quiet : g.F.Files.faults l.store ≡ g.F.Files.faults l.initial.store;
  from : l.lo ≤ l.from;
  within : IfSome l.found (λ entry. (l.lo ≤ entry.0) × (entry.0 ≤ l.key.stamp));
  short : IfSome l.found (λ entry. IsShortValue entry.1);
  stay : AllZip (IsSameFile (g.F.Files.contents l.initial.store)) l.initial.files l.files;
  told : IfSome (g.F.Files.contents l.initial.store) (λ m. AllByRecursion (IsOpen m) l.initial.files
      → (newest : Option (ℕ × Option (List ℕ))) → IsNewestEntry (merged (map (listed m) (drop l.file-index l.initial.files))) l.key l.from newest
      → IsNewestEntry (merged (map (listed m) l.initial.files)) l.key l.lo (or_else newest (option_map found_bytes l.found)));
}
