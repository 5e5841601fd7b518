use Rattle.std.proofs.Common.{◌≡◌, ◌++◌, ℕ, List, map, length}
use Rattle.sorted_file.specs.File.{name_of}
use Rattle.tablet.proofs.run_merge.begins_with.Given as goal

-- the names that were compared are those of the files that were
abbrev pub invariant-names : goal.invariant-names
invariant-names l = (done : List ℕ) × (l.fn.names ≡ done ++ l.names_left) × (map name_of l.fn.files ≡ done ++ map name_of l.files_left)

abbrev pub decreases-names : goal.decreases-names
decreases-names l = length l.names_left
