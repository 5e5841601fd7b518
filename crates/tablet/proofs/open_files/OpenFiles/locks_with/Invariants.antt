use Rattle.std.proofs.Common.{◌≡◌, ◌+◌, ◌++◌, ◌∷◌, List, take, drop, length}
use Rattle.sorted_file.specs.LockIndexes.{IsIndexOf}
use Rattle.sorted_file.specs.declared.file.SortedFile.{SortedFile}
use Rattle.tablet.proofs.open_files.OpenFiles.locks_with.Given as goal

abbrev pub invariant-newer : goal.invariant-newer
invariant-newer l = record {
  older : List SortedFile;
  all : l.newer ++ older ≡ take l.fn.at l.fn.self ++ l.fn.file ∷ drop (l.fn.at + l.fn.count) l.fn.self;
  index : IsIndexOf l.index older;
}

abbrev pub decreases-newer : goal.decreases-newer
decreases-newer l = length l.newer
