use Rattle.std.proofs.Common.{◌≡◌, ◌++◌, List, length}
use Rattle.sorted_file.specs.LockIndexes.{IsIndexOf}
use Rattle.sorted_file.specs.declared.file.SortedFile.{SortedFile}
use Rattle.sorted_file.proofs.lock_index.LockIndex.of.Given as goal

abbrev pub invariant-loop-file : goal.invariant-loop-file
invariant-loop-file l = record {
  older : List SortedFile;
  all : l.newer ++ older ≡ l.fn.files;
  index : IsIndexOf l.index older;
}

abbrev pub decreases-loop-file : goal.decreases-loop-file
decreases-loop-file l = length l.newer
