use Rattle.std.proofs.Common.{take}
use Rattle.std.specs.Prelude.{All}
use Rattle.sorted_file.specs.KeyFilters.{Covers}
use Rattle.sorted_file.proofs.key_filter.KeyFilter.new.Given as goal

abbrev pub invariant-loop-file : goal.invariant-loop-file
invariant-loop-file l = All (Covers l.filter) (take l.file-index l.fn.files)
