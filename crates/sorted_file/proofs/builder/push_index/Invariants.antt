use Rattle.std.proofs.Common.{◌≡◌, ◌++◌, length}
use Rattle.std.specs.Prelude.{flat_map}
use Rattle.std.specs.List.{AllByRecursion}
use Rattle.sorted_file.specs.Builder.{HasShortText, row_spelled}
use Rattle.sorted_file.proofs.builder.push_index.Given as goal

abbrev pub invariant-rows : goal.invariant-rows
invariant-rows l = record {
  made : l.out.items ++ flat_map row_spelled l.rest ≡ l.initial.out.items ++ flat_map row_spelled l.fn.rows;
  short : AllByRecursion HasShortText l.rest;
}

abbrev pub decreases-rows : goal.decreases-rows
decreases-rows l = length l.rest
