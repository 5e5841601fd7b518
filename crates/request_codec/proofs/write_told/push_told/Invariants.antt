use Rattle.std.proofs.Common.{◌≡◌, ◌+◌, ◌*◌, ◌≤◌, ◌++◌, length, vec_capacity}
use Rattle.std.specs.List.{flat_map}
use Rattle.si_model.specs.Transactions.{most_told, told_lengths}
use Rattle.si_model.specs.Answers.{told_items}
use Rattle.request_codec.specs.Answers.{told_fields}
use Rattle.request_codec.specs.Buffers.{HasRoomFor}
use Rattle.request_codec.proofs.write_told.push_told.Given as goal

abbrev pub invariant-cells : goal.invariant-cells
invariant-cells l = record {
  written : l.out.items ++ flat_map told_fields (told_items l.rest) ≡ l.fn.out.items ++ flat_map told_fields (told_items l.found);
  room : HasRoomFor l.out (length (flat_map told_fields (told_items l.rest)));
  short : told_lengths (told_items l.rest) ≤ most_told + 255 * 9;
  grown : vec_capacity l.fn.out ≤ vec_capacity l.out;
}

abbrev pub decreases-cells : goal.decreases-cells
decreases-cells l = length l.rest
