use Rattle.std.proofs.Common.{◌≡◌, ◌≤◌, ◌++◌, length, drop, vec_capacity}
use Rattle.std.specs.List.{flat_map}
use Rattle.si_model.specs.Answers.{cells_named}
use Rattle.request_codec.specs.Fields.{cell_fields}
use Rattle.request_codec.specs.Buffers.{HasRoomFor}
use Rattle.request_codec.proofs.write_lists.push_cells.Given as goal

abbrev pub invariant-loop-cell : goal.invariant-loop-cell
invariant-loop-cell l = record {
  written : l.out.items ++ flat_map cell_fields (cells_named (drop l.cell-index l.cells)) ≡ l.fn.out.items ++ flat_map cell_fields (cells_named l.cells);
  room : HasRoomFor l.out (length (flat_map cell_fields (cells_named (drop l.cell-index l.cells))));
  grown : vec_capacity l.fn.out ≤ vec_capacity l.out;
}
