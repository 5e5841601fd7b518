use Rattle.std.proofs.Common.{◌≡◌, ◌+◌, length, drop}
use Rattle.std.specs.List.{flat_map}
use Rattle.si_model.specs.Answers.{cells_named}
use Rattle.request_codec.specs.Fields.{cell_fields}
use Rattle.request_codec.proofs.write_lists.cells_length.Given as goal

abbrev pub invariant-loop-cell : goal.invariant-loop-cell
invariant-loop-cell l = l.sum + length (flat_map cell_fields (cells_named (drop l.cell-index l.cells))) ≡ length (flat_map cell_fields (cells_named l.cells))
