use Rattle.std.proofs.Common.{◌≡◌, ◌-◌, ◌++◌, length}
use Rattle.std.specs.List.{AllByRecursion, flat_map}
use Rattle.si_model.specs.Answers.{cells_named}
use Rattle.request_codec.specs.Fields.{cell_fields, FitsCell}
use Rattle.request_codec.specs.Operations.{AreCells}
use Rattle.request_codec.proofs.read_lists.own_cells.Given as goal

abbrev pub invariant-loop : goal.invariant-loop
invariant-loop l = record {
  left : AreCells (l.count - l.counter) l.rest;
  whole : l.bytes ≡ flat_map cell_fields (cells_named l.cells.items) ++ l.rest;
  many : length l.cells.items ≡ l.counter;
  all_fit : AllByRecursion FitsCell (cells_named l.cells.items);
}
