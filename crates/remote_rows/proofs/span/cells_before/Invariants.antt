use Rattle.std.specs.List.{AllByRecursion}
use Rattle.std.specs.Vec.Iter.{into_iter_items}
use Rattle.remote_rows.specs.Wires.{IsEdit}
use Rattle.remote_rows.proofs.Spans.{IsOnTheWay}
use Rattle.remote_rows.proofs.span.cells_before.Given as goal

abbrev pub invariant-loop-edit : goal.invariant-loop-edit
invariant-loop-edit l = record {
  way : IsOnTheWay l.end l.fn.edits.items (into_iter_items l.edit-iterator) l.rows;
  edits : AllByRecursion IsEdit (into_iter_items l.edit-iterator);
}
