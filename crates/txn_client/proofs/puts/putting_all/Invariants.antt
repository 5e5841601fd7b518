use Rattle.std.proofs.Common.{◌≡◌, ◌++◌, List, map}
use Rattle.std.specs.List.{AllByRecursion}
use Rattle.std.specs.Vec.Iter.{into_iter_items}
use Rattle.cell_key.specs.Cells.{Cells, after_edits}
use Rattle.rows.specs.RowEdits.{AreOfTheirRow, all_edits}
use Rattle.rows.specs.declared.row_edits.RowEdits.{RowEdits}
use Rattle.si_model.specs.PutCells.{all_put_cells}
use Rattle.txn_client.specs.Puts.{ArePuttings}
use Rattle.txn_client.specs.Writes.{write_of}
use Rattle.txn_client.proofs.puts.putting_all.Given as goal

-- the edits of the writes so far, and then those of the writes that are left
abbrev pub invariant-loop-write : goal.invariant-loop-write
invariant-loop-write l =
    let rest = map write_of (into_iter_items l.write-iterator) in
    let all = map write_of l.fn.writes.items in
    record {
      made : (cells : Cells) → all_put_cells (after_edits cells (all_edits l.changes.items)) rest l.start l.commit ≡ all_put_cells cells all l.start l.commit;
      under : AllByRecursion AreOfTheirRow l.changes.items;
      puttings : (more : List RowEdits) → ArePuttings l.start l.commit rest more → ArePuttings l.start l.commit all (l.changes.items ++ more);
    }
