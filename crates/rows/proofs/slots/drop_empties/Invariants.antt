use Rattle.std.proofs.Common.{◌≡◌}
use Rattle.std.specs.Vec.Iter.{into_iter_items}
use Rattle.rows.specs.Slots.{slot_cells, IsFullBut}
use Rattle.rows.proofs.slots.drop_empties.Given as goal

-- the cells are unchanged, and only the remaining keys may have empty slots
abbrev pub invariant-loop-key : goal.invariant-loop-key
invariant-loop-key l =
    record {
      same : slot_cells l.slots.entries ≡ slot_cells l.fn.slots.entries;
      full : IsFullBut (into_iter_items l.key-iterator) l.slots.entries;
    }
