use Rattle.std.proofs.Common.{◌≡◌, ◌≢◌, ◌<◌, ℕ, get_or}
use Rattle.std.specs.List.{All}
use Rattle.cell_key.specs.declared.keys.CellKey.{CellKey}
use Rattle.rows.specs.Slots.{slot_cells, HasSlot, EmptiesNone}
use Rattle.rows.proofs.slots.make_slots.Given as goal

-- the cells are unchanged, the keys so far have slots, and no other key has a new one
abbrev pub invariant-loop-key : goal.invariant-loop-key
invariant-loop-key l =
    record {
      same : slot_cells l.slots.entries ≡ slot_cells l.fn.slots.entries;
      slots : (i : ℕ) (d : CellKey) → i < l.key-index → HasSlot l.slots.entries (get_or l.keys i d);
      empties : EmptiesNone (λ q. All (λ key. key ≢ q) l.keys) l.fn.slots.entries l.slots.entries;
    }
