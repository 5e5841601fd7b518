use Rattle.std.proofs.Common.{◌≡◌, ◌+◌, ◌≤◌, List, length, vec_len, vec_capacity}
use Rattle.std.specs.List.{AllByRecursion}
use Rattle.std.specs.Vec.Iter.{into_iter_items}
use Rattle.cell_key.specs.Entries.{Entry, IsRising, IsEntry}
use Rattle.memtable.specs.Slots.{slot_entries, over}
use Rattle.memtable.specs.Edits.{with_edits, HasStoredKey, IsLimited}
use Rattle.memtable.proofs.staging.stage.Given as goal

-- the staged entries over any table, and then the remaining edits, have the effect of all edits
abbrev pub invariant-loop-edit : goal.invariant-loop-edit
invariant-loop-edit l =
    record {
      rising : IsRising (slot_entries l.staged.items);
      edited : (table : List Entry) → IsRising table → with_edits (over (slot_entries l.staged.items) table) (into_iter_items l.edit-iterator) ≡ with_edits table l.fn.edits.items;
      limits : AllByRecursion IsEntry (slot_entries l.staged.items);
      room : vec_len l.staged + length (into_iter_items l.edit-iterator) ≤ vec_capacity l.staged;
      edits : AllByRecursion IsLimited (into_iter_items l.edit-iterator);
      keys : AllByRecursion HasStoredKey (into_iter_items l.edit-iterator) → AllByRecursion HasStoredKey l.fn.edits.items;
    }
