-- Proofs that a ghost member cites; nothing is promised here.
-- The entries of an input, of a source without its erasures and of a bounded source are entry lists.
use Rattle.std.proofs.Common.{◌≡◌, Bool, true, false, cond, refl, subst}
use Rattle.std.specs.Prelude.{ℕ, List, ◌∷◌, Option, Some, None}
use Rattle.cell_key.specs.Entries.{Entry, IsEntryList}
use Rattle.cell_key.proofs.EntryLists.{filter-list, front-list, rest-list}
use Rattle.file_store.specs.Store.{Contents}
use Rattle.sorted_file.specs.Cursor.{cursor_list}
use Rattle.sorted_file.specs.Source.{pending}
use Rattle.compaction.specs.Ends.{entries_until, is_below, lent_until}
use Rattle.compaction.specs.Inputs.{InputHolds, input_lent, input_remaining}
use Rattle.compaction.specs.Writing.{is_written, only_written}
use Rattle.compaction.specs.declared.input.Input.{Input}
use Rattle.compaction.specs.declared.input.Input.TheVariants.{Memtable, File}

pub input_list : (disk : Option Contents) (s : Input) → InputHolds disk s
    → IsEntryList (pending (input_lent s) (input_remaining disk s))
input_list disk (Memtable s) h = h
input_list disk (File s) h = cursor_list disk s h

pub written_list : (keep_erasures : Bool) (lent : Option Entry) (es : List Entry)
    → IsEntryList (pending lent es) → IsEntryList (pending lent (only_written keep_erasures es))
written_list keep_erasures None es h = filter-list (is_written keep_erasures) es h
written_list keep_erasures (Some entry) es h = front-list (is_written keep_erasures) entry es h

pub until_list : (end : Option (List ℕ)) (lent : Option Entry) (es : List Entry)
    → IsEntryList (pending lent es)
    → IsEntryList (pending (lent_until end lent) (entries_until end es))
until_list end None es h = filter-list (λ entry. is_below end entry.0) es h
until_list end (Some entry) es h =
    let below = λ (e : Entry). is_below end e.0 in
    elim (is_below end entry.0) as (λ b. is_below end entry.0 ≡ b
    → IsEntryList (pending (cond b (Some entry) None) (entries_until end es))) [
      | true ↦ λ is. subst
          (λ b. IsEntryList (cond b (entry ∷ entries_until end es) (entries_until end es)))
          is (filter-list below (entry ∷ es) h)
      | false ↦ λ _. filter-list below es (rest-list entry es h)
    ] refl
