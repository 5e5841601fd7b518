-- What the sources of one step of a merge mean together.
use Rattle.std.proofs.Common.{◌≡◌, ℕ, Bool, true, false, cond, List, [], ◌∷◌, map, refl, sym, ap, ◌∙◌}
use Rattle.std.specs.Prelude.{Option, Result, Ok, Err, IfOk, filter}
use Rattle.std.specs.List.{AllByRecursion}
use Rattle.std.specs.Ordering.{is_le}
use Rattle.cell_key.specs.Keys.{byte_cmp}
use Rattle.cell_key.specs.Entries.{Entry, IsEntryList, IsRising, MergesLists, entries_from, merged}
use Rattle.cell_key.proofs.EntryLists.{filter-list, merged_list, rising-filter}
use Rattle.compaction.specs.Ends.{MergesRanges, entries_until, is_below}

swap_at : (x : Entry) (p q : Entry → Bool) (a b : Bool) (es : List Entry) → filter p (filter q es) ≡ filter q (filter p es) → p x ≡ a → q x ≡ b → filter p (cond b (x ∷ filter q es) (filter q es)) ≡ filter q (cond a (x ∷ filter p es) (filter p es))
swap_at x p q true true es h s t = rw (s, t) (ap (λ (l : List Entry). x ∷ l) h)
swap_at x p q true false es h s t = rw t h
swap_at x p q false true es h s t = rw s h
swap_at x p q false false es h s t = h

swap : (p q : Entry → Bool) (es : List Entry) → filter p (filter q es) ≡ filter q (filter p es)
swap p q [] = refl
swap p q (x ∷ es) = swap_at x p q (p x) (q x) es (swap p q es) refl refl

-- from a text on they have what all the lists mean together from it on
pub from_on : MergesRanges → (end : Option (List ℕ)) (from : List ℕ) (lists remaining : List (List Entry)) → remaining ≡ map (λ es. entries_until end (entries_from from es)) lists
    → merged remaining ≡ entries_from from (entries_until end (merged lists))
from_on law end from lists remaining is =
    ap merged is ∙ law from end lists
    ∙ swap (λ (entry : Entry). is_below end entry.0) (λ (entry : Entry). is_le (byte_cmp from entry.0)) (merged lists)

pub whole_rises : MergesLists → (end : Option (List ℕ)) (lists : List (List Entry)) → IsRising (entries_until end (merged lists))
whole_rises law end lists = rising-filter (λ (entry : Entry). is_below end entry.0) (merged lists) (law lists).0

pub whole_list : (end : Option (List ℕ)) (lists : List (List Entry)) → AllByRecursion IsEntryList lists → IsEntryList (entries_until end (merged lists))
whole_list end lists h = filter-list (λ (entry : Entry). is_below end entry.0) (merged lists) (merged_list lists h)

pub on_ok : {T E : Type 0} (result : Result T E) (P Q : T → Type 0) → IfOk result P → ((x : T) → P x → Q x) → IfOk result Q
on_ok (Ok x) P Q h f = f x h
on_ok (Err e) P Q h f = tt
