-- The entries written of several lists, at each text.
use Rattle.std.proofs.Common.{◌≡◌, ℕ, Bool, true, false, cond, T, List, [], ◌∷◌, refl, sym, ap, ◌∙◌}
use Rattle.std.specs.Prelude.{Option, Some, None, is_some, ◌||◌}
use Rattle.std.specs.Ordering.{eq_by_cmp}
use Rattle.std.specs.FinMap.Entries.{below_all, same_entries}
use Rattle.cell_key.specs.Keys.{byte_cmp}
use Rattle.cell_key.specs.Entries.{Entry, IsRising, Takes, merged, entry_of_key, or_else, value_of, MergesLists}
use Rattle.cell_key.proofs.EntryLists.{filter-list, total, merged_list}
use Rattle.cell_key.proofs.TextPlaces.{first, second, equal, one_text as same_key, find_below}
use Rattle.compaction.specs.Writing.{is_written, is_written_lent, only_written, WritesEntryLists, KeepsOneList, NamesFirst}

pub writes_entry_lists : WritesEntryLists
writes_entry_lists keep lists h = filter-list (is_written keep) (merged lists) (merged_list lists h)

pub all_written : (es : List Entry) → only_written true es ≡ es
all_written [] = refl
all_written (e ∷ es) = ap (λ l. e ∷ l) (all_written es)

or_none : (o : Option (Option (List ℕ))) → or_else o None ≡ o
or_none None = refl
or_none (Some x) = refl

pub keeps_one_list : MergesLists → KeepsOneList
keeps_one_list merges es h =
    all_written (merged (es ∷ []))
    ∙ same_entries byte_cmp total same_key (merged (es ∷ [])) es (merges (es ∷ [])).0 h.rising (λ q. (merges (es ∷ [])).1 q ∙ or_none (entry_of_key es q))

value_at : (name : List ℕ) (e : Entry) (es : List Entry) (b : Bool) → value_of (cond b (Some e.1) (entry_of_key es name)) ≡ cond b e.1 (value_of (entry_of_key es name))
value_at name e es true = refl
value_at name e es false = refl

-- an erasure that is left out has no value, as a missing entry has none
erasure_out : (name : List ℕ) (e : Entry) (es : List Entry) → T (below_all byte_cmp e.0 es) → e.1 ≡ None → (b : Bool) → eq_by_cmp byte_cmp name e.0 ≡ b → value_of (entry_of_key es name) ≡ value_of (cond b (Some e.1) (entry_of_key es name))
erasure_out name e es h n true t = ap (λ k. value_of (entry_of_key es k)) (same_key name e.0 (equal _ t)) ∙ ap value_of (find_below e.0 es h) ∙ sym n
erasure_out name e es h n false t = refl

written_one : (keep : Bool) (name : List ℕ) (e : Entry) (es : List Entry) → T (below_all byte_cmp e.0 es) → value_of (entry_of_key (only_written keep es) name) ≡ value_of (entry_of_key es name) → (b : Bool) → is_written keep e ≡ b
    → value_of (entry_of_key (cond b (e ∷ only_written keep es) (only_written keep es)) name) ≡ value_of (entry_of_key (e ∷ es) name)
written_one keep name e es h same true k = value_at name e (only_written keep es) (eq_by_cmp byte_cmp name e.0) ∙ ap (cond (eq_by_cmp byte_cmp name e.0) e.1) same ∙ sym (value_at name e es (eq_by_cmp byte_cmp name e.0))
written_one keep name e es h same false k = same ∙ erasure_out name e es h (is_erasure keep e.1 k) _ refl
  where
    is_erasure : (keep : Bool) (o : Option (List ℕ)) → (keep || is_some o) ≡ false → o ≡ None
    is_erasure true o k = cc
    is_erasure false None k = refl
    is_erasure false (Some x) k = cc

-- entries that are left out change no value
pub value-written : (keep : Bool) (name : List ℕ) (es : List Entry) → IsRising es → value_of (entry_of_key (only_written keep es) name) ≡ value_of (entry_of_key es name)
value-written keep name [] r = refl
value-written keep name (e ∷ es) r = written_one keep name e es (first _ _ r) (value-written keep name es (second _ _ r)) (is_written keep e) refl

pub names_first : MergesLists → NamesFirst
names_first merges lists name = (
  ap (λ es. entry_of_key es name) (all_written (merged lists)) ∙ (merges lists).1 name,
  λ keep. value-written keep name (merged lists) (merges lists).0 ∙ ap value_of ((merges lists).1 name),
)

-- an entry that isn't written is left out
pub left_out : (keep : Bool) (o : Option Entry) (old new : List Entry) → is_written_lent keep o ≡ false → is_some o ≡ true → Takes o old new → only_written keep new ≡ only_written keep old
left_out keep None old new out some t = cc
left_out keep (Some e) old new out some t = sym (ap (only_written keep) t ∙ ap (λ (b : Bool). cond b (e ∷ only_written keep new) (only_written keep new)) out)
