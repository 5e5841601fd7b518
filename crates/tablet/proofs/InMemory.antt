-- Answers about a column from the memtable alone.
use Rattle.std.proofs.Common.{◌≡◌, ◌≤◌, ◌<◌, ◌^◌, ℕ, Bool, true, cond, List, ◌⊎◌, inl, inr, map, Option, Some, None, refl, sym, ap, subst, ◌∙◌, arith}
use Rattle.std.specs.Prelude.{IfSome, IsTrue, option_map}
use Rattle.std.specs.Option.{option_or}
use Rattle.std.specs.declared.vec.Vec.{Vec}
use Rattle.std.specs.FinMap.{get}
use Rattle.cell_key.specs.Keys.{text, IsStored}
use Rattle.cell_key.specs.Cells.{Cells, IsNewest, version}
use Rattle.cell_key.specs.Versions.{stamped}
use Rattle.cell_key.specs.Entries.{Entry, cells_of, entry_of_key, first_naming, or_else, value_of}
use Rattle.cell_key.specs.declared.keys.CellKey.{CellKey}
use Rattle.cell_key.specs.declared.keys.Qualifier.{Qualifier}
use Rattle.cell_key.proofs.EntryLaws.{get-cells_of}
use Rattle.file_store.specs.Store.{Contents}
use Rattle.sorted_file.specs.File.{listed}
use Rattle.tablet.specs.Ranges.{has_row}
use Rattle.tablet.specs.Reads.{HaveNoValue, IsLater}
use Rattle.tablet.specs.Views.{range_of, memory_of, files_of, lists_of, cells_at, Holds}
use Rattle.tablet.specs.declared.tablet.Tablet.{Tablet}
use Rattle.tablet.proofs.Lookups.{if_one}
use Rattle.tablet.proofs.Held.{held_lists}
use Rattle.tablet.proofs.LeftOut.{value_or}
use Rattle.tablet.proofs.Passed.{over_any}
use Rattle.tablet.proofs.Shown.{first_at, shown, stored_or_hidden, stored_or_none}

-- a tablet with an equal memtable is the same
pub with_equal : (t : Tablet) (es : List Entry) → es ≡ memory_of t → record t { memtable = es } ≡ t
with_equal t es same = ap (λ (es : List Entry). record t { memtable = es }) same

value_front : (x y : Option (Option (List ℕ))) (v : List ℕ) → value_of x ≡ Some v → value_of (or_else x y) ≡ Some v
value_front None y v e = let no : None ≡ Some v = e in cc
value_front (Some o) y v e = e

module _ (cells : Cells) (at : ℕ → CellKey) where
  low_from : (lo hi from : ℕ) (found : Option (ℕ × List ℕ)) → IsNewest cells at lo hi found → IsLater from lo found → lo ≤ from
  low_from lo hi from None none low = low
  low_from lo hi from (Some v) newest later = let low = newest.0 in omega (arith, low, later)

module _ (m : Contents) (t : Tablet) (held : Holds m t) (row family : List ℕ) (q : Qualifier) (has : has_row (range_of t) row ≡ true) where
  abbrev at : ℕ → CellKey
  at s = version row family q s

  shown_at : (s : ℕ) → IsStored (at s) → get (cells_at m t) (at s) ≡ first_at (lists_of m t) (at s)
  shown_at s stored = shown (range_of t) (lists_of m t) (held_lists m t held) (at s) stored ∙ ap (λ (b : Bool). cond b (first_at (lists_of m t) (at s)) None) has

  in_memory : (s : ℕ) → IsStored (at s) → get (cells_of (memory_of t)) (at s) ≡ value_of (entry_of_key (memory_of t) (text (at s)))
  in_memory s stored = get-cells_of (memory_of t) held.memory.each (at s) stored

  -- the memtable's values are shown
  pub still_there : (s : ℕ) (value : List ℕ) → get (cells_of (memory_of t)) (at s) ≡ Some value → get (cells_at m t) (at s) ≡ Some value
  still_there s value e = go (stored_or_none (memory_of t) held.memory.each (at s))
    where
      go : IsStored (at s) ⊎ (get (cells_of (memory_of t)) (at s) ≡ None) → get (cells_at m t) (at s) ≡ Some value
      go (inr h) = let no : None ≡ Some value = sym h ∙ e in cc
      go (inl stored) =
          shown_at s stored
          ∙ value_front (entry_of_key (memory_of t) (text (at s))) (first_naming (map (listed m) (files_of t)) (text (at s))) value (sym (in_memory s stored) ∙ e)

  module _ (lo hi : ℕ) (found : Option (ℕ × List ℕ)) (is : IsNewest (cells_of (memory_of t)) at lo hi found) (from to : ℕ) (after : IsLater from lo found) (first : (s : ℕ) → 1 ≤ s → IsLater s lo found → from ≤ s) (high : to ≤ hi) (last : (s : ℕ) → s < 2 ^ 63 → s ≤ hi → s ≤ to) where
    -- the memtable has no version at the remaining stamps
    pub none_later : IsNewest (cells_of (memory_of t)) at from to None
    none_later s a b = go found is after
      where
        go : (found : Option (ℕ × List ℕ)) → IsNewest (cells_of (memory_of t)) at lo hi found → IsLater from lo found → get (cells_of (memory_of t)) (at s) ≡ None
        go None none low = none s (omega (arith, low, a)) (omega (arith, b, high))
        go (Some v) newest low = newest.3 s (omega (arith, low, a)) (omega (arith, b, high))

    -- nor has the tablet, if the files have no value there
    pub none_in_all : (from ≤ to → HaveNoValue row q from to (files_of t)) → IsNewest (cells_at m t) at from to None
    none_in_all none s a b = go (stored_or_hidden (range_of t) (lists_of m t) (held_lists m t held) (at s))
      where
        go : IsStored (at s) ⊎ (get (cells_at m t) (at s) ≡ None) → get (cells_at m t) (at s) ≡ None
        go (inr h) = h
        go (inl stored) =
            let lists = map (listed m) (files_of t) in
            shown_at s stored
            ∙ value_or (entry_of_key (memory_of t) (text (at s))) (first_naming lists (text (at s))) (none (omega (arith, a, b)) m held.files (at s) stored refl refl a b)
            ∙ sym (in_memory s stored) ∙ none_later s a b

    none_above : (s : ℕ) → s ≤ hi → (1 ≤ s → s ≤ to → get (cells_at m t) (at s) ≡ None) → get (cells_at m t) (at s) ≡ None
    none_above s b none = go (stored_or_hidden (range_of t) (lists_of m t) (held_lists m t held) (at s))
      where
        go : IsStored (at s) ⊎ (get (cells_at m t) (at s) ≡ None) → get (cells_at m t) (at s) ≡ None
        go (inr h) = h
        go (inl stored) = none stored.from (last s stored.to b)

    -- in that case the memtable's version is the newest
    pub newest_of_all : IsNewest (cells_at m t) at from to None → IsNewest (cells_at m t) at lo hi found
    newest_of_all none = go found is (λ s later b. none_above s b (λ one c. none s (first s one later) c))
      where
        go : (found : Option (ℕ × List ℕ)) → IsNewest (cells_of (memory_of t)) at lo hi found → ((s : ℕ) → IsLater s lo found → s ≤ hi → get (cells_at m t) (at s) ≡ None) → IsNewest (cells_at m t) at lo hi found
        go None is above = above
        go (Some v) is above = (is.0, is.1, still_there v.0 v.1 is.2, above)

    -- otherwise the later one is
    pub newest_later : (v : ℕ × List ℕ) → IsNewest (cells_at m t) at from to (Some v) → IsNewest (cells_at m t) at lo hi (Some v)
    newest_later v h =
        let a = h.0 in let b = h.1 in
        let low = low_from (cells_of (memory_of t)) at lo hi from found is after in
        (omega (arith, a, low), omega (arith, b, high), h.2, λ s c d. none_above s d (λ one e. h.3 s c e))

-- ---- the memtable and the files

pub later_still : (s from lo : ℕ) (found : Option (ℕ × List ℕ)) → s ≤ from → IsLater s lo found → IsLater from lo found
later_still s from lo None up low = omega (arith, up, low)
later_still s from lo (Some v) up later = omega (arith, up, later)

module _ (o : Option Contents) (t : Tablet) (row family : List ℕ) (q : Qualifier) (lo hi : ℕ) (found : Option (ℕ × List ℕ)) (is : IsNewest (cells_of (memory_of t)) (version row family q) lo hi found) (from to : ℕ) (after : IsLater from lo found) (first : (s : ℕ) → 1 ≤ s → IsLater s lo found → from ≤ s) (high : to ≤ hi) (last : (s : ℕ) → s < 2 ^ 63 → s ≤ hi → s ≤ to) where
  abbrev Answered : Option (ℕ × List ℕ) → Type 0
  Answered answer = IfSome o (λ m. Holds m t → IsTrue (has_row (range_of t) row) → IsNewest (cells_at m t) (version row family q) lo hi answer)

  pub by_memory : {Z : Type 0} (in_memory : Option (ℕ × Vec ℕ Z)) → option_map stamped in_memory ≡ found → (from ≤ to → HaveNoValue row q from to (files_of t)) → Answered (option_map stamped in_memory)
  by_memory in_memory copy none =
      over_any o _ (λ m held has.
      subst (λ (f : Option (ℕ × List ℕ)). IsNewest (cells_at m t) (version row family q) lo hi f) (sym copy)
      (newest_of_all m t held row family q has lo hi found is from to after first high last
      (none_in_all m t held row family q has lo hi found is from to after first high last none)))

  pub by_files : {Z : Type 0} (later in_memory : Option (ℕ × Vec ℕ Z)) → option_map stamped in_memory ≡ found
      → IfSome o (λ m. Holds m t → IsTrue (has_row (range_of t) row) → IsNewest (cells_of (memory_of t)) (version row family q) from to None → IsNewest (cells_at m t) (version row family q) from to (option_map stamped later))
      → Answered (option_map stamped (option_or later in_memory))
  by_files None in_memory copy h =
      if_one o h (λ m told held has.
      subst (λ (f : Option (ℕ × List ℕ)). IsNewest (cells_at m t) (version row family q) lo hi f) (sym copy)
      (newest_of_all m t held row family q has lo hi found is from to after first high last
      (told held has (none_later m t held row family q has lo hi found is from to after first high last))))
  by_files (Some v) in_memory copy h =
      if_one o h (λ m told held has.
      newest_later m t held row family q has lo hi found is from to after first high last (stamped v)
      (told held has (none_later m t held row family q has lo hi found is from to after first high last)))
