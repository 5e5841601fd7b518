-- The cells that lists show within a range.
use Rattle.std.proofs.Common.{◌≡◌, ℕ, Bool, true, false, cond, List, [], ◌∷◌, ◌⊎◌, inl, inr, map, Option, Some, None, refl, sym, ap, subst, ◌∙◌}
use Rattle.std.specs.Prelude.{IsSome}
use Rattle.std.specs.List.{AllByRecursion}
use Rattle.std.specs.Ordering.{is_le, eq_by_cmp}
use Rattle.std.specs.FinMap.{get, get-empty, get-insert, get-remove}
use Rattle.cell_key.specs.Keys.{byte_cmp, key_cmp, key_cmp_total, text, IsStored}
use Rattle.cell_key.specs.Entries.{Entry, IsEntry, IsEntryList, entries_from, merged, first_naming, entry_of_key, value_of, key_of_text, cells_of}
use Rattle.cell_key.specs.declared.keys.CellKey.{CellKey}
use Rattle.cell_key.proofs.EntryLaws.{key_of_merged, key_of_text-text}
use Rattle.compaction.specs.Ends.{is_below}
use Rattle.cell_key.proofs.EntryLists.{filter-list, merged_list}
use Rattle.cell_key.proofs.TextPlaces.{equal}
use Rattle.cell_key.proofs.KeyLaws.{exact_keys}
use Rattle.tablet.specs.Ranges.{has_row, seen}
use Rattle.tablet.specs.Sources.{entries_between, part}
use Rattle.tablet.specs.declared.ranges.RowRange.{RowRange}
use Rattle.tablet.proofs.Filters.{cond_same, each_map, find-between, first-map, is_between}
use Rattle.tablet.proofs.Seen.{get-shown, shown_list}

-- a key is within the limits, or the list has no cell for it
pub stored_or_none : (es : List Entry) → AllByRecursion IsEntry es → (q : CellKey) → IsStored q ⊎ (get (cells_of es) q ≡ None)
stored_or_none [] all q = inr (get-empty key_cmp q)
stored_or_none ((name, None) ∷ es) all q = go (stored_or_none es all.1 q)
  where
    go : IsStored q ⊎ (get (cells_of es) q ≡ None) → IsStored q ⊎ (get (cells_of ((name, None) ∷ es)) q ≡ None)
    go (inl s) = inl s
    go (inr e) = inr (get-remove key_cmp_total (cells_of es) (key_of_text name) q ∙ ap (cond (eq_by_cmp key_cmp q (key_of_text name)) None) e ∙ cond_same (eq_by_cmp key_cmp q (key_of_text name)) None)
stored_or_none ((name, Some value) ∷ es) all q = go (eq_by_cmp key_cmp q (key_of_text name)) refl (stored_or_none es all.1 q)
  where
    go : (b : Bool) → eq_by_cmp key_cmp q (key_of_text name) ≡ b → IsStored q ⊎ (get (cells_of es) q ≡ None) → IsStored q ⊎ (get (cells_of ((name, Some value) ∷ es)) q ≡ None)
    go true t h =
        let is = all.0 in
        let same : q ≡ is.key = exact_keys q (key_of_text name) (equal (key_cmp q (key_of_text name)) t) ∙ ap key_of_text is.named ∙ key_of_text-text is.key is.stored in
        inl (subst (λ (k : CellKey). IsStored k) (sym same) is.stored)
    go false t (inl s) = inl s
    go false t (inr e) = inr (get-insert key_cmp_total (cells_of es) (key_of_text name) value q ∙ ap (λ (b : Bool). cond b (Some value) (get (cells_of es) q)) t ∙ e)

value-cond : (b : Bool) (o : Option (Option (List ℕ))) → value_of (cond b o None) ≡ cond b (value_of o) None
value-cond true o = refl
value-cond false o = refl

-- the value of the first list that names a key
abbrev pub first_at : List (List Entry) → CellKey → Option (List ℕ)
first_at lists key = value_of (first_naming lists (text key))

module _ (range : RowRange) (lists : List (List Entry)) where
  abbrev pub view : List Entry
  view = merged (map (seen range) lists)

  module _ (each : AllByRecursion IsEntryList lists) where
    pub view_list : IsEntryList view
    view_list = shown_list range lists each

    -- a key of the range has the value of the first list that names it
    pub shown : (key : CellKey) → IsStored key → get (cells_of view) key ≡ cond (has_row range key.row) (first_at lists key) None
    shown key s = get-shown range lists each key s ∙ value-cond (has_row range key.row) (first_naming lists (text key))

    pub stored_or_hidden : (key : CellKey) → IsStored key ⊎ (get (cells_of view) key ≡ None)
    stored_or_hidden key = stored_or_none view view_list.each key

    -- keys that it shows are within the limits
    pub shown_stored : (key : CellKey) → IsSome (get (cells_of view) key) → IsStored key
    shown_stored key some = go (stored_or_hidden key)
      where
        go : IsStored key ⊎ (get (cells_of view) key ≡ None) → IsStored key
        go (inl s) = s
        go (inr e) = absurd (none (get (cells_of view) key) e some)
          where
            none : (o : Option (List ℕ)) → o ≡ None → IsSome o → ⊥
            none None e h = cc
            none (Some x) e h = cc

-- ---- entries between two texts

module _ (from : List ℕ) (end : Option (List ℕ)) (lists : List (List Entry)) where
  pub part_list : AllByRecursion IsEntryList lists → IsEntryList (part from end lists)
  part_list each = merged_list (map (entries_between from end) lists) (each_map (entries_between from end) (λ es h. filter-list (λ e. is_below end e.0) (entries_from from es) (filter-list (λ e. is_le (byte_cmp from e.0)) es h)) lists each)

  pub part_at : (name : List ℕ) → entry_of_key (part from end lists) name ≡ cond (is_between from end name) (first_naming lists name) None
  part_at name = key_of_merged (map (entries_between from end) lists) name ∙ first-map (entries_between from end) (is_between from end name) name (find-between from end name) lists
