-- The places of the values of a range are the next cells of the tablet.
use Rattle.std.proofs.Common.{◌≡◌, ◌-◌, ℕ, Bool, true, false, cond, List, [], ◌∷◌, ◌&&◌, Option, Some, None, refl, sym, ap, subst, ◌∙◌}
use Rattle.std.specs.List.{AllByRecursion}
use Rattle.std.specs.Cmp.{both_ways}
use Rattle.std.specs.Ordering.{is_le}
use Rattle.cell_key.specs.Keys.{byte_cmp, text}
use Rattle.cell_key.specs.Entries.{Entry, IsEntryList, cells_of, entries_from, entry_of_key, first_naming}
use Rattle.cell_key.specs.Places.{AreNext, AreNextCells, IsNextCell, Place, place_of}
use Rattle.cell_key.proofs.EntryLists.{rising-filter}
use Rattle.compaction.specs.Ends.{is_below}
use Rattle.tablet.specs.Ranges.{lower_fence, upper_fence}
use Rattle.tablet.specs.Reads.{IsNextIn, IsOfPlace, IsPlaceOrNone, IsStoredPlace, NamesPlace, first_value, later, past_place, start_of}
use Rattle.tablet.specs.Sources.{part}
use Rattle.tablet.specs.declared.ranges.RowRange.{RowRange}
use Rattle.tablet.proofs.Filters.{cond_and, find-filter, is_between}
use Rattle.tablet.proofs.Found.{HasBetween, has_first, has_none}
use Rattle.tablet.proofs.NextCells.{below_past, first_so, from_both, from_none, le_trans, both_so, next_none, next_some, second_so, to_later}
use Rattle.tablet.proofs.Shown.{part_at, part_list, view}

at_both : (a b name : List ℕ) → is_le (byte_cmp (later a b) name) ≡ (is_le (byte_cmp a name) && is_le (byte_cmp b name))
at_both a b name =
    both_ways _ _ (λ e. let both = from_both a b name e in both_so _ _ both.0 both.1)
    (λ e. to_later a b name (first_so _ _ e) (second_so _ _ e))

same_test : (lower low below p : Bool) → (p ≡ true → low ≡ true) → (((lower && low) && below) && p) ≡ ((lower && p) && below)
same_test false low below p h = refl
same_test true true true true h = refl
same_test true true true false h = refl
same_test true true false true h = refl
same_test true true false false h = refl
same_test true false below false h = refl
same_test true false below true h = absurd (let no : false ≡ true = h refl in cc)

module _ (range : RowRange) (lists : List (List Entry)) (each : AllByRecursion IsEntryList lists) (start : Option Place) where
  abbrev entries : List Entry
  entries = part (start_of range start) (upper_fence range) lists

  list : IsEntryList entries
  list = part_list (start_of range start) (upper_fence range) lists each

  -- the entries from the text `past` on are those of the range after a place
  abbrev BeginsAfter : List ℕ → Option Place → Type 0
  BeginsAfter past after = HasBetween (start_of range after) (upper_fence range) lists (entries_from past entries)

  found_at : (past name : List ℕ) → entry_of_key (entries_from past entries) name ≡ cond (is_between (start_of range start) (upper_fence range) name && is_le (byte_cmp past name)) (first_naming lists name) None
  found_at past name =
      find-filter (λ n. is_le (byte_cmp past n)) entries name
      ∙ ap (λ o. cond (is_le (byte_cmp past name)) o None) (part_at (start_of range start) (upper_fence range) lists name)
      ∙ cond_and (is_between (start_of range start) (upper_fence range) name) (is_le (byte_cmp past name)) (first_naming lists name)

  begins_at_start : BeginsAfter [] start
  begins_at_start name = found_at [] name ∙ ap (λ b. cond b (first_naming lists name) None) (whole (is_between (start_of range start) (upper_fence range) name) (is_le (byte_cmp [] name)) (from_none name))
    where
      whole : (a b : Bool) → b ≡ true → (a && b) ≡ a
      whole true b e = e
      whole false b e = refl

  begins_after : (place : Place) → is_le (byte_cmp (past_place start) (past_place (Some place))) ≡ true → BeginsAfter (past_place (Some place)) (Some place)
  begins_after place up name =
      found_at (past_place (Some place)) name
      ∙ ap (λ b. cond b (first_naming lists name) None)
      (ap (λ b. (b && is_below (upper_fence range) name) && is_le (byte_cmp (past_place (Some place)) name)) (at_both (lower_fence range) (past_place start) name)
      ∙ same_test (is_le (byte_cmp (lower_fence range) name)) (is_le (byte_cmp (past_place start) name)) (is_below (upper_fence range) name) (is_le (byte_cmp (past_place (Some place)) name)) (le_trans (past_place start) (past_place (Some place)) name up)
      ∙ sym (ap (λ b. b && is_below (upper_fence range) name) (at_both (lower_fence range) (past_place (Some place)) name)))

  one : (past : List ℕ) (after : Option Place) → IsPlaceOrNone after → BeginsAfter past after → (found : Option Place) → NamesPlace (first_value (entries_from past entries)) found → IsNextCell (cells_of (view range lists)) after found
  one past after is begins None none = next_none range after is lists each (has_none (start_of range after) (upper_fence range) lists (entries_from past entries) begins none)
  one past after is begins (Some place) found =
      subst (λ (p : Place). IsNextCell (cells_of (view range lists)) after (Some p)) found.at
      (next_some range after is lists each found.key found.value found.stored
      (has_first (start_of range after) (upper_fence range) lists (entries_from past entries) begins (rising-filter (λ e. is_le (byte_cmp past e.0)) entries list.rising) found.key found.value found.stored found.is))

  -- a place that is found is past the start
  further : (past : List ℕ) (after : Option Place) → BeginsAfter past after → ((name : List ℕ) → is_le (byte_cmp (start_of range after) name) ≡ true → is_le (byte_cmp (past_place start) name) ≡ true)
      → (place : Place) → IsOfPlace (first_value (entries_from past entries)) place → is_le (byte_cmp (past_place start) (past_place (Some place))) ≡ true
  further past after begins low place found =
      let first = has_first (start_of range after) (upper_fence range) lists (entries_from past entries) begins (rising-filter (λ e. is_le (byte_cmp past e.0)) entries list.rising) found.key found.value found.stored found.is in
      subst (λ (p : Place). is_le (byte_cmp (past_place start) (past_place (Some p))) ≡ true) found.at
      (le_trans (past_place start) (text found.key) (past_place (Some (place_of found.key))) (low (text found.key) (first_so _ _ first.inside)) (ap is_le (below_past found.key found.stored)))

  stored_place : (o : Option (List ℕ × List ℕ)) (place : Place) → IsOfPlace o place → IsStoredPlace place
  stored_place o place found = subst IsStoredPlace found.at (record { row = found.stored.row; family = found.stored.family })

  each_next : (past : List ℕ) (after : Option Place) → IsPlaceOrNone after → BeginsAfter past after → ((name : List ℕ) → is_le (byte_cmp (start_of range after) name) ≡ true → is_le (byte_cmp (past_place start) name) ≡ true)
      → (at : Option Place) → past_place at ≡ past → (most : ℕ) (places : List Place) → AreNext (IsNextIn entries) at most places → AreNextCells (cells_of (view range lists)) after most places
  each_next past after is begins low at same most [] found = λ some. one past after is begins None (subst (λ (q : List ℕ). NamesPlace (first_value (entries_from q entries)) None) same (found some))
  each_next past after is begins low at same most (place ∷ places) found =
      let here = subst (λ (q : List ℕ). NamesPlace (first_value (entries_from q entries)) (Some place)) same found.1 in
      let up = further past after begins low place here in (
        found.0,
        one past after is begins (Some place) here,
        each_next (past_place (Some place)) (Some place) (stored_place _ place here) (begins_after place up)
            (λ name e. le_trans (past_place start) (past_place (Some place)) name up (from_both (lower_fence range) (past_place (Some place)) name e).1)
            (Some place) refl (most - 1) places found.2,
      )

  pub next_cells : IsPlaceOrNone start → (most : ℕ) (places : List Place) → AreNext (IsNextIn entries) None most places → AreNextCells (cells_of (view range lists)) start most places
  next_cells is most places found = each_next [] start is begins_at_start (λ name e. (from_both (lower_fence range) (past_place start) name e).1) None refl most places found
