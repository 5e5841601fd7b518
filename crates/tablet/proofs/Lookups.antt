-- A tablet's answers, from the results of its lists.
use Rattle.std.proofs.Common.{◌≡◌, ◌<◌, ◌≤◌, ◌^◌, ℕ, List, ◌∷◌, ◌⊎◌, inl, inr, map, Option, Some, None, sym, subst, ◌∙◌}
use Rattle.std.specs.Prelude.{IfSome, IfOk, IsTrue, Result, Ok, Err}
use Rattle.std.specs.FinMap.{get}
use Rattle.std.specs.List.{AllByRecursion}
use Rattle.cell_key.specs.Names.{IsRow, IsFamily}
use Rattle.cell_key.specs.Keys.{text, IsStored}
use Rattle.cell_key.specs.Cells.{IsNewest, version}
use Rattle.cell_key.specs.Entries.{Entry, first_naming, value_of}
use Rattle.cell_key.specs.Places.{AreNext, AreNextCells, Place}
use Rattle.cell_key.specs.declared.keys.CellKey.{CellKey}
use Rattle.cell_key.specs.declared.keys.Qualifier.{Qualifier}
use Rattle.file_store.specs.Store.{Contents}
use Rattle.sorted_file.specs.File.{IsOpen, listed}
use Rattle.sorted_file.specs.declared.file.SortedFile.{SortedFile}
use Rattle.tablet.specs.Ranges.{has_row, upper_fence}
use Rattle.tablet.specs.Reads.{start_of, IsNextIn, IsPlaceOrNone}
use Rattle.tablet.specs.Sources.{IsOpenIn, listed_in, part}
use Rattle.tablet.specs.Views.{range_of, memory_of, files_of, lists_of, cells_at, Holds}
use Rattle.tablet.specs.declared.tablet.Tablet.{Tablet}
use Rattle.tablet.proofs.Held.{held_lists}
use Rattle.tablet.proofs.NextPlaces.{next_cells}
use Rattle.tablet.proofs.Shown.{stored_or_hidden}
use Rattle.tablet.proofs.Versions.{newest_at_none, newest_at_some}

pub if_one : {A : Type 0} {P Q : A → Type 0} (o : Option A) → IfSome o P → ((m : A) → P m → Q m) → IfSome o Q
if_one None h f = tt
if_one (Some m) h f = f m h

pub ok_map : {T E : Type 0} {P Q : T → Type 0} (r : Result T E) → IfOk r P → ((x : T) → P x → Q x) → IfOk r Q
ok_map (Ok x) h f = f x h
ok_map (Err e) h f = tt

-- a fact about any contents is one about the contents, if they are known
pub told_found : {T E : Type 0} (told : Option Contents) (files : List SortedFile) (P : T → List (List Entry) → Type 0) (r : Result T E) → IfOk r (λ x. AllByRecursion (IsOpenIn told) files → P x (map (listed_in told) files))
    → IfOk r (λ x. IfSome told (λ m. AllByRecursion (IsOpen m) files → P x (map (listed m) files)))
told_found None files P (Ok x) h = tt
told_found (Some m) files P (Ok x) h = h
told_found told files P (Err e) h = tt

pub told_closed : (told : Option Contents) (files : List SortedFile) → ¬ AllByRecursion (IsOpenIn told) files → IfSome told (λ m. ¬ AllByRecursion (IsOpen m) files)
told_closed None files closed = tt
told_closed (Some m) files closed = closed

module _ (m : Contents) (t : Tablet) (held : Holds m t) (row family : List ℕ) (q : Qualifier) where
  stored_or_not : (s : ℕ) → IsStored (version row family q s) ⊎ (get (cells_at m t) (version row family q s) ≡ None)
  stored_or_not s = stored_or_hidden (range_of t) (lists_of m t) (held_lists m t held) (version row family q s)

  none_from : (lo first hi : ℕ) → ((s : ℕ) → 1 ≤ s → lo ≤ s → first ≤ s) → IsNewest (cells_at m t) (version row family q) first hi None → IsNewest (cells_at m t) (version row family q) lo hi None
  none_from lo first hi up h s a b = go (stored_or_not s)
    where
      go : IsStored (version row family q s) ⊎ (get (cells_at m t) (version row family q s) ≡ None) → get (cells_at m t) (version row family q s) ≡ None
      go (inl stored) = h s (up s stored.from a) b
      go (inr e) = e

  up_to : (last hi : ℕ) → ((s : ℕ) → s < 2 ^ 63 → s ≤ hi → s ≤ last) → (s : ℕ) → s ≤ hi → (s ≤ last → get (cells_at m t) (version row family q s) ≡ None) → get (cells_at m t) (version row family q s) ≡ None
  up_to last hi down s b h = go (stored_or_not s)
    where
      go : IsStored (version row family q s) ⊎ (get (cells_at m t) (version row family q s) ≡ None) → get (cells_at m t) (version row family q s) ≡ None
      go (inl stored) = h (down s stored.to b)
      go (inr e) = e

module _ (t : Tablet) (fs : List SortedFile) (files : fs ≡ files_of t) where
  open_files : (m : Contents) → Holds m t → AllByRecursion (IsOpen m) fs
  open_files m h = subst (λ (gs : List SortedFile). AllByRecursion (IsOpen m) gs) (sym files) h.files

  module _ (row family : List ℕ) (q : Qualifier) (stamp : ℕ) (is_row : IsRow row) (is_family : IsFamily family) (from : 1 ≤ stamp) (to : stamp < 2 ^ 63) (key : CellKey) (named : key ≡ version row family q stamp) where
    abbrev AnswersOne : Option Contents → Option (List ℕ) → Type 0
    AnswersOne o found = IfSome o (λ m. AllByRecursion (IsOpen m) fs → found ≡ value_of (first_naming (memory_of t ∷ map (listed m) fs) (text key)))

    moved_one : (m : Contents) (found : Option (List ℕ)) → (AllByRecursion (IsOpen m) fs → found ≡ value_of (first_naming (memory_of t ∷ map (listed m) fs) (text key))) → Holds m t → value_of (first_naming (lists_of m t) (text (version row family q stamp))) ≡ found
    moved_one m found h held = sym (h (open_files m held) ∙ λ i. value_of (first_naming (memory_of t ∷ map (listed m) (files i)) (text (named i))))

    pub one_none : (o : Option Contents) → AnswersOne o None → IfSome o (λ m. Holds m t → IsTrue (has_row (range_of t) row) → IsNewest (cells_at m t) (version row family q) stamp stamp None)
    one_none None h = tt
    one_none (Some m) h = λ held has. newest_at_none row family q (range_of t) (lists_of m t) (held_lists m t held) has stamp (moved_one m None h held)

    pub one_some : (o : Option Contents) (value : List ℕ) → AnswersOne o (Some value) → IfSome o (λ m. Holds m t → IsTrue (has_row (range_of t) row) → IsNewest (cells_at m t) (version row family q) stamp stamp (Some (stamp, value)))
    one_some None value h = tt
    one_some (Some m) value h =
        λ held has.
        newest_at_some row family q (range_of t) (lists_of m t) (held_lists m t held) has stamp value
        (record { row = is_row; family = is_family; from = from; to = to }) (moved_one m (Some value) h held)

  abbrev pub FindsPlaces : List ℕ → Option (List ℕ) → ℕ → List Place → Option Contents → Type 0
  FindsPlaces x y most found o = IfSome o (λ m. AllByRecursion (IsOpen m) fs → AreNext (IsNextIn (part x y (memory_of t ∷ map (listed m) fs))) None most found)

  module _ (after : Option Place) (is : IsPlaceOrNone after) (x : List ℕ) (y : Option (List ℕ)) (starts : x ≡ start_of (range_of t) after) (ends : y ≡ upper_fence (range_of t)) where
    pub cells_found : (o : Option Contents) (most : ℕ) (found : List Place) → FindsPlaces x y most found o → IfSome o (λ m. Holds m t → AreNextCells (cells_at m t) after most found)
    cells_found None most found h = tt
    cells_found (Some m) most found h =
        λ held.
        next_cells (range_of t) (lists_of m t) (held_lists m t held) after is most found
        (subst (λ (es : List Entry). AreNext (IsNextIn es) None most found) (λ i. part (starts i) (ends i) (memory_of t ∷ map (listed m) (files i))) (h (open_files m held)))
