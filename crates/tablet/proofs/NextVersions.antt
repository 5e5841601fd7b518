-- The cells gathered from the entries of a range are the next cells of the tablet with their newest versions.
use Rattle.std.proofs.Common.{◌≡◌, ◌+◌, ◌-◌, ℕ, Bool, true, false, cond, List, [], ◌∷◌, ◌++◌, ◌⊎◌, inl, inr, map, length, Option, Some, None, refl, sym, ap, subst, ◌∙◌, append_assoc, arith}
use Rattle.std.specs.Prelude.{IfSome, IsSome, is_some}
use Rattle.std.specs.Option.{option_to_list}
use Rattle.std.specs.List.{AllByRecursion}
use Rattle.std.specs.FinMap.{get}
use Rattle.std.proofs.lemmas.List.{append-nil, length-map}
use Rattle.cell_key.specs.Keys.{text, IsStored}
use Rattle.cell_key.specs.Cells.{Cells, version}
use Rattle.cell_key.specs.Entries.{Entry, IsEntryList, Takes, cells_of, first_naming, value_of}
use Rattle.cell_key.specs.Places.{AreNext, HasCell, IsAfter, IsNextCell, Place, last_or, place_of}
use Rattle.cell_key.specs.declared.keys.CellKey.{CellKey}
use Rattle.cell_key.proofs.EntryLaws.{get-cells_of}
use Rattle.file_store.specs.Store.{Contents}
use Rattle.sorted_file.specs.File.{IsOpen, listed}
use Rattle.sorted_file.specs.declared.file.SortedFile.{SortedFile}
use Rattle.rows.specs.Batches.{AreNextVersions, HasNewest, of_column, place_in, places_in}
use Rattle.tablet.specs.Gathering.{AreVersionsIn, Gathers, IsShown}
use Rattle.tablet.specs.Ranges.{has_row, upper_fence}
use Rattle.tablet.specs.Reads.{IsNextIn, IsPlaceOrNone, start_of}
use Rattle.tablet.specs.Sources.{part}
use Rattle.tablet.specs.Views.{range_of, memory_of, files_of, lists_of, cells_at, Holds}
use Rattle.rows.specs.declared.batches.CellVersions.{CellVersions}
use Rattle.rows.specs.declared.batches.VersionBatch.{VersionBatch}
use Rattle.tablet.specs.declared.gathering.Gathering.{Gathering}
use Rattle.tablet.specs.declared.ranges.RowRange.{RowRange}
use Rattle.tablet.specs.declared.tablet.Tablet.{Tablet}
use Rattle.tablet.proofs.Filters.{is_between}
use Rattle.tablet.proofs.GatheredEntries.{list_front, newest_same}
use Rattle.tablet.proofs.Held.{held_lists}
use Rattle.tablet.proofs.NextCells.{both_inside, inside_both}
use Rattle.rows.proofs.NextLists.{next_all}
use Rattle.tablet.proofs.NextPlaces.{next_cells}
use Rattle.tablet.proofs.Shown.{first_at, part_at, part_list, shown, stored_or_hidden, stored_or_none, view}

-- ---- entries that were passed

-- `left` is the rest of a list after a prefix from which this was gathered
pub record HasGone (all left : List Entry) (gathered : Gathering) : Type 0 where
  pub before : List Entry
  pub parts : all ≡ before ++ left
  pub gathers : Gathers before gathered

taken_from : (lent : Option Entry) (old new : List Entry) → Takes lent old new → old ≡ option_to_list lent ++ new
taken_from None old new taken = taken.0 ∙ sym taken.1
taken_from (Some e) old new taken = taken

pub gone_none : (all : List Entry) (g : Gathering) → Gathers [] g → HasGone all all g
gone_none all g none = record { before = []; parts = refl; gathers = none }

pub gone_more : (all : List Entry) (lent : Option Entry) (old new : List Entry) (g h : Gathering) → IsEntryList all → HasGone all old g → Takes lent old new
    → ((es : List Entry) → IsEntryList (es ++ option_to_list lent) → Gathers es g → Gathers (es ++ option_to_list lent) h) → HasGone all new h
gone_more all lent old new g h list gone taken more =
    let parts = gone.parts ∙ ap (λ es. gone.before ++ es) (taken_from lent old new taken) ∙ sym (append_assoc gone.before (option_to_list lent) new) in
    record {
      before = gone.before ++ option_to_list lent;
      parts = parts;
      gathers = more gone.before (list_front (gone.before ++ option_to_list lent) new (subst IsEntryList parts list)) gone.gathers;
    }

pub gone_stops : (all : List Entry) (lent : Option Entry) (old new : List Entry) (g : Gathering) (hi : ℕ) (cells : List CellVersions) → IsEntryList all → HasGone all old g → Takes lent old new
    → ((es more : List Entry) → IsEntryList (es ++ (option_to_list lent ++ more)) → Gathers es g → AreVersionsIn (es ++ (option_to_list lent ++ more)) hi cells false) → AreVersionsIn all hi cells false
gone_stops all lent old new g hi cells list gone taken stops =
    let parts = gone.parts ∙ ap (λ es. gone.before ++ es) (taken_from lent old new taken) in
    subst (λ (es : List Entry). AreVersionsIn es hi cells false) (sym parts) (stops gone.before new (subst IsEntryList parts list) gone.gathers)

pub gone_all : (all : List Entry) (lent : Option Entry) (old new : List Entry) (g : Gathering) → HasGone all old g → Takes lent old new → false ≡ is_some lent → Gathers all g
gone_all all None old new g gone taken end = subst (λ (es : List Entry). Gathers es g) (sym (gone.parts ∙ ap (λ es. gone.before ++ es) taken.0 ∙ append-nil gone.before)) gone.gathers
gone_all all (Some e) old new g gone taken end = absurd (let no : false ≡ true = end in cc)

-- ---- the cells of a range

next_end : (IsNext : Option Place → Option Place → Type 0) (n : ℕ) (after : Option Place) (places : List Place) → n ≡ length places + 1 → AreNext IsNext after n places → IsNext (last_or after places) None
next_end IsNext n after [] len next = next (omega (arith, len))
next_end IsNext n after (place ∷ places) len next = next_end IsNext (n - 1) (Some place) places (omega (arith, len)) next.2

chosen : (b : Bool) (o : Option (Option (List ℕ))) (x : List ℕ) → value_of (cond b o None) ≡ Some x → b ≡ true
chosen true o x e = refl
chosen false o x e = cc

module _ (range : RowRange) (lists : List (List Entry)) (each : AllByRecursion IsEntryList lists) (start : Option Place) (is : IsPlaceOrNone start) where
  abbrev entries : List Entry
  entries = part (start_of range start) (upper_fence range) lists

  abbrev cells : Cells
  cells = cells_of (view range lists)

  list : IsEntryList entries
  list = part_list (start_of range start) (upper_fence range) lists each

  -- a key with a value among the entries is in the range and after the place
  inside : (j : CellKey) → IsStored j → (x : List ℕ) → get (cells_of entries) j ≡ Some x → (has_row range j.row ≡ true) × IsAfter start (place_of j)
  inside j stored x there =
      inside_both range start is j stored
      (chosen (is_between (start_of range start) (upper_fence range) (text j)) (first_naming lists (text j)) x
      (ap value_of (sym (part_at (start_of range start) (upper_fence range) lists (text j))) ∙ sym (get-cells_of entries list.each j stored) ∙ there))

  same_stored : (q : CellKey) → IsStored q → has_row range q.row ≡ true → IsAfter start (place_of q) → get cells q ≡ get (cells_of entries) q
  same_stored q stored has behind =
      shown range lists each q stored
      ∙ ap (λ (b : Bool). cond b (first_at lists q) None) has
      ∙ sym (ap (λ (b : Bool). value_of (cond b (first_naming lists (text q)) None)) (both_inside range start is q stored has behind))
      ∙ sym (ap value_of (part_at (start_of range start) (upper_fence range) lists (text q)))
      ∙ sym (get-cells_of entries list.each q stored)

  -- the tablet and the entries agree on such a cell
  same_cell : (place : Place) → HasCell (cells_of entries) place → (q : CellKey) → place_of q ≡ place → get cells q ≡ get (cells_of entries) q
  same_cell place cell q at = go (stored_or_hidden range lists each q) (stored_or_none entries list.each q)
    where
      first : (x : Option (List ℕ)) → get (cells_of entries) cell.key ≡ x → IsSome x → IsStored cell.key ⊎ (get (cells_of entries) cell.key ≡ None) → (has_row range cell.key.row ≡ true) × IsAfter start (place_of cell.key)
      first None e some either = absurd (let no : false ≡ true = some in cc)
      first (Some x) e some (inl s) = inside cell.key s x e
      first (Some x) e some (inr none) = absurd (let no : None ≡ Some x = sym none ∙ e in cc)

      there : (has_row range cell.key.row ≡ true) × IsAfter start (place_of cell.key)
      there = first (get (cells_of entries) cell.key) refl cell.some (stored_or_none entries list.each cell.key)

      both : place_of cell.key ≡ place_of q
      both = cell.at ∙ sym at

      stored_same : IsStored q → get cells q ≡ get (cells_of entries) q
      stored_same s = same_stored q s (subst (λ (p : Place). has_row range p.0 ≡ true) both there.0) (subst (λ (p : Place). IsAfter start p) both there.1)

      go : IsStored q ⊎ (get cells q ≡ None) → IsStored q ⊎ (get (cells_of entries) q ≡ None) → get cells q ≡ get (cells_of entries) q
      go (inl s) other = stored_same s
      go (inr e) (inl s) = stored_same s
      go (inr e) (inr f) = e ∙ sym f

  newest_shown : (hi : ℕ) (found : List CellVersions) → AllByRecursion (IsShown entries hi) found → AllByRecursion (HasNewest cells hi) found
  newest_shown hi [] all = tt
  newest_shown hi (one ∷ found) all = (
    λ q. newest_same (cells_of entries) cells (version one.row one.family q) hi (of_column one q) (λ s within. same_cell (place_in one) all.0.some (version one.row one.family q s) refl) (all.0.newest q),
    newest_shown hi found all.1,
  )

  pub next_shown : (hi : ℕ) (batch : VersionBatch) → AreVersionsIn entries hi batch.cells.items batch.is_last → AreNextVersions cells start hi batch
  next_shown hi batch h = record {
    next = next_cells range lists each start is (length batch.cells.items) places h.next;
    newest = newest_shown hi batch.cells.items h.shown;
    last = λ e. next_end (IsNextCell cells) (length places + 1) start places refl
        (next_cells range lists each start is (length places + 1) places
        (next_all (IsNextIn entries) (length places) (length places + 1) None places refl (omega arith) (subst (λ (n : ℕ). AreNext (IsNextIn entries) None n places) (sym (length-map batch.cells.items place_in)) h.next) (λ wanted. h.last e)));
  }
    where
      places : List Place
      places = places_in batch.cells.items

-- ---- the cells of a tablet

module _ (t : Tablet) (fs : List SortedFile) (files : fs ≡ files_of t) (after : Option Place) (is : IsPlaceOrNone after) (x : List ℕ) (y : Option (List ℕ)) (starts : x ≡ start_of (range_of t) after) (ends : y ≡ upper_fence (range_of t)) where
  abbrev pub FindsVersions : ℕ → VersionBatch → Option Contents → Type 0
  FindsVersions hi batch o = IfSome o (λ m. AllByRecursion (IsOpen m) fs → AreVersionsIn (part x y (memory_of t ∷ map (listed m) fs)) hi batch.cells.items batch.is_last)

  pub versions_found : (o : Option Contents) (hi : ℕ) (batch : VersionBatch) → FindsVersions hi batch o → IfSome o (λ m. Holds m t → AreNextVersions (cells_at m t) after hi batch)
  versions_found None hi batch h = tt
  versions_found (Some m) hi batch h =
      λ held.
      next_shown (range_of t) (lists_of m t) (held_lists m t held) after is hi batch
      (subst (λ (es : List Entry). AreVersionsIn es hi batch.cells.items batch.is_last) (λ i. part (starts i) (ends i) (memory_of t ∷ map (listed m) (files i))) (h (subst (λ (gs : List SortedFile). AllByRecursion (IsOpen m) gs) (sym files) held.files)))
