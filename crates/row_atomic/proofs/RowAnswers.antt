-- A cluster's answers, from the answers of a row's tablet.
use Rattle.std.proofs.Common.{◌≡◌, ◌<◌, ◌≤◌, ◌+◌, ◌-◌, ℕ, zero, suc, Bool, List, [], ◌∷◌, map, set, length, Option, Some, None, IfSome, Result, Ok, Err, IfOk, IfErr, OnOk, OnErr, IsTrue, slice_get, slice_index_or, refl, sym, ap, ◌∙◌, subst, arith}
use Rattle.std.proofs.lemmas.List.{length-set}
use Rattle.std.proofs.lemmas.Option.{same_Some}
use Rattle.std.specs.Prelude.{IsSomeAnd}
use Rattle.std.specs.List.{AllByRecursion}
use Rattle.cell_key.specs.Cells.{Cells, IsEditOf, IsNewest, after_edits, version}
use Rattle.cell_key.specs.Entries.{cells_of, merged}
use Rattle.cell_key.specs.declared.edits.Edit.{Edit}
use Rattle.cell_key.specs.declared.keys.Qualifier.{Qualifier}
use Rattle.cell_key.specs.declared.refusals.Refusal.{Refusal}
use Rattle.file_store.specs.Store.{Contents}
use Rattle.memtable.specs.Edits.{IsWithinLimits, with_edits}
use Rattle.metadata_table.specs.Places.{PlaceView}
use Rattle.metadata_table.specs.Table.{IsTable, IsHolder}
use Rattle.sorted_file.specs.File.{name_of}
use Rattle.tablet.specs.Ranges.{has_row, seen}
use Rattle.rows.specs.Reads.{AreNewestFirst, HasVersion}
use Rattle.tablet.specs.Views.{Holds, IsBelow, IsSameTablet, cells_at, lists_of, range_of, files_of, names_of, memory_of}
use Rattle.tablet.specs.declared.tablet.Tablet.{Tablet}
use Rattle.row_atomic.specs.Clusters.{tablet_numbered, cells_in, joined, edits_in, InOrder, ArePlaced, IsMatched, Overfills}
use Rattle.row_atomic.proofs.Owners.{OwnsRow, index_of, holder_owns}
use Rattle.row_atomic.proofs.Shares.{each_at, each_set, at_told, newest_list_of_row, newest_of_row, applied}
use Rattle.row_atomic.proofs.PlacedTablets.{is_placed, placed_set}
use Rattle.row_atomic.proofs.Parts.{IsNumbered, at_parts}

-- the tablet of the place that holds a row is at the index
pub record HasTabletAt (places : List PlaceView) (tablets : List Tablet) (row : List ℕ) (index : ℕ) : Type 0 where
  pub place : PlaceView
  pub holder : IsHolder row places place
  pub number : place.tablet ≡ index + 1
  pub tablet : Tablet
  pub there : slice_get tablets index ≡ Some tablet

-- the element at an index
pub slice_get_at : {A : Type 0} (xs : List A) (i : ℕ) (d : A) → i < length xs → slice_get xs i ≡ Some (slice_index_or xs i d)
slice_get_at [] i d h = absurd (omega arith)
slice_get_at (x ∷ xs) zero d h = refl
slice_get_at (x ∷ xs) (suc i) d h = slice_get_at xs i d (omega arith)

pub index_below : {A : Type 0} (xs : List A) (i : ℕ) (x : A) → slice_get xs i ≡ Some x → i < length xs
index_below [] i x e = cc
index_below (y ∷ xs) zero x e = omega arith
index_below (y ∷ xs) (suc i) x e = let rest = index_below xs i x e in omega arith

-- the element at an index within the list
pub found_there : {A : Type 0} (xs : List A) (i : ℕ) (v x : A) → slice_get xs i ≡ Some v → x ≡ slice_index_or xs i x → slice_get xs i ≡ Some x
found_there xs i v x e is = slice_get_at xs i x (index_below xs i v e) ∙ ap Some (sym is)

-- only the tablet at a row's index has the row
pub owner_at : (places : List PlaceView) (ts : List Tablet) (row : List ℕ) (i : ℕ) (t : Tablet) → IsTable places → ArePlaced ts None places → length ts ≡ length places → HasTabletAt places ts row i → slice_get ts i ≡ Some t → OwnsRow ts row i t
owner_at places ts row i t table placed as_many at there =
    let number : at.place.tablet ≡ suc i = let number = at.number in omega arith in
    let numbered : tablet_numbered at.place.tablet ts ≡ Some t = ap (λ (n : ℕ). tablet_numbered n ts) number ∙ there in
    subst (λ (k : ℕ). OwnsRow ts row k t) (ap index_of number) (holder_owns ts places row at.place t table placed as_many at.holder numbered)

-- the tablet that holds a row is at the index of its number less 1
pub record IsIndexed (places : List PlaceView) (ts : List Tablet) (row : List ℕ) (number : ℕ) : Type 0 where
  pub from : 1 ≤ number
  pub at : HasTabletAt places ts row (number - 1)

there_by : (ts : List Tablet) (n : ℕ) (v : Tablet) → tablet_numbered n ts ≡ Some v → (1 ≤ n) × ((n ≡ n - 1 + 1) × (slice_get ts (n - 1) ≡ Some v))
there_by ts zero v e = cc
there_by ts (suc i) v e =
    let less : suc i - 1 ≡ i = omega arith in
    (omega arith, (omega arith, subst (λ (k : ℕ). slice_get ts k ≡ Some v) (sym less) e))

-- the place that holds a row gives its tablet's index
pub holder_index : (places : List PlaceView) (ts : List Tablet) (row : List ℕ) (p : PlaceView) → ArePlaced ts None places → IsHolder row places p → IsIndexed places ts row p.tablet
holder_index places ts row p placed holder =
    let all : AllByRecursion (λ q. IsNumbered ts q.tablet) places = is_placed (λ q. IsNumbered ts q.tablet) ts (λ before q h. record { tablet = h.tablet; numbered = h.numbered }) None places placed in
    let one = at_parts (λ q. IsNumbered ts q.tablet) holder.before p holder.after (subst (λ (ps : List PlaceView). AllByRecursion (λ q. IsNumbered ts q.tablet) ps) holder.parts all) in
    let by = there_by ts p.tablet one.tablet one.numbered in
    record { from = by.0; at = record { place = p; holder = holder; number = by.1.0; tablet = one.tablet; there = by.1.1 } }

-- ---- reads

pub if_err : {A : Type 0} (P Q : Refusal → Type 0) → ((x : Refusal) → P x → Q x) → (r : Result A Refusal) → IfErr r P → IfErr r Q
if_err P Q h (Ok x) k = tt
if_err P Q h (Err e) k = h e k

-- tablets stay in order over the same contents
pub still_in_order : (old new : Option Contents) (next : ℕ) (ts : List Tablet) → new ≡ old → InOrder old next ts → InOrder new next ts
still_in_order old new next ts e order = subst (λ (o : Option Contents). InOrder o next ts) (sym e) order

pub same_cells_in : (old new : Option Contents) (ts : List Tablet) → new ≡ old → cells_in new ts ≡ cells_in old ts
same_cells_in old new ts e = ap (λ (o : Option Contents). cells_in o ts) e

-- the newest version in the row's tablet is the cluster's
pub newest_answer : (o : Option Contents) (ts : List Tablet) {A : Type 0} (seen : A → Option (ℕ × List ℕ)) (row family : List ℕ) (qualifier : Qualifier) (lo hi : ℕ) (i : ℕ) (t : Tablet) (r : Result A Refusal) → OwnsRow ts row i t
    → IsSomeAnd o (λ m. Holds m t)
    → IfOk r (λ found. IfSome o (λ m. Holds m t → IsTrue (has_row (range_of t) row) → IsNewest (cells_at m t) (version row family qualifier) lo hi (seen found)))
    → IfOk r (λ found. IsNewest (cells_in o ts) (version row family qualifier) lo hi (seen found))
newest_answer o ts seen row family qualifier lo hi i t (Err e) owns held h = tt
newest_answer None ts seen row family qualifier lo hi i t (Ok found) owns held h = absurd held
newest_answer (Some m) ts seen row family qualifier lo hi i t (Ok found) owns held h =
    newest_of_row m ts row family qualifier lo hi (seen found) i t owns (h held owns.has)

-- the newest versions in the row's tablet are the cluster's
pub versions_answer : (o : Option Contents) (ts : List Tablet) {A : Type 0} (seen : A → List (ℕ × List ℕ)) (row family : List ℕ) (qualifier : Qualifier) (hi most : ℕ) (i : ℕ) (t : Tablet) (r : Result A Refusal) → OwnsRow ts row i t
    → IsSomeAnd o (λ m. Holds m t)
    → IfOk r (λ found. IfSome o (λ m. Holds m t → IsTrue (has_row (range_of t) row) → AreNewestFirst (cells_at m t) (version row family qualifier) hi most (seen found)))
    → IfOk r (λ found. AreNewestFirst (cells_in o ts) (version row family qualifier) hi most (seen found))
versions_answer o ts seen row family qualifier hi most i t (Err e) owns held h = tt
versions_answer None ts seen row family qualifier hi most i t (Ok found) owns held h = absurd held
versions_answer (Some m) ts seen row family qualifier hi most i t (Ok found) owns held h =
    newest_list_of_row m ts row family qualifier hi most (seen found) i t owns (h held owns.has)

-- the row's tablet has a version if and only if the cluster has it
pub has_answer : (o : Option Contents) (ts : List Tablet) (row family : List ℕ) (qualifier : Qualifier) (lo hi : ℕ) (i : ℕ) (t : Tablet) (r : Result Bool Refusal) → OwnsRow ts row i t → IsSomeAnd o (λ m. Holds m t)
    → IfOk r (λ has. IfSome o (λ m. Holds m t → IsTrue (has_row (range_of t) row) → HasVersion (cells_at m t) (version row family qualifier) lo hi has)) → IfOk r (HasVersion (cells_in o ts) (version row family qualifier) lo hi)
has_answer o ts row family qualifier lo hi i t (Err e) owns held h = tt
has_answer None ts row family qualifier lo hi i t (Ok has) owns held h = absurd held
has_answer (Some m) ts row family qualifier lo hi i t (Ok has) owns held h =
    let there = h held owns.has in
    record {
      found = there.found;
      newest = newest_of_row m ts row family qualifier lo hi there.found i t owns there.newest;
      is = there.is;
    }

-- edits of the row's tablet are edits of the cluster's cells
pub apply_answer : (o : Option Contents) (ts : List Tablet) (row : List ℕ) (i : ℕ) (t u : Tablet) (edits : List Edit) {A : Type 0} (r : Result A Refusal) → OwnsRow ts row i t → IsSomeAnd o (λ m. Holds m t) → range_of u ≡ range_of t → AllByRecursion (IsEditOf row) edits
    → OnOk r ((m : Contents) → Holds m t → IsTrue (has_row (range_of t) row) → cells_at m u ≡ after_edits (cells_at m t) edits)
    → OnOk r (cells_in o (set ts i u) ≡ after_edits (cells_in o ts) edits)
apply_answer o ts row i t u edits (Err e) owns held same_range under made = tt
apply_answer None ts row i t u edits (Ok x) owns held same_range under made = absurd held
apply_answer (Some m) ts row i t u edits (Ok x) owns held same_range under made = applied m ts row i t u edits owns same_range under (made m held owns.has)

-- a read of a tablet in order is not answered as damaged
pub not_damaged : (o : Option Contents) (t : Tablet) (Told : Type 0) → IsSomeAnd o (λ m. Holds m t) → (Told → IfSome o (λ m. ¬ Holds m t)) → ¬ Told
not_damaged None t Told held h told = held
not_damaged (Some m) t Told held h told = h told held

-- the place that holds a row has the number of its tablet
pub holder_numbered : (places : List PlaceView) (ts : List Tablet) (row : List ℕ) (i : ℕ) (t : Tablet) → (at : HasTabletAt places ts row i) → slice_get ts i ≡ Some t → tablet_numbered at.place.tablet ts ≡ Some t
holder_numbered places ts row i t at there =
    let number : at.place.tablet ≡ suc i = let number = at.number in omega arith in
    ap (λ (n : ℕ). tablet_numbered n ts) number ∙ there

module _ (o : Option Contents) (next : ℕ) (ts : List Tablet) (order : InOrder o next ts) where
  -- a fact about known contents
  pub of_told : (P : Contents → Type 0) → IfSome o P → P order.contents
  of_told P h = at_told P o order.contents order.on_disk h

  -- damage is not answered under the premise
  pub undamaged : (i : ℕ) (t : Tablet) (Told : Type 0) → slice_get ts i ≡ Some t → (Told → IfSome o (λ m. ¬ Holds m t)) → ¬ Told
  undamaged i t Told there h told = of_told (λ m. ¬ Holds m t) (h told) (each_at (Holds order.contents) ts order.each_open i t there)

  -- ---- edits

  module _ (i : ℕ) (t u : Tablet) (there : slice_get ts i ≡ Some t) where
    holds_after : {A : Type 0} (r : Result A Refusal) → OnOk r ((m : Contents) → Holds m t → Holds m u) → OnErr r (u ≡ t) → Holds order.contents u
    holds_after (Ok x) still err = still order.contents (each_at (Holds order.contents) ts order.each_open i t there)
    holds_after (Err e) still err = subst (λ (v : Tablet). Holds order.contents v) (sym err) (each_at (Holds order.contents) ts order.each_open i t there)

    -- the tablets stay in order
    pub apply_still : {A : Type 0} (r : Result A Refusal) → files_of u ≡ files_of t → OnOk r ((m : Contents) → Holds m t → Holds m u) → OnErr r (u ≡ t) → InOrder o next (set ts i u)
    apply_still r files still err = record {
      contents = order.contents;
      on_disk = order.on_disk;
      each_open = each_set (Holds order.contents) ts i u order.each_open (holds_after r still err);
      each_below = each_set (IsBelow next) ts i u order.each_below
          (subst (λ (names : List ℕ). AllByRecursion (λ name. name < next) names) (sym (ap (λ files. map name_of files) files)) (each_at (IsBelow next) ts order.each_below i t there));
    }

-- ---- a tablet that was read

module _ (o now : Option Contents) (next : ℕ) (ts : List Tablet) (i : ℕ) (t u : Tablet) (there : slice_get ts i ≡ Some t) (same : IsSameTablet o t u) (told : now ≡ o) where
  is_still : (order : InOrder o next ts) → Holds order.contents u
  is_still order = at_told (λ m. Holds m t → Holds m u) o order.contents order.on_disk same.still (each_at (Holds order.contents) ts order.each_open i t there)

  pub read_still : InOrder o next ts → InOrder now next (set ts i u)
  read_still order = record {
    contents = order.contents;
    on_disk = told ∙ order.on_disk;
    each_open = each_set (Holds order.contents) ts i u order.each_open (is_still order);
    each_below = each_set (IsBelow next) ts i u order.each_below (subst (λ (names : List ℕ). AllByRecursion (λ name. name < next) names) (sym same.names) (each_at (IsBelow next) ts order.each_below i t there));
  }

  same_cells : (m : Contents) → cells_at m u ≡ cells_at m t
  same_cells m = ap (λ range. cells_of (merged (map (seen range) (lists_of m u)))) same.range ∙ ap (λ lists. cells_of (merged (map (seen (range_of t)) lists))) (same.lists m)

  all_cells : (m : Contents) (xs : List Tablet) (j : ℕ) → slice_get xs j ≡ Some t → map (cells_at m) (set xs j u) ≡ map (cells_at m) xs
  all_cells m [] j e = cc
  all_cells m (x ∷ xs) zero e = ap (λ (c : Cells). c ∷ map (cells_at m) xs) (same_cells m ∙ ap (cells_at m) (sym (same_Some x t e)))
  all_cells m (x ∷ xs) (suc j) e = ap (λ (cs : List Cells). cells_at m x ∷ cs) (all_cells m xs j e)

  -- over any files
  cells_over : (k : Option Contents) → cells_in k (set ts i u) ≡ cells_in k ts
  cells_over None = refl
  cells_over (Some m) = ap joined (all_cells m ts i there)

  pub read_kept : cells_in now (set ts i u) ≡ cells_in o ts
  read_kept = ap (λ (k : Option Contents). cells_in k (set ts i u)) told ∙ cells_over o

-- ---- the structure

-- a tablet is replaced by one with the same range and the same files
pub matched_set : (limit next : ℕ) (places : List PlaceView) (ts : List Tablet) (i : ℕ) (t u : Tablet) → slice_get ts i ≡ Some t → range_of u ≡ range_of t → names_of u ≡ names_of t → IsMatched limit next places ts → IsMatched limit next places (set ts i u)
matched_set limit next places ts i t u there same_range same_names matched = record {
  limit = matched.limit;
  named_from = matched.named_from;
  named_to = matched.named_to;
  placed = placed_set ts i t u there same_range same_names None places matched.placed;
  as_many = length-set ts i u ∙ matched.as_many;
  files = matched.files;
}

-- the tablet of a row would be too full
pub over_full : (places : List PlaceView) (ts : List Tablet) (row : List ℕ) (edits : List Edit) (i : ℕ) (t : Tablet) → HasTabletAt places ts row i → slice_get ts i ≡ Some t → edits_in (range_of t) edits ≡ edits → ¬ IsWithinLimits (with_edits (memory_of t) edits) → Overfills places ts row edits
over_full places ts row edits i t at there all over =
    let number : at.place.tablet ≡ suc i = let number = at.number in omega arith in
    record {
      place = at.place;
      holder = at.holder;
      tablet = t;
      numbered = ap (λ (n : ℕ). tablet_numbered n ts) number ∙ there;
      over = λ within. over (subst (λ (es : List Edit). IsWithinLimits (with_edits (memory_of t) es)) all within);
    }
