-- The next cell of a cluster belongs to the first tablet that has one.
use Rattle.std.proofs.Common.{◌≡◌, ◌≢◌, ℕ, Bool, true, false, List, [], ◌∷◌, ◌++◌, length, Option, Some, None, IsSome, slice_get, refl, sym, ap, ◌∙◌, subst, ◌&&◌}
use Rattle.std.specs.FinMap.{get}
use Rattle.std.specs.List.{AllByRecursion}
use Rattle.std.specs.Cmp.Lexicographic.{nat_list_cmp_total}
use Rattle.std.specs.Ordering.{is_le, ordering_reverse, ordering_then}
use Rattle.std.specs.declared.cmp.Ordering.{Ordering}
use Rattle.std.specs.declared.cmp.Ordering.TheVariants.{Less, Equal, Greater}
use Rattle.cell_key.specs.Keys.{byte_cmp}
use Rattle.cell_key.specs.Places.{Place, place_cmp, IsAfter, HasCell, IsNextCell}
use Rattle.file_store.specs.Store.{Contents}
use Rattle.metadata_table.specs.Places.{PlaceView, EndsBefore}
use Rattle.metadata_table.specs.Table.{EndsRise, IsTable}
use Rattle.tablet.specs.Ranges.{is_after, is_up_to, has_row}
use Rattle.tablet.specs.Views.{cells_at, range_of}
use Rattle.tablet.specs.declared.ranges.RowRange.{RowRange}
use Rattle.tablet.specs.declared.tablet.Tablet.{Tablet}
use Rattle.row_atomic.specs.Clusters.{tablet_numbered, cells_in, IsPlaced, ArePlaced}
use Rattle.row_atomic.proofs.Owners.{BeginsPast, OfTablet, begins_past_has, each_placed, index_of, later_begin, numbered_at, same_tablet}
use Rattle.row_atomic.proofs.Joined.{joined_some, joined_from, same_row}
use Rattle.row_atomic.proofs.OutsideRange.{outside_none}
use Rattle.row_atomic.proofs.Shares.{each_map}

-- the tablet of a place has no cell there
abbrev pub HasNone : Contents → List Tablet → Place → PlaceView → Type 0
HasNone m ts place q = (u : Tablet) → tablet_numbered q.tablet ts ≡ Some u → ¬ (HasCell (cells_at m u) place)

-- the tablet of a place has no cell after this one
abbrev pub NoneAfter : Contents → List Tablet → Option Place → PlaceView → Type 0
NoneAfter m ts after q = (place : Place) → IsAfter after place → HasNone m ts place q

-- some tablet has a cell there
pub record HasTabletCell (m : Contents) (ts : List Tablet) (place : Place) : Type 0 where
  pub index : ℕ
  pub tablet : Tablet
  pub there : slice_get ts index ≡ Some tablet
  pub cell : HasCell (cells_at m tablet) place

both_ways : (b : Bool) → b ≡ true → b ≡ false → ⊥
both_ways b e h = cc

second_true : (a b : Bool) → (a && b) ≡ true → b ≡ true
second_true true b e = e
second_true false b e = cc

none_some : {A : Type 0} (o : Option A) → o ≡ None → IsSome o → ⊥
none_some None e h = cc
none_some (Some x) e h = cc

le_not_less : (o : Ordering) → is_le (ordering_reverse o) ≡ true → o ≡ Less → ⊥
le_not_less Less h e = cc
le_not_less Equal h e = cc
le_not_less Greater h e = cc

-- a row up to an end isn't past it
not_past : (end : Option (List ℕ)) (row : List ℕ) → is_up_to end row ≡ true → ¬ EndsBefore end row
not_past None row h k = k
not_past (Some e) row h k = le_not_less (byte_cmp e row) (sym (ap is_le (nat_list_cmp_total.antisymm row e)) ∙ h) k

first_less : (r s : Ordering) → ordering_then r s ≡ Less → r ≢ Greater
first_less Less s h e = cc
first_less Equal s h e = cc
first_less Greater s h e = cc

-- an end that is not before a row is not before any lower row
up_to_too : (end : Option (List ℕ)) (low row : List ℕ) → byte_cmp low row ≢ Greater → ¬ EndsBefore end row → ¬ EndsBefore end low
up_to_too None low row le h k = k
up_to_too (Some e) low row le h k = by (byte_cmp low row) refl
  where
    by : (o : Ordering) → byte_cmp low row ≡ o → ⊥
    by Less f = h (nat_list_cmp_total.trans e low row k f)
    by Equal f = h (subst (λ (r : List ℕ). byte_cmp e r ≡ Less) (same_row low row f) k)
    by Greater f = le f

-- an end before a row is before every row that is not below it
past_end : (end : Option (List ℕ)) (row low : List ℕ) → EndsBefore end row → byte_cmp row low ≢ Greater → EndsBefore end low
past_end None row low h le = h
past_end (Some e) row low h le = by (byte_cmp row low) refl
  where
    by : (o : Ordering) → byte_cmp row low ≡ o → byte_cmp e low ≡ Less
    by Less f = nat_list_cmp_total.trans e row low h f
    by Equal f = subst (λ (r : List ℕ). byte_cmp e r ≡ Less) (same_row row low f) h
    by Greater f = absurd (le f)

module _ (m : Contents) (ts : List Tablet) where
  -- a tablet has cells in its range only
  pub in_range : (i : ℕ) (t : Tablet) (place : Place) → slice_get ts i ≡ Some t → HasCell (cells_at m t) place → has_row (range_of t) place.0 ≡ true
  in_range i t place there cell = by (has_row (range_of t) place.0) refl
    where
      by : (b : Bool) → has_row (range_of t) place.0 ≡ b → has_row (range_of t) place.0 ≡ true
      by true e = e
      by false e =
          let row : cell.key.row ≡ place.0 = ap (λ (p : Place). p.0) cell.at in
          let lacks = subst (λ (r : List ℕ). has_row (range_of t) r ≡ false) (sym row) e in
          absurd (none_some (get (cells_at m t) cell.key) (outside_none m t cell.key lacks) cell.some)

  pub whole_has : (i : ℕ) (t : Tablet) (place : Place) → slice_get ts i ≡ Some t → HasCell (cells_at m t) place → HasCell (cells_in (Some m) ts) place
  whole_has i t place there cell = record { key = cell.key; at = cell.at; some = joined_some (cells_at m) cell.key ts i t there cell.some }

  pub tablet_has : (place : Place) → HasCell (cells_in (Some m) ts) place → HasTabletCell m ts place
  tablet_has place cell =
      let found = joined_from (cells_at m) cell.key ts cell.some in
      record { index = found.0; tablet = found.1.0; there = found.1.1.0; cell = record { key = cell.key; at = cell.at; some = found.1.1.1 } }

  -- if no place's tablet has a cell there, the cluster has none there
  nowhere : (places : List PlaceView) (place : Place) → IsTable places → length ts ≡ length places → AllByRecursion (HasNone m ts place) places → ¬ (HasCell (cells_in (Some m) ts) place)
  nowhere places place table as_many none cell =
      let one = tablet_has place cell in
      let found = each_placed (HasNone m ts place) ts places table as_many none one.index one.tablet one.there in
      found.1.0 one.tablet (subst (λ (n : ℕ). tablet_numbered n ts ≡ Some one.tablet) (sym found.1.1) one.there) one.cell

  -- no tablet has a further cell
  pub none_next : (places : List PlaceView) (after : Option Place) → IsTable places → length ts ≡ length places → AllByRecursion (NoneAfter m ts after) places → IsNextCell (cells_in (Some m) ts) after None
  none_next places after table as_many none = λ place behind. nowhere places place table as_many (each_map (NoneAfter m ts after) (HasNone m ts place) (λ q h. h place behind) places none)

  -- tablets that begin past a place's row have no cell there
  none_past : (place : Place) (q : PlaceView) → OfTablet ts (BeginsPast place.0) q → HasNone m ts place q
  none_past place q begins u e cell =
      both_ways (has_row (range_of u) place.0) (in_range (index_of q.tablet) u place (numbered_at ts q.tablet u e) cell) (begins_past_has place.0 (range_of u) (begins u e))

  rise_at : (pre : List PlaceView) (p : PlaceView) (post : List PlaceView) → EndsRise (pre ++ p ∷ post) → EndsRise (p ∷ post)
  rise_at [] p post rise = rise
  rise_at (q ∷ []) p post rise = rise.1
  rise_at (q ∷ r ∷ pre) p post rise = rise_at (r ∷ pre) p post rise.1

  record PlacedAt (p : PlaceView) (post : List PlaceView) : Type 0 where
    before : Option (List ℕ)
    here : IsPlaced ts before p
    later : ArePlaced ts p.end post

  placed_at : (before : Option (List ℕ)) (pre : List PlaceView) (p : PlaceView) (post : List PlaceView) → ArePlaced ts before (pre ++ p ∷ post) → PlacedAt p post
  placed_at before [] p post placed = record { before = before; here = placed.0; later = placed.1 }
  placed_at before (q ∷ pre) p post placed = placed_at q.end pre p post placed.1

  appended : (P : PlaceView → Type 0) (xs ys : List PlaceView) → AllByRecursion P xs → AllByRecursion P ys → AllByRecursion P (xs ++ ys)
  appended P [] ys h k = k
  appended P (x ∷ xs) ys h k = (h.0, appended P xs ys h.1 k)

  -- the first tablet with a further cell has the next one
  module _ (pre : List PlaceView) (p : PlaceView) (post : List PlaceView) (after : Option Place) (found : Place) (t : Tablet) (table : IsTable (pre ++ p ∷ post)) (as_many : length ts ≡ length (pre ++ p ∷ post)) (placed : ArePlaced ts None (pre ++ p ∷ post)) (passed : AllByRecursion (NoneAfter m ts after) pre) (numbered : tablet_numbered p.tablet ts ≡ Some t) (next : IsNextCell (cells_at m t) after (Some found)) where
    reaches_found : ¬ EndsBefore p.end found.0
    reaches_found =
        let at = placed_at None pre p post placed in
        let same = same_tablet (tablet_numbered p.tablet ts) at.here.tablet t at.here.numbered numbered in
        let range : range_of t ≡ record { after = at.before; end = p.end } = subst (λ (u : Tablet). range_of u ≡ record { after = at.before; end = p.end }) same at.here.range in
        let has = in_range (index_of p.tablet) t found (numbered_at ts p.tablet t numbered) next.1 in
        let up = second_true (is_after at.before found.0) (is_up_to p.end found.0) (sym (ap (λ (r : RowRange). has_row r found.0) range) ∙ has) in
        not_past p.end found.0 up

    -- the tablets after it begin past its row
    pub begin_past : AllByRecursion (OfTablet ts (BeginsPast found.0)) post
    begin_past = later_begin ts found.0 p post (rise_at pre p post table.rising) (placed_at None pre p post placed).later reaches_found

    none_before : (place : Place) → IsAfter after place → place_cmp place found ≡ Less → AllByRecursion (HasNone m ts place) (pre ++ p ∷ post)
    none_before place behind less =
        let at = placed_at None pre p post placed in
        let low = first_less (byte_cmp place.0 found.0) (byte_cmp place.1 found.1) less in
        let begins = later_begin ts place.0 p post (rise_at pre p post table.rising) at.later (up_to_too p.end place.0 found.0 low reaches_found) in
        let here : HasNone m ts place p = λ u e cell. next.2 place behind less (subst (λ (v : Tablet). HasCell (cells_at m v) place) (same_tablet (tablet_numbered p.tablet ts) u t e numbered) cell) in
        appended (HasNone m ts place) pre (p ∷ post)
        (each_map (NoneAfter m ts after) (HasNone m ts place) (λ q h. h place behind) pre passed)
        (here, each_map (OfTablet ts (BeginsPast place.0)) (HasNone m ts place) (none_past place) post begins)

    pub found_next : IsNextCell (cells_in (Some m) ts) after (Some found)
    found_next = (
      next.0,
      whole_has (index_of p.tablet) t found (numbered_at ts p.tablet t numbered) next.1,
      λ place behind less. nowhere (pre ++ p ∷ post) place table as_many (none_before place behind less),
    )

  -- a tablet that ends below a row has no cell after any cell of that row
  pub none_after_end : (before : Option (List ℕ)) (q : PlaceView) (row family : List ℕ) → IsPlaced ts before q → EndsBefore q.end row → NoneAfter m ts (Some (row, family)) q
  none_after_end before q row family placed ends place behind u e cell =
      let same = same_tablet (tablet_numbered q.tablet ts) placed.tablet u placed.numbered e in
      let range : range_of u ≡ record { after = before; end = q.end } = subst (λ (v : Tablet). range_of v ≡ record { after = before; end = q.end }) same placed.range in
      let has = in_range (index_of q.tablet) u place (numbered_at ts q.tablet u e) cell in
      let up = second_true (is_after before place.0) (is_up_to q.end place.0) (sym (ap (λ (r : RowRange). has_row r place.0) range) ∙ has) in
      not_past q.end place.0 up (past_end q.end row place.0 ends (first_less (byte_cmp row place.0) (byte_cmp family place.1) behind))
