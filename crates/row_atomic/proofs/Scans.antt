-- A scan over the places of a cluster, from one on.
use Rattle.std.proofs.Common.{◌≡◌, ◌<◌, ◌≤◌, ◌+◌, ◌-◌, ℕ, zero, suc, List, [], ◌∷◌, ◌++◌, take, drop, length, Option, Some, None, slice_get, slice_index_or, refl, sym, ap, ◌∙◌, subst, arith, add-one, take_all}
use Rattle.std.specs.List.{AllByRecursion}
use Rattle.cell_key.specs.Places.{Place as CellPlace, HasCell, IsNextCell}
use Rattle.file_store.specs.Store.{Contents}
use Rattle.metadata_table.specs.Places.{PlaceView, view_of, views}
use Rattle.metadata_table.specs.Table.{IsTable}
use Rattle.metadata_table.specs.declared.places.Place.{Place}
use Rattle.tablet.specs.Views.{cells_at}
use Rattle.tablet.specs.declared.tablet.Tablet.{Tablet}
use Rattle.row_atomic.specs.Clusters.{tablet_numbered, cells_in, IsPlaced, ArePlaced, PrecedesCell}
use Rattle.row_atomic.proofs.Owners.{same_tablet}
use Rattle.row_atomic.proofs.Nexts.{NoneAfter, found_next, none_next, none_after_end}
use Rattle.row_atomic.proofs.PlacedTablets.{is_placed}

below_next : {A : Type 0} (x : A) (xs : List A) (i : ℕ) → suc i < length (x ∷ xs) → i < length xs
below_next x xs i h = omega arith

at_index : (P : PlaceView → Type 0) (places : List Place) (i : ℕ) (d : Place) → AllByRecursion P (views places) → i < length places → P (view_of (slice_index_or places i d))
at_index P [] i d all h = absurd (omega arith)
at_index P (p ∷ ps) zero d all h = all.0
at_index P (p ∷ ps) (suc i) d all h = at_index P ps i d all.1 (below_next p ps i h)

-- a property of each place holds for the one at an index
pub at_item : (P : PlaceView → Type 0) (places : List Place) (i : ℕ) (p : Place) → AllByRecursion P (views places) → i < length places → p ≡ slice_index_or places i p → P (view_of p)
at_item P places i p all h e = subst (λ (q : Place). P (view_of q)) (sym e) (at_index P places i p all h)

more : (P : PlaceView → Type 0) (places : List Place) (i : ℕ) (d : Place) → i < length places → AllByRecursion P (views (take i places)) → P (view_of (slice_index_or places i d)) → AllByRecursion P (views (take (suc i) places))
more P [] i d h all one = absurd (omega arith)
more P (p ∷ ps) zero d h all one = (one, tt)
more P (p ∷ ps) (suc i) d h all one = (all.0, more P ps i d (below_next p ps i h) all.1 one)

-- one more place was passed
pub passed_more : (P : PlaceView → Type 0) (places : List Place) (i : ℕ) (p : Place) → i < length places → p ≡ slice_index_or places i p → AllByRecursion P (views (take i places)) → P (view_of p) → AllByRecursion P (views (take (i + 1) places))
passed_more P places i p h e all one = rw add-one (more P places i p h all (subst (λ (q : Place). P (view_of q)) e one))

parts : (places : List Place) (i : ℕ) (d : Place) → i < length places → views places ≡ views (take i places) ++ view_of (slice_index_or places i d) ∷ views (drop (suc i) places)
parts [] i d h = absurd (omega arith)
parts (p ∷ ps) zero d h = refl
parts (p ∷ ps) (suc i) d h = ap (λ (vs : List PlaceView). view_of p ∷ vs) (parts ps i d (below_next p ps i h))

-- the places before one at an index, and those after it
pub parted_at : (places : List Place) (i : ℕ) (p : Place) → i < length places → p ≡ slice_index_or places i p → views places ≡ views (take i places) ++ view_of p ∷ views (drop (suc i) places)
parted_at places i p h e = parts places i p h ∙ ap (λ (q : Place). views (take i places) ++ view_of q ∷ views (drop (suc i) places)) (sym e)

-- the tablet of a place is at its number less 1
pub record IsNumbered (ts : List Tablet) (n : ℕ) : Type 0 where
  pub from : 1 ≤ n
  pub below : n - 1 < length ts
  pub there : (d : Tablet) → tablet_numbered n ts ≡ Some (slice_index_or ts (n - 1) d)

get_index : (ts : List Tablet) (i : ℕ) (v d : Tablet) → slice_get ts i ≡ Some v → slice_get ts i ≡ Some (slice_index_or ts i d)
get_index [] i v d e = cc
get_index (t ∷ ts) zero v d e = refl
get_index (t ∷ ts) (suc i) v d e = get_index ts i v d e

get_below : (ts : List Tablet) (i : ℕ) (v : Tablet) → slice_get ts i ≡ Some v → i < length ts
get_below [] i v e = cc
get_below (t ∷ ts) zero v e = omega arith
get_below (t ∷ ts) (suc i) v e = let rest = get_below ts i v e in omega arith

less_one : (i : ℕ) → suc i - 1 ≡ i
less_one i = omega arith

pub numbered_index : (ts : List Tablet) (n : ℕ) (v : Tablet) → tablet_numbered n ts ≡ Some v → IsNumbered ts n
numbered_index ts zero v e = cc
numbered_index ts (suc i) v e = record {
  from = omega arith;
  below = let below = get_below ts i v e in omega arith;
  there = λ d. subst (λ (k : ℕ). slice_get ts i ≡ Some (slice_index_or ts k d)) (sym (less_one i)) (get_index ts i v d e);
}

pub place_numbered : (ts : List Tablet) (places : List Place) (i : ℕ) (p : Place) → ArePlaced ts None (views places) → i < length places → p ≡ slice_index_or places i p → IsNumbered ts p.tablet
place_numbered ts places i p placed h e = at_item (λ q. IsNumbered ts q.tablet) places i p (is_placed (λ q. IsNumbered ts q.tablet) ts (λ before q one. numbered_index ts q.tablet one.tablet one.numbered) None (views places) placed) h e

-- ---- the scan

module _ (m : Contents) (ts : List Tablet) (places : List Place) (after : Option CellPlace) (placed : ArePlaced ts None (views places)) where
  -- a place whose rows all come before the cell's row has no cell after it
  pub scan_skips : (i : ℕ) (p : Place) → i < length places → p ≡ slice_index_or places i p → PrecedesCell (view_of p) after → NoneAfter m ts after (view_of p)
  scan_skips i p h e low = at_item (λ q. PrecedesCell q after → NoneAfter m ts after q) places i p (is_placed (λ q. PrecedesCell q after → NoneAfter m ts after q) ts skip None (views places) placed) h e low
    where
      skip_after : (cell : Option CellPlace) (before : Option (List ℕ)) (p : PlaceView) → IsPlaced ts before p → PrecedesCell p cell → NoneAfter m ts cell p
      skip_after None before p one low = absurd low
      skip_after (Some cell) before p one low = none_after_end m ts before p cell.0 cell.1 one low

      skip : (before : Option (List ℕ)) (p : PlaceView) → IsPlaced ts before p → PrecedesCell p after → NoneAfter m ts after p
      skip before p one low = skip_after after before p one low

  -- a place whose tablet answers none has none
  pub scan_goes_on : (p : PlaceView) (t : Tablet) → tablet_numbered p.tablet ts ≡ Some t → IsNextCell (cells_at m t) after None → NoneAfter m ts after p
  scan_goes_on p t numbered none place behind u e cell = none place behind (subst (λ (v : Tablet). HasCell (cells_at m v) place) (same_tablet (tablet_numbered p.tablet ts) u t e numbered) cell)

  module _ (table : IsTable (views places)) (as_many : length ts ≡ length (views places)) where
    -- the first cell that a tablet answers is the next one
    pub scan_finds : (i : ℕ) (p : Place) (t : Tablet) (found : CellPlace) → i < length places → p ≡ slice_index_or places i p → AllByRecursion (NoneAfter m ts after) (views (take i places)) → tablet_numbered p.tablet ts ≡ Some t → IsNextCell (cells_at m t) after (Some found) → IsNextCell (cells_in (Some m) ts) after (Some found)
    scan_finds i p t found h e passed numbered next =
        let whole = parted_at places i p h e in
        found_next m ts (views (take i places)) (view_of p) (views (drop (suc i) places)) after found t
        (subst IsTable whole table) (subst (λ (ps : List PlaceView). length ts ≡ length ps) whole as_many) (subst (λ (ps : List PlaceView). ArePlaced ts None ps) whole placed) passed numbered next

    -- if all places were passed, there is no next cell
    pub scan_ends : (i : ℕ) → length places ≤ i → AllByRecursion (NoneAfter m ts after) (views (take i places)) → IsNextCell (cells_in (Some m) ts) after None
    scan_ends i h passed = none_next m ts (views places) after table as_many (subst (λ (ps : List Place). AllByRecursion (NoneAfter m ts after) (views ps)) (take_all i places h) passed)
