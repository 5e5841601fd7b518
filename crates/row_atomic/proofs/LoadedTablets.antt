-- Tablets loaded in the order of their numbers, each with the rows and files of its place.
use Rattle.std.proofs.Common.{◌≡◌, ◌≢◌, ◌≤◌, ◌<◌, ◌+◌, ◌-◌, ◌⊎◌, ℕ, zero, suc, List, [], ◌∷◌, ◌++◌, length, Option, Some, None, Result, Ok, Err, inl, inr, slice_get, slice_index_or, IfOk, IfSome, refl, sym, ap, ◌∙◌, subst, arith}
use Rattle.std.specs.Bool.{⊤}
use Rattle.std.specs.List.{AllByRecursion}
use Rattle.cell_key.specs.declared.refusals.Refusal.{Refusal}
use Rattle.file_store.specs.Store.{Contents}
use Rattle.metadata_table.specs.Places.{PlaceView, view_of, views}
use Rattle.metadata_table.specs.Search.{IsTabletAt}
use Rattle.metadata_table.specs.Table.{HasTablet, IsNumbered, IsTable}
use Rattle.metadata_table.specs.declared.places.Place.{Place}
use Rattle.sorted_file.specs.File.{HasFile}
use Rattle.tablet.specs.Views.{Holds as HoldsAt, names_of, range_of}
use Rattle.tablet.specs.declared.ranges.RowRange.{RowRange}
use Rattle.tablet.specs.declared.tablet.Tablet.{Tablet}
use Rattle.row_atomic.specs.Changes.{IsEmptied}
use Rattle.row_atomic.specs.Clusters.{ArePlaced, tablet_numbered}
use Rattle.row_atomic.specs.Open.{AreLoaded, FitsAt, FitsPlace, LacksFile}
use Rattle.row_atomic.proofs.Numbers.{AreOthers, Differ, HasNumber, differ_of}

-- ---- one place

-- a property of each place holds for the place at an index
pub of_place : (P : PlaceView → Type 0) (places : List Place) (i : ℕ) (d : Place) → i < length places → AllByRecursion P (views places) → P (view_of (slice_index_or places i d))
of_place P [] i d h all = absurd (omega arith)
of_place P (q ∷ places) zero d h all = all.0
of_place P (q ∷ places) (suc i) d h all = of_place P places i d (omega arith) all.1

pub each_told : (P Q : Contents → Type 0) → ((m : Contents) → P m → Q m) → (told : Option Contents) → IfSome told P → IfSome told Q
each_told P Q h None all = tt
each_told P Q h (Some m) all = h m all

pub lacks_one : (places : List Place) (i : ℕ) (d : Place) → i < length places → (told : Option Contents)
    → IfSome told (λ m. ¬ AllByRecursion (HasFile m) (view_of (slice_index_or places i d)).files) → IfSome told (λ m. LacksFile m (views places))
lacks_one places i d h told = each_told _ _ (λ m not all. not (of_place (λ p. AllByRecursion (HasFile m) p.files) places i d h all)) told

fits_later : (t : Tablet) (places : List Place) (before : Option (List ℕ)) (j : ℕ) (c d e : Place) → suc j < length places → range_of t ≡ record { after = (slice_index_or places j c).end; end = (slice_index_or places (suc j) d).end }
    → names_of t ≡ (slice_index_or places (suc j) e).files.items → FitsAt before (views places) (suc j) t
fits_later t [] before j c d e h range names = absurd (omega arith)
fits_later t (q ∷ []) before j c d e h range names = absurd (omega arith)
fits_later t (q ∷ r ∷ places) before zero c d e h range names = record { range = range; names = names }
fits_later t (q ∷ r ∷ places) before (suc j) c d e h range names = fits_later t (r ∷ places) q.end j c d e (omega arith) range names

-- the rows begin at the start, or after the end of the place before
abbrev pub BeginsAfter : List Place → ℕ → Option (List ℕ) → Type 0
BeginsAfter places i after = ((i ≡ 0) × (after ≡ None)) ⊎ ((1 ≤ i) × ((c : Place) × (after ≡ (slice_index_or places (i - 1) c).end)))

pub fits_there : (places : List Place) (i : ℕ) (after end : Option (List ℕ)) (d e : Place) → i < length places → BeginsAfter places i after → end ≡ (slice_index_or places i d).end
    → (t : Tablet) → range_of t ≡ record { after = after; end = end } → names_of t ≡ (slice_index_or places i e).files.items → FitsAt None (views places) i t
fits_there [] i after end d e h begins ends t range names = absurd (omega arith)
fits_there (q ∷ places) zero after end d e h (inl begins) ends t range names = record { range = range ∙ (λ k. record { after = begins.1 k; end = ends k }); names = names }
fits_there (q ∷ places) zero after end d e h (inr begins) ends t range names = let from = begins.0 in absurd (omega arith)
fits_there (q ∷ places) (suc j) after end d e h (inl begins) ends t range names = let none = begins.0 in absurd (omega arith)
fits_there (q ∷ places) (suc j) after end d e h (inr begins) ends t range names =
    let same : suc j - 1 ≡ j = omega arith in
    let begun : after ≡ (slice_index_or (q ∷ places) j begins.1.0).end = begins.1.1 ∙ ap (λ (n : ℕ). (slice_index_or (q ∷ places) n begins.1.0).end) same in
    fits_later t (q ∷ places) None j begins.1.0 d e h (range ∙ (λ k. record { after = begun k; end = ends k })) names

pub fits_of : (r : Result Tablet Refusal) (range : RowRange) (names : List ℕ) (P : Tablet → Type 0) → ((t : Tablet) → range_of t ≡ range → names_of t ≡ names → P t) → IfOk r (λ t. range_of t ≡ range) → IfOk r (λ t. names_of t ≡ names) → IfOk r P
fits_of (Ok t) range names P h a b = h t a b
fits_of (Err e) range names P h a b = tt

-- ---- by numbers

later_has : (n : ℕ) (p : PlaceView) (ps : List PlaceView) → HasTablet n ps → HasTablet n (p ∷ ps)
later_has n p ps (q, (k, less, at), same) = (q, (suc k, omega arith, at), same)

pub has_tablet : (n : ℕ) (ps : List PlaceView) → HasNumber n ps → HasTablet n ps
has_tablet n [] h = absurd h
has_tablet n (p ∷ ps) (inl same) = (p, (0, omega arith, refl), same)
has_tablet n (p ∷ ps) (inr later) = later_has n p ps (has_tablet n ps later)

-- the tablet fits each place with this number
abbrev pub FitsNumber : ℕ → Option (List ℕ) → List PlaceView → Tablet → Type 0
FitsNumber n before [] t = ⊤
FitsNumber n before (p ∷ ps) t = (p.tablet ≡ n → FitsPlace before p t) × FitsNumber n p.end ps t

others_fit : (n : ℕ) (before : Option (List ℕ)) (ps : List PlaceView) (t : Tablet) → AreOthers n ps → FitsNumber n before ps t
others_fit n before [] t h = tt
others_fit n before (p ∷ ps) t h = (λ same. absurd (h.0 same), others_fit n p.end ps t h.1)

not_at : (n k i : ℕ) (ps : List PlaceView) → AreOthers k ps → IsTabletAt n ps i → n ≢ k
not_at n k i [] others at = absurd at
not_at n k zero (p ∷ ps) others at = λ same. others.0 (at ∙ same)
not_at n k (suc i) (p ∷ ps) others at = not_at n k i ps others.1 at

fits_number : (n : ℕ) (before : Option (List ℕ)) (ps : List PlaceView) (i : ℕ) (t : Tablet) → Differ ps → IsTabletAt n ps i → FitsAt before ps i t → FitsNumber n before ps t
fits_number n before [] i t d at fits = absurd at
fits_number n before (p ∷ ps) zero t d at fits = (λ same. fits, others_fit n p.end ps t (subst (λ (k : ℕ). AreOthers k ps) at d.0))
fits_number n before (p ∷ ps) (suc i) t d at fits = (λ same. absurd (not_at n p.tablet i ps d.0 at (sym same)), fits_number n p.end ps i t d.1 at fits)

-- the tablets fit the places with the numbers from `n` on
abbrev pub FitFrom : ℕ → List PlaceView → List Tablet → Type 0
FitFrom n places [] = ⊤
FitFrom n places (t ∷ ts) = FitsNumber n None places t × FitFrom (suc n) places ts

fit_with : (n k : ℕ) (places : List PlaceView) (ts : List Tablet) (t : Tablet) → k ≡ n + length ts → FitFrom n places ts → FitsNumber k None places t → FitFrom n places (ts ++ t ∷ [])
fit_with n k places [] t e fit this = let same : k ≡ n = omega arith in (subst (λ (j : ℕ). FitsNumber j None places t) same this, tt)
fit_with n k places (u ∷ ts) t e fit this = (fit.0, fit_with (suc n) k places ts t (omega arith) fit.1 this)

fit_at : (n k j : ℕ) (places : List PlaceView) (ts : List Tablet) (t : Tablet) → k ≡ n + j → FitFrom n places ts → slice_get ts j ≡ Some t → FitsNumber k None places t
fit_at n k j places [] t e fit there = cc
fit_at n k zero places (u ∷ ts) t e fit there =
    let same : n ≡ k = omega arith in
    let one : u ≡ t = cc in
    subst (λ (v : Tablet). FitsNumber k None places v) one (subst (λ (i : ℕ). FitsNumber i None places u) same fit.0)
fit_at n k (suc j) places (u ∷ ts) t e fit there = fit_at (suc n) k j places ts t (omega arith) fit.1 there

pub each_with : (P : Tablet → Type 0) (ts : List Tablet) (t : Tablet) → AllByRecursion P ts → P t → AllByRecursion P (ts ++ t ∷ [])
each_with P [] t all this = (this, tt)
each_with P (u ∷ ts) t all this = (all.0, each_with P ts t all.1 this)

is_there : (ts : List Tablet) (i : ℕ) → i < length ts → (t : Tablet) × (slice_get ts i ≡ Some t)
is_there [] i h = absurd (omega arith)
is_there (t ∷ ts) zero h = (t, refl)
is_there (t ∷ ts) (suc i) h = is_there ts i (omega arith)

numbered_there : (ts : List Tablet) (n : ℕ) → 1 ≤ n → n ≤ length ts → (t : Tablet) × (tablet_numbered n ts ≡ Some t)
numbered_there ts zero from to = absurd (omega arith)
numbered_there ts (suc i) from to = is_there ts i (omega arith)

-- ---- all of them

-- the tablets of the first numbers are loaded
pub record IsLoading (told : Option Contents) (places : List PlaceView) (ts : List Tablet) (k : ℕ) : Type 0 where
  pub many : length ts ≡ k
  pub fit : FitFrom 1 places ts
  pub emptied : AllByRecursion IsEmptied ts
  pub holds : IfSome told (λ m. AllByRecursion (HoldsAt m) ts)

pub none_loaded : (told : Option Contents) (places : List PlaceView) → IsLoading told places [] 0
none_loaded None places = record { many = refl; fit = tt; emptied = tt; holds = tt }
none_loaded (Some m) places = record { many = refl; fit = tt; emptied = tt; holds = tt }

both_told : (told : Option Contents) (ts : List Tablet) (t : Tablet) → IfSome told (λ m. AllByRecursion (HoldsAt m) ts) → IfSome told (λ m. HoldsAt m t) → IfSome told (λ m. AllByRecursion (HoldsAt m) (ts ++ t ∷ []))
both_told None ts t all this = tt
both_told (Some m) ts t all this = each_with (HoldsAt m) ts t all this

pub one_loaded : (told : Option Contents) (places : List PlaceView) (ts : List Tablet) (k i : ℕ) (t : Tablet) → IsTable places → IsLoading told places ts k → IsTabletAt (k + 1) places i → FitsAt None places i t → IsEmptied t → IfSome told (λ m. HoldsAt m t)
    → IsLoading told places (ts ++ t ∷ []) (k + 1)
one_loaded told places ts k i t table loading at fits emptied holds = record {
  many = longer ts t ∙ ap (λ (n : ℕ). n + 1) loading.many;
  fit = let many = loading.many in fit_with 1 (k + 1) places ts t (omega arith) loading.fit (fits_number (k + 1) None places i t (differ_of places table.distinct) at fits);
  emptied = each_with IsEmptied ts t loading.emptied emptied;
  holds = both_told told ts t loading.holds holds;
}
  where
    longer : (us : List Tablet) (u : Tablet) → length (us ++ u ∷ []) ≡ length us + 1
    longer [] u = refl
    longer (v ∷ us) u = let rest = longer us u in omega arith

pub all_loaded : (told : Option Contents) (places : List PlaceView) (ts : List Tablet) (k : ℕ) → IsTable places → IsLoading told places ts k → k ≡ length places → AreLoaded places ts
all_loaded told places ts k table loading all = record {
  placed = go None places (λ n t there. fit n t there) table.numbered;
  as_many = loading.many ∙ all;
  emptied = loading.emptied;
}
  where
    fit : (n : ℕ) (t : Tablet) → tablet_numbered n ts ≡ Some t → FitsNumber n None places t
    fit zero t there = cc
    fit (suc j) t there = fit_at 1 (suc j) j places ts t (omega arith) loading.fit there

    go : (before : Option (List ℕ)) (ps : List PlaceView) → ((n : ℕ) (t : Tablet) → tablet_numbered n ts ≡ Some t → FitsNumber n before ps t) → AllByRecursion (IsNumbered (length places)) ps → ArePlaced ts before ps
    go before [] fits each = tt
    go before (p ∷ ps) fits each =
        let to : p.tablet ≤ length ts = let most = each.0.to in let many = loading.many in omega arith in
        let there = numbered_there ts p.tablet each.0.from to in
        let this = (fits p.tablet there.0 there.1).0 refl in
        (record { tablet = there.0; numbered = there.1; range = this.range; names = this.names }, go p.end ps (λ n t e. (fits n t e).1) each.1)
