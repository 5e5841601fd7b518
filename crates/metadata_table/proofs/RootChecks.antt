-- Checks of lists of places, and the facts that they decide.
use Rattle.std.proofs.Common.{◌≡◌, ◌≢◌, ◌<◌, ◌≤◌, ◌^◌, ℕ, List, [], ◌∷◌, length, map, sym, subst, arith}
use Rattle.std.specs.Prelude.{◌↔◌}
use Rattle.std.specs.List.{AllByRecursion, AllPairs}
use Rattle.std.proofs.lemmas.List.{length-map}
use Rattle.metadata_table.specs.declared.places.Place.{Place}
use Rattle.metadata_table.specs.Places.{PlaceView, view_of, views}
use Rattle.metadata_table.specs.Roots.{AreFiles, IsNaming}
use Rattle.metadata_table.specs.Table.{EndsRise, IsNumbered, IsTable, most_tablets}
use Rattle.metadata_table.proofs.Members.{pairs_first, pairs_rest, pairs_more}

pub all_mapped : {X Y : Type 0} (f : X → Y) (P : Y → Type 0) (xs : List X) → AllByRecursion (λ x. P (f x)) xs → AllByRecursion P (map f xs)
all_mapped f P [] h = tt
all_mapped f P (x ∷ xs) h = (h.0, all_mapped f P xs h.1)

pub all_of_mapped : {X Y : Type 0} (f : X → Y) (P : Y → Type 0) (xs : List X) → AllByRecursion P (map f xs) → AllByRecursion (λ x. P (f x)) xs
all_of_mapped f P [] h = tt
all_of_mapped f P (x ∷ xs) h = (h.0, all_of_mapped f P xs h.1)

pub small_files : (next : ℕ) (places : List Place) → AllByRecursion (λ p. AreFiles next p.files) (views places) → AllByRecursion (λ place. length place.files.items < 2 ^ 32) places
small_files next [] h = tt
small_files next (p ∷ ps) h = (omega (arith, h.0.few), small_files next ps h.1)

-- all pairs of a list differ if the first item differs from the others, and all pairs of these differ
pub differ_step : {X : Type 0} (R : X → X → Type 0) (P : Type 0) (all : List X) (x : X) (xs : List X) → all ≡ x ∷ xs → AllByRecursion (R x) xs → P ↔ AllPairs R all → P ↔ AllPairs R xs
differ_step R P all x xs e first h = (
  λ p. pairs_rest R x xs (subst (AllPairs R) e (h.0 p)),
  λ rest. h.1 (subst (AllPairs R) (sym e) (pairs_more R x xs first rest)),
)

pub differ_stop : {X : Type 0} (R : X → X → Type 0) (P : Type 0) (all : List X) (x : X) (xs : List X) → all ≡ x ∷ xs → (AllByRecursion (R x) xs → ⊥) → P ↔ AllPairs R all → P → ⊥
differ_stop R P all x xs e none h p = none (pairs_first R x xs (subst (AllPairs R) e (h.0 p)))

pub table_when : (places : List Place) → length places ≤ most_tablets → EndsRise (views places) → AllPairs (λ (p q : PlaceView). p.tablet ≢ q.tablet) (views places)
    → AllByRecursion (λ place. IsNumbered (length places) (view_of place)) places ↔ IsTable (views places)
table_when places few rising distinct =
    let count : length (views places) ≡ length places = length-map places view_of in (
      λ each. record {
        rising = rising;
        few = subst (λ (n : ℕ). n ≤ most_tablets) (sym count) few;
        distinct = distinct;
        numbered = subst (λ (n : ℕ). AllByRecursion (IsNumbered n) (views places)) (sym count) (all_mapped view_of (IsNumbered (length places)) places each);
      },
      λ t. all_of_mapped view_of (IsNumbered (length places)) places (subst (λ (n : ℕ). AllByRecursion (IsNumbered n) (views places)) count t.numbered),
    )

pub naming_when : (next : ℕ) (places : List Place) → 1 ≤ next → next ≤ 2 ^ 63
    → AllByRecursion (λ place. AreFiles next place.files.items) places ↔ IsNaming next (views places)
naming_when next places from to = (
  λ each. record { from = from; to = to; files = all_mapped view_of (λ (p : PlaceView). AreFiles next p.files) places each },
  λ n. all_of_mapped view_of (λ (p : PlaceView). AreFiles next p.files) places n.files,
)
