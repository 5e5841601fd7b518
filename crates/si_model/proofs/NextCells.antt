-- The cell right after another one, or the first of all cells.
use Rattle.std.proofs.Common.{◌≡◌, ◌≢◌, ℕ, zero, suc, List, [], ◌∷◌, ◌++◌, Option, Some, None, ◌⊎◌, inl, inr, refl, sym, ap, subst, ◌∙◌, arith}
use Rattle.std.specs.declared.cmp.Ordering.{Ordering}
use Rattle.std.specs.declared.cmp.Ordering.TheVariants.{Less, Equal, Greater}
use Rattle.std.specs.Ordering.{nat_cmp, ordering_then}
use Rattle.std.specs.Cmp.{nat_cmp_is, tied_itself}
use Rattle.std.specs.Cmp.Lexicographic.{nat_list_cmp_total}
use Rattle.std.specs.FinMap.{nat_cmp-IsAntisymmetric, slice_cmp-IsAntisymmetric}
use Rattle.cell_key.specs.Keys.{byte_cmp}
use Rattle.cell_key.specs.Places.{place_cmp, IsAfter}
use Rattle.si_model.specs.Reads.{cell_of}
use Rattle.si_model.specs.Scans.{place_at, IsAfterCell, IsUpToRow}
use Rattle.si_model.specs.declared.replies.Cell.{Cell}

-- bytes followed by a 0 are right after them

next_bytes : (xs ys : List ℕ) → byte_cmp xs ys ≡ Less → (byte_cmp (xs ++ 0 ∷ []) ys ≢ Less) → ys ≡ xs ++ 0 ∷ []
next_bytes [] [] less passed = cc
next_bytes [] (zero ∷ []) less passed = refl
next_bytes [] (zero ∷ (y ∷ ys)) less passed = absurd (passed refl)
next_bytes [] (suc y ∷ ys) less passed = let below : nat_cmp 0 (suc y) ≡ Less = sym (nat_cmp_is 0 (suc y) Less (omega arith)) in absurd (passed (ap (λ r. ordering_then r (byte_cmp [] ys)) below))
next_bytes (x ∷ xs) [] less passed = cc
next_bytes (x ∷ xs) (y ∷ ys) less passed = by (λ l p. next_bytes xs ys l p) (nat_cmp x y) refl less passed
  where
    by : (byte_cmp xs ys ≡ Less → (byte_cmp (xs ++ 0 ∷ []) ys ≢ Less) → ys ≡ xs ++ 0 ∷ []) → (r : Ordering) → nat_cmp x y ≡ r → ordering_then r (byte_cmp xs ys) ≡ Less → (ordering_then r (byte_cmp (xs ++ 0 ∷ []) ys) ≢ Less) → y ∷ ys ≡ x ∷ (xs ++ 0 ∷ [])
    by next Less e less passed = absurd (passed refl)
    by next Equal e less passed = let same = nat_cmp-IsAntisymmetric x y e in let rest = next less passed in λ i. sym same i ∷ rest i
    by next Greater e less passed = cc

with_0_after : (xs : List ℕ) → byte_cmp xs (xs ++ 0 ∷ []) ≡ Less
with_0_after [] = refl
with_0_after (x ∷ xs) = let same : nat_cmp x x ≡ Equal = sym (nat_cmp_is x x Equal refl) in ap (λ r. ordering_then r (byte_cmp xs (xs ++ 0 ∷ []))) same ∙ with_0_after xs

abbrev pub next_cell : Option Cell → Cell
next_cell None = cell_of [] []
next_cell (Some before) = cell_of before.row (before.family ++ 0 ∷ [])

pub comes_next : (after : Option Cell) → IsAfterCell after (next_cell after)
comes_next None = tt
comes_next (Some b) = ap (λ r. ordering_then r (byte_cmp b.family (b.family ++ 0 ∷ []))) (tied_itself nat_list_cmp_total b.row) ∙ with_0_after b.family

first_place : (row family : List ℕ) → (place_cmp ([], []) (row, family) ≢ Less) → cell_of row family ≡ cell_of [] []
first_place [] [] passed = refl
first_place [] (y ∷ ys) passed = absurd (passed refl)
first_place (x ∷ xs) family passed = absurd (passed refl)

next_place : (b : Cell) (row family : List ℕ) (r : Ordering) → byte_cmp b.row row ≡ r → ordering_then r (byte_cmp b.family family) ≡ Less → (ordering_then r (byte_cmp (b.family ++ 0 ∷ []) family) ≢ Less)
    → cell_of row family ≡ cell_of b.row (b.family ++ 0 ∷ [])
next_place b row family Less e less passed = absurd (passed refl)
next_place b row family Equal e less passed =
    let rows = slice_cmp-IsAntisymmetric nat_cmp-IsAntisymmetric b.row row e in
    let families = next_bytes b.family family less passed in
    λ i. cell_of (sym rows i) (families i)
next_place b row family Greater e less passed = cc

-- no other cell comes after the given one and up to the next
pub only_next : (after : Option Cell) (x : Cell) → IsAfterCell after x → ¬ IsAfter (Some (place_at (next_cell after))) (place_at x) → x ≡ next_cell after
only_next None x later passed = first_place x.row x.family passed
only_next (Some b) x later passed = next_place b x.row x.family (byte_cmp b.row x.row) refl later passed

-- the row of the next cell is at or before the end, or no cell is left

cases_less : (r : Ordering) → (r ≡ Less) ⊎ (r ≢ Less)
cases_less Less = inl refl
cases_less Equal = inr (λ e. cc)
cases_less Greater = inr (λ e. cc)

pub cases_row : (end : Option (List ℕ)) (row : List ℕ) → IsUpToRow end row ⊎ ((last : List ℕ) × (end ≡ Some last) × (byte_cmp last row ≡ Less))
cases_row None row = inl tt
cases_row (Some last) row = elim (cases_less (byte_cmp last row)) [ inl e ↦ inr (last, refl, e) | inr ne ↦ inl ne ]

below_all : (b x : Cell) (last : List ℕ) → byte_cmp last b.row ≡ Less → (r : Ordering) → byte_cmp b.row x.row ≡ r → ordering_then r (byte_cmp b.family x.family) ≡ Less → byte_cmp last x.row ≡ Less
below_all b x last low Less e later = nat_list_cmp_total.trans last b.row x.row low e
below_all b x last low Equal e later = subst (λ (row : List ℕ). byte_cmp last row ≡ Less) (slice_cmp-IsAntisymmetric nat_cmp-IsAntisymmetric b.row x.row e) low
below_all b x last low Greater e later = cc

pub none_left : (after : Option Cell) (last : List ℕ) → byte_cmp last (next_cell after).row ≡ Less → (x : Cell) → IsAfterCell after x → byte_cmp last x.row ≡ Less
none_left None [] low x later = let never : ⊥ = cc in absurd never
none_left None (y ∷ ys) low x later = let never : ⊥ = cc in absurd never
none_left (Some b) last low x later = below_all b x last low (byte_cmp b.row x.row) refl later
