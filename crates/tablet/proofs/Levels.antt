-- The files that are no larger than all newer ones together.
use Rattle.std.proofs.Common.{◌≡◌, ◌≤◌, ◌<◌, ◌+◌, ◌^◌, inl, inr, ℕ, zero, suc, List, [], ◌∷◌, Some, length, take, drop, refl, sym, ap, ◌∙◌, subst, arith, slice_get, get_or}
use Rattle.std.specs.List.{AllByRecursion}
use Rattle.std.specs.Prelude.{sum}
use Rattle.std.proofs.lemmas.Bool.{cases_lt}
use Rattle.std.proofs.lemmas.Option.{slice_get-get_or, slice_get_within}
use Rattle.std.proofs.Math.Pow.{pow_mono}
use Rattle.std.proofs.lemmas.List.Sums.{sum_by-cons, sum_by-take-drop, sum_by_more}
use Rattle.std.proofs.lemmas.List.{drop-take}
use native.Mathlib.Numerals.{unary_clauses}
use Rattle.tablet.specs.MergePolicies.{AreInLevels, EndsWithSmall, IsSmall, MakesLevels}

some_is : (x y : ℕ) → Some x ≡ Some y → x ≡ y
some_is x y is = let same = is in cc

pub sum_next : (sizes : List ℕ) (index size : ℕ) → slice_get sizes index ≡ Some size
    → sum (take (index + 1) sizes) ≡ sum (take index sizes) + size
sum_next sizes index size there =
    let within = slice_get_within sizes index size there in
    let is = some_is (get_or sizes index 0) size (sym (slice_get-get_or sizes index 0 within) ∙ there) in
    let more = sum_by_more (λ (n : ℕ). n) sizes index 0 within in
    omega (arith, more, is)

-- ---- the loop over the files

-- so many of the files before this index
pub data IsUpTo (sizes : List ℕ) (index count : ℕ) : Type 0 where
  none : count ≡ 0 → ((at : ℕ) → at < index → ¬ IsSmall sizes at) → IsUpTo sizes index count
  some : (last : ℕ) → count ≡ last + 1 → IsSmall sizes last
      → ((at : ℕ) → last < at → at < index → ¬ IsSmall sizes at) → IsUpTo sizes index count

pub at_start : (sizes : List ℕ) → IsUpTo sizes 0 0
at_start sizes = none refl (λ at less. absurd (omega (arith, less)))

module _ (sizes : List ℕ) (index : ℕ) where
  pub next_small : IsSmall sizes index → IsUpTo sizes (index + 1) (index + 1)
  next_small small = some index refl small (λ at past less. absurd (omega (arith, past, less)))

  later : (P : ℕ → Type 0) → ((at : ℕ) → at < index → P at) → P index → (at : ℕ) → at < index + 1 → P at
  later P before here at less = elim (cases_lt at index) [
    | inl earlier ↦ before at earlier
    | inr past ↦ (let is : index ≡ at = omega (arith, less, past) in subst P is here)
  ]

  pub next_large : (count : ℕ) → ¬ IsSmall sizes index → IsUpTo sizes index count → IsUpTo sizes (index + 1) count
  next_large count large (none is before) = none is (later (λ at. ¬ IsSmall sizes at) before large)
  next_large count large (some last is small before) =
      some last is small (λ at past less. later (λ at. last < at → ¬ IsSmall sizes at) (λ at less past. before at past less) (λ past. large) at less past)

pub at_end : (sizes : List ℕ) (index count : ℕ) → length sizes ≤ index → IsUpTo sizes index count → MakesLevels sizes count
at_end sizes index count past (none is before) =
    inl (is, λ at small. before at (let within = slice_get_within sizes at small.size small.there in omega (arith, within, past)) small)
at_end sizes index count past (some last is small before) = inr record {
  last = last;
  is = is;
  small = small;
  oldest = λ at after small. before at after (let within = slice_get_within sizes at small.size small.there in omega (arith, within, past)) small;
}

-- ---- files in levels

-- each of these files is larger than all before it together, of which some are counted in already
abbrev pub AreLarger : ℕ → List ℕ → Type 0
AreLarger newer sizes = (index size : ℕ) → slice_get sizes index ≡ Some size → newer + sum (take index sizes) < size

sum_first : (s : ℕ) (sizes : List ℕ) → sum (s ∷ sizes) ≡ s + sum sizes
sum_first s sizes = sum_by-cons (λ (n : ℕ). n) s sizes

two_times : (n : ℕ) → 2 ^ (n + 1) ≡ 2 ^ n + 2 ^ n
two_times n = simp unary_clauses (omega arith)

below_power : (n most : ℕ) → 2 ^ n < 2 ^ most → n < most
below_power n most less = elim (cases_lt n most) [
  | inl below ↦ below
  | inr past ↦ (let more = pow_mono past in absurd (omega (arith, less, more)))
]

behind : (s : ℕ) (sizes : List ℕ) → AreInLevels (s ∷ sizes) → AreLarger s sizes
behind s sizes levels index size there = elim (cases_lt (s + sum (take index sizes)) size) [
  | inl larger ↦ larger
  | inr small ↦ absurd (levels (suc index) record {
    size = size;
    there = there;
    older = omega arith;
    small = (let first = sum_first s (take index sizes) in omega (arith, small, first));
  })
]

upper : (n : ℕ) (sizes : List ℕ) → AllByRecursion (λ size. (1 ≤ size) × (size < 2 ^ n)) sizes → AllByRecursion (λ size. size < 2 ^ n) sizes
upper n [] within = tt
upper n (s ∷ sizes) within = (within.0.1, upper n sizes within.1)

larger_next : (newer s : ℕ) (sizes : List ℕ) → AreLarger newer (s ∷ sizes) → AreLarger (newer + s) sizes
larger_next newer s sizes larger index size there =
    let next = larger (suc index) size there in
    let first = sum_first s (take index sizes) in
    omega (arith, next, first)

doubled : (n newer s : ℕ) → 2 ^ n ≤ newer + 1 → newer < s → 2 ^ (n + 1) ≤ newer + s + 1
doubled n newer s low less = let twice = two_times n in omega (arith, low, less, twice)

few : (n most newer : ℕ) (sizes : List ℕ) → 2 ^ n ≤ newer + 1 → AreLarger newer sizes
    → AllByRecursion (λ size. size < 2 ^ most) sizes → n ≤ most → n + length sizes ≤ most
few n most newer [] low larger within so_far = omega (arith, so_far)
few n most newer (s ∷ sizes) low larger within so_far =
    let less : newer + 0 < s = larger zero s refl in
    let next = doubled n newer s low (omega (arith, less)) in
    let below : n < most = below_power n most (omega (arith, low, less, within.0)) in
    let rest = few (n + 1) most (newer + s) sizes next (larger_next newer s sizes larger) within.1 (omega (arith, below)) in
    omega (arith, rest)

pub few_levels : (n : ℕ) (sizes : List ℕ) → AreInLevels sizes
    → AllByRecursion (λ size. (1 ≤ size) × (size < 2 ^ n)) sizes → length sizes ≤ n
few_levels n [] levels within = omega arith
few_levels n (s ∷ sizes) levels within =
    let below : 0 < n = below_power 0 n (omega (arith, within.0)) in
    let rest = few 1 n s sizes (omega (arith, within.0)) (behind s sizes levels) (upper n sizes within.1) (omega (arith, below)) in
    omega (arith, rest)

-- ---- a merge of the newest files

taken_first : (sizes : List ℕ) (count index : ℕ) → take count (take (count + index) sizes) ≡ take count sizes
taken_first sizes zero index = refl
taken_first [] (suc count) index = empty (suc count + index)
  where
    empty : (k : ℕ) → take (suc count) (take {A = ℕ} k []) ≡ []
    empty zero = refl
    empty (suc k) = refl
taken_first (s ∷ sizes) (suc count) index =
    let next : suc count + index ≡ suc (count + index) = omega arith in
    subst (λ (k : ℕ). take (suc count) (take k (s ∷ sizes)) ≡ take (suc count) (s ∷ sizes)) (sym next)
    (ap (λ (rest : List ℕ). s ∷ rest) (taken_first sizes count index))

sum_after : (sizes : List ℕ) (count index : ℕ) → sum (take count sizes) + sum (take index (drop count sizes)) ≡ sum (take (count + index) sizes)
sum_after sizes count index =
    let parts = sum_by-take-drop (λ (n : ℕ). n) (take (count + index) sizes) count in
    let first = ap sum (taken_first sizes count index) in
    let behind = ap sum (drop-take count index sizes) in
    omega (arith, parts, first, behind)

there_after : (sizes : List ℕ) (count index size : ℕ) → slice_get (drop count sizes) index ≡ Some size → slice_get sizes (count + index) ≡ Some size
there_after sizes zero index size there =
    let same : 0 + index ≡ index = omega arith in subst (λ (at : ℕ). slice_get sizes at ≡ Some size) (sym same) there
there_after [] (suc count) index size there = cc
there_after (s ∷ sizes) (suc count) index size there =
    let next : suc count + index ≡ suc (count + index) = omega arith in
    subst (λ (at : ℕ). slice_get (s ∷ sizes) at ≡ Some size) (sym next) (there_after sizes count index size there)

pub stay_in_levels : (sizes : List ℕ) (count whole : ℕ) → EndsWithSmall sizes count
    → whole ≤ sum (take count sizes) → AreInLevels (whole ∷ drop count sizes)
stay_in_levels sizes count whole ends less zero small = let older = small.older in omega (arith, older)
stay_in_levels sizes count whole ends less (suc index) small =
    let first = sum_first whole (take index (drop count sizes)) in
    let both = sum_after sizes count index in
    let at = small.small in
    let is = ends.is in
    ends.oldest (count + index) (omega (arith, is)) record {
      size = small.size;
      there = there_after sizes count index small.size small.there;
      older = omega (arith, is);
      small = omega (arith, at, first, both, less);
    }

pub made_within : (sizes : List ℕ) (count : ℕ) → MakesLevels sizes count → count ≤ length sizes
made_within sizes count (inl levels) = let is = levels.0 in omega (arith, is)
made_within sizes count (inr ends) =
    let within = slice_get_within sizes ends.last ends.small.size ends.small.there in
    let is = ends.is in
    omega (arith, within, is)
