-- The first bytes of the numbers in a window.
use Rattle.std.proofs.Common.{Bool, true, false, ◌≡◌, ℕ, zero, suc, ◌+◌, ◌/◌, ◌%◌, ◌^◌, ◌⊎◌, ◌-◌, ◌<◌, slice_index, inl, inr, List, [], ◌∷◌, length, drop, take, refl, sym, ap, ◌∙◌, subst, arith}
use Rattle.std.specs.Prelude.{IsTrue, slice_index_or}
use Rattle.std.proofs.Math.Dec.{T}
use Rattle.std.proofs.Math.Facts.{yes_eqb}
use Rattle.std.proofs.lemmas.List.{drop-drop, length-drop}
use Rattle.std.proofs.lemmas.Bool.{cases_lt, or_left, or_right}
use Rattle.commit_log.specs.Numbered.{HasLater, IsNumbered, StandsFrom}
use Rattle.commit_log.specs.Records.{spelled_number}
use Rattle.memchr.specs.Find.{Nowhere, Passes, is_byte2}
use Rattle.commit_log.proofs.Numbering.{number_behind, too_short}

abbrev pub first_of : List ℕ → ℕ
first_of bytes = slice_index_or bytes 0 0

-- the first byte of a number
abbrev pub first_byte : ℕ → ℕ
first_byte n = first_of (spelled_number n)

first_is : (n : ℕ) → first_byte n ≡ n / 256 ^ 7 % 256
unfolding spelled_number
first_is n = refl

get_behind : (k : ℕ) (bytes : List ℕ) → slice_index_or bytes k 0 ≡ slice_index_or (drop k bytes) 0 0
get_behind zero bytes = refl
get_behind (suc k) [] = refl
get_behind (suc k) (x ∷ xs) = get_behind k xs

get_taken : (bytes : List ℕ) → slice_index_or (take 8 bytes) 0 0 ≡ slice_index_or bytes 0 0
get_taken [] = refl
get_taken (x ∷ xs) = refl

pub equal_is_true : (b : Bool) → T b → IsTrue b
equal_is_true true p = refl
equal_is_true false p = absurd p

-- a number of the window has the first byte of its least or of its greatest number
two_firsts : (n next : ℕ) → IsNumbered next n
    → (first_byte n ≡ first_byte next) ⊎ (first_byte n ≡ first_byte (next + 131071))
two_firsts n next low =
    elim (cases_lt (next / 256 ^ 7) (n / 256 ^ 7)) [
      | inl more ↦
          let same : n / 256 ^ 7 ≡ (next + 131071) / 256 ^ 7 = omega (arith, more, low.0, low.1) in
          inr (first_is n ∙ ap (λ (k : ℕ). k % 256) same ∙ sym (first_is (next + 131071)))
      | inr less ↦
          let same : n / 256 ^ 7 ≡ next / 256 ^ 7 = omega (arith, less, low.0, low.1) in
          inl (first_is n ∙ ap (λ (k : ℕ). k % 256) same ∙ sym (first_is next))
    ]

-- the first byte of the number of the frame at the front
pub first_there : (bytes : List ℕ) (next : ℕ) → (here : StandsFrom next bytes) → slice_index_or bytes 8 0 ≡ first_byte here.number
first_there bytes next here =
    get_behind 8 bytes ∙ sym (get_taken (drop 8 bytes))
    ∙ ap (λ (l : List ℕ). slice_index_or l 0 0) (number_behind bytes here.payload here.behind here.number here.fits here.spelled)

pub one_of_two : (bytes : List ℕ) (next : ℕ) → (here : StandsFrom next bytes)
    → (first_byte here.number ≡ first_byte next) ⊎ (first_byte here.number ≡ first_byte (next + 131071))
one_of_two bytes next here = two_firsts here.number next here.is_next

swapped : (m n : ℕ) (bytes : List ℕ) → drop m (drop n bytes) ≡ drop n (drop m bytes)
swapped m n bytes = drop-drop m n bytes ∙ ap (λ (k : ℕ). drop k bytes) {x = n + m} {y = m + n} (omega arith) ∙ sym (drop-drop n m bytes)

-- a frame behind some bytes stands in all bytes
pub later_back : (bytes : List ℕ) (next place : ℕ) → HasLater next (drop place bytes) → HasLater next bytes
later_back bytes next place (k, here) = (place + k, subst (StandsFrom next) (drop-drop k place bytes) here)

-- there is no frame in a few bytes
pub none_short : (bytes : List ℕ) (next : ℕ) → length bytes < 16 → ¬ HasLater next bytes
none_short bytes next few (k, here) = too_short (drop k bytes) next (omega (arith, few, length-drop k bytes)) here

-- The bytes behind the first eight, and the first bytes of the least and of the greatest number.
module _ (bytes numbers : List ℕ) (next least greatest : ℕ) (behind : numbers ≡ drop 8 bytes)
    (low : least ≡ first_byte next) (high : greatest ≡ first_byte (next + 131071)) where
  -- the byte of a frame's place is one of the two
  passes : (k : ℕ) → StandsFrom next (drop k bytes) → Passes (is_byte2 least greatest) numbers k
  passes k here =
      let at : slice_index numbers k ≡ first_byte here.number =
      ap (λ (l : List ℕ). slice_index l k) behind ∙ get_behind k (drop 8 bytes) ∙ ap first_of (swapped k 8 bytes)
      ∙ sym (get_behind 8 (drop k bytes)) ∙ first_there (drop k bytes) next here in
      elim (one_of_two (drop k bytes) next here) [
        | inl one ↦ or_left _ _ (equal_is_true _ (yes_eqb (at ∙ one ∙ sym low)))
        | inr other ↦ or_right _ _ (equal_is_true _ (yes_eqb (at ∙ other ∙ sym high)))
      ]

  -- no frame stands before the first such place
  pub later_from : (place : ℕ) → Nowhere (Passes (is_byte2 least greatest) numbers) 0 place
      → HasLater next bytes → HasLater next (drop place bytes)
  later_from place none (k, here) =
      elim (cases_lt k place) [
        | inl less ↦ absurd (none k (omega arith) less (passes k here))
        | inr more ↦ (k - place, subst (StandsFrom next) (ap (λ (n : ℕ). drop n bytes) {x = k} {y = place + (k - place)} (omega (arith, more)) ∙ sym (drop-drop (k - place) place bytes)) here)
      ]

  -- there is no frame without such a place
  pub none_later : Nowhere (Passes (is_byte2 least greatest) numbers) 0 (length numbers) → ¬ HasLater next bytes
  none_later none later =
      none_short (drop (length numbers) bytes) next (omega (arith, ap length behind, length-drop 8 bytes, length-drop (length numbers) bytes)) (later_from (length numbers) none later)

-- a frame that isn't at the front stands behind the first byte
pub later_on : (bytes : List ℕ) (next : ℕ) → (StandsFrom next bytes → ⊥) → HasLater next bytes → HasLater next (drop 1 bytes)
later_on bytes next none (zero, here) = absurd (none here)
later_on bytes next none (suc k, here) = (k, subst (StandsFrom next) (ap (λ (n : ℕ). drop n bytes) {x = suc k} {y = 1 + k} (omega arith) ∙ sym (drop-drop k 1 bytes)) here)
