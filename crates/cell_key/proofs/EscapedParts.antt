-- Escaped bytes and their number.
use Rattle.std.proofs.Common.{◌≡◌, ◌+◌, ◌*◌, ◌≤◌, ◌==◌, ◌||◌, cond, ℕ, zero, suc, Bool, true, false, List, [], ◌∷◌, ◌++◌, length, take, refl, ap, ◌∙◌, arith}
use Rattle.std.proofs.lemmas.Bool.Decides.{nat_tests}
use Rattle.std.specs.List.{AllByRecursion, list_any}
use Rattle.cell_key.specs.Texts.{escaped_byte, escaped, IsPlain}

plain_byte : (b : ℕ) → (b == 0) ≡ false → escaped_byte b ≡ b ∷ []
plain_byte b e = ap (λ (t : Bool). cond t (0 ∷ 255 ∷ []) (b ∷ [])) e

or_none : (a b : Bool) → (a || b) ≡ false → (a ≡ false) × (b ≡ false)
or_none true b e = cc
or_none false b e = (refl, e)

-- bytes without a 0 are written as they are
pub escaped-plain : (bytes : List ℕ) → list_any (λ b. b == 0) bytes ≡ false → escaped bytes ≡ bytes
escaped-plain [] e = refl
escaped-plain (b ∷ bytes) e =
    let none = or_none (b == 0) (list_any (λ b. b == 0) bytes) e in
    ap (λ (xs : List ℕ). xs ++ escaped bytes) (plain_byte b none.0) ∙ ap (λ (xs : List ℕ). b ∷ xs) (escaped-plain bytes none.1)

-- bytes without a 0 are unchanged
pub escaped-all_plain : (bytes : List ℕ) → AllByRecursion IsPlain bytes → escaped bytes ≡ bytes
escaped-all_plain [] all = refl
escaped-all_plain (zero ∷ bytes) all = absurd (all.0 refl)
escaped-all_plain (suc b ∷ bytes) all =
    ap (λ (t : List ℕ). t ++ escaped bytes) (plain_byte (suc b) (grind (arith, nat_tests))) ∙ ap (λ (t : List ℕ). suc b ∷ t) (escaped-all_plain bytes all.1)

-- each byte is written as one or two
pub escaped-least : (bytes : List ℕ) → length bytes ≤ length (escaped bytes)
escaped-least [] = omega arith
escaped-least (zero ∷ bytes) = let h = escaped-least bytes in omega (arith, h)
escaped-least (suc b ∷ bytes) = let h = escaped-least bytes in let e = ap length (ap (λ (t : List ℕ). t ++ escaped bytes) (plain_byte (suc b) (grind (arith, nat_tests)))) in omega (arith, h, e)

pub escaped-most : (bytes : List ℕ) → length (escaped bytes) ≤ 2 * length bytes
escaped-most [] = omega arith
escaped-most (zero ∷ bytes) = let h = escaped-most bytes in omega (arith, h)
escaped-most (suc b ∷ bytes) = let h = escaped-most bytes in let e = ap length (ap (λ (t : List ℕ). t ++ escaped bytes) (plain_byte (suc b) (grind (arith, nat_tests)))) in omega (arith, h, e)

-- n zeros, escaped
abbrev pub pairs : ℕ → List ℕ
pairs zero = []
pairs (suc n) = 0 ∷ 255 ∷ pairs n

pub by_ones : (bytes : List ℕ) → length (escaped bytes) ≡ length bytes → escaped bytes ≡ bytes
by_ones [] e = refl
by_ones (zero ∷ bytes) e = absurd (let h = escaped-least bytes in omega (arith, h, e))
by_ones (suc b ∷ bytes) e =
    let one = ap (λ (t : List ℕ). t ++ escaped bytes) (plain_byte (suc b) (grind (arith, nat_tests))) in
    let len = ap length one in
    one ∙ ap (λ (t : List ℕ). suc b ∷ t) (by_ones bytes (omega (arith, e, len)))

pub by_twos : (bytes : List ℕ) → length (escaped bytes) ≡ length bytes + length bytes → escaped bytes ≡ pairs (length bytes)
by_twos [] e = refl
by_twos (zero ∷ bytes) e = ap (λ (t : List ℕ). 0 ∷ 255 ∷ t) (by_twos bytes (omega (arith, e)))
by_twos (suc b ∷ bytes) e =
    let one = ap length (ap (λ (t : List ℕ). t ++ escaped bytes) (plain_byte (suc b) (grind (arith, nat_tests)))) in
    absurd (let h = escaped-most bytes in omega (arith, h, e, one))

pub take-pairs : (n m : ℕ) → n ≤ m → take (n + n) (pairs m) ≡ pairs n
take-pairs zero m le = refl
take-pairs (suc n) zero le = absurd (omega arith)
take-pairs (suc n) (suc m) le =
    let e : suc n + suc n ≡ suc (suc (n + n)) = omega arith in
    ap (λ (k : ℕ). take k (pairs (suc m))) e ∙ ap (λ (t : List ℕ). 0 ∷ 255 ∷ t) (take-pairs n m (omega arith))
