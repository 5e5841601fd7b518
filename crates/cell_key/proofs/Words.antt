-- The byte order by the numbers that the first bytes spell.
use Rattle.std.proofs.Common.{◌≡◌, ◌<◌, ◌≤◌, ◌+◌, ◌*◌, ◌^◌, ℕ, zero, suc, List, [], ◌∷◌, ◌++◌, length, take, drop, get_or, slice_index, refl, sym, ap, ◌∙◌, arith}
use Rattle.std.specs.declared.cmp.Ordering.{Ordering}
use Rattle.std.specs.declared.cmp.Ordering.TheVariants.{Less, Equal, Greater}
use Rattle.std.specs.Ordering.{MatchOrdering, nat_cmp, ordering_then}
use Rattle.std.specs.Cmp.{ranks}
use Rattle.std.proofs.Math.Nat.{mul-le-mul_right, pow-succ'}
use Rattle.byteorder.specs.Endian.{big_from, big_number}
use Rattle.cell_key.specs.Keys.{byte_cmp}
use Rattle.cell_key.proofs.KeyLaws.{both_Equal}
use Rattle.cell_key.proofs.Order.{then_assoc, cmp_below, cmp_above, cmp_same}
use Rattle.std.specs.FinMap.{nat_cmp-IsAntisymmetric}

-- the high digits decide, and then the low ones
digits_order : (w a b r s : ℕ) → r < w → s < w → nat_cmp (a * w + r) (b * w + s) ≡ ordering_then (nat_cmp a b) (nat_cmp r s)
digits_order w a b r s small_r small_s = high (nat_cmp a b) (ranks a b)
  where
    low : (o : Ordering) → MatchOrdering o (r < s) (r ≡ s) (s < r) → nat_cmp (a * w + r) (a * w + s) ≡ o
    low Less h = cmp_below (a * w + r) (a * w + s) (omega (arith, h))
    low Equal h = cmp_same (a * w + r) (a * w + s) (omega (arith, h))
    low Greater h = cmp_above (a * w + r) (a * w + s) (omega (arith, h))

    high : (o : Ordering) → MatchOrdering o (a < b) (a ≡ b) (b < a) → nat_cmp (a * w + r) (b * w + s) ≡ ordering_then o (nat_cmp r s)
    high Less h = let more : (a + 1) * w ≤ b * w = mul-le-mul_right w (omega (arith, h)) in cmp_below (a * w + r) (b * w + s) (omega arith)
    high Equal h = ap (λ (n : ℕ). nat_cmp (a * w + r) (n * w + s)) (sym h) ∙ low (nat_cmp r s) (ranks r s)
    high Greater h = let more : (b + 1) * w ≤ a * w = mul-le-mul_right w (omega (arith, h)) in cmp_above (a * w + r) (b * w + s) (omega arith)

abbrev pub AreBytes : List ℕ → Type 0
AreBytes xs = (i : ℕ) → get_or xs i 0 < 256

-- the bytes behind the first one
later_from : (i n x : ℕ) (xs : List ℕ) → big_from (suc i) n (x ∷ xs) ≡ big_from i n xs
later_from i zero x xs = refl
later_from i (suc n) x xs = ap (λ (k : ℕ). slice_index xs i * 256 ^ n + k) (later_from (suc i) n x xs)

small_from : (n : ℕ) (xs : List ℕ) → n ≤ length xs → AreBytes xs → big_from 0 n xs < 256 ^ n
small_from zero xs le bytes = omega arith
small_from (suc n) [] le bytes = absurd (omega arith)
small_from (suc n) (x ∷ xs) le bytes =
    let one : x < 256 = bytes 0 in
    let rest = small_from n xs (omega arith) (λ i. bytes (suc i)) in
    let same = later_from 0 n x xs in
    let most : (x + 1) * 256 ^ n ≤ 256 * 256 ^ n = mul-le-mul_right (256 ^ n) (omega arith) in
    let power : 256 ^ suc n ≡ 256 * 256 ^ n = pow-succ' 256 n in
    omega (arith, rest, same, most, power)

-- the first n bytes of two lists compare as the numbers that they spell, and then the rest decides
pub fronts : (n : ℕ) (xs ys : List ℕ) → n ≤ length xs → n ≤ length ys → AreBytes xs → AreBytes ys
    → byte_cmp xs ys ≡ ordering_then (nat_cmp (big_number n xs) (big_number n ys)) (byte_cmp (drop n xs) (drop n ys))
fronts zero xs ys p q a b = refl
fronts (suc n) [] ys p q a b = absurd (omega arith)
fronts (suc n) (x ∷ xs) [] p q a b = absurd (omega arith)
fronts (suc n) (x ∷ xs) (y ∷ ys) p q a b =
    let left = small_from n xs (omega arith) (λ i. a (suc i)) in
    let right = small_from n ys (omega arith) (λ i. b (suc i)) in
    ap (ordering_then (nat_cmp x y)) (fronts n xs ys (omega arith) (omega arith) (λ i. a (suc i)) (λ i. b (suc i)))
    ∙ sym (then_assoc (nat_cmp x y) (nat_cmp (big_number n xs) (big_number n ys)) (byte_cmp (drop n xs) (drop n ys)))
    ∙ ap (λ (o : Ordering). ordering_then o (byte_cmp (drop n xs) (drop n ys)))
    (sym (ap (λ (k : ℕ). nat_cmp (x * 256 ^ n + k) (big_number (suc n) (y ∷ ys))) (later_from 0 n x xs)
    ∙ ap (λ (k : ℕ). nat_cmp (x * 256 ^ n + big_from 0 n xs) (y * 256 ^ n + k)) (later_from 0 n y ys)
    ∙ digits_order (256 ^ n) x y (big_from 0 n xs) (big_from 0 n ys) left right))

-- bytes that spell the same number are equal
pub same_fronts : (n : ℕ) (xs ys : List ℕ) → n ≤ length xs → n ≤ length ys → AreBytes xs → AreBytes ys → big_number n xs ≡ big_number n ys → take n xs ≡ take n ys
same_fronts zero xs ys p q a b e = refl
same_fronts (suc n) [] ys p q a b e = absurd (omega arith)
same_fronts (suc n) (x ∷ xs) [] p q a b e = absurd (omega arith)
same_fronts (suc n) (x ∷ xs) (y ∷ ys) p q a b e =
    let r = big_from 0 n xs in
    let s = big_from 0 n ys in
    let numbers : x * 256 ^ n + r ≡ y * 256 ^ n + s =
    sym (ap (λ (k : ℕ). x * 256 ^ n + k) (later_from 0 n x xs)) ∙ e ∙ ap (λ (k : ℕ). y * 256 ^ n + k) (later_from 0 n y ys) in
    let small = small_from n xs (omega arith) (λ i. a (suc i)) in
    let smaller = small_from n ys (omega arith) (λ i. b (suc i)) in
    let both = both_Equal (nat_cmp x y) (nat_cmp r s) (sym (digits_order (256 ^ n) x y r s small smaller) ∙ cmp_same (x * 256 ^ n + r) (y * 256 ^ n + s) numbers) in
    let head = nat_cmp-IsAntisymmetric x y both.0 in
    let tail = same_fronts n xs ys (omega arith) (omega arith) (λ i. a (suc i)) (λ i. b (suc i)) (nat_cmp-IsAntisymmetric r s both.1) in
    λ i. head i ∷ tail i

-- a common front of two texts decides nothing
pub cmp_behind : (both xs ys : List ℕ) → byte_cmp (both ++ xs) (both ++ ys) ≡ byte_cmp xs ys
cmp_behind [] xs ys = refl
cmp_behind (b ∷ both) xs ys = ap (λ (o : Ordering). ordering_then o (byte_cmp (both ++ xs) (both ++ ys))) (cmp_same b b refl) ∙ cmp_behind both xs ys
