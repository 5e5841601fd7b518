-- The bits of a word: testing one and setting one.
use Rattle.std.proofs.Common.{◌≡◌, ◌↔◌, ◌*◌, ◌%◌, ◌^◌, ◌<◌, ℕ, not, nat_eq, bit_and, bit_or, ap, ◌∙◌, ⊎_elim, arith, tests, w64}
use Rattle.std.specs.Prelude.{IsTrue}
use Rattle.std.specs.Int.{bit_at}
use Rattle.std.proofs.lemmas.Bool.{cases_eq}
use Rattle.std.proofs.lemmas.Nat.{one_shl, pow_pos}
use Rattle.std.proofs.lemmas.Nat.Bits.{and_pow, bit_at_set_same, bit_at_set_other}

-- a test of a bit says whether it is set
pub is_bit : (word k : ℕ) → k < 64 → IsTrue (not (nat_eq (bit_and word (1 * 2 ^ k % 2 ^ 64)) 0)) ↔ (bit_at word k ≡ 1)
is_bit word k below = grind (arith, tests, one_shl k 64 below, and_pow word k, pow_pos k)

-- setting a bit leaves the other set bits set
pub bit_kept : (word k : ℕ) → k < 64 → (b : ℕ) → bit_at word b ≡ 1 → bit_at (bit_or word (1 * 2 ^ k % 2 ^ 64)) b ≡ 1
bit_kept word k below b is = ⊎_elim
    (λ same. ap (bit_at (bit_or word (1 * 2 ^ k % 2 ^ 64))) same ∙ bit_at_set_same w64 word k below)
    (λ other. bit_at_set_other w64 word k below b other ∙ is)
    (cases_eq b k)
