-- A byte is shifted out at once.
use Rattle.std.proofs.Common.{◌≡◌, ◌<◌, ◌*◌, ◌/◌, ◌%◌, ◌^◌, ℕ, zero, suc, refl, sym, ap, ◌∙◌, arith}
use Rattle.std.specs.Fn.{iterate}
use Rattle.std.specs.Prelude.{bit_xor}
use Rattle.std.specs.Int.Bits.{xor_assoc, xor_zero_l, xor_zero_r, xor_shifted}
use Rattle.std.proofs.lemmas.Nat.{xor_mod, xor_shr, xor_comm}
use Rattle.commit_log.specs.Crc32.{next_bit, next_byte}

crossed : (a b c d : ℕ) → bit_xor (bit_xor a b) (bit_xor c d) ≡ bit_xor (bit_xor a c) (bit_xor b d)
crossed a b c d =
    xor_assoc a b (bit_xor c d)
    ∙ ap (bit_xor a) (sym (xor_assoc b c d) ∙ ap (λ (x : ℕ). bit_xor x d) (xor_comm b c) ∙ xor_assoc c b d)
    ∙ sym (xor_assoc a c (bit_xor b d))

times : (p q : ℕ) → p < 2 → q < 2 → bit_xor p q * 0xEDB88320 ≡ bit_xor (p * 0xEDB88320) (q * 0xEDB88320)
times zero q low high = ap (λ (x : ℕ). x * 0xEDB88320) (xor_zero_l q) ∙ sym (xor_zero_l (q * 0xEDB88320))
times (suc zero) zero low high = refl
times (suc zero) (suc zero) low high = refl
times (suc zero) (suc (suc q)) low high = absurd (omega arith)
times (suc (suc p)) q low high = absurd (omega arith)

low_bit : (n : ℕ) → n % 2 < 2
low_bit n = omega arith

pub bit_of_both : (a b : ℕ) → next_bit (bit_xor a b) ≡ bit_xor (next_bit a) (next_bit b)
bit_of_both a b =
    let high : bit_xor a b / 2 ≡ bit_xor (a / 2) (b / 2) = xor_shr a b 1 in
    let low : bit_xor a b % 2 ≡ bit_xor (a % 2) (b % 2) = xor_mod a b 1 in
    rw (high, low, times (a % 2) (b % 2) (low_bit a) (low_bit b))
    (crossed (a / 2) (b / 2) (a % 2 * 0xEDB88320) (b % 2 * 0xEDB88320))

pub bits_of_both : (n a b : ℕ) → iterate next_bit n (bit_xor a b) ≡ bit_xor (iterate next_bit n a) (iterate next_bit n b)
bits_of_both zero a b = refl
bits_of_both (suc n) a b = ap (iterate next_bit n) (bit_of_both a b) ∙ bits_of_both n (next_bit a) (next_bit b)

even : (n : ℕ) → next_bit (n * 2) ≡ n
even n =
    let half : n * 2 / 2 ≡ n = omega arith in
    let none : n * 2 % 2 ≡ 0 = omega arith in
    rw (half, none) (xor_zero_r n)

halved : (m n : ℕ) → m ≡ n * 2 → next_bit m ≡ n
halved m n twice = ap next_bit twice ∙ even n

pub shifted_out : (n : ℕ) → iterate next_bit 8 (n * 256) ≡ n
shifted_out n =
    ap (iterate next_bit 7) (halved (n * 256) (n * 128) (omega arith))
    ∙ ap (iterate next_bit 6) (halved (n * 128) (n * 64) (omega arith))
    ∙ ap (iterate next_bit 5) (halved (n * 64) (n * 32) (omega arith))
    ∙ ap (iterate next_bit 4) (halved (n * 32) (n * 16) (omega arith))
    ∙ ap (iterate next_bit 3) (halved (n * 16) (n * 8) (omega arith))
    ∙ ap (iterate next_bit 2) (halved (n * 8) (n * 4) (omega arith))
    ∙ ap (iterate next_bit 1) (halved (n * 4) (n * 2) (omega arith))
    ∙ halved (n * 2) n (omega arith)

pub byte_at_once : (sum byte : ℕ) → byte < 256
    → bit_xor (sum / 256) (next_byte 0 (bit_xor (sum % 256) byte)) ≡ next_byte sum byte
byte_at_once sum byte low =
    let within : sum % 256 < 2 ^ 8 = omega arith in
    let whole : bit_xor (sum / 256 * 2 ^ 8) (sum % 256) ≡ sum =
    xor_shifted (sum / 256) 8 (sum % 256) within ∙ omega arith in
    let apart : bit_xor (sum / 256 * 2 ^ 8) (bit_xor (sum % 256) byte) ≡ bit_xor sum byte =
    sym (xor_assoc (sum / 256 * 2 ^ 8) (sum % 256) byte) ∙ ap (λ (x : ℕ). bit_xor x byte) whole in
    let both = bits_of_both 8 (sum / 256 * 2 ^ 8) (bit_xor (sum % 256) byte) in
    let out : iterate next_bit 8 (sum / 256 * 2 ^ 8) ≡ sum / 256 = shifted_out (sum / 256) in
    ap (bit_xor (sum / 256)) (ap (iterate next_bit 8) (xor_zero_l (bit_xor (sum % 256) byte)))
    ∙ ap (λ (x : ℕ). bit_xor x (iterate next_bit 8 (bit_xor (sum % 256) byte))) (sym out)
    ∙ sym both ∙ ap (iterate next_bit 8) apart
