-- Eight bytes are shifted out at once.
use Rattle.std.proofs.Common.{◌≡◌, ◌<◌, ◌+◌, ◌*◌, ◌/◌, ◌%◌, ◌^◌, ℕ, zero, suc, List, [], ◌∷◌, length, get_or, take, drop, fold, refl, sym, ap, ap₂, ◌∙◌, arith}
use Rattle.std.specs.Fn.{iterate}
use Rattle.std.specs.Int.{w32, w64, from_le_bytes, to_le_bytes}
use Rattle.std.specs.Prelude.{bit_xor, slice_index}
use Rattle.std.specs.Int.Bits.{xor_assoc, xor_zero_r, xor_shifted}
use Rattle.std.specs.Simd.{first_chunks}
use Rattle.std.proofs.lemmas.Nat.{xor_block, xor_comm, xor_lt}
use Rattle.std.proofs.lemmas.List.{take-append-drop, drop-drop}
use Rattle.std.proofs.lemmas.List.Sums.{fold-append}
use Rattle.commit_log.specs.Crc32.{next_bit, next_byte, shifted}
use Rattle.commit_log.proofs.Tables.{bits_of_both, shifted_out}

eight_first : (n sum : ℕ) → iterate next_bit (n + 8) sum ≡ iterate next_bit n (iterate next_bit 8 sum)
eight_first n sum =
    let more : n + 8 ≡ suc (suc (suc (suc (suc (suc (suc (suc n))))))) = omega arith in
    ap (λ (k : ℕ). iterate next_bit k sum) more

-- a byte 0 more
one_more : (zeros sum : ℕ) → shifted (suc zeros) sum ≡ shifted zeros (iterate next_bit 8 sum)
unfolding shifted
one_more zeros sum =
    let more : 8 * suc zeros + 8 ≡ 8 * zeros + 8 + 8 = omega arith in
    ap (λ (k : ℕ). iterate next_bit k sum) more ∙ eight_first (8 * zeros + 8) sum

shifted_of_both : (zeros a b : ℕ) → shifted zeros (bit_xor a b) ≡ bit_xor (shifted zeros a) (shifted zeros b)
unfolding shifted
shifted_of_both zeros a b = bits_of_both (8 * zeros + 8) a b

one_less : (zeros n : ℕ) → shifted (suc zeros) (n * 256) ≡ shifted zeros n
one_less zeros n = one_more zeros (n * 256) ∙ ap (shifted zeros) (shifted_out n)

joined : (high low : ℕ) → low < 256 → bit_xor (high * 256) low ≡ low + high * 256
joined high low small = xor_shifted high 8 low small ∙ omega arith

low_byte_apart : (zeros word : ℕ)
    → shifted (suc zeros) word ≡ bit_xor (shifted (suc zeros) (word % 256)) (shifted zeros (word / 256))
low_byte_apart zeros word =
    let whole : word ≡ bit_xor (word / 256 * 256) (word % 256) =
    sym (joined (word / 256) (word % 256) (omega arith) ∙ omega arith) in
    ap (shifted (suc zeros)) whole
    ∙ shifted_of_both (suc zeros) (word / 256 * 256) (word % 256)
    ∙ ap (λ (x : ℕ). bit_xor x (shifted (suc zeros) (word % 256))) (one_less zeros (word / 256))
    ∙ xor_comm (shifted zeros (word / 256)) (shifted (suc zeros) (word % 256))

next_apart : (zeros sum word low high : ℕ) → word % 256 ≡ low → word / 256 ≡ high
    → bit_xor sum (shifted (suc zeros) word) ≡ bit_xor (bit_xor sum (shifted (suc zeros) low)) (shifted zeros high)
next_apart zeros sum word low high at_low at_high =
    rw (← at_low, ← at_high)
    (ap (bit_xor sum) (low_byte_apart zeros word) ∙ sym (xor_assoc sum (shifted (suc zeros) (word % 256)) (shifted zeros (word / 256))))

bytes_apart : (word a b c d e f g h : ℕ) → word % 256 ≡ a → word / 256 % 256 ≡ b → word / 65536 % 256 ≡ c → word / 16777216 % 256 ≡ d → word / 4294967296 % 256 ≡ e → word / 1099511627776 % 256 ≡ f → word / 281474976710656 % 256 ≡ g → word / 72057594037927936 ≡ h
    → shifted 7 word ≡ bit_xor (bit_xor (bit_xor (bit_xor (bit_xor (bit_xor (bit_xor (shifted 7 a) (shifted 6 b)) (shifted 5 c)) (shifted 4 d)) (shifted 3 e)) (shifted 2 f)) (shifted 1 g)) (shifted 0 h)
bytes_apart word a b c d e f g h at_a at_b at_c at_d at_e at_f at_g at_h =
    low_byte_apart 6 word
    ∙ ap (λ (x : ℕ). bit_xor (shifted 7 x) (shifted 6 (word / 256))) at_a
    ∙ next_apart 5 _ (word / 256) b (word / 65536) at_b (omega arith)
    ∙ next_apart 4 _ (word / 65536) c (word / 16777216) at_c (omega arith)
    ∙ next_apart 3 _ (word / 16777216) d (word / 4294967296) at_d (omega arith)
    ∙ next_apart 2 _ (word / 4294967296) e (word / 1099511627776) at_e (omega arith)
    ∙ next_apart 1 _ (word / 1099511627776) f (word / 281474976710656) at_f (omega arith)
    ∙ next_apart 0 _ (word / 281474976710656) g h at_g (omega arith)

-- the number whose bytes these are, the lowest first
number : List ℕ → ℕ
number [] = 0
number (byte ∷ bytes) = byte + number bytes * 256

byte_in : (zeros sum byte rest : ℕ) → byte < 256
    → shifted zeros (bit_xor (next_byte sum byte) rest) ≡ shifted (suc zeros) (bit_xor sum (byte + rest * 256))
byte_in zeros sum byte rest low =
    let both : bit_xor (bit_xor sum byte) (rest * 256) ≡ bit_xor sum (byte + rest * 256) =
    xor_assoc sum byte (rest * 256) ∙ ap (bit_xor sum) (xor_comm byte (rest * 256) ∙ joined rest byte low) in
    shifted_of_both zeros (next_byte sum byte) rest
    ∙ ap (λ (x : ℕ). bit_xor x (shifted zeros rest)) (sym (one_more zeros (bit_xor sum byte)))
    ∙ ap (bit_xor (shifted (suc zeros) (bit_xor sum byte))) (sym (one_less zeros rest))
    ∙ sym (shifted_of_both (suc zeros) (bit_xor sum byte) (rest * 256))
    ∙ ap (shifted (suc zeros)) both

last_byte_in : (sum byte : ℕ) → next_byte sum byte ≡ shifted 0 (bit_xor sum (number (byte ∷ [])))
unfolding shifted number
last_byte_in sum byte =
    let alone : byte ≡ byte + 0 * 256 = omega arith in ap (λ (x : ℕ). iterate next_bit 8 (bit_xor sum x)) alone

bytes_in : (sum byte : ℕ) (bytes : List ℕ) → ((i : ℕ) → get_or (byte ∷ bytes) i 0 < 256)
    → fold next_byte sum (byte ∷ bytes) ≡ shifted (length bytes) (bit_xor sum (number (byte ∷ bytes)))
unfolding number
bytes_in sum byte [] low = last_byte_in sum byte
bytes_in sum byte (next ∷ bytes) low =
    bytes_in (next_byte sum byte) next bytes (λ i. low (suc i))
    ∙ byte_in (length bytes) sum byte (number (next ∷ bytes)) (low 0)

number_is : (bytes : List ℕ) → length bytes ≡ 8 → number bytes ≡ from_le_bytes w64 bytes
unfolding number
number_is (a ∷ b ∷ c ∷ d ∷ e ∷ f ∷ g ∷ h ∷ []) eight = omega arith
number_is [] eight = absurd (omega arith)
number_is (a ∷ []) eight = absurd (omega arith)
number_is (a ∷ b ∷ []) eight = absurd (omega arith)
number_is (a ∷ b ∷ c ∷ []) eight = absurd (omega arith)
number_is (a ∷ b ∷ c ∷ d ∷ []) eight = absurd (omega arith)
number_is (a ∷ b ∷ c ∷ d ∷ e ∷ []) eight = absurd (omega arith)
number_is (a ∷ b ∷ c ∷ d ∷ e ∷ f ∷ []) eight = absurd (omega arith)
number_is (a ∷ b ∷ c ∷ d ∷ e ∷ f ∷ g ∷ []) eight = absurd (omega arith)
number_is (a ∷ b ∷ c ∷ d ∷ e ∷ f ∷ g ∷ h ∷ i ∷ bytes) eight = absurd (omega arith)

eight_in : (sum : ℕ) (bytes : List ℕ) → length bytes ≡ 8 → ((i : ℕ) → get_or bytes i 0 < 256)
    → fold next_byte sum bytes ≡ shifted 7 (bit_xor sum (number bytes))
eight_in sum [] eight low = absurd (omega arith)
eight_in sum (byte ∷ bytes) eight low =
    let seven : length bytes ≡ 7 = omega arith in
    bytes_in sum byte bytes low ∙ ap (λ (k : ℕ). shifted k (bit_xor sum (number (byte ∷ bytes)))) seven

-- the first four bytes of a number of eight are mixed with the sum
halves : (low high sum : ℕ) → low < 2 ^ 32 → sum < 2 ^ 32 → bit_xor sum (low + high * 4294967296) ≡ bit_xor low sum + high * 4294967296
halves low high sum small fits =
    let whole : low + high * 4294967296 ≡ high * 2 ^ 32 + low = omega arith in
    let alone : sum ≡ 0 * 2 ^ 32 + sum = omega arith in
    xor_comm sum (low + high * 4294967296)
    ∙ ap₂ bit_xor whole alone
    ∙ xor_block 32 high 0 low sum small fits
    ∙ ap (λ (x : ℕ). x * 2 ^ 32 + bit_xor low sum) (xor_zero_r high)
    ∙ omega arith

mixed_apart : (word mixed e f g h : ℕ) → mixed < 2 ^ 32 → e < 256 → f < 256 → g < 256 → h < 256
    → word ≡ mixed + (e + f * 256 + g * 65536 + h * 16777216) * 4294967296
    → shifted 7 word ≡ bit_xor (bit_xor (bit_xor (bit_xor (bit_xor (bit_xor (bit_xor (shifted 7 (mixed % 256)) (shifted 6 (mixed / 256 % 256))) (shifted 5 (mixed / 65536 % 256))) (shifted 4 (mixed / 16777216 % 256))) (shifted 3 e)) (shifted 2 f)) (shifted 1 g)) (shifted 0 h)
mixed_apart word mixed e f g h small in_e in_f in_g in_h is =
    bytes_apart word (mixed % 256) (mixed / 256 % 256) (mixed / 65536 % 256) (mixed / 16777216 % 256) e f g h (omega arith) (omega arith) (omega arith) (omega arith) (omega arith) (omega arith) (omega arith) (omega arith)

pub eight_at_once : (sum : ℕ) (bytes mixed : List ℕ) → sum < 2 ^ 32 → length bytes ≡ 8 → ((i : ℕ) → get_or bytes i 0 < 256)
    → mixed ≡ to_le_bytes w32 (bit_xor (from_le_bytes w32 bytes) sum)
    → bit_xor (bit_xor (bit_xor (bit_xor (bit_xor (bit_xor (bit_xor (shifted 7 (slice_index mixed 0)) (shifted 6 (slice_index mixed 1))) (shifted 5 (slice_index mixed 2))) (shifted 4 (slice_index mixed 3))) (shifted 3 (slice_index bytes 4))) (shifted 2 (slice_index bytes 5))) (shifted 1 (slice_index bytes 6))) (shifted 0 (slice_index bytes 7))
    ≡ fold next_byte sum bytes
eight_at_once sum bytes mixed fits eight low are =
    let a = low 0 in
    let b = low 1 in
    let c = low 2 in
    let d = low 3 in
    let front = from_le_bytes w32 bytes in
    let small : front < 2 ^ 32 = omega arith in
    let behind = slice_index bytes 4 + slice_index bytes 5 * 256 + slice_index bytes 6 * 65536 + slice_index bytes 7 * 16777216 in
    let halved : number bytes ≡ front + behind * 4294967296 = number_is bytes eight ∙ omega arith in
    let word : bit_xor sum (number bytes) ≡ bit_xor front sum + behind * 4294967296 =
    ap (bit_xor sum) halved ∙ halves front behind sum small fits in
    rw are
    (sym (mixed_apart (bit_xor sum (number bytes)) (bit_xor front sum) _ _ _ _ (xor_lt 32 front sum small fits) (low 4) (low 5) (low 6) (low 7) word))
    ∙ sym (eight_in sum bytes eight low)

-- the bytes behind the chunks come last
pub eights_then_few : (n sum : ℕ) (bytes : List ℕ)
    → fold next_byte (fold (fold next_byte) sum (first_chunks 8 n bytes)) (drop (n * 8) bytes) ≡ fold next_byte sum bytes
eights_then_few zero sum bytes = refl
eights_then_few (suc n) sum bytes =
    let front = fold next_byte sum (take 8 bytes) in
    let more : suc n * 8 ≡ 8 + n * 8 = omega arith in
    ap (λ (k : ℕ). fold next_byte (fold (fold next_byte) front (first_chunks 8 n (drop 8 bytes))) (drop k bytes)) more
    ∙ ap (fold next_byte (fold (fold next_byte) front (first_chunks 8 n (drop 8 bytes)))) (sym (drop-drop (n * 8) 8 bytes))
    ∙ eights_then_few n front (drop 8 bytes)
    ∙ sym (fold-append next_byte sum (take 8 bytes) (drop 8 bytes))
    ∙ ap (fold next_byte sum) (take-append-drop 8 bytes)
