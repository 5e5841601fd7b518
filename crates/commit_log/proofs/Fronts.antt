-- The front of bytes that begin with a frame.
use Rattle.std.proofs.Common.{◌≡◌, ℕ, suc, ◌+◌, ◌-◌, ◌<◌, ◌≤◌, List, [], ◌∷◌, ◌++◌, replicate, slice_index, length, take, drop, arith, sym, ap, ◌∙◌, append_assoc, take_at, drop_at, length-append, refl}
use Rattle.std.proofs.lemmas.List.{take-append-drop, length-drop, drop-drop, length-replicate, length-take-le}
use Rattle.std.proofs.lemmas.Nat.{from_be_bytes-to_be_bytes_4}
use Rattle.commit_log.specs.Crc32.{crc32}
use Rattle.std.specs.Int.{from_be_bytes, to_be_bytes, w32}
use Rattle.commit_log.specs.Frames.{checksum, frame, longest, IsRecord, IsTail}

frame-parts : (p x : List ℕ) → frame p ++ x ≡ to_be_bytes w32 (length p) ++ (checksum p ++ (p ++ x))
unfolding frame
frame-parts p x =
    append_assoc (to_be_bytes w32 (length p)) (checksum p ++ p) x ∙ ap (λ (l : List ℕ). to_be_bytes w32 (length p) ++ l) (append_assoc (checksum p) p x)

length-checksum : (p : List ℕ) → length (checksum p) ≡ 4
unfolding checksum
length-checksum p = refl

pub length-frame : (p : List ℕ) → length (frame p) ≡ 8 + length p
unfolding frame
length-frame p =
    let four : length (to_be_bytes w32 (length p)) ≡ 4 = refl in
    omega (arith, length-append (to_be_bytes w32 (length p)) (checksum p ++ p), length-append (checksum p) p, length-checksum p)

-- bytes that begin with a frame, in their parts
pub record Begins (bytes payload behind : List ℕ) : Type 0 where
  pub announced : from_be_bytes w32 (take 4 bytes) ≡ length payload
  pub sum : take 4 (drop 4 bytes) ≡ checksum payload
  pub rest : drop 4 (drop 4 bytes) ≡ payload ++ behind
  pub size : length bytes ≡ 8 + length payload + length behind

pub begins : (bytes p x : List ℕ) → IsRecord p → bytes ≡ frame p ++ x → Begins bytes p x
begins bytes p x fits same =
    let parts = same ∙ frame-parts p x in
    let after = ap (drop 4) parts ∙ drop_at (to_be_bytes w32 (length p)) (checksum p ++ (p ++ x)) 4 refl in
    record {
      announced = ap (from_be_bytes w32) (ap (take 4) parts ∙ take_at (to_be_bytes w32 (length p)) (checksum p ++ (p ++ x)) 4 refl) ∙ from_be_bytes-to_be_bytes_4 (length p) (omega arith);
      sum = ap (take 4) after ∙ take_at (checksum p) (p ++ x) 4 (length-checksum p);
      rest = ap (drop 4) after ∙ drop_at (checksum p) (p ++ x) 4 (length-checksum p);
      size = omega (arith, ap length same, length-append (frame p) x, length-frame p);
    }

-- ---- bytes that don't begin with a whole frame

pub no_length : (bytes : List ℕ) → length bytes < 4 → IsTail bytes
no_length bytes short p x fits same = let b = begins bytes p x fits same in omega (arith, b.size)

pub no_checksum : (bytes after : List ℕ) → after ≡ drop 4 bytes → length after < 4 → IsTail bytes
no_checksum bytes after is short p x fits same =
    let b = begins bytes p x fits same in omega (arith, b.size, ap length is, length-drop 4 bytes)

-- the checksum of an empty record covers its length
empty_sum : checksum [] ≡ 0x21 ∷ 0x44 ∷ 0xDF ∷ 0x1C ∷ []
unfolding checksum crc32
empty_sum = refl

-- zeros instead of a length and a checksum
eight_zeros : (z p x : List ℕ) → Begins (0 ∷ 0 ∷ 0 ∷ 0 ∷ 0 ∷ 0 ∷ 0 ∷ 0 ∷ z) p x → ⊥
eight_zeros z [] x b = let first : 0 ≡ 0x21 = ap (λ (l : List ℕ). slice_index l 0) (b.sum ∙ empty_sum) in omega (arith, first)
eight_zeros z (y ∷ p) x b = omega (arith, b.announced)

pub zeros : (n : ℕ) → IsTail (replicate n 0)
zeros n p x fits same =
    let long = (begins (replicate n 0) p x fits same).size in
    let m : ℕ = n - 8 in
    let is : n ≡ suc (suc (suc (suc (suc (suc (suc (suc m))))))) = omega (arith, long, length-replicate {A = ℕ} n 0) in
    eight_zeros (replicate m 0) p x (begins _ p x fits (ap (λ (k : ℕ). replicate {A = ℕ} k 0) (sym is) ∙ same))

-- the first four bytes encode the length of a frame that begins there
says : (bytes first : List ℕ) (n : ℕ) (p x : List ℕ) → first ≡ take 4 bytes → n ≡ from_be_bytes w32 first → Begins bytes p x → n ≡ length p
says bytes first n p x is value b = value ∙ ap (from_be_bytes w32) is ∙ b.announced

pub too_long : (bytes first : List ℕ) (n : ℕ) → first ≡ take 4 bytes → n ≡ from_be_bytes w32 first → longest < n → IsTail bytes
too_long bytes first n is value past p x fits same =
    omega (arith, says bytes first n p x is value (begins bytes p x fits same))

pub too_short : (bytes first after rest : List ℕ) (n : ℕ) → first ≡ take 4 bytes → n ≡ from_be_bytes w32 first → after ≡ drop 4 bytes → rest ≡ drop 4 after
    → length rest < n → IsTail bytes
too_short bytes first after rest n is value behind left short p x fits same =
    let b = begins bytes p x fits same in
    omega (arith, says bytes first n p x is value b, ap length (left ∙ ap (drop 4) behind ∙ b.rest), length-append p x)

pub no_match : (bytes first after sum rest : List ℕ) (n : ℕ) → first ≡ take 4 bytes → n ≡ from_be_bytes w32 first → after ≡ drop 4 bytes
    → sum ≡ take 4 after → rest ≡ drop 4 after → (checksum (take n rest) ≡ sum → ⊥) → IsTail bytes
no_match bytes first after sum rest n is value behind summed left differs p x fits same =
    let b = begins bytes p x fits same in
    let size = says bytes first n p x is value b in
    let whole : take n rest ≡ p = ap (take n) (left ∙ ap (drop 4) behind ∙ b.rest) ∙ take_at p x n (sym size) in
    differs (ap checksum whole ∙ sym b.sum ∙ sym (summed ∙ ap (take 4) behind))

-- ---- a whole frame

pub whole_frame : (bytes first after sum rest p : List ℕ) (n : ℕ) → first ≡ take 4 bytes → to_be_bytes w32 n ≡ first → after ≡ drop 4 bytes
    → sum ≡ take 4 after → rest ≡ drop 4 after → n ≤ length rest → p ≡ take n rest → checksum p ≡ sum → bytes ≡ frame p ++ drop (8 + length p) bytes
whole_frame bytes first after sum rest p n is spells behind summed left fits taken matches =
    let size : length p ≡ n = ap length taken ∙ length-take-le n rest fits in
    let far : 8 + length p ≡ 4 + (4 + n) = omega (arith, size) in
    let tail : drop (8 + length p) bytes ≡ drop n rest =
    ap (λ k. drop k bytes) far ∙ sym (drop-drop (4 + n) 4 bytes) ∙ ap (drop (4 + n)) (sym behind) ∙ sym (drop-drop n 4 after) ∙ ap (drop n) (sym left) in
    let back : p ++ drop n rest ≡ rest = ap (λ (l : List ℕ). l ++ drop n rest) taken ∙ take-append-drop n rest in
    sym (
    ap (λ (l : List ℕ). frame p ++ l) tail
    ∙ frame-parts p (drop n rest)
    ∙ ap (λ (l : List ℕ). l ++ (checksum p ++ (p ++ drop n rest))) (ap (to_be_bytes w32) size ∙ spells ∙ is)
    ∙ ap (λ (l : List ℕ). take 4 bytes ++ (l ++ (p ++ drop n rest))) (matches ∙ summed)
    ∙ ap (λ (l : List ℕ). take 4 bytes ++ (take 4 after ++ l)) (back ∙ left)
    ∙ ap (λ (l : List ℕ). take 4 bytes ++ l) (take-append-drop 4 after ∙ behind)
    ∙ take-append-drop 4 bytes
    )
