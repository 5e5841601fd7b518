-- The parts of a piece.
use Rattle.std.proofs.Common.{◌≡◌, ◌≢◌, ℕ, ◌+◌, ◌<◌, ◌≤◌, List, ◌++◌, length, take, drop, arith, sym, ap, ◌∙◌, take_at, drop_at, length-append, refl}
use Rattle.std.proofs.lemmas.List.{take-append-drop, length-drop}
use Rattle.std.proofs.lemmas.Nat.{from_be_bytes-to_be_bytes_2}
use Rattle.std.specs.Int.{from_be_bytes, to_be_bytes, w16}
use Rattle.file_sums.specs.Pieces.{checksum, piece}

pub piece-parts : (n i : ℕ) (p : List ℕ) → piece n i p ≡ to_be_bytes w16 (length p) ++ (checksum n i p ++ p)
unfolding piece
piece-parts n i p = refl

pub length-checksum : (n i : ℕ) (p : List ℕ) → length (checksum n i p) ≡ 4
unfolding checksum
length-checksum n i p = refl

pub length-piece : (n i : ℕ) (p : List ℕ) → length (piece n i p) ≡ 6 + length p
length-piece n i p =
    let two : length (to_be_bytes w16 (length p)) ≡ 2 = refl in
    omega (arith, ap length (piece-parts n i p), length-append (to_be_bytes w16 (length p)) (checksum n i p ++ p), length-append (checksum n i p) p, length-checksum n i p)

-- bytes that are a piece, in their parts
pub record IsOf (bytes : List ℕ) (n i : ℕ) (p : List ℕ) : Type 0 where
  pub announced : from_be_bytes w16 (take 2 bytes) ≡ length p
  pub sum : take 4 (drop 2 bytes) ≡ checksum n i p
  pub rest : drop 4 (drop 2 bytes) ≡ p
  pub size : length bytes ≡ 6 + length p

pub is_of : (bytes : List ℕ) (n i : ℕ) (p : List ℕ) → length p ≤ 1024 → bytes ≡ piece n i p → IsOf bytes n i p
is_of bytes n i p fits same =
    let parts = same ∙ piece-parts n i p in
    let after = ap (drop 2) parts ∙ drop_at (to_be_bytes w16 (length p)) (checksum n i p ++ p) 2 refl in
    record {
      announced = ap (from_be_bytes w16) (ap (take 2) parts ∙ take_at (to_be_bytes w16 (length p)) (checksum n i p ++ p) 2 refl) ∙ from_be_bytes-to_be_bytes_2 (length p) (omega arith);
      sum = ap (take 4) after ∙ take_at (checksum n i p) p 4 (length-checksum n i p);
      rest = ap (drop 4) after ∙ drop_at (checksum n i p) p 4 (length-checksum n i p);
      size = ap length same ∙ length-piece n i p;
    }

-- ---- bytes that are no piece

abbrev pub IsNone : List ℕ → ℕ → ℕ → Type 0
IsNone bytes n i = (p : List ℕ) → length p ≤ 1024 → bytes ≢ piece n i p

pub no_length : (bytes : List ℕ) (n i : ℕ) → length bytes < 2 → IsNone bytes n i
no_length bytes n i short p fits same = let b = is_of bytes n i p fits same in omega (arith, b.size)

pub no_checksum : (bytes after : List ℕ) (n i : ℕ) → after ≡ drop 2 bytes → length after < 4 → IsNone bytes n i
no_checksum bytes after n i is short p fits same =
    let b = is_of bytes n i p fits same in omega (arith, b.size, ap length is, length-drop 2 bytes)

same_rest : (bytes after rest : List ℕ) (n i : ℕ) (p : List ℕ) → after ≡ drop 2 bytes → rest ≡ drop 4 after → IsOf bytes n i p → rest ≡ p
same_rest bytes after rest n i p behind left b = left ∙ ap (drop 4) behind ∙ b.rest

pub too_long : (bytes after rest : List ℕ) (n i : ℕ) → after ≡ drop 2 bytes → rest ≡ drop 4 after → 1024 < length rest → IsNone bytes n i
too_long bytes after rest n i behind lefts long p fits same =
    omega (arith, ap length (same_rest bytes after rest n i p behind lefts (is_of bytes n i p fits same)))

pub another_length : (bytes first after rest : List ℕ) (n i len : ℕ) → first ≡ take 2 bytes → len ≡ from_be_bytes w16 first → after ≡ drop 2 bytes → rest ≡ drop 4 after
    → (length rest ≡ len → ⊥) → IsNone bytes n i
another_length bytes first after rest n i len is value behind lefts differs p fits same =
    let b = is_of bytes n i p fits same in
    differs (ap length (same_rest bytes after rest n i p behind lefts b) ∙ sym (value ∙ ap (from_be_bytes w16) is ∙ b.announced))

pub no_match : (bytes after sum rest : List ℕ) (n i : ℕ) → after ≡ drop 2 bytes → sum ≡ take 4 after → rest ≡ drop 4 after
    → (checksum n i rest ≡ sum → ⊥) → IsNone bytes n i
no_match bytes after sum rest n i behind summed lefts differs p fits same =
    let b = is_of bytes n i p fits same in
    differs (ap (checksum n i) (same_rest bytes after rest n i p behind lefts b) ∙ sym b.sum ∙ sym (summed ∙ ap (take 4) behind))

-- ---- a piece

pub whole_piece : (bytes first after sum rest : List ℕ) (n i len : ℕ) → first ≡ take 2 bytes → to_be_bytes w16 len ≡ first → after ≡ drop 2 bytes
    → sum ≡ take 4 after → rest ≡ drop 4 after → length rest ≡ len → checksum n i rest ≡ sum → bytes ≡ piece n i rest
whole_piece bytes first after sum rest n i len is spells behind summed lefts size matches =
    sym (
    piece-parts n i rest
    ∙ ap (λ (l : List ℕ). l ++ (checksum n i rest ++ rest)) (ap (to_be_bytes w16) size ∙ spells ∙ is)
    ∙ ap (λ (l : List ℕ). take 2 bytes ++ (l ++ rest)) (matches ∙ summed)
    ∙ ap (λ (l : List ℕ). take 2 bytes ++ l) (ap (λ (l : List ℕ). take 4 after ++ l) lefts ∙ take-append-drop 4 after ∙ behind)
    ∙ take-append-drop 2 bytes
    )
