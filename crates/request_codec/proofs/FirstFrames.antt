-- The first frame of bytes, by the length in their first four bytes.
use Rattle.std.proofs.Common.{◌≡◌, ℕ, ◌+◌, ◌<◌, ◌≤◌, ◌⊎◌, List, ◌++◌, length, take, drop, inl, inr, arith, sym, ap, ◌∙◌, append_assoc, length-take-le}
use Rattle.std.proofs.lemmas.List.{take-append-drop, length-drop, drop-drop}
use Rattle.std.specs.Int.{from_be_bytes, to_be_bytes, w32}
use Rattle.request_codec.specs.Stream.{longest, frame, announced, BeginsNoFrame, IsPartial, IsTooLong}

pub announced-header : (bytes header : List ℕ) (n : ℕ) → take 4 bytes ≡ header → n ≡ from_be_bytes w32 header → announced bytes ≡ n
unfolding announced
announced-header bytes header n first value = ap (from_be_bytes w32) first ∙ sym value

pub IsTooLong-from_header : (bytes header : List ℕ) (n : ℕ) → take 4 bytes ≡ header → n ≡ from_be_bytes w32 header → 4 ≤ length bytes → longest < n → IsTooLong bytes
IsTooLong-from_header bytes header n first value long past = record {
  whole_length = long;
  past = omega (arith, announced-header bytes header n first value);
}

pub IsPartial-from_header : (bytes header : List ℕ) (n : ℕ) → take 4 bytes ≡ header → n ≡ from_be_bytes w32 header → n ≤ longest → length bytes < 4 + n → IsPartial bytes
IsPartial-from_header bytes header n first value fits short = record {
  within = λ _. omega (arith, announced-header bytes header n first value);
  short = λ _. omega (arith, announced-header bytes header n first value);
}

-- the bytes are the frame of the body that was moved to the front of a buffer, and the bytes left
pub frame-from_header : (bytes header buffer left : List ℕ) (n : ℕ) → take 4 bytes ≡ header → to_be_bytes w32 n ≡ header → 4 + n ≤ length bytes
    → take n buffer ≡ take n (drop 4 bytes) → left ≡ drop (4 + n) bytes → bytes ≡ frame (take n buffer) ++ left
unfolding frame
frame-from_header bytes header buffer left n first spells whole body rest =
    let size : length (take n buffer) ≡ n = ap length body ∙ length-take-le n (drop 4 bytes) (omega (arith, length-drop 4 bytes)) in
    let head : to_be_bytes w32 (length (take n buffer)) ≡ take 4 bytes = ap (to_be_bytes w32) size ∙ spells ∙ sym first in
    let after : take n buffer ++ left ≡ drop 4 bytes =
    ap (λ (l : List ℕ). take n buffer ++ l) (rest ∙ sym (drop-drop n 4 bytes)) ∙ ap (λ (l : List ℕ). l ++ drop n (drop 4 bytes)) body ∙ take-append-drop n (drop 4 bytes) in
    sym (
    append_assoc (to_be_bytes w32 (length (take n buffer))) (take n buffer) left
    ∙ ap (λ (l : List ℕ). l ++ (take n buffer ++ left)) head
    ∙ ap (λ (l : List ℕ). take 4 bytes ++ l) after
    ∙ take-append-drop 4 bytes
    )

-- the same, if the body and the bytes left follow the header in this order
pub frame-from_parts : (bytes header after body left : List ℕ) (n : ℕ) → take 4 bytes ≡ header → to_be_bytes w32 n ≡ header → after ≡ drop 4 bytes
    → length body ≡ n → body ++ left ≡ after → bytes ≡ frame body ++ left
unfolding frame
frame-from_parts bytes header after body left n first spells behind size parts =
    sym (
    append_assoc (to_be_bytes w32 (length body)) body left
    ∙ ap (λ (l : List ℕ). l ++ (body ++ left)) (ap (to_be_bytes w32) size ∙ spells ∙ sym first)
    ∙ ap (λ (l : List ℕ). take 4 bytes ++ l) (parts ∙ behind)
    ∙ take-append-drop 4 bytes
    )

-- They do not begin with a whole frame, if the length in their first four bytes is past the limit, or there are too few
-- bytes.
pub BeginsNoFrame-from_header : (bytes header : List ℕ) (n : ℕ) → take 4 bytes ≡ header → n ≡ from_be_bytes w32 header
    → (longest < n) ⊎ (length bytes < 4 + n) → BeginsNoFrame bytes
BeginsNoFrame-from_header bytes header n first value (inl past) = record {
  short = λ _ within. absurd (omega (arith, past, within, announced-header bytes header n first value));
}
BeginsNoFrame-from_header bytes header n first value (inr less) = record {
  short = λ _ _. omega (arith, less, announced-header bytes header n first value);
}
