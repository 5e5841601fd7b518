-- The first frame of bytes, by the length in their first four bytes.
use Rattle.std.proofs.Common.{◌≡◌, ℕ, ◌+◌, ◌<◌, ◌≤◌, List, ◌++◌, length, take, drop, arith, sym, ap, ◌∙◌, append_assoc}
use Rattle.std.proofs.lemmas.List.{take-append-drop}
use Rattle.std.specs.Int.{from_be_bytes, to_be_bytes, w32}
use Rattle.request_codec.specs.Stream.{announced, frame}
use Rattle.tablet_audit.specs.Frames.{IsPartial, IsTooLong}

header_announces : (bytes header : List ℕ) (n : ℕ) → take 4 bytes ≡ header → n ≡ from_be_bytes w32 header → announced bytes ≡ n
unfolding announced
header_announces bytes header n first value = ap (from_be_bytes w32) first ∙ sym value

pub no_header : (most : ℕ) (bytes : List ℕ) → length bytes < 4 → IsPartial most bytes
no_header most bytes few = record {
  within = λ long. absurd (omega (arith, few, long));
  short = λ long. absurd (omega (arith, few, long));
}

pub too_long : (most : ℕ) (bytes header : List ℕ) (n : ℕ) → take 4 bytes ≡ header → n ≡ from_be_bytes w32 header → 4 ≤ length bytes → most < n → IsTooLong most bytes
too_long most bytes header n first value long past = record {
  whole_length = long;
  past = omega (arith, header_announces bytes header n first value, past);
}

pub partial : (most : ℕ) (bytes header : List ℕ) (n : ℕ) → take 4 bytes ≡ header → n ≡ from_be_bytes w32 header → n ≤ most → length bytes < 4 + n → IsPartial most bytes
partial most bytes header n first value fits short = record {
  within = λ _. omega (arith, header_announces bytes header n first value, fits);
  short = λ _. omega (arith, header_announces bytes header n first value, short);
}

-- the bytes are the frame of the body and the bytes left, which follow the header
pub frame_from_parts : (bytes header after body left : List ℕ) (n : ℕ) → take 4 bytes ≡ header → to_be_bytes w32 n ≡ header → after ≡ drop 4 bytes
    → length body ≡ n → body ++ left ≡ after → bytes ≡ frame body ++ left
unfolding frame
frame_from_parts bytes header after body left n first spells behind size parts =
    sym (
    append_assoc (to_be_bytes w32 (length body)) body left
    ∙ ap (λ (l : List ℕ). l ++ (body ++ left)) (ap (to_be_bytes w32) size ∙ spells ∙ sym first)
    ∙ ap (λ (l : List ℕ). take 4 bytes ++ l) (parts ∙ behind)
    ∙ take-append-drop 4 bytes
    )
