-- The lengths of a root's bytes in format 2.
use Rattle.std.proofs.Common.{◌≡◌, ℕ, ◌+◌, ◌*◌, List, [], ◌∷◌, ◌++◌, length, length-append, Option, Some, None, refl, arith}
use Rattle.std.specs.List.{flat_map}
use Rattle.std.specs.Int.{w32, w64, to_be_bytes}
use Rattle.std.specs.Prelude.{codes, take, drop}
use Rattle.std.proofs.lemmas.List.{length-drop, length-take-le}
use Rattle.metadata_table.specs.Places.{PlaceView}
use Rattle.metadata_table.specs.Roots.{RootView, HasLengths, end_bytes, file_names, numbers_of, place_bytes, root_bytes, with_lengths}
use Rattle.row_atomic.specs.RootLengths.{end_length, place_length, places_length}
use Rattle.metadata_table.specs.declared.root.format.RootFormat.TheVariants.{Two}

pub none_left : {A : Type 0} (xs : List A) → length xs ≡ 0 → xs ≡ []
none_left [] e = refl
none_left (x ∷ xs) e = absurd (omega (arith, e))

pub places_length-append : (ps qs : List PlaceView) → places_length (ps ++ qs) ≡ places_length ps + places_length qs
places_length-append [] qs = omega arith
places_length-append (p ∷ ps) qs = let later = places_length-append ps qs in omega (arith, later)

u32_len : (n : ℕ) → length (to_be_bytes w32 n) ≡ 4
u32_len n = refl

u64_len : (n : ℕ) → length (to_be_bytes w64 n) ≡ 8
u64_len n = refl

numbers_len : (names lengths : List ℕ) → length lengths ≡ length names → length (flat_map (to_be_bytes w64) (numbers_of names lengths)) ≡ length names * 16
numbers_len [] lengths e = refl
numbers_len (x ∷ names) [] e = absurd (omega (arith, e))
numbers_len (x ∷ names) (n ∷ lengths) e =
    let rest = flat_map (to_be_bytes w64) (numbers_of names lengths) in
    let first = length-append (to_be_bytes w64 x) (to_be_bytes w64 n ++ rest) in
    let second = length-append (to_be_bytes w64 n) rest in
    let later = numbers_len names lengths (omega (arith, e)) in
    omega (arith, first, second, later, u64_len x, u64_len n)

end_len : (end : Option (List ℕ)) → length (end_bytes end) ≡ end_length end + 1
end_len (Some row) = let joined = length-append (to_be_bytes w32 (length row)) row in omega (arith, joined, u32_len (length row))
end_len None = refl

pub place_len : (p : PlaceView) (lengths : List ℕ) → length lengths ≡ length p.files → length (place_bytes (p, lengths)) ≡ place_length p
place_len p lengths e =
    let numbers = flat_map (to_be_bytes w64) (numbers_of p.files lengths) in
    let count = to_be_bytes w32 (length p.files) in
    let first = length-append (to_be_bytes w32 p.tablet) (end_bytes p.end ++ (p.server ∷ (count ++ numbers))) in
    let second = length-append (end_bytes p.end) (p.server ∷ (count ++ numbers)) in
    let third = length-append count numbers in
    omega (arith, first, second, third, u32_len p.tablet, u32_len (length p.files), end_len p.end, numbers_len p.files lengths e)

places_len : (ps : List PlaceView) (lengths : List ℕ) → length lengths ≡ length (file_names ps) → length (flat_map place_bytes (with_lengths ps lengths)) ≡ places_length ps
places_len [] lengths e = refl
places_len (p ∷ ps) lengths e =
    let names = length-append p.files (file_names ps) in
    let own = take (length p.files) lengths in
    let others = drop (length p.files) lengths in
    let few = length-take-le (length p.files) lengths (omega (arith, e, names)) in
    let left = length-drop (length p.files) lengths in
    let joined = length-append (place_bytes (p, own)) (flat_map place_bytes (with_lengths ps others)) in
    omega (arith, joined, place_len p own few, places_len ps others (omega (arith, e, names, left)))

pub root_len : (root : RootView) (lengths : List ℕ) → HasLengths Two root.places lengths → length (root_bytes Two root lengths) ≡ places_length root.places + 48
root_len root lengths e =
    let places = flat_map place_bytes (with_lengths root.places lengths) in
    let foot = length-append places (codes "TABROOTZ") in
    omega (arith, foot, places_len root.places lengths e)
