-- The lengths of roots in format 2.
use Rattle.std.specs.Prelude.{◌≡◌, ℕ, ◌+◌, ◌-◌, ◌*◌, ◌^◌, List, [], ◌∷◌, length, min, Option, Some, None}
use Rattle.metadata_table.specs.Places.{PlaceView}
use Rattle.metadata_table.specs.Roots.{HasLengths, RootView, root_bytes}
use Rattle.metadata_table.specs.declared.root.format.RootFormat.TheVariants.{Two}

-- the bytes of an end without its first one, of a place, and of places
abbrev pub end_length : Option (List ℕ) → ℕ
end_length (Some row) = length row + 4
end_length None = 0

abbrev pub place_length : PlaceView → ℕ
place_length p = end_length p.end + length p.files * 16 + 10

abbrev pub places_length : List PlaceView → ℕ
places_length [] = 0
places_length (p ∷ ps) = place_length p + places_length ps

-- So many bytes are those of this root, whatever the lengths of its files, and 5,038 more, or the greatest
-- number: a tablet has at most 5,038 bytes in a root.
abbrev pub IsRoomBehind : RootView → ℕ → Type 0
IsRoomBehind root bytes =
    (lengths : List ℕ) → HasLengths Two root.places lengths
    → bytes ≡ min (length (root_bytes Two root lengths) + 5038) (2 ^ 64 - 1)
