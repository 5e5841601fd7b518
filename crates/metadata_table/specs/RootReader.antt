-- The reader of a root's bytes, from left to right. The result is written again and compared with the bytes afterwards,
-- so head, next tablet's number, foot and any bytes after it are only skipped here.
use Rattle.std.specs.Prelude.{◌≡◌, ℕ, zero, suc, ◌*◌, List, [], ◌∷◌, length, take, drop, Option, Some, None, Result, Ok, Err, nat_eq, nat_lt, map, flat_map, if◌then◌else◌}
use Rattle.std.specs.Int.{Width, w32, w64, byte_len, from_be_bytes}
use Rattle.metadata_table.specs.declared.root.reader.ReadFault.{ReadFault}
use Rattle.metadata_table.specs.declared.root.reader.ReadFault.TheVariants as fault
use Rattle.metadata_table.specs.declared.root.reader.Draft.{Draft}
use Rattle.metadata_table.specs.Places.{PlaceView, views}
use Rattle.metadata_table.specs.Roots.{RootView, root_head}
use Rattle.metadata_table.specs.declared.root.format.RootFormat.{RootFormat}
use Rattle.metadata_table.specs.declared.root.format.RootFormat.TheVariants.{One, Two}

infixl 10 ◌>>=◌
abbrev pub ◌>>=◌ : {A B : Type 0} → Option A → (A → Option B) → Option B
(Some x) >>= f = f x
None >>= f = None

-- A function's result, seen through `view`, is the specified reading, unless memory ran out.
abbrev pub Fails : {Y : Type 0} → ReadFault → Option Y → Type 0
Fails fault.Memory read = Unit {0}
Fails fault.Malformed read = read ≡ None

abbrev pub GivesRead : {X Y : Type 0} → (X → Y) → Result X ReadFault → Option Y → Type 0
GivesRead view (Ok x) read = read ≡ Some (view x)
GivesRead view (Err e) read = Fails e read

-- the root and the lengths of a draft
abbrev pub draft_of : Draft → RootView
draft_of draft =
    record {
      top = draft.top;
      floor = draft.floor;
      next_name = draft.next_name;
      places = views draft.places.items;
    }

abbrev pub drafted : Draft → RootFormat × (RootView × List ℕ)
drafted draft = (draft.format, (draft_of draft, draft.lengths.items))

-- the format of a head; an unknown head counts as format 1, and is refused later because it is not that format's head
abbrev pub format_of : ℕ → RootFormat
format_of head = if nat_eq head (from_be_bytes w64 (root_head Two)) then Two else One

-- how many numbers each file has: its name and, in format 2, its length
abbrev pub numbers_each : RootFormat → ℕ
numbers_each One = 1
numbers_each Two = 2

-- the names, and the lengths, among such numbers
abbrev pub every_second : List ℕ → List ℕ
every_second [] = []
every_second (n ∷ []) = n ∷ []
every_second (n ∷ m ∷ ns) = n ∷ every_second ns

abbrev pub names_in : RootFormat → List ℕ → List ℕ
names_in One ns = ns
names_in Two ns = every_second ns

abbrev pub lengths_in : RootFormat → List ℕ → List ℕ
lengths_in One ns = []
lengths_in Two ns = every_second (drop 1 ns)

-- A field is a value and the bytes after it.
abbrev pub number_at : Width → List ℕ → Option (ℕ × List ℕ)
number_at w bytes =
    if nat_lt (length bytes) (byte_len w)
    then None else Some (from_be_bytes w (take (byte_len w) bytes), drop (byte_len w) bytes)

abbrev pub byte_at : List ℕ → Option (ℕ × List ℕ)
byte_at [] = None
byte_at (byte ∷ rest) = Some (byte, rest)

unfoldable pub field_at : List ℕ → Option (List ℕ × List ℕ)
field_at bytes = do
  n ← number_at w32 bytes
  if nat_lt (length n.1) n.0 then None else Some (take n.0 n.1, drop n.0 n.1)

unfoldable pub row_at : List ℕ → Option (List ℕ × List ℕ)
row_at bytes = do
  row ← field_at bytes
  if nat_lt (length row.0) 1 then None else (if nat_lt 4000 (length row.0) then None else Some row)

unfoldable pub end_at : List ℕ → Option (Option (List ℕ) × List ℕ)
end_at [] = None
end_at (zero ∷ rest) = do
  row ← row_at rest
  Some (Some row.0, row.1)
end_at (suc zero ∷ rest) = Some (None, rest)
end_at (suc (suc kind) ∷ rest) = None

-- count items in order
unfoldable pub each_at : {X : Type 0} → (List ℕ → Option (X × List ℕ)) → ℕ → List ℕ
    → Option (List X × List ℕ)
each_at read zero bytes = Some ([], bytes)
each_at read (suc n) bytes = do
  first ← read bytes
  others ← each_at read n first.1
  Some (first.0 ∷ others.0, others.1)

abbrev pub numbers_at : ℕ → List ℕ → Option (List ℕ × List ℕ)
numbers_at count bytes = each_at (number_at w64) count bytes

-- count files: their names, and their lengths
unfoldable pub files_at : RootFormat → ℕ → List ℕ → Option ((List ℕ × List ℕ) × List ℕ)
files_at format count bytes = do
  numbers ← numbers_at (count * numbers_each format) bytes
  Some ((names_in format numbers.0, lengths_in format numbers.0), numbers.1)

unfoldable pub place_at : RootFormat → List ℕ → Option ((PlaceView × List ℕ) × List ℕ)
place_at format bytes = do
  tablet ← number_at w32 bytes
  end ← end_at tablet.1
  server ← byte_at end.1
  count ← number_at w32 server.1
  files ← files_at format count.0 count.1
  Some (
    (record { tablet = tablet.0; end = end.0; server = server.0; files = files.0.0 }, files.0.1),
    files.1,
  )

abbrev pub each_place_at : RootFormat → ℕ → List ℕ → Option (List (PlaceView × List ℕ) × List ℕ)
each_place_at format count bytes = each_at (place_at format) count bytes

-- the places, and the lengths of their files
abbrev pub placed : List (PlaceView × List ℕ) → List PlaceView × List ℕ
placed ps = (map (λ p. p.0) ps, flat_map (λ p. p.1) ps)

unfoldable pub places_at : RootFormat → ℕ → List ℕ → Option ((List PlaceView × List ℕ) × List ℕ)
places_at format count bytes = do
  places ← each_place_at format count bytes
  Some (placed places.0, places.1)

unfoldable pub root_at : List ℕ → Option (RootFormat × (RootView × List ℕ))
root_at bytes = do
  head ← number_at w64 bytes
  top ← number_at w64 head.1
  floor ← number_at w64 top.1
  next_name ← number_at w64 floor.1
  next_tablet ← number_at w32 next_name.1
  count ← number_at w32 next_tablet.1
  places ← places_at (format_of head.0) count.0 count.1
  Some (
    format_of head.0,
    (
      record {
        top = top.0;
        floor = floor.0;
        next_name = next_name.0;
        places = places.0.0;
      },
      places.0.1,
    ),
  )
