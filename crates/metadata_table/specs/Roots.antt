-- The bytes of a root, in both formats. Numbers are big-endian.
use Rattle.std.specs.Prelude.{◌≡◌, ◌≢◌, ◌≤◌, ◌<◌, ◌+◌, ◌^◌, ℕ, List, [], ◌∷◌, ◌++◌, length, take, drop, flat_map, codes, Option, Some, None, IfSome, AllPairs}
use Rattle.std.specs.List.{AllByRecursion}
use Rattle.std.specs.Int.{w32, w64, to_be_bytes}
use Rattle.cell_key.specs.Entries.{field}
use Rattle.cell_key.specs.Names.{IsRow}
use Rattle.metadata_table.specs.Places.{PlaceView}
use Rattle.metadata_table.specs.Table.{IsTable}
use Rattle.metadata_table.specs.declared.root.Root.{Root}
use Rattle.metadata_table.specs.declared.root.format.RootFormat.{RootFormat}
use Rattle.metadata_table.specs.declared.root.format.RootFormat.TheVariants.{One, Two}

-- the content of a root without the lengths of files: two stamps, the next file's name, and the places of all tablets
pub record RootView : Type 0 where
  pub top : ℕ
  pub floor : ℕ
  pub next_name : ℕ
  pub places : List PlaceView

abbrev pub root_of : Root → RootView
root_of root =
    record { top = root.top; floor = root.floor; next_name = root.next_name; places = root.table }

-- the files' lengths, in the order in which the places name the files
abbrev pub lengths_of : Root → List ℕ
lengths_of root = root.lengths.items

-- the names of all files, in the order in which the places name them
abbrev pub file_names : List PlaceView → List ℕ
file_names ps = flat_map (λ p. p.files) ps

-- ---- valid roots

-- at most 64 files, each once, with names from 1 on and below the next name
pub record AreFiles (next_name : ℕ) (names : List ℕ) : Type 0 where
  pub few : length names ≤ 64
  pub distinct : AllPairs (λ m n. m ≢ n) names
  pub named : AllByRecursion (λ name. (1 ≤ name) × (name < next_name)) names

-- the next file's name is from 1 to 2 ^ 63, and all files' names are below it
pub record IsNaming (next_name : ℕ) (ps : List PlaceView) : Type 0 where
  pub from : 1 ≤ next_name
  pub to : next_name ≤ 2 ^ 63
  pub files : AllByRecursion (λ p. AreFiles next_name p.files) ps

-- each end except the infinite one is a row
abbrev pub AreEnds : List PlaceView → Type 0
AreEnds ps = AllByRecursion (λ p. IfSome p.end IsRow) ps

pub record IsSoundRoot (root : RootView) : Type 0 where
  pub top : root.top < 2 ^ 64
  pub floor : root.floor < 2 ^ 64
  pub table : IsTable root.places
  pub ends : AreEnds root.places
  pub naming : IsNaming root.next_name root.places

-- format 1 has no lengths, format 2 has one for each file
abbrev pub HasLengths : RootFormat → List PlaceView → List ℕ → Type 0
HasLengths One ps lengths = lengths ≡ []
HasLengths Two ps lengths = length lengths ≡ length (file_names ps)

-- ---- encoding

-- 0 and the row, or 1 for the infinite end
abbrev pub end_bytes : Option (List ℕ) → List ℕ
end_bytes (Some row) = 0 ∷ field row
end_bytes None = 1 ∷ []

-- each name, followed by its length as far as there are lengths
abbrev pub numbers_of : List ℕ → List ℕ → List ℕ
numbers_of [] lengths = []
numbers_of (name ∷ names) [] = name ∷ numbers_of names []
numbers_of (name ∷ names) (n ∷ lengths) = name ∷ n ∷ numbers_of names lengths

-- the number of files, and each file, the newest first
abbrev pub files_bytes : List ℕ → List ℕ → List ℕ
files_bytes names lengths =
    to_be_bytes w32 (length names) ++ flat_map (to_be_bytes w64) (numbers_of names lengths)

-- the tablet's number, its end, its server and its files
abbrev pub place_bytes : PlaceView × List ℕ → List ℕ
place_bytes p =
    to_be_bytes w32 p.0.tablet
    ++ (end_bytes p.0.end ++ (p.0.server ∷ files_bytes p.0.files p.1))

-- each place with the lengths of its files
abbrev pub with_lengths : List PlaceView → List ℕ → List (PlaceView × List ℕ)
with_lengths [] lengths = []
with_lengths (p ∷ ps) lengths =
    (p, take (length p.files) lengths) ∷ with_lengths ps (drop (length p.files) lengths)

-- the next tablet's number, the number of tablets, and the place of each
abbrev pub places_bytes : List PlaceView → List ℕ → List ℕ
places_bytes ps lengths =
    to_be_bytes w32 (length ps + 1)
    ++ (to_be_bytes w32 (length ps) ++ flat_map place_bytes (with_lengths ps lengths))

abbrev pub root_head : RootFormat → List ℕ
root_head One = codes "TABROOT1"
root_head Two = codes "TABROOT2"

-- head, stamps, the next file's name, places and foot
abbrev pub root_bytes : RootFormat → RootView → List ℕ → List ℕ
root_bytes format root lengths =
    root_head format ++ (to_be_bytes w64 root.top ++ (to_be_bytes w64 root.floor
    ++ (to_be_bytes w64 root.next_name
    ++ (places_bytes root.places lengths ++ codes "TABROOTZ"))))

-- the bytes are this root in this format, with these lengths
pub record IsRootIn
    (format : RootFormat) (root : RootView) (lengths bytes : List ℕ) : Type 0 where
  pub sound : IsSoundRoot root
  pub measured : HasLengths format root.places lengths
  pub fit : AllByRecursion (λ n. n < 2 ^ 64) lengths
  pub whole : bytes ≡ root_bytes format root lengths

-- the bytes are this root, with these lengths
pub record IsRootWith (root : RootView) (lengths bytes : List ℕ) : Type 0 where
  pub format : RootFormat
  pub form : IsRootIn format root lengths bytes

-- the bytes are this root
pub record IsRoot (root : RootView) (bytes : List ℕ) : Type 0 where
  pub lengths : List ℕ
  pub measured : IsRootWith root lengths bytes

-- the bytes are not a root
abbrev pub IsNoRoot : List ℕ → Type 0
IsNoRoot bytes = (root : RootView) → ¬ IsRoot root bytes

-- bytes are the root of at most one table and one set of numbers
abbrev pub OneRoot : Type 0
OneRoot = (a b : RootView) (bytes : List ℕ) → IsRoot a bytes → IsRoot b bytes → a ≡ b

-- and have at most one list of lengths
abbrev pub OneMeasure : Type 0
OneMeasure =
    (a b : RootView) (m n bytes : List ℕ) → IsRootWith a m bytes → IsRootWith b n bytes → m ≡ n
