-- The bytes of a file of entries, in both formats.
use Rattle.std.specs.Prelude.{◌≡◌, ℕ, ◌+◌, ◌≤◌, ◌<◌, ◌^◌, List, [], ◌∷◌, ◌++◌, length, flat_map, codes}
use Rattle.std.specs.List.{AllByRecursion}
use Rattle.std.specs.Int.{w32, w64, to_be_bytes}
use Rattle.cell_key.specs.Entries.{Entry, spelled, field, IsEntryList}
use Rattle.sorted_file.specs.declared.format.Format.{Format}
use Rattle.sorted_file.specs.declared.format.Format.TheVariants.{One, Two}

-- ---- the differences between the formats

abbrev pub head : Format → List ℕ
head One = codes "TABLET01"
head Two = codes "TABLET02"

-- a number of an index or foot: its length, its bytes, and the bound that it is below
abbrev pub number_len : Format → ℕ
number_len One = 4
number_len Two = 8

abbrev pub number_bytes : Format → ℕ → List ℕ
number_bytes One n = to_be_bytes w32 n
number_bytes Two n = to_be_bytes w64 n

abbrev pub most : Format → ℕ
most One = 2 ^ 32
most Two = 2 ^ 64

-- the length of a foot in bytes
abbrev pub foot_len : Format → ℕ
foot_len One = 24
foot_len Two = 40

-- ---- common to both formats

-- the bytes of a block: its entries, one after the other
abbrev pub block_bytes : List Entry → List ℕ
block_bytes es = flat_map spelled es

-- a block has at most 4,096 bytes, or one entry
abbrev pub Fits : List Entry → Type 0
Fits [] = ⊥
Fits (e ∷ []) = Unit {0}
Fits (e ∷ f ∷ es) = length (block_bytes (e ∷ f ∷ es)) ≤ 4096

-- with the first entry of the next block it would be longer
abbrev pub IsFullBlock : List Entry → List (List Entry) → Type 0
IsFullBlock es [] = Unit {0}
IsFullBlock es ([] ∷ blocks) = ⊥
IsFullBlock es ((e ∷ next) ∷ blocks) = 4096 < length (block_bytes es) + length (spelled e)

-- the blocks of a file
abbrev pub AreBlocks : List (List Entry) → Type 0
AreBlocks [] = Unit {0}
AreBlocks (es ∷ blocks) = Fits es × IsFullBlock es blocks × AreBlocks blocks

-- the row of a block at this offset: the offset, the block's length and its first key
abbrev pub row : Format → ℕ → List Entry → List ℕ
row format at [] = []
row format at (e ∷ es) =
    number_bytes format at
    ++ (number_bytes format (length (block_bytes (e ∷ es))) ++ field e.0)

-- a row for each block; the first block is at this offset
abbrev pub index : Format → ℕ → List (List Entry) → List ℕ
index format at [] = []
index format at (es ∷ blocks) =
    row format at es ++ index format (at + length (block_bytes es)) blocks

abbrev pub body : List (List Entry) → List ℕ
body blocks = flat_map block_bytes blocks

-- the offset of the index, the numbers of blocks and entries, and the file's size
abbrev pub foot : Format → ℕ → ℕ → ℕ → ℕ → List ℕ
foot format index_at blocks entries size =
    number_bytes format index_at ++ (number_bytes format blocks
    ++ (number_bytes format entries ++ (number_bytes format size ++ codes "TABLETZZ")))

-- head, blocks, index and foot
abbrev pub image_of : Format → List (List Entry) → ℕ → List ℕ
image_of format blocks entries =
    let rows = index format 8 blocks in
    head format ++ (body blocks ++ (rows ++ foot format (8 + length (body blocks))
    (length blocks) entries (8 + foot_len format + length (body blocks) + length rows)))

-- the length of an entry fits into four bytes
abbrev pub IsShortEntry : Entry → Type 0
IsShortEntry e = length (spelled e) < 2 ^ 32

-- the bytes are these entries' file, in this format
pub record IsFile (format : Format) (entries : List Entry) (image : List ℕ) : Type 0 where
  pub blocks : List (List Entry)
  pub grammar : AreBlocks blocks
  pub short : AllByRecursion IsShortEntry entries
  pub whole : flat_map (λ es. es) blocks ≡ entries
  pub bytes : image ≡ image_of format blocks (length entries)
  pub small : length image < most format

-- a list of entries has at most one image in each format
abbrev pub OneImage : Type 0
OneImage =
    (format : Format) (entries : List Entry) (x y : List ℕ) → IsFile format entries x
    → IsFile format entries y → x ≡ y

-- an image is the image of one list of entries only, in one format only
abbrev pub OneList : Type 0
OneList =
    (f g : Format) (es fs : List Entry) (image : List ℕ) → IsFile f es image → IsFile g fs image
    → (f ≡ g) × (es ≡ fs)

-- the file of these entries in format 2 has at most this many bytes
pub record FitsIn (limit : ℕ) (entries : List Entry) : Type 0 where
  pub image : List ℕ
  pub form : IsFile Two entries image
  pub within : length image ≤ limit

-- the bytes are no entry list's file in any format
abbrev pub IsNoFile : List ℕ → Type 0
IsNoFile image = (format : Format) (es : List Entry) → IsEntryList es → ¬ IsFile format es image
