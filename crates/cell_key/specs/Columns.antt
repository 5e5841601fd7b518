-- The values of the lock and write columns, byte for byte.
use Rattle.std.specs.Prelude.{◌≡◌, ◌⊎◌, ℕ, List, [], ◌∷◌, ◌++◌, length, slice_get, Some}
use Rattle.byteorder.specs.Endian.{big_bytes, big_number}
use Rattle.cell_key.specs.Texts.{place_text}
use Rattle.cell_key.specs.declared.columns.WriteKind.{WriteKind}
use Rattle.cell_key.specs.declared.columns.WriteKind.TheVariants as write

-- the byte of a kind: S or D
abbrev pub kind_byte : WriteKind → ℕ
kind_byte write.Set = 0x53
kind_byte write.Delete = 0x44

-- A text ends with the byte of a kind. In an older form it has no such byte and means a set.
abbrev pub HasKind : List ℕ → WriteKind → List ℕ → Type 0
HasKind before kind text =
    (text ≡ before ++ (kind_byte kind ∷ [])) ⊎ ((kind ≡ write.Set) × (text ≡ before))

-- the value of a lock: the place of its session's first cell, and the kind of the write
abbrev pub lock_text : List ℕ → List ℕ → WriteKind → List ℕ
lock_text row family kind = place_text row family ++ (kind_byte kind ∷ [])

abbrev pub IsLockText : List ℕ → List ℕ → WriteKind → List ℕ → Type 0
IsLockText row family kind text = HasKind (place_text row family) kind text

-- A lock's value, split into its place and the kind of its write, whose byte comes last. A value that ends with no
-- kind's byte is all place and means a set.
abbrev pub IsParted : List ℕ → List ℕ → WriteKind → Type 0
IsParted text place kind =
    (text ≡ place ++ (kind_byte kind ∷ []))
    ⊎ ((text ≡ place) × (kind ≡ write.Set)
    × ((k : WriteKind) (before : List ℕ) → ¬ (text ≡ before ++ (kind_byte k ∷ []))))

-- the value of a write record: its session's start, and the kind of the write
abbrev pub start_text : ℕ → List ℕ
start_text t = big_bytes 8 t

abbrev pub record_text : ℕ → WriteKind → List ℕ
record_text t kind = start_text t ++ (kind_byte kind ∷ [])

abbrev pub IsRecordText : ℕ → WriteKind → List ℕ → Type 0
IsRecordText t kind text = HasKind (start_text t) kind text

-- a write record's value, as it is decoded, has the start t and a kind
pub record NamesWrite (text : List ℕ) (t : ℕ) (kind : WriteKind) : Type 0 where
  pub start : big_number 8 text ≡ t
  pub kind_is : ((length text ≡ 8) × (kind ≡ write.Set))
      ⊎ ((length text ≡ 9) × (slice_get text 8 ≡ Some (kind_byte kind)))

abbrev pub NamesStart : List ℕ → ℕ → Type 0
NamesStart text t = (kind : WriteKind) × NamesWrite text t kind
