-- The records of a log: each has a kind, a stamp and a body. The stamp of a record of edits is a mark: no
-- later stamp had been answered when it was written.
use Rattle.std.specs.Prelude.{◌≡◌, ◌≤◌, ◌<◌, ◌^◌, ◌⊎◌, ℕ, List, [], ◌∷◌, ◌++◌}
use Rattle.std.specs.List.{AllByRecursion}
use Rattle.std.specs.Int.{to_be_bytes, w32, w64}
use Rattle.commit_log.specs.declared.records.RecordKind.{RecordKind}
use Rattle.commit_log.specs.declared.records.RecordKind.TheVariants.{Edits, Root, AnyRoot, Entries}

-- a number in eight bytes
unfoldable pub spelled_number : ℕ → List ℕ
spelled_number number = to_be_bytes w64 number

abbrev pub kind_byte : RecordKind → ℕ
kind_byte Entries = 0
kind_byte Root = 1
kind_byte AnyRoot = 2
kind_byte Edits = 3

abbrev pub spelled_record : RecordKind → ℕ → List ℕ → List ℕ
spelled_record kind stamp body = kind_byte kind ∷ (spelled_number stamp ++ body)

-- the record that names a root by its greatest stamp and its checksum
abbrev pub root_record : ℕ → ℕ → List ℕ
root_record top sum = spelled_record Root top (to_be_bytes w32 sum)

-- the record that says that the log is over any root
abbrev pub any_root : List ℕ
any_root = spelled_record AnyRoot 0 []

abbrev pub HasRecord : List (List ℕ) → List ℕ → Type 0
HasRecord records one = (first then : List (List ℕ)) × (records ≡ first ++ one ∷ then)

-- A log of these records is over the root with this greatest stamp and checksum.
abbrev pub NamesRoot : List (List ℕ) → ℕ → ℕ → Type 0
NamesRoot records top sum =
    HasRecord records (root_record top sum) ⊎ HasRecord records any_root

-- a record has this stamp
abbrev pub HasStamp : List ℕ → ℕ → Type 0
HasStamp one stamp =
    (kind : RecordKind) × (body : List ℕ) × (stamp < 2 ^ 64)
    × (one ≡ spelled_record kind stamp body)

-- a record's stamp is at most the mark
abbrev pub IsUpTo : ℕ → List ℕ → Type 0
IsUpTo mark one = (stamp : ℕ) → HasStamp one stamp → stamp ≤ mark

abbrev pub AreUpTo : ℕ → List (List ℕ) → Type 0
AreUpTo mark records = AllByRecursion (IsUpTo mark) records

-- a record of them has a stamp of at least this one
abbrev pub ReachesStamp : List (List ℕ) → ℕ → Type 0
ReachesStamp records top =
    (one : List ℕ) × (stamp : ℕ) × HasRecord records one × HasStamp one stamp × (top ≤ stamp)

-- The greatest of a mark and of the records' stamps.
pub record IsGreatest (mark : ℕ) (records : List (List ℕ)) (greatest : ℕ) : Type 0 where
  pub above : mark ≤ greatest
  pub up_to : AreUpTo greatest records
  pub reached : (greatest ≤ mark) ⊎ ReachesStamp records greatest

-- The effect of further records on the root that a log names, and on its stamps.
pub record NamesRoots : Type 0 where
  pub stays : (records : List (List ℕ)) (one : List ℕ) (top sum : ℕ)
      → NamesRoot records top sum → NamesRoot (records ++ one ∷ []) top sum
  pub more : (records : List (List ℕ)) (top sum : ℕ)
      → NamesRoot (records ++ root_record top sum ∷ []) top sum
  pub any : (records : List (List ℕ)) (top sum : ℕ) → NamesRoot (records ++ any_root ∷ []) top sum
  pub up_to : (records : List (List ℕ)) (kind : RecordKind) (stamp mark : ℕ) (body : List ℕ)
      → AreUpTo mark records → stamp ≤ mark
      → AreUpTo mark (records ++ spelled_record kind stamp body ∷ [])
  pub higher : (records : List (List ℕ)) (low high : ℕ) → low ≤ high → AreUpTo low records
      → AreUpTo high records
  pub kept : (records : List (List ℕ)) (one : List ℕ) (top : ℕ)
      → ReachesStamp records top → ReachesStamp (records ++ one ∷ []) top
  pub reached : (records : List (List ℕ)) (kind : RecordKind) (stamp : ℕ) (body : List ℕ)
      → stamp < 2 ^ 64 → ReachesStamp (records ++ spelled_record kind stamp body ∷ []) stamp
  pub lower : (records : List (List ℕ)) (low high : ℕ) → low ≤ high → ReachesStamp records high
      → ReachesStamp records low
  pub within : (records : List (List ℕ)) (top mark : ℕ) → AreUpTo mark records
      → ReachesStamp records top → top ≤ mark
