-- The finds of a second pass in a cell: old records, data that no record names, or the record of a deletion.
use Rattle.std.specs.Prelude.{◌≡◌, ◌≢◌, ◌⊎◌, ⊤, ℕ, ◌+◌, ◌-◌, ◌<◌, ◌≤◌, ◌^◌, List, [], ◌∷◌, length, map, Option, Some, None, slice_get}
use Rattle.cell_key.specs.Cells.{Cells, IsNewest}
use Rattle.cell_key.specs.declared.keys.Qualifier.{Qualifier}
use Rattle.cell_key.specs.declared.keys.Qualifier.TheVariants.{Data, Write}
use Rattle.cell_key.specs.Columns.{NamesStart, record_text}
use Rattle.cell_key.specs.declared.columns.WriteKind.TheVariants as write
use Rattle.rows.specs.Oldest.{IsOldest}
use Rattle.si_model.specs.Collection.{IsNamed, IsOld, IsOldestDeletion}
use Rattle.si_model.specs.Machine.{State}
use Rattle.si_model.specs.Sets.{◌∈◌}
use Rattle.si_model.specs.Servers.{IsReachedByServers}
use Rattle.si_model.specs.ShowsCells.{IsThere, ShowsCells, at, key_of}
use Rattle.si_model.specs.declared.replies.Cell.{Cell}
use Rattle.version_collector.specs.declared.versions.NearStarts.{NearStarts}
use Rattle.version_collector.specs.declared.versions.TidyFrom.{TidyFrom}

-- the cells show a reached state
abbrev pub AreShown : Cells → Type 0
AreShown cells = (st : State) × IsReachedByServers st × ShowsCells cells st

-- the n greatest numbers with a property, in descending order; all of them, if there are fewer
pub record AreGreatest (n : ℕ) (IsSo : ℕ → Type 0) (found : List ℕ) : Type 0 where
  pub falling : (i j a b : ℕ) → i < j → slice_get found i ≡ Some a → slice_get found j ≡ Some b
      → b < a
  pub each : (s : ℕ) → s ∈ found → IsSo s
  pub few : length found ≤ n
  pub rest : (s : ℕ) → IsSo s → (s ∈ found) ⊎ ((length found ≡ n) × ((t : ℕ) → t ∈ found → s < t))

-- the newest record of x at or below the floor has the stamp w
pub record IsLastRecord (cells : Cells) (x : Cell) (floor w : ℕ) : Type 0 where
  pub there : IsThere cells x Write w
  pub low : w ≤ floor
  pub last : (c : ℕ) → c ≤ floor → IsThere cells x Write c → c ≤ w

-- the stamp of the newest record at or below the floor if it is a deletion's, otherwise None
abbrev pub IsLastDeletion : Cells → Cell → ℕ → Option ℕ → Type 0
IsLastDeletion cells x floor None =
    (w t : ℕ) → IsLastRecord cells x floor w → at cells x Write w ≢ Some (record_text t write.Delete)
IsLastDeletion cells x floor (Some w) = IsLastRecord cells x floor w
    × (t : ℕ) × (at cells x Write w ≡ Some (record_text t write.Delete))

-- the newest 128 records older than the newest one at or below the floor, each with the start that it names
pub record AreOld (cells : Cells) (x : Cell) (floor : ℕ) (vs : List (ℕ × ℕ)) : Type 0 where
  pub w : ℕ
  pub kept : IsLastRecord cells x floor w
  pub stamps : AreGreatest 128 (λ c. IsThere cells x Write c × (c < w)) (map (λ v. v.0) vs)
  pub named : (v : ℕ × ℕ) → v ∈ vs → IsOld cells x w v

-- the version of x's column with the greatest stamp below this one, if there is one
abbrev pub IsLatestBelow : Cells → Cell → Qualifier → ℕ → Option (ℕ × List ℕ) → Type 0
IsLatestBelow cells x q below None = (s : ℕ) → s < below → at cells x q s ≡ None
IsLatestBelow cells x q below (Some found) =
    (found.0 < below) × (at cells x q found.0 ≡ Some found.1)
    × ((s : ℕ) → found.0 < s → s < below → at cells x q s ≡ None)

-- x has at most one record at or below the floor
abbrev pub HasOneRecord : Cells → Cell → ℕ → Type 0
HasOneRecord cells x floor =
    (c d : ℕ) → c ≤ floor → d ≤ floor → IsThere cells x Write c → IsThere cells x Write d → c ≡ d

-- the result of a search for old records: old ones, or none if there is at most one at or below the floor
abbrev pub AreFound : Cells → Cell → ℕ → List (ℕ × ℕ) → Type 0
AreFound cells x floor [] = HasOneRecord cells x floor
AreFound cells x floor (v ∷ vs) = AreOld cells x floor (v ∷ vs)

-- the start is one of the two
abbrev pub IsAmong : ℕ → NearStarts → Type 0
IsAmong t near = (near.last ≡ Some t) ⊎ (near.next ≡ Some t)

-- the start that a record names; None if there is no record
abbrev pub IsNamedBy : Option (ℕ × List ℕ) → Option ℕ → Type 0
IsNamedBy None None = ⊤
IsNamedBy (Some found) (Some t) = NamesStart found.1 t
IsNamedBy found start = ⊥

-- a record that names no start within the limits of stamps
abbrev pub NamesNone : Option (ℕ × List ℕ) → Type 0
NamesNone None = ⊥
NamesNone (Some found) = (t : ℕ) → 1 ≤ t → t < 2 ^ 63 → ¬ NamesStart found.1 t

-- the start named by the newest record at or below the floor
abbrev pub NamesLast : Cells → Cell → ℕ → Option ℕ → Type 0
NamesLast cells x floor start =
    (last : Option (ℕ × List ℕ)) × IsNewest cells (key_of x Write) 0 floor last
    × IsNamedBy last start

-- the start named by the oldest record above the floor
abbrev pub NamesNext : Cells → Cell → ℕ → Option ℕ → Type 0
NamesNext cells x floor start =
    (next : Option (ℕ × List ℕ)) × IsOldest cells (key_of x Write) (floor + 1) (2 ^ 64 - 1) next
    × IsNamedBy next start

-- the starts named by the records nearest to the floor
pub record AreNear (cells : Cells) (x : Cell) (floor : ℕ) (near : NearStarts) : Type 0 where
  pub last : NamesLast cells x floor near.last
  pub next : NamesNext cells x floor near.next

-- data below the floor that no record names
abbrev pub IsUnnamed : Cells → Cell → ℕ → ℕ → Type 0
IsUnnamed cells x floor t = (t < floor) × IsThere cells x Data t × (¬ IsNamed cells x t)

-- x has at most one record at or below the floor, and these are the newest 256 data below it that no record names
pub record AreUnnamed (cells : Cells) (x : Cell) (floor : ℕ) (ts : List ℕ) : Type 0 where
  pub one : HasOneRecord cells x floor
  pub starts : AreGreatest 256 (IsUnnamed cells x floor) ts

-- no record from this stamp on is older than another one at or below the floor
abbrev pub HasNoOldFrom : Cells → Cell → ℕ → ℕ → Type 0
HasNoOldFrom cells x floor from =
    (c d : ℕ) → from ≤ c → c < d → d ≤ floor → IsThere cells x Write c → ¬ IsThere cells x Write d

-- a record names each data from this stamp on and below the floor
abbrev pub AreNamedFrom : Cells → Cell → ℕ → ℕ → Type 0
AreNamedFrom cells x floor from =
    (t : ℕ) → from ≤ t → t < floor → IsThere cells x Data t → IsNamed cells x t

-- the last of these numbers, or `other` if there are none
abbrev pub last_of : ℕ → List ℕ → ℕ
last_of other [] = other
last_of other (n ∷ ns) = last_of n ns

-- from these stamps on x has no old records, and no data that no record names
pub record IsTidyFrom (cells : Cells) (x : Cell) (floor : ℕ) (tidy : TidyFrom) : Type 0 where
  pub old : HasNoOldFrom cells x floor tidy.commit
  pub named : AreNamedFrom cells x floor tidy.start

-- A cell has no old records and no such data, and its record at or below the floor, at c, is a deletion's.
pub record IsLoneDeletion (cells : Cells) (x : Cell) (floor c : ℕ) : Type 0 where
  pub none : AreUnnamed cells x floor []
  pub low : c ≤ floor
  pub deletion : IsOldestDeletion cells x c
