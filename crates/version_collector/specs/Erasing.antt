-- The edits by which a second pass erases versions of a cell.
use Rattle.std.specs.Prelude.{◌≡◌, ◌≢◌, ◌≤◌, ◌⊎◌, ℕ, List, [], ◌∷◌, length, Option, Some, None}
use Rattle.cell_key.specs.Cells.{Cells}
use Rattle.cell_key.specs.declared.edits.Edit.{Edit}
use Rattle.cell_key.specs.declared.edits.Edit.TheVariants.{Erase}
use Rattle.cell_key.specs.declared.keys.Qualifier.TheVariants.{Data, Write}
use Rattle.si_model.specs.Collection.{IsTidy}
use Rattle.si_model.specs.ShowsCells.{key_of}
use Rattle.si_model.specs.declared.replies.Cell.{Cell}
use Rattle.rows.specs.Calls.{View}
use Rattle.version_collector.specs.Versions.{AreOld, AreShown, AreUnnamed, IsLoneDeletion, IsTidyFrom}
use Rattle.version_collector.specs.declared.versions.TidyFrom.{TidyFrom}

-- each record is erased with the data that it names
abbrev pub record_erasures : Cell → List (ℕ × ℕ) → List Edit
record_erasures x [] = []
record_erasures x (v ∷ vs) =
    Erase (key_of x Write v.0) ∷ Erase (key_of x Data v.1) ∷ record_erasures x vs

abbrev pub data_erasures : Cell → List ℕ → List Edit
data_erasures x [] = []
data_erasures x (t ∷ ts) = Erase (key_of x Data t) ∷ data_erasures x ts

abbrev pub deletion_erasures : Cell → Option ℕ → List Edit
deletion_erasures x None = []
deletion_erasures x (Some c) = Erase (key_of x Write c) ∷ []

-- The edits erase records, each with the data that it names. If the row is readable and the cells show a reached state,
-- these are the old records.
pub record ErasesRecords (Readable : Type 0) (cells : Cells) (x : Cell) (floor : ℕ) (edits : List Edit)
    : Type 0 where
  pub vs : List (ℕ × ℕ)
  pub are : edits ≡ record_erasures x vs
  pub some : vs ≢ []
  pub few : length vs ≤ 128
  pub old : Readable → AreShown cells → AreOld cells x floor vs

-- The edits erase data. If the row is readable and the cells show a reached state, no record names this data, and there
-- are no old records.
pub record ErasesData (Readable : Type 0) (cells : Cells) (x : Cell) (floor : ℕ) (edits : List Edit)
    : Type 0 where
  pub ts : List ℕ
  pub are : edits ≡ data_erasures x ts
  pub some : ts ≢ []
  pub few : length ts ≤ 256
  pub unnamed : Readable → AreShown cells → AreUnnamed cells x floor ts

-- The edit erases one record. If the row is readable and the cells show a reached state, it is a deletion's record, and
-- nothing else of the cell is to be erased.
pub record ErasesDeletion (Readable : Type 0) (cells : Cells) (x : Cell) (floor : ℕ)
    (edits : List Edit) : Type 0 where
  pub c : ℕ
  pub are : edits ≡ deletion_erasures x (Some c)
  pub lone : Readable → AreShown cells → IsLoneDeletion cells x floor c

-- the row of x is readable, and x is tidy from these stamps on
abbrev pub IsKnown : {R : Type 0} → View R → R → Cell → ℕ → TidyFrom → Type 0
IsKnown seen rows x floor tidy =
    seen.readable rows x.row × IsTidyFrom (seen.cells rows) x floor tidy

-- the edits erase something of the cell
abbrev pub Erases : Type 0 → Cells → Cell → ℕ → List Edit → Type 0
Erases Readable cells x floor edits = ErasesRecords Readable cells x floor edits
    ⊎ (ErasesData Readable cells x floor edits ⊎ ErasesDeletion Readable cells x floor edits)

-- the row and these edits
abbrev pub CollectsCell : Type 0 → Cells → Cell → ℕ → List ℕ → List Edit → Type 0
CollectsCell Readable cells x floor row edits = (row ≡ x.row) × Erases Readable cells x floor edits

-- the edits erase something, or there are none: in that case, if the row is readable and the cells show a reached
-- state, the cell is tidy
abbrev pub ErasesOrIsTidy : Type 0 → Cells → Cell → ℕ → List Edit → Type 0
ErasesOrIsTidy Readable cells x floor [] = Readable → AreShown cells → IsTidy cells x floor
ErasesOrIsTidy Readable cells x floor (edit ∷ edits) = Erases Readable cells x floor (edit ∷ edits)
