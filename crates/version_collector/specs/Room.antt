-- The edits of visits, and the room in memory that they take.
use Rattle.std.specs.Prelude.{◌≡◌, ◌⊎◌, ◌≤◌, ℕ, ◌*◌, List, ◌++◌, length}
use Rattle.cell_key.specs.declared.edits.Edit.{Edit}
use Rattle.cell_key.specs.declared.edits.Edit.TheVariants.{Erase}
use Rattle.cell_key.specs.declared.keys.Qualifier.TheVariants.{Data, Write}
use Rattle.si_model.specs.Sets.{◌∈◌}
use Rattle.si_model.specs.ShowsCells.{key_of}
use Rattle.si_model.specs.declared.replies.Cell.{Cell}

-- a record or data of a cell is erased
abbrev pub ErasesVersion : Edit → Type 0
ErasesVersion edit =
    (x : Cell) × (s : ℕ) × ((edit ≡ Erase (key_of x Write s)) ⊎ (edit ≡ Erase (key_of x Data s)))

-- the edits of at most n visits: each erases a version, and a visit makes at most 256
pub record AreOfVisits (n : ℕ) (edits : List Edit) : Type 0 where
  pub few : length edits ≤ 256 * n
  pub each : (edit : Edit) → edit ∈ edits → ErasesVersion edit

abbrev pub AreOfVisitsIn : ℕ → List ℕ → List Edit → Type 0
AreOfVisitsIn n row edits = AreOfVisits n edits

-- edits that exceed a limit now would have exceeded it before, after edits of at most n visits
abbrev pub TakesRoomOfVisits : {R : Type 0} → (R → List ℕ → List Edit → Type 0) → ℕ → R → R → Type 0
TakesRoomOfVisits overfills n old new = (row : List ℕ) (later : List Edit) → overfills new row later
    → (earlier : List Edit) × AreOfVisits n earlier × overfills old row (earlier ++ later)
