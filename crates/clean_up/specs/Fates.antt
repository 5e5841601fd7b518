-- The fate of a start, from the records of its first cell.
use Rattle.std.specs.Prelude.{◌≡◌, ◌≢◌, ◌⊎◌, ℕ, ◌+◌, ◌-◌, ◌^◌, List, Option, Some}
use Rattle.cell_key.specs.Cells.{Cells}
use Rattle.cell_key.specs.declared.keys.Qualifier.TheVariants.{Write}
use Rattle.cell_key.specs.Columns.{NamesStart}
use Rattle.rows.specs.Calls.{AppliesSuch, OnlyReads, View}
use Rattle.rows.specs.Oldest.{IsOldest}
use Rattle.si_model.specs.Deciding as deciding
use Rattle.si_model.specs.Deciding.{Verdict}
use Rattle.si_model.specs.Edits.{ErasesCell}
use Rattle.si_model.specs.Reads.{IsGone}
use Rattle.si_model.specs.ShowsCells.{at, key_of}
use Rattle.si_model.specs.declared.replies.Cell.{Cell}
use Rattle.clean_up.specs.declared.fates.Fate.{Fate}
use Rattle.clean_up.specs.declared.fates.Fate.TheVariants.{Open, Forward, Back}
use Rattle.clean_up.specs.declared.locks.Lock.{Lock}

-- a fate, as the machine's cleaners store it
abbrev pub verdict_of : Fate → Verdict
verdict_of Open = deciding.NotYet
verdict_of (Forward c) = deciding.Forward c
verdict_of Back = deciding.Back

-- the first record of x above t
abbrev pub IsNextRecord : Cells → Cell → ℕ → Option (ℕ × List ℕ) → Type 0
IsNextRecord cells x t found = IsOldest cells (key_of x Write) (t + 1) (2 ^ 64 - 1) found

-- a record names a start other than t
abbrev pub NamesOther : List ℕ → ℕ → Type 0
NamesOther text t = (u : ℕ) × NamesStart text u × (u ≢ t)

-- The fate of t, from the records of its first cell: one names t, or the first one above t, if there is one, names
-- another start.
abbrev pub IsToldBy : Cells → Cell → ℕ → Fate → Type 0
IsToldBy cells x t Open = ⊥
IsToldBy cells x t (Forward c) = (b : List ℕ) × (at cells x Write c ≡ Some b) × NamesStart b t
IsToldBy cells x t Back =
    (next : Option (ℕ × List ℕ)) × IsNextRecord cells x t next
    × ((c : ℕ) (b : List ℕ) → next ≡ Some (c, b) → NamesOther b t)

-- a record of x names no start
abbrev pub HasBadRecord : Cells → Cell → Type 0
HasBadRecord cells x =
    (c : ℕ) × (b : List ℕ) × (at cells x Write c ≡ Some b) × ((t : ℕ) → ¬ NamesStart b t)

-- The lock was at its start's first cell and was erased: the start is rolled back. Or it is gone there, and the records
-- tell the start's fate.
abbrev pub Decides : {R : Type 0} → View R → Lock → Fate → R → R → Type 0
Decides seen lock fate old new =
    (AppliesSuch seen
    (ErasesCell (seen.holds old) (seen.cells old) lock.first lock.start) old new × (fate ≡ Back))
    ⊎ (OnlyReads seen old new
    × (seen.holds old → IsGone (seen.cells old) lock.first lock.start
    × IsToldBy (seen.cells old) lock.first lock.start fate))
