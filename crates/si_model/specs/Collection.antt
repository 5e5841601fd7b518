-- A collection of old versions: its effect, a collector's progress, and its remaining work.
use Rattle.std.specs.Prelude.{◌≡◌, ◌≢◌, ℕ, ◌+◌, ◌<◌, ◌≤◌, ◌^◌, ◌⊎◌, Bool, true, List, [], ◌∷◌, Option, Some, None, IsSome, map}
use Rattle.std.specs.Ordering.{is_lt}
use Rattle.std.specs.FinMap.{FinMap, get, remove, entries, from_entries, retain_keys, len}
use Rattle.cell_key.specs.Cells.{Cells}
use Rattle.cell_key.specs.Places.{Place, place_of, place_cmp, IsAfter, IsNextCell, HasCell}
use Rattle.cell_key.specs.declared.keys.CellKey.{CellKey}
use Rattle.cell_key.specs.declared.keys.Qualifier.TheVariants.{Data, Lock, Write}
use Rattle.cell_key.specs.Columns.{record_text}
use Rattle.cell_key.specs.declared.columns.WriteKind.{WriteKind}
use Rattle.cell_key.specs.declared.columns.WriteKind.TheVariants as write
pub use Rattle.si_model.specs.Scans.{place_at}
use Rattle.si_model.specs.Sets.{◌∈◌}
use Rattle.si_model.specs.Machine.{Request, Reply, Step}
use Rattle.si_model.specs.State.{State, Phase, Stamped, Change, Commit, InPhase, Names, Marked, CommittedAt}
use Rattle.si_model.specs.declared.replies.Cell.{Cell}
use Rattle.si_model.specs.ShowsCells.{at, key_of, IsThere, MayLack, NamesAt, ShowsCells, held_cells, recorded_cells, erased_cells}

-- a record of the cell names t
abbrev pub IsNamed : Cells → Cell → ℕ → Type 0
IsNamed cells x t = (c : ℕ) × NamesAt cells x c t

-- of a cell's records, only the first above a start can name that start
abbrev pub NamesNearest : Cells → State → Type 0
NamesNearest cells st =
    (x : Cell) (t c d : ℕ) → t < 2 ^ 64
    → NamesAt cells x c t → t < d → IsThere cells x Write d → c ≤ d

-- ---- the effect of a collection

-- Locks are unchanged. A record is unchanged, or erased if its commit may lack it. Data is unchanged, or erased if no
-- mark and no remaining record names it; the data that a record names is erased with the record.
pub record Collects (cells cells' : Cells) (st : State) : Type 0 where
  pub locks : (x : Cell) (t : ℕ) → at cells' x Lock t ≡ at cells x Lock t
  pub records : (x : Cell) (c : ℕ) → (at cells' x Write c ≡ at cells x Write c)
      ⊎ ((at cells' x Write c ≡ None)
      × ((a : Commit) → a ∈ st.commits → Names a.writes x → a.stamp ≡ c → MayLack cells' st x a))
  pub values : (x : Cell) (t : ℕ) → (at cells' x Data t ≡ at cells x Data t)
      ⊎ ((at cells' x Data t ≡ None)
      × (¬ Marked st x t) × ((c : ℕ) → ¬ NamesAt cells' x c t))
  pub together : (x : Cell) (c t : ℕ) → IsThere cells x Data t
      → NamesAt cells x c t → at cells' x Write c ≡ None
      → at cells' x Data t ≡ None

-- cells after a collection show the same state
abbrev pub StaysShown : Cells → State → Type 0
StaysShown cells st = (cells' : Cells) → Collects cells cells' st → ShowsCells cells' st

-- no mark is below the floor
abbrev pub IsUnmarkedBelow : State → ℕ → Type 0
IsUnmarkedBelow st floor = (x : Cell) (t : ℕ) → Marked st x t → floor ≤ t

-- the cells after records of x and the data that they name were erased: each record is given by its stamp and the start
-- that it names
abbrev pub collected_cells : Cells → Cell → List (ℕ × ℕ) → Cells
collected_cells cells x [] = cells
collected_cells cells x (v ∷ vs) =
    collected_cells (remove (remove cells (key_of x Write v.0)) (key_of x Data v.1)) x vs

-- the cells after data of x was erased
abbrev pub dropped_cells : Cells → Cell → List ℕ → Cells
dropped_cells cells x [] = cells
dropped_cells cells x (t ∷ ts) = dropped_cells (remove cells (key_of x Data t)) x ts

-- a record of x older than the one at w, and the start that it names
pub record IsOld (cells : Cells) (x : Cell) (w : ℕ) (v : ℕ × ℕ) : Type 0 where
  pub there : NamesAt cells x v.0 v.1
  pub older : v.0 < w
  pub low : v.1 < 2 ^ 64

-- the cells after the record of x at c was erased
abbrev pub forgotten_cells : Cells → Cell → ℕ → Cells
forgotten_cells cells x c = remove cells (key_of x Write c)

-- the record of x at c is a deletion's, and it is the oldest
pub record IsOldestDeletion (cells : Cells) (x : Cell) (c : ℕ) : Type 0 where
  pub start : ℕ
  pub there : at cells x Write c ≡ Some (record_text start write.Delete)
  pub oldest : (d : ℕ) → d < c → at cells x Write d ≡ None

-- the versions that a collector may erase
pub record MayErase (cells : Cells) (st : State) (floor : ℕ) : Type 0 where
  -- records older than a record at or below the floor, each with the data that it names
  pub old : (x : Cell) (w : ℕ) (vs : List (ℕ × ℕ)) → IsThere cells x Write w → w ≤ floor
      → ((v : ℕ × ℕ) → v ∈ vs → IsOld cells x w v)
      → Collects cells (collected_cells cells x vs) st
  -- data below the floor that no record names
  pub unnamed : (x : Cell) (ts : List ℕ) → ((t : ℕ) → t ∈ ts → (t < floor) × (¬ IsNamed cells x t))
      → Collects cells (dropped_cells cells x ts) st
  -- the record of a deletion at or below the floor, if no record of its cell is older
  pub deletion : (x : Cell) (c : ℕ) → c ≤ floor → IsOldestDeletion cells x c
      → Collects cells (forgotten_cells cells x c) st

-- the same below a floor that a collector began with, if no mark is below it
abbrev pub MayEraseBelow : Cells → State → Type 0
MayEraseBelow cells st =
    (floor : ℕ) → floor ≤ st.floor → IsUnmarkedBelow st floor → MayErase cells st floor

-- ---- the progress of a collector

-- no version of the cell below the floor is to be collected
pub record IsTidy (cells : Cells) (x : Cell) (floor : ℕ) : Type 0 where
  pub one : (c d : ℕ) → c ≤ floor → d ≤ floor → IsThere cells x Write c → IsThere cells x Write d
      → c ≡ d
  pub named : (t : ℕ) → t < floor → IsThere cells x Data t → IsNamed cells x t
  -- the newest record at or below the floor, which is the only one, is not a deletion's
  pub lasting : (c t : ℕ) → c ≤ floor → at cells x Write c ≢ Some (record_text t write.Delete)

-- the cell is at or before the place, so a collector there has passed it
abbrev pub IsBehind : Option Place → Cell → Type 0
IsBehind after x = ¬ IsAfter after (place_at x)

-- a collector looks for locks first, and then erases
pub data Pass : Type 0 where
  FirstPass : Pass
  SecondPass : Pass

-- In the first pass no cell that it has passed has a mark below its floor. In the second pass no cell has one, and the
-- cells that it has passed are tidy.
abbrev pub HasCome : Cells → State → ℕ → Pass → Option Place → Type 0
HasCome cells st floor FirstPass after =
    (x : Cell) (t : ℕ) → IsBehind after x → Marked st x t → floor ≤ t
HasCome cells st floor SecondPass after =
    IsUnmarkedBelow st floor × ((x : Cell) → IsBehind after x → IsTidy cells x floor)

-- how a collector's progress continues from a place
pub record GoesFurther (cells : Cells) (st : State) (floor : ℕ)
    (after : Option Place) : Type 0 where
  -- past a cell without a lock below the floor
  pub past : (x : Cell) → IsNextCell cells after (Some (place_at x))
      → ((t : ℕ) → t < floor → at cells x Lock t ≡ None)
      → HasCome cells st floor FirstPass after
      → HasCome cells st floor FirstPass (Some (place_at x))
  -- after the last cell, to the second pass
  pub turned : IsNextCell cells after None → HasCome cells st floor FirstPass after
      → HasCome cells st floor SecondPass None
  -- past a tidy cell
  pub tidied : (x : Cell) → IsNextCell cells after (Some (place_at x)) → IsTidy cells x floor
      → HasCome cells st floor SecondPass after
      → HasCome cells st floor SecondPass (Some (place_at x))
  -- after the last cell of the second pass, to its end
  pub ended : IsNextCell cells after None → HasCome cells st floor SecondPass after → (x : Cell)
      → IsTidy cells x floor

abbrev pub ComesFurther : Cells → State → Type 0
ComesFurther cells st = (floor : ℕ) (after : Option Place) → GoesFurther cells st floor after

-- the changes of the cells by a step of a client, a cleaner or another collector
pub data ChangesCells (cells : Cells) (st : State) : Cells → Type 0 where
  unchanged : ChangesCells cells st cells
  -- an active session puts data and lock
  locks_cell : (x : Cell) (t : ℕ) (p : Phase) (v : Change) (first : Cell) → InPhase st t p
      → ChangesCells cells st (held_cells cells x t v first)
  -- a lock is replaced by the record of its start's commit, which was made before or is made now
  records_commit : (x : Cell) (t c : ℕ) (kind : WriteKind) → Marked st x t → CommittedAt st t c
      ⊎ InPhase st t (Stamped c) → ChangesCells cells st (recorded_cells cells x t c kind)
  erases_lock : (x : Cell) (t : ℕ) → ChangesCells cells st (erased_cells cells x t)
  erases_versions : (cells' : Cells) → Collects cells cells' st → ChangesCells cells st cells'

-- no step of anyone undoes a collector's progress
abbrev pub ComeStays : Cells → State → Type 0
ComeStays cells st =
    (next : State) (q : Request) (r : Reply) → Step st q r next → (cells' : Cells)
    → ChangesCells cells st cells'
    → (floor : ℕ) → floor ≤ st.floor → (pass : Pass) (after : Option Place)
    → HasCome cells st floor pass after → HasCome cells' next floor pass after

-- ---- the remaining work of a collector

-- the cells that have a key
abbrev pub places_of : Cells → FinMap place_cmp (Unit {0})
places_of cells = from_entries (map (λ e. (place_of e.0, tt)) (entries cells))

abbrev pub comes_after : Option Place → Place → Bool
comes_after None place = true
comes_after (Some before) place = is_lt (place_cmp before place)

-- the number of cells with a key after a place
abbrev pub cells_after : Cells → Option Place → ℕ
cells_after cells after = len (retain_keys (places_of cells) (comes_after after))

-- the number of keys, plus the number of cells after the place, plus one; in the first pass also the number of all
-- cells, plus one
abbrev pub left_of : Cells → Pass → Option Place → ℕ
left_of cells FirstPass after = len cells + cells_after cells after + 1 + cells_after cells None + 1
left_of cells SecondPass after = len cells + cells_after cells after + 1

-- no key is added
abbrev pub HasNoNewKey : Cells → Cells → Type 0
HasNoNewKey cells cells' = (k : CellKey) → IsSome (get cells' k) → IsSome (get cells k)

-- each action of a collector reduces its remaining work by at least one
pub record LeftFalls (cells : Cells) : Type 0 where
  -- it erases a key, and adds none
  pub erased : (cells' : Cells) (k : CellKey) (after : Option Place) → HasNoNewKey cells cells'
      → IsSome (get cells k) → get cells' k ≡ None
      → left_of cells' SecondPass after + 1 ≤ left_of cells SecondPass after
  -- it moves to a later cell
  pub moved : (pass : Pass) (after : Option Place) (found : Place) → IsAfter after found
      → HasCell cells found
      → left_of cells pass (Some found) + 1 ≤ left_of cells pass after
  -- it enters its second pass
  pub turned : (after : Option Place)
      → left_of cells SecondPass None + 1 ≤ left_of cells FirstPass after
