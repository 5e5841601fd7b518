-- When a cell map shows the transactions of a state of the snapshot machine.
use Rattle.std.specs.Prelude.{◌≡◌, ◌≢◌, ℕ, ◌<◌, ◌⊎◌, List, Option, Some, None}
use Rattle.std.specs.FinMap.{get, insert, remove}
use Rattle.cell_key.specs.Cells.{Cells, version}
use Rattle.cell_key.specs.declared.keys.CellKey.{CellKey}
use Rattle.cell_key.specs.declared.keys.Qualifier.{Qualifier}
use Rattle.cell_key.specs.declared.keys.Qualifier.TheVariants.{Data, Lock, Write}
use Rattle.cell_key.specs.Columns.{IsLockText, IsRecordText, lock_text, record_text}
use Rattle.cell_key.specs.declared.columns.WriteKind.{WriteKind}
use Rattle.cell_key.specs.declared.columns.WriteKind.TheVariants as write
use Rattle.si_model.specs.Sets.{◌∈◌}
use Rattle.si_model.specs.Laws.{IsCleared}
use Rattle.si_model.specs.Machine.{State, Value, Change, Writes, Commit, Open, InPhase, Wrote, Puts, Gives, Names, Marked, IsReached}
use Rattle.si_model.specs.declared.replies.Cell.{Cell}

abbrev pub key_of : Cell → Qualifier → ℕ → CellKey
key_of x q s = version x.row x.family q s

-- the entry of a cell's column at a stamp
abbrev pub at : Cells → Cell → Qualifier → ℕ → Option (List ℕ)
at cells x q s = get cells (key_of x q s)

abbrev pub IsThere : Cells → Cell → Qualifier → ℕ → Type 0
IsThere cells x q s = (b : List ℕ) × (at cells x q s ≡ Some b)

-- the kind of the write that makes the change
abbrev pub kind_of_change : Change → WriteKind
kind_of_change (Some value) = write.Set
kind_of_change None = write.Delete

-- the record of x at c names t
abbrev pub NamesAt : Cells → Cell → ℕ → ℕ → Type 0
NamesAt cells x c t =
    (text : List ℕ) × (kind : WriteKind)
    × (at cells x Write c ≡ Some text) × IsRecordText t kind text

-- x is the first cell of t's writes
abbrev pub IsFirstCell : State → ℕ → Cell → Type 0
IsFirstCell st t x = (ws : Writes) × (v : Change) × Wrote st t ws × Puts ws 0 x v

-- t makes the change v of x
abbrev pub IsChange : State → ℕ → Cell → Change → Type 0
IsChange st t x v = (ws : Writes) × Wrote st t ws × Gives ws x v

-- if t gives x a value, x has data of t
abbrev pub HasData : Cells → Cell → ℕ → Change → Type 0
HasData cells x t v = (given : Value) → v ≡ Some given → IsThere cells x Data t

-- the mark of t on x is shown: its lock names t's first cell and the kind of t's write, and its data is there
pub record ShowsMark (cells : Cells) (st : State) (x : Cell) (t : ℕ) : Type 0 where
  pub first : Cell
  pub is_first : IsFirstCell st t first
  pub change : Change
  pub is_change : IsChange st t x change
  pub text : List ℕ
  pub lock : at cells x Lock t ≡ Some text
  pub is_text : IsLockText first.row first.family (kind_of_change change) text
  pub value : HasData cells x t change

-- the write record of x at c names a commit that writes x and has no mark on it, and the kind of its write, and its
-- data is there
pub record NamesCommit (cells : Cells) (st : State) (x : Cell) (c : ℕ)
    (text : List ℕ) : Type 0 where
  pub commit : Commit
  pub is_in : commit ∈ st.commits
  pub stamp : commit.stamp ≡ c
  pub change : Change
  pub gives : Gives commit.writes x change
  pub is_text : IsRecordText commit.start (kind_of_change change) text
  pub unmarked : ¬ Marked st x commit.start
  pub value : HasData cells x commit.start change

-- a later commit of x is at or below the floor and each mark
abbrev pub IsReplaced : State → Cell → Commit → Type 0
IsReplaced st x a =
    (b : Commit) × (b ∈ st.commits) × Names b.writes x × (a.stamp < b.stamp) × IsCleared st b.stamp

-- a commit that deletes x is at or below the floor and each mark, and x has no older record
pub record IsForgotten (cells : Cells) (st : State) (x : Cell) (a : Commit) : Type 0 where
  pub deletes : Gives a.writes x None
  pub cleared : IsCleared st a.stamp
  pub oldest : (c : ℕ) → c < a.stamp → at cells x Write c ≡ None

-- a commit of x may have no record on x
abbrev pub MayLack : Cells → State → Cell → Commit → Type 0
MayLack cells st x a = IsReplaced st x a ⊎ IsForgotten cells st x a

-- the data of x at t is the value that t gave x, and t has held a cell
pub record IsGiven (st : State) (x : Cell) (t : ℕ) (given : List ℕ) : Type 0 where
  pub ws : Writes
  pub wrote : Wrote st t ws
  pub gives : Gives ws x (Some given)
  pub late : ¬ InPhase st t Open

pub record ShowsCells (cells : Cells) (st : State) : Type 0 where
  -- there is a lock exactly where there is a mark
  pub marks : (x : Cell) (t : ℕ) → Marked st x t → ShowsMark cells st x t
  pub locks : (x : Cell) (t : ℕ) (b : List ℕ) → at cells x Lock t ≡ Some b → Marked st x t
  -- each write record names a commit
  pub records : (x : Cell) (c : ℕ) (b : List ℕ) → at cells x Write c ≡ Some b
      → NamesCommit cells st x c b
  -- each commit has its record on each of its cells that it no longer marks, unless it is replaced or forgotten there
  pub commits : (a : Commit) → a ∈ st.commits → (x : Cell) → Names a.writes x
      → ¬ Marked st x a.start
      → IsThere cells x Write a.stamp ⊎ MayLack cells st x a
  -- data is the value that its start gave
  pub given : (x : Cell) (t : ℕ) (b : List ℕ) → at cells x Data t ≡ Some b → IsGiven st x t b

-- a law of each cell map that shows a reached state
abbrev pub WhereShown : (Cells → State → Type 0) → Type 0
WhereShown Law = (cells : Cells) (st : State) → IsReached st → ShowsCells cells st → Law cells st

-- the cells after t put the data of a change of x; a deletion has no data
abbrev pub changed_cells : Cells → Cell → ℕ → Change → Cells
changed_cells cells x t (Some value) = insert cells (key_of x Data t) value
changed_cells cells x t None = cells

-- the cells after t put data and lock of x
abbrev pub held_cells : Cells → Cell → ℕ → Change → Cell → Cells
held_cells cells x t v first =
    insert (changed_cells cells x t v) (key_of x Lock t) (lock_text first.row first.family (kind_of_change v))

-- the cells after t's lock of x was replaced by its record at c
abbrev pub recorded_cells : Cells → Cell → ℕ → ℕ → WriteKind → Cells
recorded_cells cells x t c kind =
    remove (insert cells (key_of x Write c) (record_text t kind)) (key_of x Lock t)

-- the cells after t's lock of x was erased, without a record
abbrev pub erased_cells : Cells → Cell → ℕ → Cells
erased_cells cells x t = remove cells (key_of x Lock t)

-- A client's step changes only keys of one row; an added key has one of two stamps, and an erased key is a lock's.
pub record Touches (cells cells' : Cells) (row : List ℕ) (s c : ℕ) : Type 0 where
  pub others : (q : CellKey) → q.row ≢ row → get cells' q ≡ get cells q
  pub joins : (q : CellKey) (b : List ℕ) → get cells q ≡ None → get cells' q ≡ Some b
      → (q.stamp ≡ s) ⊎ (q.stamp ≡ c)
  pub goes : (q : CellKey) (b : List ℕ) → get cells q ≡ Some b → get cells' q ≡ None
      → q.qualifier ≡ Lock

abbrev pub TouchesOneRow : Cells → Cells → ℕ → ℕ → Type 0
TouchesOneRow cells cells' s c = (row : List ℕ) × Touches cells cells' row s c
