-- The edits of a cleaner's step, and their effect on the cells and on the room in memory.
use Rattle.std.specs.Prelude.{◌≡◌, ◌⊎◌, ℕ, Bool, true, false, List, Option, Some, None}
use Rattle.std.specs.FinMap.{get}
use Rattle.std.specs.Ordering.{nat_cmp}
use Rattle.std.specs.BTreeMap as btree
use Rattle.cell_key.specs.Cells.{Cells}
use Rattle.cell_key.specs.declared.edits.Edit.{Edit}
use Rattle.cell_key.specs.LockEdits.{IsErasing, IsRecording}
use Rattle.cell_key.specs.declared.columns.WriteKind.{WriteKind}
use Rattle.rows.specs.Calls.{AppliesSuch, OnlyReads, View}
use Rattle.rows.specs.Room.{AreAfter, TakesNoRoom, TakesRoomOf}
use Rattle.si_model.specs.Edits.{ErasesCell, RecordsCell}
use Rattle.si_model.specs.Machine as machine
use Rattle.si_model.specs.Machine.{State, Change, Marked, IsDead, CommittedAt}
use Rattle.si_model.specs.ShowsCells.{IsChange, IsFirstCell, kind_of_change}
use Rattle.si_model.specs.declared.replies.Cell.{Cell}
use Rattle.si_model.specs.declared.replies.CleanReply.{CleanReply}
use Rattle.si_model.specs.declared.replies.CleanReply.TheVariants as clean
use Rattle.clean_up.specs.declared.cleaner.Cleaner.{Cleaner}
use Rattle.clean_up.specs.declared.cleaners.Cleaners.{Cleaners}
use Rattle.clean_up.specs.Locks.{TellsKind}
use Rattle.clean_up.specs.declared.fates.Fate.{Fate}
use Rattle.clean_up.specs.declared.fates.Fate.TheVariants.{Open, Forward, Back}

-- The edits that remove the lock of t from x: the record of a commit replaces it, or it is erased.
abbrev pub IsClearing : Cell → ℕ → Option ℕ → WriteKind → List Edit → Type 0
IsClearing x t None kind edits = IsErasing x.row x.family t edits
IsClearing x t (Some c) kind edits = IsRecording x.row x.family t c kind edits

-- The row and these edits. If the rows are intact, x has the lock, and the record has its kind.
abbrev pub ClearsCell : Type 0 → Cells → Cell → ℕ → Option ℕ → List ℕ → List Edit → Type 0
ClearsCell Holds cells x t None row edits = ErasesCell Holds cells x t row edits
ClearsCell Holds cells x t (Some c) row edits =
    (kind : WriteKind) × (Holds → TellsKind cells x t kind) × RecordsCell Holds cells x t c kind row edits

-- ---- the edits of a cleaner's next step, from its lock and its fate

abbrev pub EditsIn : Fate → Type 0 → Cells → Cleaner → List ℕ → List Edit → Type 0
EditsIn Open Holds cells cleaner row edits =
    ClearsCell Holds cells cleaner.lock.first cleaner.lock.start None row edits
EditsIn (Forward c) Holds cells cleaner row edits =
    ClearsCell Holds cells cleaner.cell cleaner.lock.start (Some c) row edits
EditsIn Back Holds cells cleaner row edits =
    ClearsCell Holds cells cleaner.cell cleaner.lock.start None row edits

abbrev pub EditsOf : Type 0 → Cells → Cleaner → List ℕ → List Edit → Type 0
EditsOf Holds cells cleaner row edits = EditsIn cleaner.fate Holds cells cleaner row edits

-- the row and the edits of the next step of the cleaner stored at this number
abbrev pub EditsOfStep : Type 0 → Cells → Cleaners → ℕ → List ℕ → List Edit → Type 0
EditsOfStep Holds cells cleaners i row edits =
    (cleaner : Cleaner) × (btree.get nat_cmp cleaners.cleaners i ≡ Some cleaner)
    × EditsOf Holds cells cleaner row edits

-- A step that decides makes these edits or none, and one that removes a lock makes them. No other step changes a cell
-- or takes room.
abbrev pub Does : {R : Type 0} → View R → (List ℕ → List Edit → Type 0) → CleanReply → R → R
    → Type 0
Does seen Such clean.Decided old new = AppliesSuch seen Such old new ⊎ OnlyReads seen old new
Does seen Such (clean.RolledForward c) old new = AppliesSuch seen Such old new
Does seen Such clean.RolledBack old new = AppliesSuch seen Such old new
Does seen Such clean.Gone old new = OnlyReads seen old new

-- ---- the same edits, from a state of the machine

-- the row and the edits of the next step of this cleaner, by whether its first step was taken
abbrev pub ChangesOf : State → machine.Cleaner → Bool → List ℕ → List Edit → Type 0
-- the mark of its start is erased from that start's first cell
ChangesOf st k false row edits =
    (first : Cell) × IsFirstCell st k.start first
    × Marked st first k.start × (row ≡ first.row) × IsErasing first.row first.family k.start edits
-- it is removed from the cleaner's cell: the record of the commit replaces it, with the kind of the start's write, or
-- it is erased
ChangesOf st k true row edits =
    Marked st k.cell k.start × (row ≡ k.cell.row)
    × (((c : ℕ) × (v : Change) × CommittedAt st k.start c × IsChange st k.start k.cell v
    × IsRecording k.cell.row k.cell.family k.start c (kind_of_change v) edits)
    ⊎ (IsDead st k.start × IsErasing k.cell.row k.cell.family k.start edits))

abbrev pub ChangesNext : State → ℕ → List ℕ → List Edit → Type 0
ChangesNext st i row edits =
    (k : machine.Cleaner) × (get st.cleaners i ≡ Some k) × ChangesOf st k k.decided row edits

-- A step that decides made these edits of a row or none, and one that removes a lock made them. No other step changes a
-- cell.
abbrev pub Makes : (List ℕ → List Edit → Type 0) → CleanReply → Cells → Cells → Type 0
Makes Changes clean.Decided old new = AreAfter Changes old new ⊎ (new ≡ old)
Makes Changes (clean.RolledForward c) old new = AreAfter Changes old new
Makes Changes clean.RolledBack old new = AreAfter Changes old new
Makes Changes clean.Gone old new = new ≡ old

-- A step that makes these edits takes their room; no other step takes any.
abbrev pub TakesRoom : {R : Type 0} → (R → List ℕ → List Edit → Type 0)
    → (List ℕ → List Edit → Type 0) → CleanReply → R → R → Type 0
TakesRoom overfills Changes clean.Gone old new = TakesNoRoom overfills old new
TakesRoom overfills Changes reply old new = TakesRoomOf overfills Changes old new
