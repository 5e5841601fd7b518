-- The answers to a cleaner's beginning and steps, whatever the cells hold.
use Rattle.std.specs.Prelude.{◌≡◌, ℕ, true, cond, Option, Some, None}
use Rattle.std.specs.Ordering.{nat_cmp}
use Rattle.std.specs.BTreeMap as btree
use Rattle.cell_key.specs.Cells.{Cells}
use Rattle.rows.specs.Calls.{View}
use Rattle.si_model.specs.Reads.{IsGone}
use Rattle.si_model.specs.declared.replies.Cell.{Cell}
use Rattle.si_model.specs.declared.replies.CleanReply.{CleanReply}
use Rattle.si_model.specs.declared.replies.CleanReply.TheVariants as clean
use Rattle.si_model.specs.declared.replies.CleanStart.{CleanStart}
use Rattle.si_model.specs.declared.replies.CleanStart.TheVariants as begin
use Rattle.clean_up.specs.Fates.{Decides, HasBadRecord}
use Rattle.clean_up.specs.Locks.{IsStanding, Stands}
use Rattle.clean_up.specs.Room.{Does, EditsOfStep}
use Rattle.clean_up.specs.Shows.{is_decided, is_last}
use Rattle.clean_up.specs.declared.cleaner.Cleaner.{Cleaner}
use Rattle.clean_up.specs.declared.cleaners.Cleaners.{Cleaners}
use Rattle.clean_up.specs.declared.fates.Fate.{Fate}
use Rattle.clean_up.specs.declared.fates.Fate.TheVariants.{Open, Forward, Back}
use Rattle.clean_up.specs.declared.locks.Lock.{Lock}

-- the cleaner that is stored at this number
abbrev pub kept_at : Cleaners → ℕ → Option Cleaner
kept_at cleaners i = btree.get nat_cmp cleaners.cleaners i

-- x has no lock. Or it has one, and an undecided cleaner with this lock has this number.
abbrev pub BeginsWith : Cells → Cell → Cleaners → CleanStart → Type 0
BeginsWith cells x cleaners begin.NoLock = IsStanding cells x None
BeginsWith cells x cleaners (begin.Cleaner i t) =
    (lock : Lock) × (lock.start ≡ t) × Stands cells x lock
    × (kept_at cleaners i ≡ Some (record { cell = x; lock = lock; fate = Open }))

-- The answer to an accepted step of the cleaner k, which becomes k'. A step that decides is its first one, and changes
-- only its fate. Any other step acts on that fate, or finds the lock gone.
abbrev pub IsTold : {R : Type 0} → View R → Cleaner → CleanReply → Cleaner → R → R → Type 0
IsTold seen k clean.Decided k' old new =
    (k.fate ≡ Open) × (k' ≡ record k { fate = k'.fate }) × Decides seen k.lock k'.fate old new
IsTold seen k (clean.RolledForward c) k' old new = k.fate ≡ Forward c
IsTold seen k clean.RolledBack k' old new = k.fate ≡ Back
IsTold seen k clean.Gone k' old new =
    (is_decided k.fate ≡ true) × (seen.holds old → IsGone (seen.cells old) k.cell k.lock.start)

-- the entry of a cleaner after a step: none after its last one
abbrev pub kept_after : CleanReply → Cleaner → Option Cleaner
kept_after reply k = cond (is_last reply) None (Some k)

-- the same for the cleaner with this number, whose new value is stored
abbrev pub TellsAt : {R : Type 0} → View R → ℕ → CleanReply → Cleaners → Cleaners → R → R → Type 0
TellsAt seen i reply cleaners cleaners' old new =
    (k k' : Cleaner) × (kept_at cleaners i ≡ Some k) × (kept_at cleaners' i ≡ kept_after reply k')
    × IsTold seen k reply k' old new

-- the cell that a cleaner's next step reads: it decides at the first cell that its lock names, and then clears its own
-- cell
abbrev pub cell_in : Fate → Cleaner → Cell
cell_in Open k = k.lock.first
cell_in (Forward c) k = k.cell
cell_in Back k = k.cell

abbrev pub cell_read : Cleaner → Cell
cell_read k = cell_in k.fate k

-- the row that the next step of the cleaner with this number reads is readable
abbrev pub IsNextReadable : {R : Type 0} → View R → R → Cleaners → ℕ → Type 0
IsNextReadable seen rows cleaners i =
    (k : Cleaner) → kept_at cleaners i ≡ Some k → seen.readable rows (cell_read k).row

-- a record of the first cell that this cleaner's lock names is malformed
abbrev pub MeetsBadRecord : Cells → Cleaners → ℕ → Type 0
MeetsBadRecord cells cleaners i =
    (k : Cleaner) × (kept_at cleaners i ≡ Some k) × HasBadRecord cells k.lock.first

-- All effects of an accepted step: the edits of its cleaner's step, or nothing; and its answer is true.
pub record StepMakes {R : Type 0} (seen : View R) (i : ℕ) (reply : CleanReply)
    (cleaners cleaners' : Cleaners) (old new : R) : Type 0 where
  pub does : Does seen (EditsOfStep (seen.holds old) (seen.cells old) cleaners i) reply old new
  pub told : TellsAt seen i reply cleaners cleaners' old new
