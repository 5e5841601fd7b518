-- When the cleaners show a state of the snapshot machine.
use Rattle.std.specs.Prelude.{◌≡◌, ◌≢◌, ℕ, ◌+◌, ◌≤◌, ◌⊎◌, Bool, true, false, cond, Option, Some, None}
use Rattle.std.specs.Ordering.{nat_cmp}
use Rattle.std.specs.BTreeMap as btree
use Rattle.std.specs.FinMap as finmap
use Rattle.cell_key.specs.Cells.{Cells}
use Rattle.si_model.specs.Deciding.{Knows}
use Rattle.si_model.specs.Kinds.{OfCleaners, kind_of}
use Rattle.si_model.specs.Machine as machine
use Rattle.si_model.specs.Machine.{State, Request, Reply, Step, CommittedAt, end_of_stamps}
use Rattle.si_model.specs.Replies.{clean_reply}
use Rattle.si_model.specs.Servers.{IsReachedByServers}
use Rattle.si_model.specs.ShowsCells.{ShowsCells, TouchesOneRow}
use Rattle.si_model.specs.declared.replies.Cell.{Cell}
use Rattle.si_model.specs.declared.replies.CleanReply.{CleanReply}
use Rattle.si_model.specs.declared.replies.CleanReply.TheVariants as clean
use Rattle.si_model.specs.declared.replies.CleanStart.{CleanStart}
use Rattle.si_model.specs.declared.replies.CleanStart.TheVariants as begin
use Rattle.clean_up.specs.Fates.{verdict_of}
use Rattle.clean_up.specs.declared.cleaner.Cleaner.{Cleaner}
use Rattle.clean_up.specs.declared.cleaners.Cleaners.{Cleaners}
use Rattle.clean_up.specs.declared.fates.Fate.{Fate}
use Rattle.clean_up.specs.declared.fates.Fate.TheVariants.{Open, Forward, Back}
use Rattle.clean_up.specs.declared.locks.Lock.{Lock}

-- whether a cleaner has taken its first step
abbrev pub is_decided : Fate → Bool
is_decided Open = false
is_decided (Forward c) = true
is_decided Back = true

-- a cleaner, as the machine stores it
abbrev pub cleaner_of : Cleaner → machine.Cleaner
cleaner_of cleaner =
    record { cell = cleaner.cell; start = cleaner.lock.start; decided = is_decided cleaner.fate }

-- it knows the first cell of its lock's start, and its decision is right as long as the mark is there
abbrev pub KnowsItsLock : State → Cleaner → Type 0
KnowsItsLock st cleaner =
    Knows st cleaner.cell cleaner.lock.start cleaner.lock.first (verdict_of cleaner.fate)

-- the cleaner with this number is this one
pub record ShowsCleaner (cleaner : Cleaner) (i : ℕ) (st : State) : Type 0 where
  pub kept : finmap.get st.cleaners i ≡ Some (cleaner_of cleaner)
  pub knows : KnowsItsLock st cleaner

-- the entry at a number is the cleaner with this number, if one is open
abbrev pub ShowsAt : Option Cleaner → ℕ → State → Type 0
ShowsAt None i st = finmap.get st.cleaners i ≡ None
ShowsAt (Some cleaner) i st = ShowsCleaner cleaner i st

-- how many cleaners are stored
abbrev pub cleaner_count : Cleaners → ℕ
cleaner_count cleaners = btree.btree_map_len cleaners.cleaners

-- the stored cleaners are the open ones, and the next number is the machine's
pub record ShowsCleaners (cleaners : Cleaners) (st : State) : Type 0 where
  pub next : cleaners.next ≡ st.next_cleaner
  pub each : (i : ℕ) → ShowsAt (btree.get nat_cmp cleaners.cleaners i) i st
  pub count : finmap.len st.cleaners ≡ cleaner_count cleaners

-- From each reached state that is shown before, the machine may give this reply, and goes to a state that is shown
-- after.
abbrev pub Steps : Cells → Cleaners → Request → Reply → Cells → Cleaners → Type 0
Steps cells cleaners request reply cells' cleaners' =
    (st : State) → IsReachedByServers st → ShowsCells cells st → ShowsCleaners cleaners st
    → (next : State)
    × Step st request reply next × ShowsCells cells' next × ShowsCleaners cleaners' next

-- it holds in each reached state that cells and cleaners show
abbrev pub InEachShown : Cells → Cleaners → (State → Type 0) → Type 0
InEachShown cells cleaners IsSo =
    (st : State) → IsReachedByServers st → ShowsCells cells st → ShowsCleaners cleaners st → IsSo st

-- the same cleaners, and the same next number
pub record SameCleaners (old new : Cleaners) : Type 0 where
  pub next : new.next ≡ old.next
  pub each : (i : ℕ) → btree.get nat_cmp new.cleaners i ≡ btree.get nat_cmp old.cleaners i
  pub count : btree.btree_map_len new.cleaners ≡ btree.btree_map_len old.cleaners

-- only the cleaner with this number changes, and none begins
pub record ChangesOne (i : ℕ) (old new : Cleaners) : Type 0 where
  pub next : new.next ≡ old.next
  pub others : (j : ℕ) → j ≢ i → btree.get nat_cmp new.cleaners j ≡ btree.get nat_cmp old.cleaners j

-- a cleaner of x, for a lock of t, begins with the next number, and all others are unchanged
pub record OpensOne (x : Cell) (i t : ℕ) (old new : Cleaners) : Type 0 where
  pub number : i ≡ old.next
  pub next : new.next ≡ i + 1
  pub lock : Lock
  pub start : lock.start ≡ t
  pub kept : btree.get nat_cmp new.cleaners i ≡ Some (record { cell = x; lock = lock; fate = Open })
  pub others : (j : ℕ) → j ≢ i → btree.get nat_cmp new.cleaners j ≡ btree.get nat_cmp old.cleaners j

-- one such cleaner begins, or all are unchanged
abbrev pub Opens : Cell → CleanStart → Cleaners → Cleaners → Type 0
Opens x begin.NoLock old new = SameCleaners old new
Opens x (begin.Cleaner i t) old new = OpensOne x i t old new

-- no cleaner with this number is open
abbrev pub IsUnopened : State → ℕ → Type 0
IsUnopened st i = finmap.get st.cleaners i ≡ None

-- no number is left
abbrev pub IsUsedUp : State → Type 0
IsUsedUp st = end_of_stamps ≤ st.next_cleaner

-- the stamp is the start of the cleaner's lock, or the start's commit stamp
abbrev pub IsStampOf : State → machine.Cleaner → ℕ → Type 0
IsStampOf st k c = (c ≡ k.start) ⊎ CommittedAt st k.start c

-- At most one row's keys change: an added key has the start's stamp or its commit stamp, and an erased key is a lock's.
abbrev pub TouchesFor : State → ℕ → Cells → Cells → Type 0
TouchesFor st i cells cells' =
    (cells' ≡ cells)
    ⊎ ((k : machine.Cleaner) × (c : ℕ) × (finmap.get st.cleaners i ≡ Some k)
    × IsStampOf st k c × TouchesOneRow cells cells' k.start c)

-- a cleaner closes with its second step
abbrev pub is_last : CleanReply → Bool
is_last clean.Decided = false
is_last (clean.RolledForward c) = true
is_last clean.RolledBack = true
is_last clean.Gone = true

-- the effect of a step of one cleaner: the machine takes the step, and goes to a state with this cleaner
pub record Follows (st next : State) (i : ℕ) (cleaner : Cleaner) (reply : CleanReply) : Type 0 where
  pub cleaners : next.cleaners ≡ cond (is_last reply)
      (finmap.remove st.cleaners i) (finmap.insert st.cleaners i (cleaner_of cleaner))
  pub next_cleaner : next.next_cleaner ≡ st.next_cleaner
  pub knows : is_last reply ≡ false → KnowsItsLock next cleaner

abbrev pub Advances : Cells → Cleaner → CleanReply → Cells → Cleaner → Type 0
Advances cells cleaner reply cells' cleaner' =
    (st : State) (i : ℕ) → IsReachedByServers st → ShowsCells cells st → ShowsCleaner cleaner i st
    → (next : State) × Step st (machine.CleanStep i) (clean_reply reply) next
    × ShowsCells cells' next × Follows st next i cleaner' reply

-- steps of others leave the state that cleaners show unchanged
abbrev pub AreShownOn : Type 0
AreShownOn =
    (cleaners : Cleaners) (st next : State) (q : Request) (r : Reply) → IsReachedByServers st
    → Step st q r next → kind_of q ≢ OfCleaners
    → ShowsCleaners cleaners st → ShowsCleaners cleaners next

-- equal cleaners show the same states
abbrev pub AreShownSame : Type 0
AreShownSame =
    (old new : Cleaners) (st : State) → SameCleaners old new → ShowsCleaners old st
    → ShowsCleaners new st
