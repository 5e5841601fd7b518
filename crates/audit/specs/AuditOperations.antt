-- The audit of requests that stand for several: their sessions, their writes and what they read.
use Rattle.std.specs.Prelude.{◌≡◌, ◌≢◌, ◌⊎◌, ⊤, ℕ, ◌+◌, ◌<◌, ◌≤◌, cond, List, [], ◌∷◌, ◌++◌, map, Option, Some, None, is_some, if◌then◌else◌, slice_get}
use Rattle.std.specs.Ordering.{nat_cmp, is_eq}
use Rattle.std.specs.BTreeMap as btree
use Rattle.std.specs.Global.{Vec}
use Rattle.cell_key.specs.declared.refusals.Refusal.{Refusal}
use Rattle.si_model.specs.Machine.{State, Value, Item, Valued, Marked, IsSnapshot, IsStorageRefusal, Refused, Reply, Answered, Pending, Writes, end_of_stamps, most_sessions}
use Rattle.si_model.specs.Scans.{IsFreeAt}
use Rattle.si_model.specs.Transactions.{Goes, IsTold, Operation, Said, most_told, told_length}
use Rattle.si_model.specs.declared.replies.Cell.{Cell}
use Rattle.audit.specs.AuditRefusals.{RefusesName}
use Rattle.audit.specs.AuditScans.{seen}
use Rattle.audit.specs.AuditSteps.{ClashesSo, HasWrites}
use Rattle.audit.specs.Audits.{KeepsReached, commit_of, writes_of}
use Rattle.si_model.specs.Takings.{IsNamed}
use Rattle.audit.specs.declared.audit.Audit.{Audit}
use Rattle.audit.specs.declared.audit.parts.Commit.{Commit as Kept}
use Rattle.audit.specs.declared.audit.parts.Phase.TheVariants as phase
use Rattle.audit.specs.declared.audit.parts.Write.{Write}

-- s may be the session of a request: the one that is named, which is open, or a new one if the start is 0
abbrev pub MayOpen : Audit → ℕ → ℕ → Type 0
MayOpen audit start s =
    ((start ≢ 0) × (s ≡ start) × (btree.get nat_cmp audit.active start ≡ Some phase.Open))
    ⊎ ((start ≡ 0) × (audit.top < s) × (s < end_of_stamps)
    × (btree.btree_map_len audit.active < most_sessions))

-- the session's writes before the request: none, if it is new
abbrev pub HasBefore : Audit → ℕ → Writes → Type 0
HasBefore audit start before =
    ((start ≡ 0) × (before ≡ [])) ⊎ ((start ≢ 0) × HasWrites audit.begun start before)

-- the cells of the writes before the place, counted from 0, don't clash
abbrev pub AreFree : Audit → ℕ → List Write → ℕ → Type 0
AreFree audit s ws n =
    (k : ℕ) (w : Write) → k < n → slice_get ws k ≡ Some w → ¬ ClashesSo audit w.cell s

-- the cell of the write at this place is the first that clashes
abbrev pub ClashesAt : Audit → ℕ → List Write → ℕ → Type 0
ClashesAt audit s ws k =
    (w : Write) × (slice_get ws k ≡ Some w) × ClashesSo audit w.cell s × AreFree audit s ws k

-- the writes of a start are these, or it was never drawn
abbrev pub IsRewritten : Audit → Audit → ℕ → Option (Vec Write) → Type 0
IsRewritten old new s writes = (q : ℕ) → btree.get nat_cmp new.begun q
    ≡ cond (is_eq (nat_cmp s q)) writes (btree.get nat_cmp old.begun q)

-- the session, if it is active, has ended
pub record IsEnded (old new : Audit) (s : ℕ) : Type 0 where
  pub at : (q : ℕ) → btree.get nat_cmp new.active q
      ≡ cond (is_eq (nat_cmp s q)) None (btree.get nat_cmp old.active q)
  pub len : btree.btree_map_len new.active
      + (if is_some (btree.get nat_cmp old.active s) then 1 else 0)
      ≡ btree.btree_map_len old.active

-- the session has committed these writes at the stamp, and has ended
pub record HasCommitted (old new : Audit) (s c : ℕ) (writes : Vec Write) : Type 0 where
  pub others : new
      ≡ record old { begun = new.begun; active = new.active; commits = new.commits }
  pub begun : IsRewritten old new s (Some writes)
  pub ended : IsEnded old new s
  pub commit : Kept
  pub reads : commit_of commit
      ≡ record { start = s; stamp = c; writes = writes_of writes }
  pub added : new.commits ≡ old.commits ++ commit ∷ []

-- If one refusal that isn't the storage's may be answered to the request, it is this one.
abbrev pub RefusesOnly : Audit → Operation → Option Refusal → Type 0
RefusesOnly audit operation found = (st next : State) (n : Refusal) → KeepsReached audit st
    → ¬ IsStorageRefusal n
    → (found ≡ Some n → Goes st operation (Said (Refused n)) st)
    × (Goes st operation (Said (Refused n)) next → (found ≡ Some n) × (next ≡ st))

-- a Get of the cell in a session that began at s may get this reply, from these commits and marks
abbrev pub MayRead : State → ℕ → Cell → Reply → Type 0
MayRead st s x (Answered answer) = IsFreeAt st s x × IsSnapshot st.commits s x answer
MayRead st s x (Pending t) = Marked st x t × (t ≤ s)
MayRead st s x other = ⊥

-- a session that began at s finds a value in the cell that isn't sent behind this many bytes
abbrev pub HasUnsent : Audit → ℕ → ℕ → Cell → Type 0
HasUnsent audit s used x =
    (v : Value) × IsSnapshot (map commit_of audit.commits) s x (Some v)
    × (most_told < used + told_length (Some (Valued v)))

-- the session may read the cell, and this is said of it after this many bytes
pub record MayTell (audit : Audit) (s used : ℕ) (x : Cell) (said : Option Item) : Type 0 where
  pub named : IsNamed x
  pub reply : Reply
  pub read : MayRead (seen audit) s x reply
  pub told : IsTold used reply said

-- the session may read the cells, and this is said of them after this many bytes
abbrev pub MayTellAll : Audit → ℕ → ℕ → List Cell → List (Option Item) → Type 0
MayTellAll audit s used [] [] = ⊤
MayTellAll audit s used (x ∷ xs) (said ∷ more) =
    MayTell audit s used x said × MayTellAll audit s (used + told_length said) xs more
MayTellAll audit s used [] (said ∷ more) = ⊥
MayTellAll audit s used (x ∷ xs) [] = ⊥

-- the refusal of the first cell whose names aren't valid; None if all are
abbrev pub RefusesFirstName : List Cell → Option Refusal → Type 0
RefusesFirstName [] found = found ≡ None
RefusesFirstName (x ∷ xs) found =
    ((found ≢ None) × RefusesName x found)
    ⊎ (RefusesName x None × RefusesFirstName xs found)
