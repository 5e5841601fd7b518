-- Replies tell a start's fate, and marks, truthfully.
use Rattle.std.proofs.Common.{◌≡◌, ℕ, ◌<◌, ◌≤◌, List, true, false, Some, ◌⊎◌, inl, inr, refl, subst}
use Rattle.std.specs.FinMap.{get}
use Rattle.si_model.specs.Sets.{◌∈◌, here, IsWithout}
use Rattle.si_model.specs.declared.replies.Cell.{Cell}
use Rattle.si_model.specs.Machine.{State, Cleaner, Marked, IsDead, CommittedAt, IsCommitted, Get, Advance, CleanBegin, CleanStep, CollectStep, Pending, Conflict, NoLock, Cleaning, Blocked, Committed, Lost, Decided, RolledForward, RolledBack, Gone, Step, accepts}
use Rattle.si_model.specs.Machine.{tells, waits, finds_none, is_blocked, conflicts, opens, commits, loses, kills, learns, rolls_forward, rolls_back, finds_gone}
use Rattle.si_model.specs.Laws.{TellsFate, ClashesAt, TellsMarks}
use Rattle.si_model.proofs.Tools.{same_entry}
use Rattle.si_model.proofs.Invariant.{Sound}

committed_told : {st : State} {t c : ℕ} {next : State} → Step st (Advance t) (Committed c) next → CommittedAt next t c
committed_told (accepts ok (tells f)) = elim f [ ]
committed_told (accepts ok (commits {ws = ws} h alive w puts less)) = (ws, here)

lost_told : {st : State} {t : ℕ} {next : State} → Step st (Advance t) Lost next → IsDead st t
lost_told (accepts ok (tells f)) = elim f [ ]
lost_told (accepts ok (loses h dead)) = dead

decided_told : {st : State} {i : ℕ} {next : State} (k : Cleaner) → get st.cleaners i ≡ Some k → Step st (CleanStep i) Decided next → IsCommitted next k.start ⊎ IsDead next k.start
decided_told k g (accepts ok (tells f)) = elim f [ ]
decided_told {st} {i} {next} k g (accepts ok (kills {t = t} {x = x} is nc alive w puts less)) =
    subst (λ (k : Cleaner). IsCommitted next k.start ⊎ IsDead next k.start) (same_entry st.cleaners i (record { cell = x; start = t; decided = false }) k is g) (inr here)
decided_told {st} {i} {next} k g (accepts ok (learns {t = t} {x = x} is fate)) =
    subst (λ (k : Cleaner). IsCommitted next k.start ⊎ IsDead next k.start) (same_entry st.cleaners i (record { cell = x; start = t; decided = false }) k is g) fate

-- the mark was removed
left : (x : Cell) (t : ℕ) (old new : List (Cell × ℕ)) → IsWithout old (x, t) new → ¬ ((x, t) ∈ new)
left x t old new less m = ((less.same (x, t)).0 m).1 refl

forward_told : {st : State} {i c : ℕ} {next : State} (k : Cleaner) → get st.cleaners i ≡ Some k → Step st (CleanStep i) (RolledForward c) next → CommittedAt st k.start c × (¬ Marked next k.cell k.start)
forward_told k g (accepts ok (tells f)) = elim f [ ]
forward_told {st} {i} {c} {next} k g (accepts ok (rolls_forward {t = t} {x = x} is m committed less)) =
    subst (λ (k : Cleaner). CommittedAt st k.start c × (¬ Marked next k.cell k.start)) (same_entry st.cleaners i (record { cell = x; start = t; decided = true }) k is g)
    (committed, left x t st.marks next.marks less)

back_told : {st : State} {i : ℕ} {next : State} → Sound st → (k : Cleaner) → get st.cleaners i ≡ Some k → Step st (CleanStep i) RolledBack next → IsDead st k.start × (¬ Marked next k.cell k.start)
back_told s k g (accepts ok (tells f)) = elim f [ ]
back_told {st} {i} {next} s k g (accepts ok (rolls_back {t = t} {x = x} is m nc less)) =
    subst (λ (k : Cleaner). IsDead st k.start × (¬ Marked next k.cell k.start)) (same_entry st.cleaners i (record { cell = x; start = t; decided = true }) k is g)
    (elim (s.decided i (record { cell = x; start = t; decided = true }) is refl) [ inl c ↦ absurd (nc c) | inr d ↦ d ], left x t st.marks next.marks less)

gone_told : {st : State} {i : ℕ} {next : State} → Sound st → (k : Cleaner) → get st.cleaners i ≡ Some k → Step st (CleanStep i) Gone next → (IsCommitted st k.start ⊎ IsDead st k.start) × (¬ Marked next k.cell k.start)
gone_told s k g (accepts ok (tells f)) = elim f [ ]
gone_told {st} {i} {next} s k g (accepts ok (finds_gone {t = t} {x = x} is none)) =
    subst (λ (k : Cleaner). (IsCommitted st k.start ⊎ IsDead st k.start) × (¬ Marked next k.cell k.start)) (same_entry st.cleaners i (record { cell = x; start = t; decided = true }) k is g)
    (s.decided i (record { cell = x; start = t; decided = true }) is refl, none)

pub tells_fate : (st : State) → Sound st → TellsFate st
tells_fate st s = record {
  committed = λ t c next step. committed_told step;
  lost = λ t next step. lost_told step;
  decided = λ i k next g step. decided_told k g step;
  rolled_forward = λ i c k next g step. forward_told k g step;
  rolled_back = λ i k next g step. back_told s k g step;
  gone = λ i k next g step. gone_told s k g step;
}

pending_told : {st : State} {s t : ℕ} {x : Cell} {next : State} → Step st (Get s x) (Pending t) next → Marked st x t × (t ≤ s)
pending_told (accepts ok (tells (waits h m low))) = (m, low)

conflict_told : {st : State} {t place : ℕ} {next : State} → Step st (Advance t) (Conflict place) next → ClashesAt st t place
conflict_told (accepts ok (tells f)) = elim f [ ]
conflict_told (accepts ok (conflicts {k = k} {ws = ws} {x = x} {v = v} h w puts clash)) = (ws, k, x, v, w, puts, refl, clash)

no_lock_told : {st : State} {x : Cell} {next : State} → Step st (CleanBegin x) NoLock next → (t : ℕ) → ¬ Marked st x t
no_lock_told (accepts ok (tells (finds_none none))) = none

cleaning_told : {st : State} {x : Cell} {i t : ℕ} {next : State} → Step st (CleanBegin x) (Cleaning i t) next → (i ≡ st.next_cleaner) × Marked st x t
cleaning_told (accepts ok (tells f)) = elim f [ ]
cleaning_told (accepts ok (opens m room)) = (refl, m)

blocked_told : {st : State} {i n t : ℕ} {x : Cell} {next : State} → Step st (CollectStep i n) (Blocked x t) next → (f : ℕ) × (get st.collectors i ≡ Some f) × Marked st x t × (t < f)
blocked_told (accepts ok (tells (is_blocked {f = f} g m below))) = (f, g, m, below)

pub tells_marks : (st : State) → TellsMarks st
tells_marks st = record {
  pending = λ s t x next step. pending_told step;
  conflict = λ t place next step. conflict_told step;
  no_lock = λ x next step. no_lock_told step;
  cleaning = λ x i t next step. cleaning_told step;
  blocked = λ i n t x next step. blocked_told step;
}
