-- One server has at most as many sessions as the limit says.
use Rattle.std.proofs.Common.{ℕ, ◌+◌, ◌≤◌, true, false, cond, List, length, inl, inr, sym, subst, arith}
use Rattle.std.specs.Prelude.{nat_eq}
use Rattle.std.specs.Ordering.{nat_cmp}
use Rattle.std.specs.FinMap.{insert, remove, len, empty, len-empty}
use Rattle.std.proofs.Math.Nat.{le_trans}
use Rattle.std.proofs.lemmas.Bool.{cases_lt}
use Rattle.cell_key.specs.declared.refusals.Refusal.TheVariants.{TooManySessions}
use Rattle.si_model.specs.Machine.{State, Phase, Open, Holding, Stamped, Finishing, Request, Reply, Begin, InPhase, finishing, most_sessions, IsAcceptable}
use Rattle.si_model.specs.Refusing.{begin_full}
use Rattle.si_model.specs.Machine.{Acts, tells, begins, reads, scans, sets, deletes, holds, conflicts, draws, loses, commits, finishes, stops, opens, kills, learns, rolls_forward, rolls_back, finds_gone, collects, has_collected, splits, moves_tablet, refuses, accepts}
use Rattle.si_model.specs.Machine.{Run, rests, goes_on, IsReached, begins_new, runs, reopens}
use Rattle.si_model.specs.Laws.{HasFewSessions}
use Rattle.si_model.proofs.Tools.{len_grows, len_stays, len_falls}
use Rattle.si_model.proofs.Kept.{held_phase}

goes_few : (st : State) (t : ℕ) (p p' : Phase) → InPhase st t p → HasFewSessions st → len (insert st.active t p') ≤ most_sessions
goes_few st t p p' h few = subst (λ n. n ≤ most_sessions) (sym (len_stays st.active t p' p h)) few

ends_few : (st : State) (t : ℕ) → HasFewSessions st → len (remove st.active t) ≤ most_sessions
ends_few st t few = le_trans (len_falls st.active t) few

late_few : (st : State) (t c k n : ℕ) (p : Phase) → InPhase st t p → HasFewSessions st → len (finishing st.active t c k n) ≤ most_sessions
late_few st t c k n p h few = elim (nat_eq k n) as (λ d. len (cond d (remove st.active t) (insert st.active t (Finishing c k))) ≤ most_sessions) [
  | true ↦ ends_few st t few
  | false ↦ goes_few st t p (Finishing c k) h few
]

begins_few : (st : State) (s : ℕ) → IsAcceptable st Begin → len (insert st.active s Open) ≤ most_sessions
begins_few st s ok = elim (cases_lt (len st.active) most_sessions) [
  | inl room ↦ let more = len_grows st.active s Open in omega arith
  | inr full ↦ absurd (ok TooManySessions (begin_full full))
]

acts_few : {st st' : State} {q : Request} {r : Reply} → HasFewSessions st → IsAcceptable st q → Acts st q r st' → HasFewSessions st'
acts_few {st} few ok (begins {s = s} d) = begins_few st s ok
acts_few {st} few ok (holds {t = t} {k = k} h w puts free) = let hp = held_phase st t k h in goes_few st t hp.p (Holding (k + 1)) hp.is few
acts_few {st} few ok (draws {t = t} {c = c} {ws = ws} h w d) = goes_few st t (Holding (length ws)) (Stamped c) h few
acts_few {st} few ok (commits {t = t} {c = c} {ws = ws} h alive w puts less) = late_few st t c 1 (length ws) (Stamped c) h few
acts_few {st} few ok (finishes {t = t} {c = c} {k = k} {ws = ws} h w puts less) = late_few st t c (k + 1) (length ws) (Finishing c k) h few
acts_few {st} few ok (conflicts {t = t} h w puts clash) = ends_few st t few
acts_few {st} few ok (loses {t = t} h d) = ends_few st t few
acts_few {st} few ok (stops {t = t} h) = ends_few st t few
acts_few few ok (tells t) = few
acts_few few ok (reads h none shown) = few
acts_few few ok (scans h is) = few
acts_few few ok (sets h w by) = few
acts_few few ok (deletes h w by) = few
acts_few few ok (opens m room) = few
acts_few few ok (kills is nc alive w puts less) = few
acts_few few ok (learns is fate) = few
acts_few few ok (rolls_forward is m committed less) = few
acts_few few ok (rolls_back is m nc less) = few
acts_few few ok (finds_gone is m) = few
acts_few few ok (collects is_floor room) = few
acts_few few ok (has_collected h none) = few
acts_few few ok (splits cut) = few
acts_few few ok (moves_tablet is_moved) = few

run_few : {st st' : State} {qs : List Request} {rs : List Reply} → HasFewSessions st → Run st qs rs st' → HasFewSessions st'
run_few few rests = few
run_few few (goes_on (refuses n) r) = run_few few r
run_few few (goes_on (accepts ok a) r) = run_few (acts_few few ok a) r

none_active : len (empty {X = Phase} {R = nat_cmp}) ≤ most_sessions
none_active = subst (λ n. n ≤ most_sessions) (sym (len-empty nat_cmp Phase)) (omega arith)

pub few_sessions : (st : State) → IsReached st → HasFewSessions st
few_sessions st begins_new = none_active
few_sessions st (runs {st = before} r run) = run_few (few_sessions before r) run
few_sessions st (reopens r) = none_active
