-- The names that replies give are new, and none is 0.
use Rattle.std.proofs.Common.{◌≡◌, ℕ, ◌<◌, Bool, true, false, List, Option, None, Some, refl, ap, arith}
use Rattle.std.specs.Prelude.{is_some, nat_eq}
use Rattle.std.specs.Ordering.{nat_cmp}
use Rattle.std.specs.FinMap.{get, get-empty}
use Rattle.std.proofs.lemmas.Bool.Decides.{nat_tests}
use Rattle.si_model.specs.Machine.{State, Request, Reply, IsReached, begins_new, runs, reopens, Run, rests, goes_on}
use Rattle.si_model.specs.Machine.{Tells, Acts, tells, begins, reads, scans, sets, deletes, holds, conflicts, draws, loses, commits, finishes, stops, opens, kills, learns, rolls_forward, rolls_back, finds_gone, collects, has_collected, splits, moves_tablet, Step, refuses, accepts}
use Rattle.si_model.specs.Laws.{StartsLow, Numbers}
use Rattle.si_model.proofs.Steps.{reached_sound}
use Rattle.si_model.proofs.Numbers.{reached_numbers}
use Rattle.ownership.specs.Names.{is_open}
use Rattle.ownership.specs.declared.names.Name.{Name}
use Rattle.ownership.specs.declared.names.Name.TheVariants.{Session, Cleaner, Collector}
use Rattle.ownership.proofs.Steps.{eq_of, gives, stays_closed, tells_none}

starts_low : (st : State) → IsReached st → StartsLow st
starts_low st reached t p h = let i = reached_sound reached in let b = i.has_begun t p h in i.start_low t b.0 b.1

nothing_there : {X : Type 0} (o : Option X) → ((x : X) → o ≡ Some x → ⊥) → is_some o ≡ false
nothing_there None h = refl
nothing_there (Some x) h = absurd (h x refl)

-- each reply that gives a name was of an act that gives it
new_session : {st next : State} {q : Request} {r : Reply} → StartsLow st → Acts st q r next → (k : ℕ) → gives r (Session k) ≡ true → is_some (get st.active k) ≡ false
new_session {st} starts (begins {s = s} d) k g =
    nothing_there (get st.active k) (λ p h. let e = eq_of s k g in let l = starts k p h in let a = d.0 in omega arith)
new_session starts (tells t) k g = absurd (tells_none t (Session k) g)
new_session starts (reads h none shown) k g = cc
new_session starts (scans h is) k g = cc
new_session starts (sets h w by) k g = cc
new_session starts (deletes h w by) k g = cc
new_session starts (holds h w puts free) k g = cc
new_session starts (conflicts h w puts clash) k g = cc
new_session starts (draws h w d) k g = cc
new_session starts (loses h d) k g = cc
new_session starts (commits h alive w puts less) k g = cc
new_session starts (finishes h w puts less) k g = cc
new_session starts (stops h) k g = cc
new_session starts (kills is nc alive w puts less) k g = cc
new_session starts (learns is fate) k g = cc
new_session starts (rolls_forward is m committed less) k g = cc
new_session starts (rolls_back is m nc less) k g = cc
new_session starts (finds_gone is m) k g = cc
new_session starts (has_collected h none) k g = cc
new_session starts (splits cut) k g = cc
new_session starts (moves_tablet is) k g = cc
new_session starts (opens m room) k g = cc
new_session starts (collects is low) k g = cc

new_cleaner : {st next : State} {q : Request} {r : Reply} → Numbers st → Acts st q r next → (k : ℕ) → gives r (Cleaner k) ≡ true → is_some (get st.cleaners k) ≡ false
new_cleaner {st} n (opens m low) k g =
    nothing_there (get st.cleaners k) (λ x h. let e = eq_of st.next_cleaner k g in let b = n.cleaners.below k x h in omega arith)
new_cleaner n (tells t) k g = absurd (tells_none t (Cleaner k) g)
new_cleaner n (reads h none shown) k g = cc
new_cleaner n (scans h is) k g = cc
new_cleaner n (sets h w by) k g = cc
new_cleaner n (deletes h w by) k g = cc
new_cleaner n (holds h w puts free) k g = cc
new_cleaner n (conflicts h w puts clash) k g = cc
new_cleaner n (draws h w d) k g = cc
new_cleaner n (loses h d) k g = cc
new_cleaner n (commits h alive w puts less) k g = cc
new_cleaner n (finishes h w puts less) k g = cc
new_cleaner n (stops h) k g = cc
new_cleaner n (kills is nc alive w puts less) k g = cc
new_cleaner n (learns is fate) k g = cc
new_cleaner n (rolls_forward is m committed less) k g = cc
new_cleaner n (rolls_back is m nc less) k g = cc
new_cleaner n (finds_gone is m) k g = cc
new_cleaner n (has_collected h none) k g = cc
new_cleaner n (splits cut) k g = cc
new_cleaner n (moves_tablet is) k g = cc
new_cleaner n (begins d) k g = cc
new_cleaner n (collects is low) k g = cc

new_collector : {st next : State} {q : Request} {r : Reply} → Numbers st → Acts st q r next → (k : ℕ) → gives r (Collector k) ≡ true → is_some (get st.collectors k) ≡ false
new_collector {st} n (collects is low) k g =
    nothing_there (get st.collectors k) (λ x h. let e = eq_of st.next_collector k g in let b = n.collectors.below k x h in omega arith)
new_collector n (tells t) k g = absurd (tells_none t (Collector k) g)
new_collector n (reads h none shown) k g = cc
new_collector n (scans h is) k g = cc
new_collector n (sets h w by) k g = cc
new_collector n (deletes h w by) k g = cc
new_collector n (holds h w puts free) k g = cc
new_collector n (conflicts h w puts clash) k g = cc
new_collector n (draws h w d) k g = cc
new_collector n (loses h d) k g = cc
new_collector n (commits h alive w puts less) k g = cc
new_collector n (finishes h w puts less) k g = cc
new_collector n (stops h) k g = cc
new_collector n (kills is nc alive w puts less) k g = cc
new_collector n (learns is fate) k g = cc
new_collector n (rolls_forward is m committed less) k g = cc
new_collector n (rolls_back is m nc less) k g = cc
new_collector n (finds_gone is m) k g = cc
new_collector n (has_collected h none) k g = cc
new_collector n (splits cut) k g = cc
new_collector n (moves_tablet is) k g = cc
new_collector n (begins d) k g = cc
new_collector n (opens m room) k g = cc

pub new_name : {st next : State} {q : Request} {r : Reply} → IsReached st → Step st q r next → (name : Name) → gives r name ≡ true → is_open st name ≡ false
new_name reached (refuses f) name g = cc
new_name {st} reached (accepts ok a) (Session k) g = new_session (starts_low st reached) a k g
new_name reached (accepts ok a) (Cleaner k) g = new_cleaner (reached_numbers reached) a k g
new_name reached (accepts ok a) (Collector k) g = new_collector (reached_numbers reached) a k g

-- ---- zero

zero_is : (s top : ℕ) → top < s → nat_eq s 0 ≡ false
zero_is s top less = grind (arith, nat_tests)

tells_zero : {st : State} {q : Request} (r : Reply) → Tells st q r → (b : Bool) → gives r (Session 0) ≡ b → gives r (Session 0) ≡ false
tells_zero r t true e = absurd (tells_none t (Session 0) e)
tells_zero r t false e = e

above_zero : {st next : State} {q : Request} {r : Reply} → Acts st q r next → gives r (Session 0) ≡ false
above_zero {st} (begins {s = s} d) = zero_is s st.top d.0
above_zero {r = r} (tells t) = tells_zero r t (gives r (Session 0)) refl
above_zero (reads h none shown) = refl
above_zero (scans h is) = refl
above_zero (sets h w by) = refl
above_zero (deletes h w by) = refl
above_zero (holds h w puts free) = refl
above_zero (conflicts h w puts clash) = refl
above_zero (draws h w d) = refl
above_zero (loses h d) = refl
above_zero (commits h alive w puts less) = refl
above_zero (finishes h w puts less) = refl
above_zero (stops h) = refl
above_zero (kills is nc alive w puts less) = refl
above_zero (learns is fate) = refl
above_zero (rolls_forward is m committed less) = refl
above_zero (rolls_back is m nc less) = refl
above_zero (finds_gone is m) = refl
above_zero (has_collected h none) = refl
above_zero (splits cut) = refl
above_zero (moves_tablet is) = refl
above_zero (opens m room) = refl
above_zero (collects is low) = refl

step_zero : {st next : State} {q : Request} {r : Reply} → Step st q r next → gives r (Session 0) ≡ false
step_zero (refuses f) = refl
step_zero (accepts ok a) = above_zero a

run_zero : {st next : State} {qs : List Request} {rs : List Reply} → is_open st (Session 0) ≡ false → Run st qs rs next → is_open next (Session 0) ≡ false
run_zero h rests = h
run_zero h (goes_on step run) = run_zero (stays_closed step (Session 0) h (step_zero step)) run

pub session_zero : {st : State} → IsReached st → is_open st (Session 0) ≡ false
session_zero begins_new = ap is_some (get-empty nat_cmp 0)
session_zero (runs r run) = run_zero (session_zero r) run
session_zero (reopens r) = ap is_some (get-empty nat_cmp 0)
