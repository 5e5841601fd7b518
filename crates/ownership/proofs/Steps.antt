-- What one step of the machine does to what has a name, and what its reply gives.
use Rattle.std.proofs.Common.{◌≡◌, ◌≢◌, ℕ, Bool, true, false, cond, [], Option, Some, None, refl, sym, ap, subst, ◌∙◌, arith}
use Rattle.std.specs.Prelude.{is_some, nat_eq}
use Rattle.std.specs.Ordering.{nat_cmp}
use Rattle.std.specs.FinMap.{FinMap, get, insert, remove}
use Rattle.std.proofs.lemmas.Bool.Decides.{nat_tests}
use Rattle.std.proofs.lemmas.Option.{none-some, same_Some}
use Rattle.cell_key.specs.declared.refusals.Refusal.TheVariants.{UnknownSession, UnknownCleaner, UnknownCollector}
use Rattle.si_model.specs.Machine.{State, Phase, Open, Finishing, Request, Reply, finishing, IsAcceptable}
use Rattle.si_model.specs.Messages as asks
use Rattle.si_model.specs.Refusing.{get_unknown, set_unknown, delete_unknown, scan_unknown, advance_unknown, stop_unknown, clean_unknown, collect_unknown}
use Rattle.si_model.specs.Machine.{Tells, waits, finds_none, is_blocked, goes_further, minors, merges, majors, sweeps, restarts, finds_raw, checkpoints, reports, Acts, tells, begins, reads, scans, sets, deletes, holds, conflicts, draws, loses, commits, finishes, stops, opens, kills, learns, rolls_forward, rolls_back, finds_gone, collects, has_collected, splits, moves_tablet, Step, refuses, accepts}
use Rattle.si_model.proofs.Tools.{get_same, get_other, get_remains}
use Rattle.ownership.specs.Names.{request_name as name_of, request_kind, reply_name, is_kind, is_name, is_open, kind_of, same_name}
use Rattle.ownership.specs.Effects.{StaysAsItWas}
use Rattle.ownership.specs.declared.names.Name.{Name}
use Rattle.ownership.specs.declared.names.Name.TheVariants.{Session, Cleaner, Collector}

abbrev pub gives : Reply → Name → Bool
gives r name = is_name (reply_name r) name

pub ne_of : (a b : ℕ) → nat_eq a b ≡ false → b ≢ a
ne_of a b e h = grind (arith, nat_tests)

pub eq_of : (a b : ℕ) → nat_eq a b ≡ true → b ≡ a
eq_of a b e = grind (arith, nat_tests)

pub none_of : {X : Type 0} (o : Option X) → is_some o ≡ false → o ≡ None
none_of None e = refl
none_of (Some x) e = cc

finishing_other : (m : FinMap nat_cmp Phase) (t c k n q : ℕ) → q ≢ t → get (finishing m t c k n) q ≡ get m q
finishing_other m t c k n q ne = either (nat_eq k n)
  where
    either : (b : Bool) → get (cond b (remove m t) (insert m t (Finishing c k))) q ≡ get m q
    either true = get_remains m t q ne
    either false = get_other m t (Finishing c k) q ne

abbrev SameSession : State → State → ℕ → Type 0
SameSession st next k = (get next.active k ≡ get st.active k) × (get next.begun k ≡ get st.begun k)

session_acts : {st next : State} {q : Request} {r : Reply} → Acts st q r next → (k : ℕ) → name_of q ≢ Some (Session k) → gives r (Session k) ≡ false → SameSession st next k
session_acts (tells t) k ne g = (refl, refl)
session_acts {st} (begins {s = s} d) k ne g = (get_other st.active s Open k (ne_of s k g), get_other st.begun s [] k (ne_of s k g))
session_acts (reads h none shown) k ne g = (refl, refl)
session_acts (scans h is) k ne g = (refl, refl)
session_acts {st} (sets {s = s} {ws' = ws'} h w by) k ne g = (refl, get_other st.begun s ws' k (λ e. ne (ap (λ n. Some (Session n)) (sym e))))
session_acts {st} (deletes {s = s} {ws' = ws'} h w by) k ne g = (refl, get_other st.begun s ws' k (λ e. ne (ap (λ n. Some (Session n)) (sym e))))
session_acts {st} (holds {t = t} h w puts free) k ne g = (get_other st.active t _ k (λ e. ne (ap (λ n. Some (Session n)) (sym e))), refl)
session_acts {st} (conflicts {t = t} h w puts clash) k ne g = (get_remains st.active t k (λ e. ne (ap (λ n. Some (Session n)) (sym e))), refl)
session_acts {st} (draws {t = t} h w d) k ne g = (get_other st.active t _ k (λ e. ne (ap (λ n. Some (Session n)) (sym e))), refl)
session_acts {st} (loses {t = t} h d) k ne g = (get_remains st.active t k (λ e. ne (ap (λ n. Some (Session n)) (sym e))), refl)
session_acts {st} (commits {t = t} h alive w puts less) k ne g = (finishing_other st.active t _ _ _ k (λ e. ne (ap (λ n. Some (Session n)) (sym e))), refl)
session_acts {st} (finishes {t = t} h w puts less) k ne g = (finishing_other st.active t _ _ _ k (λ e. ne (ap (λ n. Some (Session n)) (sym e))), refl)
session_acts {st} (stops {t = t} h) k ne g = (get_remains st.active t k (λ e. ne (ap (λ n. Some (Session n)) (sym e))), refl)
session_acts (opens m room) k ne g = (refl, refl)
session_acts (kills is nc alive w puts less) k ne g = (refl, refl)
session_acts (learns is fate) k ne g = (refl, refl)
session_acts (rolls_forward is m committed less) k ne g = (refl, refl)
session_acts (rolls_back is m nc less) k ne g = (refl, refl)
session_acts (finds_gone is m) k ne g = (refl, refl)
session_acts (collects is low) k ne g = (refl, refl)
session_acts (has_collected h none) k ne g = (refl, refl)
session_acts (splits cut) k ne g = (refl, refl)
session_acts (moves_tablet is) k ne g = (refl, refl)

cleaner_acts : {st next : State} {q : Request} {r : Reply} → Acts st q r next → (k : ℕ) → name_of q ≢ Some (Cleaner k) → gives r (Cleaner k) ≡ false → get next.cleaners k ≡ get st.cleaners k
cleaner_acts (tells t) k ne g = refl
cleaner_acts (begins d) k ne g = refl
cleaner_acts (reads h none shown) k ne g = refl
cleaner_acts (scans h is) k ne g = refl
cleaner_acts (sets h w by) k ne g = refl
cleaner_acts (deletes h w by) k ne g = refl
cleaner_acts (holds h w puts free) k ne g = refl
cleaner_acts (conflicts h w puts clash) k ne g = refl
cleaner_acts (draws h w d) k ne g = refl
cleaner_acts (loses h d) k ne g = refl
cleaner_acts (commits h alive w puts less) k ne g = refl
cleaner_acts (finishes h w puts less) k ne g = refl
cleaner_acts (stops h) k ne g = refl
cleaner_acts {st} (opens m room) k ne g = get_other st.cleaners st.next_cleaner _ k (ne_of st.next_cleaner k g)
cleaner_acts {st} (kills {i = i} is nc alive w puts less) k ne g = get_other st.cleaners i _ k (λ e. ne (ap (λ n. Some (Cleaner n)) (sym e)))
cleaner_acts {st} (learns {i = i} is fate) k ne g = get_other st.cleaners i _ k (λ e. ne (ap (λ n. Some (Cleaner n)) (sym e)))
cleaner_acts {st} (rolls_forward {i = i} is m committed less) k ne g = get_remains st.cleaners i k (λ e. ne (ap (λ n. Some (Cleaner n)) (sym e)))
cleaner_acts {st} (rolls_back {i = i} is m nc less) k ne g = get_remains st.cleaners i k (λ e. ne (ap (λ n. Some (Cleaner n)) (sym e)))
cleaner_acts {st} (finds_gone {i = i} is m) k ne g = get_remains st.cleaners i k (λ e. ne (ap (λ n. Some (Cleaner n)) (sym e)))
cleaner_acts (collects is low) k ne g = refl
cleaner_acts (has_collected h none) k ne g = refl
cleaner_acts (splits cut) k ne g = refl
cleaner_acts (moves_tablet is) k ne g = refl

collector_acts : {st next : State} {q : Request} {r : Reply} → Acts st q r next → (k : ℕ) → name_of q ≢ Some (Collector k) → gives r (Collector k) ≡ false → get next.collectors k ≡ get st.collectors k
collector_acts (tells t) k ne g = refl
collector_acts (begins d) k ne g = refl
collector_acts (reads h none shown) k ne g = refl
collector_acts (scans h is) k ne g = refl
collector_acts (sets h w by) k ne g = refl
collector_acts (deletes h w by) k ne g = refl
collector_acts (holds h w puts free) k ne g = refl
collector_acts (conflicts h w puts clash) k ne g = refl
collector_acts (draws h w d) k ne g = refl
collector_acts (loses h d) k ne g = refl
collector_acts (commits h alive w puts less) k ne g = refl
collector_acts (finishes h w puts less) k ne g = refl
collector_acts (stops h) k ne g = refl
collector_acts (opens m room) k ne g = refl
collector_acts (kills is nc alive w puts less) k ne g = refl
collector_acts (learns is fate) k ne g = refl
collector_acts (rolls_forward is m committed less) k ne g = refl
collector_acts (rolls_back is m nc less) k ne g = refl
collector_acts (finds_gone is m) k ne g = refl
collector_acts {st} (collects is low) k ne g = get_other st.collectors st.next_collector _ k (ne_of st.next_collector k g)
collector_acts {st} (has_collected {i = i} h none) k ne g = get_remains st.collectors i k (λ e. ne (ap (λ n. Some (Collector n)) (sym e)))
collector_acts (splits cut) k ne g = refl
collector_acts (moves_tablet is) k ne g = refl

pub others : {st next : State} {q : Request} {r : Reply} → Step st q r next → (name : Name) → name_of q ≢ Some name → gives r name ≡ false → StaysAsItWas st next name
others (refuses f) (Session k) ne g = (refl, refl)
others (refuses f) (Cleaner k) ne g = refl
others (refuses f) (Collector k) ne g = refl
others (accepts ok a) (Session k) ne g = session_acts a k ne g
others (accepts ok a) (Cleaner k) ne g = cleaner_acts a k ne g
others (accepts ok a) (Collector k) ne g = collector_acts a k ne g

pub is_there : {X : Type 0} (m : FinMap nat_cmp X) (k q : ℕ) (v : X) → nat_eq k q ≡ true → is_some (get (insert m k v) q) ≡ true
is_there m k q v e = ap is_some (ap (get (insert m k v)) (eq_of k q e) ∙ get_same m k v)

pub tells_none : {st : State} {q : Request} {r : Reply} → Tells st q r → (name : Name) → gives r name ≡ true → ⊥
tells_none (waits h m low) name g = cc
tells_none (finds_none n) name g = cc
tells_none (is_blocked h m low) name g = cc
tells_none (goes_further h) name g = cc
tells_none minors name g = cc
tells_none merges name g = cc
tells_none majors name g = cc
tells_none sweeps name g = cc
tells_none restarts name g = cc
tells_none finds_raw name g = cc
tells_none checkpoints name g = cc
tells_none reports name g = cc

given_session : {st next : State} {q : Request} {r : Reply} → Acts st q r next → (k : ℕ) → gives r (Session k) ≡ true → is_some (get next.active k) ≡ true
given_session {st} (begins {s = s} d) k g = is_there st.active s k Open g
given_session (tells t) k g = absurd (tells_none t (Session k) g)
given_session (reads h none shown) k g = cc
given_session (scans h is) k g = cc
given_session (sets h w by) k g = cc
given_session (deletes h w by) k g = cc
given_session (holds h w puts free) k g = cc
given_session (conflicts h w puts clash) k g = cc
given_session (draws h w d) k g = cc
given_session (loses h d) k g = cc
given_session (commits h alive w puts less) k g = cc
given_session (finishes h w puts less) k g = cc
given_session (stops h) k g = cc
given_session (kills is nc alive w puts less) k g = cc
given_session (learns is fate) k g = cc
given_session (rolls_forward is m committed less) k g = cc
given_session (rolls_back is m nc less) k g = cc
given_session (finds_gone is m) k g = cc
given_session (has_collected h none) k g = cc
given_session (splits cut) k g = cc
given_session (moves_tablet is) k g = cc
given_session (opens m room) k g = cc
given_session (collects is low) k g = cc

given_cleaner : {st next : State} {q : Request} {r : Reply} → Acts st q r next → (k : ℕ) → gives r (Cleaner k) ≡ true → is_some (get next.cleaners k) ≡ true
given_cleaner {st} (opens m room) k g = is_there st.cleaners st.next_cleaner k _ g
given_cleaner (tells t) k g = absurd (tells_none t (Cleaner k) g)
given_cleaner (reads h none shown) k g = cc
given_cleaner (scans h is) k g = cc
given_cleaner (sets h w by) k g = cc
given_cleaner (deletes h w by) k g = cc
given_cleaner (holds h w puts free) k g = cc
given_cleaner (conflicts h w puts clash) k g = cc
given_cleaner (draws h w d) k g = cc
given_cleaner (loses h d) k g = cc
given_cleaner (commits h alive w puts less) k g = cc
given_cleaner (finishes h w puts less) k g = cc
given_cleaner (stops h) k g = cc
given_cleaner (kills is nc alive w puts less) k g = cc
given_cleaner (learns is fate) k g = cc
given_cleaner (rolls_forward is m committed less) k g = cc
given_cleaner (rolls_back is m nc less) k g = cc
given_cleaner (finds_gone is m) k g = cc
given_cleaner (has_collected h none) k g = cc
given_cleaner (splits cut) k g = cc
given_cleaner (moves_tablet is) k g = cc
given_cleaner (begins d) k g = cc
given_cleaner (collects is low) k g = cc

given_collector : {st next : State} {q : Request} {r : Reply} → Acts st q r next → (k : ℕ) → gives r (Collector k) ≡ true → is_some (get next.collectors k) ≡ true
given_collector {st} (collects is low) k g = is_there st.collectors st.next_collector k _ g
given_collector (tells t) k g = absurd (tells_none t (Collector k) g)
given_collector (reads h none shown) k g = cc
given_collector (scans h is) k g = cc
given_collector (sets h w by) k g = cc
given_collector (deletes h w by) k g = cc
given_collector (holds h w puts free) k g = cc
given_collector (conflicts h w puts clash) k g = cc
given_collector (draws h w d) k g = cc
given_collector (loses h d) k g = cc
given_collector (commits h alive w puts less) k g = cc
given_collector (finishes h w puts less) k g = cc
given_collector (stops h) k g = cc
given_collector (kills is nc alive w puts less) k g = cc
given_collector (learns is fate) k g = cc
given_collector (rolls_forward is m committed less) k g = cc
given_collector (rolls_back is m nc less) k g = cc
given_collector (finds_gone is m) k g = cc
given_collector (has_collected h none) k g = cc
given_collector (splits cut) k g = cc
given_collector (moves_tablet is) k g = cc
given_collector (begins d) k g = cc
given_collector (opens m room) k g = cc

pub given : {st next : State} {q : Request} {r : Reply} → Step st q r next → (name : Name) → gives r name ≡ true → is_open next name ≡ true
given (refuses f) name g = cc
given (accepts ok a) (Session k) g = given_session a k g
given (accepts ok a) (Cleaner k) g = given_cleaner a k g
given (accepts ok a) (Collector k) g = given_collector a k g

-- what is given is of the kind that the request may give
fits_acts : {st next : State} {q : Request} {r : Reply} → Acts st q r next → (name : Name) → gives r name ≡ true → is_kind (request_kind q) (kind_of name) ≡ true
fits_acts (begins d) (Session k) g = refl
fits_acts (begins d) (Cleaner k) g = cc
fits_acts (begins d) (Collector k) g = cc
fits_acts (opens m room) (Session k) g = cc
fits_acts (opens m room) (Cleaner k) g = refl
fits_acts (opens m room) (Collector k) g = cc
fits_acts (collects is low) (Session k) g = cc
fits_acts (collects is low) (Cleaner k) g = cc
fits_acts (collects is low) (Collector k) g = refl
fits_acts (tells t) name g = absurd (tells_none t name g)
fits_acts (reads h none shown) name g = cc
fits_acts (scans h is) name g = cc
fits_acts (sets h w by) name g = cc
fits_acts (deletes h w by) name g = cc
fits_acts (holds h w puts free) name g = cc
fits_acts (conflicts h w puts clash) name g = cc
fits_acts (draws h w d) name g = cc
fits_acts (loses h d) name g = cc
fits_acts (commits h alive w puts less) name g = cc
fits_acts (finishes h w puts less) name g = cc
fits_acts (stops h) name g = cc
fits_acts (kills is nc alive w puts less) name g = cc
fits_acts (learns is fate) name g = cc
fits_acts (rolls_forward is m committed less) name g = cc
fits_acts (rolls_back is m nc less) name g = cc
fits_acts (finds_gone is m) name g = cc
fits_acts (has_collected h none) name g = cc
fits_acts (splits cut) name g = cc
fits_acts (moves_tablet is) name g = cc

pub fits : {st next : State} {q : Request} {r : Reply} → Step st q r next → (name : Name) → gives r name ≡ true → is_kind (request_kind q) (kind_of name) ≡ true
fits (refuses f) name g = cc
fits (accepts ok a) name g = fits_acts a name g

unknown_acts : (st next : State) (q : Request) (r : Reply) → IsAcceptable st q → (name : Name) → name_of q ≡ Some name → is_open st name ≡ false → ⊥
unknown_acts st next (asks.Get s x) r ok name e c = ok UnknownSession (get_unknown (none_of _ (subst (λ n. is_open st n ≡ false) (sym (same_Some _ _ e)) c)))
unknown_acts st next (asks.ScanFrom s range keys_only cells) r ok name e c = ok UnknownSession (scan_unknown (none_of _ (subst (λ n. is_open st n ≡ false) (sym (same_Some _ _ e)) c)))
unknown_acts st next (asks.Set s x v) r ok name e c = ok UnknownSession (set_unknown (none_of _ (subst (λ n. is_open st n ≡ false) (sym (same_Some _ _ e)) c)))
unknown_acts st next (asks.Delete s x) r ok name e c = ok UnknownSession (delete_unknown (none_of _ (subst (λ n. is_open st n ≡ false) (sym (same_Some _ _ e)) c)))
unknown_acts st next (asks.Advance s) r ok name e c = ok UnknownSession (advance_unknown (none_of _ (subst (λ n. is_open st n ≡ false) (sym (same_Some _ _ e)) c)))
unknown_acts st next (asks.Stop s) r ok name e c = ok UnknownSession (stop_unknown (none_of _ (subst (λ n. is_open st n ≡ false) (sym (same_Some _ _ e)) c)))
unknown_acts st next (asks.CleanStep i) r ok name e c = ok UnknownCleaner (clean_unknown (none_of _ (subst (λ n. is_open st n ≡ false) (sym (same_Some _ _ e)) c)))
unknown_acts st next (asks.CollectStep i n) r ok name e c = ok UnknownCollector (collect_unknown (none_of _ (subst (λ n. is_open st n ≡ false) (sym (same_Some _ _ e)) c)))
unknown_acts st next asks.Begin r ok name e c = none-some name e
unknown_acts st next (asks.CleanBegin x) r ok name e c = none-some name e
unknown_acts st next asks.CollectBegin r ok name e c = none-some name e
unknown_acts st next (asks.Minor k) r ok name e c = none-some name e
unknown_acts st next (asks.Merge k n) r ok name e c = none-some name e
unknown_acts st next (asks.Major k) r ok name e c = none-some name e
unknown_acts st next (asks.Split row) r ok name e c = none-some name e
unknown_acts st next (asks.Move k n) r ok name e c = none-some name e
unknown_acts st next asks.Sweep r ok name e c = none-some name e
unknown_acts st next asks.OracleRestart r ok name e c = none-some name e
unknown_acts st next (asks.Raw x f low high) r ok name e c = none-some name e
unknown_acts st next asks.Checkpoint r ok name e c = none-some name e
unknown_acts st next (asks.Status k) r ok name e c = none-some name e

unknown : {st next : State} {q : Request} {r : Reply} → Step st q r next → (name : Name) → name_of q ≡ Some name → is_open st name ≡ false → next ≡ st
unknown (refuses f) name e c = refl
unknown {st} {next} {q} {r} (accepts ok a) name e c = absurd (unknown_acts st next q r ok name e c)

-- ---- names

nat_same : (a b : ℕ) → nat_eq a b ≡ true → a ≡ b
nat_same a b e = grind (arith, nat_tests)

pub same : (a b : Name) → same_name a b ≡ true → a ≡ b
same (Session a) (Session b) e = ap Session (nat_same a b e)
same (Cleaner a) (Cleaner b) e = ap Cleaner (nat_same a b e)
same (Collector a) (Collector b) e = ap Collector (nat_same a b e)
same (Session a) (Cleaner b) e = cc
same (Session a) (Collector b) e = cc
same (Cleaner a) (Session b) e = cc
same (Cleaner a) (Collector b) e = cc
same (Collector a) (Session b) e = cc
same (Collector a) (Cleaner b) e = cc

nat_itself : (a : ℕ) → nat_eq a a ≡ true
nat_itself a = grind (arith, nat_tests)

pub itself : (a : Name) → same_name a a ≡ true
itself (Session a) = nat_itself a
itself (Cleaner a) = nat_itself a
itself (Collector a) = nat_itself a

pub differ : true ≡ false → ⊥
differ e = cc

pub not_named : (o : Option Name) (name : Name) → is_name o name ≡ false → o ≢ Some name
not_named None name e h = none-some name h
not_named (Some n) name e h = differ (sym (subst (λ (x : Name). same_name x name ≡ true) (sym (same_Some n name h)) (itself name)) ∙ e)

pub is_named : (o : Option Name) (name : Name) → is_name o name ≡ true → o ≡ Some name
is_named None name e = cc
is_named (Some n) name e = ap Some (same n name e)

-- what is as it was is open if it was
pub stays_open : (st next : State) (name : Name) → StaysAsItWas st next name → is_open next name ≡ is_open st name
stays_open st next (Session k) s = ap is_some s.0
stays_open st next (Cleaner k) s = ap is_some s
stays_open st next (Collector k) s = ap is_some s

-- only what the reply gives begins to be open
pub stays_closed : {st next : State} {q : Request} {r : Reply} → Step st q r next → (name : Name) → is_open st name ≡ false → gives r name ≡ false → is_open next name ≡ false
stays_closed {st} {next} {q} {r} step name closed g = either (is_name (name_of q) name) refl
  where
    either : (b : Bool) → is_name (name_of q) name ≡ b → is_open next name ≡ false
    either true e = ap (λ (s : State). is_open s name) (unknown step name (is_named (name_of q) name e) closed) ∙ closed
    either false e = stays_open st next name (others step name (not_named (name_of q) name e) g) ∙ closed
