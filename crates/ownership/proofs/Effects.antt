-- What an operation does to what is live.
use Rattle.std.proofs.Common.{◌≡◌, ◌≢◌, ℕ, Bool, true, false, ◌&&◌, not, ◌+◌, List, Option, Some, None, refl, sym, ap, subst, ◌∙◌, arith, if◌then◌else◌}
use Rattle.std.specs.Prelude.{is_some, nat_eq}
use Rattle.std.specs.Ordering.{nat_cmp}
use Rattle.std.specs.FinMap.{FinMap, get, insert}
use Rattle.std.proofs.lemmas.Bool.Decides.{nat_tests}
use Rattle.std.proofs.lemmas.Option.{none-some, same_Some}
use Rattle.si_model.specs.Machine.{State, Holding, Stamped, holds, draws, Range, Change, Value, Item, Request, Reply, Writes, Advance, Begin, Get, Stop, StopDone, IsReached, Step, refuses, accepts, tells, reads as reads_cell, scans, sets, deletes, stops}
use Rattle.si_model.specs.Messages as asks
use Rattle.si_model.specs.Transactions.{Operation, One, Commit, Read, Answer, Said, ReadDone, Opens, is_open as found_open, begins, Buffers, all_taken, takes, Advances, rests, advances, request_of, reply_of, Transacts, commits, conflicts, is_unknown, is_late, gives_up, refuses as refuses_one, ReadsAll, all_read, finds, IsTold, has_nothing, is_sent, is_left_out, is_blocked, StaysOrEnds, ReadsTogether, miscounts, gives_up_reads, reads, names_unknown, names_late, refuses_begin, refuses_read, steps, transacts, reads_together}
use Rattle.si_model.specs.Replies.{progress_reply}
use Rattle.si_model.specs.declared.replies.Cell.{Cell}
use Rattle.si_model.specs.declared.replies.Progress.{Progress}
use Rattle.si_model.specs.declared.replies.Progress.TheVariants as progress
use Rattle.si_model.proofs.Tools.{get_other, get_removed}
use Rattle.ownership.specs.Names.{name_of, request_kind, request_name, reply_name, start_name, is_kind, is_open, is_name, if_of_kind, kind_of, same_name}
use Rattle.ownership.specs.Names as names
use Rattle.ownership.specs.Effects.{StaysAsItWas, goes_further, may_close, may_end, TouchesItsOwn, EachTouchesItsOwn}
use Rattle.ownership.specs.declared.names.Kind.{Kind}
use Rattle.ownership.specs.declared.names.Kind.TheVariants as kinds
use Rattle.ownership.specs.declared.names.Name.{Name}
use Rattle.ownership.specs.declared.names.Name.TheVariants.{Session, Cleaner, Collector}
use Rattle.ownership.proofs.Steps.{fits, gives, given, others, differ, same, itself, is_there, ne_of, stays_open, stays_closed}
use Rattle.ownership.proofs.Fresh.{new_name, session_zero}

-- ---- as it was

pub stays_itself : (st : State) (name : Name) → StaysAsItWas st st name
stays_itself st (Session n) = (refl, refl)
stays_itself st (Cleaner n) = refl
stays_itself st (Collector n) = refl

pub stays_on : (a b c : State) (name : Name) → StaysAsItWas a b name → StaysAsItWas b c name → StaysAsItWas a c name
stays_on a b c (Session n) p q = (q.0 ∙ p.0, q.1 ∙ p.1)
stays_on a b c (Cleaner n) p q = q ∙ p
stays_on a b c (Collector n) p q = q ∙ p

-- ---- a step that gives nothing

module _ {st next : State} {q : Request} {r : Reply} (step : Step st q r next) where
  -- it leaves what it doesn't name
  silent : (s : ℕ) (name : Name) → request_name q ≡ Some (Session s) → ((n : Name) → gives r n ≡ false) → name ≢ Session s → StaysAsItWas st next name
  silent s name named none ne = others step name (λ e. ne (same_Some name (Session s) (sym e ∙ named))) (none name)

names_session : (s : ℕ) (x : Cell) (v : Change) → request_name (request_of s x v) ≡ Some (Session s)
names_session s x (Some value) = refl
names_session s x None = refl

gives_none : (v : Change) (n : Name) → gives (reply_of v) n ≡ false
gives_none (Some value) n = refl
gives_none None n = refl

progress_gives : (p : Progress) (n : Name) → gives (progress_reply p) n ≡ false
progress_gives (progress.Held place count) n = refl
progress_gives (progress.Conflict place) n = refl
progress_gives (progress.Stamped stamp) n = refl
progress_gives (progress.Committed stamp) n = refl
progress_gives progress.Lost n = refl
progress_gives (progress.Finished place count) n = refl

told_gives : {used : ℕ} {r : Reply} {said : Option Item} → IsTold used r said → (n : Name) → gives r n ≡ false
told_gives has_nothing n = refl
told_gives (is_sent room) n = refl
told_gives (is_left_out past) n = refl
told_gives is_blocked n = refl

-- ---- steps of one session, one after the other

-- names of others stay as they were, and nothing is opened
record OneSession (s : ℕ) (st next : State) : Type 0 where
  leaves : (name : Name) → name ≢ Session s → StaysAsItWas st next name

none_done : (s : ℕ) (st : State) → OneSession s st st
none_done s st = record { leaves = λ name ne. stays_itself st name }

one_by_one : (s : ℕ) (a b c : State) → OneSession s a b → OneSession s b c → OneSession s a c
one_by_one s a b c p q = record { leaves = λ name ne. stays_on a b c name (p.leaves name ne) (q.leaves name ne) }

buffers_one : {s : ℕ} {st next : State} {ws : Writes} → Buffers s st ws next → OneSession s st next
buffers_one {s} {st} all_taken = none_done s st
buffers_one {s} {st} {next} (takes {mid = mid} {x = x} {v = v} step more) =
    one_by_one s st mid next (record { leaves = λ name ne. silent step s name (names_session s x v) (gives_none v) ne }) (buffers_one more)

advances_one : {s : ℕ} {st next : State} {ps : List Progress} → Advances s st ps next → OneSession s st next
advances_one {s} {st} rests = none_done s st
advances_one {s} {st} {next} (advances {mid = mid} {p = p} step more) =
    one_by_one s st mid next (record { leaves = λ name ne. silent step s name refl (progress_gives p) ne }) (advances_one more)

reads_one : {s used : ℕ} {st next : State} {xs : List Cell} {said : List (Option Item)} → ReadsAll s used st xs said next → OneSession s st next
reads_one {s} {st = st} all_read = none_done s st
reads_one {s} {st = st} {next = next} (finds {mid = mid} reply step told more) =
    one_by_one s st mid next (record { leaves = λ name ne. silent step s name refl (told_gives told) ne }) (reads_one more)

stop_one : {s : ℕ} {st next : State} → Step st (Stop s) StopDone next → OneSession s st next
stop_one {s} step = record { leaves = λ name ne. silent step s name refl (λ n. refl) ne }

ends_one : (b : Bool) {s : ℕ} {st next : State} → StaysOrEnds b st s next → OneSession s st next
ends_one true {s} {st} {next} e = subst (OneSession s st) (sym e) (none_done s st)
ends_one false step = stop_one step

-- a session that was stopped isn't live
pub stop_closes : {s : ℕ} {st next : State} → Step st (Stop s) StopDone next → is_open next (Session s) ≡ false
stop_closes {st = st} (accepts ok (stops {t = t} h)) = ap is_some (get_removed st.active t)
stop_closes (accepts ok (tells t)) = elim t [ ]

-- a read leaves its session live
get_stays : {st next : State} {s : ℕ} {x : Cell} {r : Reply} → Step st (Get s x) r next → next.active ≡ st.active
get_stays (refuses f) = refl
get_stays (accepts ok (reads_cell h none shown)) = refl
get_stays (accepts ok (tells t)) = refl

reads_stay : {s used : ℕ} {st next : State} {xs : List Cell} {said : List (Option Item)} → ReadsAll s used st xs said next → next.active ≡ st.active
reads_stay all_read = refl
reads_stay (finds reply step told more) = reads_stay more ∙ get_stays step

-- ---- the session of an operation

-- the session that is opened: the named one, which was live, or a new one
record IsOpened (st : State) (start s : ℕ) (mid : State) : Type 0 where
  leaves : (name : Name) → name ≢ Session s → StaysAsItWas st mid name
  there : is_open mid (Session s) ≡ true
  named : is_open st (Session s) ≡ true → start_name start ≡ Some (Session s)
  new : is_open st (Session s) ≡ false → start ≡ 0

positive : (n : ℕ) → n ≢ 0 → nat_eq n 0 ≡ false
positive n ne = grind (arith, nat_tests)

start_named : (s : ℕ) → s ≢ 0 → start_name s ≡ Some (Session s)
start_named s ne = ap (λ (b : Bool). if b then None else Some (Session s)) (positive s ne)

opened : {st mid : State} {start s : ℕ} → IsReached st → Opens st start s mid → IsOpened st start s mid
opened {st} reached (found_open {s = s} h) = record {
  leaves = λ name ne. stays_itself st name;
  there = ap is_some h;
  named = λ _. start_named s (λ zero. differ (sym (ap is_some h) ∙ subst (λ n. is_open st (Session n) ≡ false) (sym zero) (session_zero reached)));
  new = λ closed. absurd (differ (sym (ap is_some h) ∙ closed));
}
opened {st} reached (begins {s = s} {next = next} step) = record {
  leaves = λ name ne. others step name (λ e. none-some name e) (not_it (Session s) name ne);
  there = given step (Session s) (itself (Session s));
  named = λ live. absurd (differ (sym live ∙ new_name reached step (Session s) (itself (Session s))));
  new = λ _. refl;
}
  where
    not_it : (a b : Name) → b ≢ a → same_name a b ≡ false
    not_it a b ne = either (same_name a b) refl
      where
        either : (c : Bool) → same_name a b ≡ c → same_name a b ≡ false
        either false e = e
        either true e = absurd (ne (sym (same a b e)))

-- ---- operations

nothing_changed : (st : State) (operation : Operation) (answer : Answer) → ((n : Name) → names.gives operation answer n ≡ false) → TouchesItsOwn st operation answer st
nothing_changed st operation answer none = record {
  others = λ name live ne. stays_itself st name;
  was_new = λ name g. absurd (differ (sym g ∙ none name));
  is_there = λ name g. absurd (differ (sym g ∙ none name));
  only = λ name closed live. absurd (differ (sym live ∙ closed));
  goes_on = λ name e live. live;
}

-- what isn't the session is as it was
is_or_not : (name : Name) (s : ℕ) → (same_name (Session s) name ≡ true → ⊥) → name ≢ Session s
is_or_not name s fits e = fits (subst (λ (n : Name). same_name (Session s) n ≡ true) (sym e) (itself (Session s)))

-- an operation of one session, which ends
one_ended : (st next : State) (operation : Operation) (answer : Answer) (start s : ℕ) (mid : State) → name_of operation ≡ start_name start → may_close operation answer ≡ true
    → ((n : Name) → names.gives operation answer n ≡ false) → IsOpened st start s mid → OneSession s mid next → is_open next (Session s) ≡ false → TouchesItsOwn st operation answer next
one_ended st next operation answer start s mid is_named_so ends none begun one closed = record {
  others = λ name live ne. leaves name (λ e. ne (is_named_so ∙ (begun.named (subst (λ n. is_open st n ≡ true) e live) ∙ ap Some (sym e))));
  was_new = λ name g. absurd (differ (sym g ∙ none name));
  is_there = λ name g. absurd (differ (sym g ∙ none name));
  only = λ name shut live. absurd (differ (sym live ∙ still_closed name shut));
  goes_on = λ name e live. absurd (differ (sym ends ∙ e));
}
  where
    leaves : (name : Name) → name ≢ Session s → StaysAsItWas st next name
    leaves name ne = stays_on st mid next name (begun.leaves name ne) (one.leaves name ne)

    still_closed : (name : Name) → is_open st name ≡ false → is_open next name ≡ false
    still_closed name shut = either (same_name (Session s) name) refl
      where
        either : (b : Bool) → same_name (Session s) name ≡ b → is_open next name ≡ false
        either true e = subst (λ n. is_open next n ≡ false) (same (Session s) name e) closed
        either false e = stays_open st next name (leaves name (is_or_not name s (λ t. differ (sym t ∙ e)))) ∙ shut

touches_transacts : {st next : State} {start : ℕ} {ws : Writes} {answer : Answer} → IsReached st → Transacts st start ws answer next → TouchesItsOwn st (Commit start ws) answer next
touches_transacts {st} {next} {start} {ws} {answer} reached (commits {s = s} {mid = mid} {written = written} opens buffers run is_in ended) =
    one_ended st next (Commit start ws) answer start s mid refl refl (λ n. refl) (opened reached opens)
    (one_by_one s mid written next (buffers_one buffers) (advances_one run)) (ap is_some ended)
touches_transacts {st} {next} {start} {ws} {answer} reached (conflicts {s = s} {mid = mid} {written = written} opens buffers clash end) =
    one_ended st next (Commit start ws) answer start s mid refl refl (λ n. refl) (opened reached opens)
    (one_by_one s mid written next (buffers_one buffers) (stop_one end)) (stop_closes end)
touches_transacts {st} {start = start} {ws = ws} reached (is_unknown some none) = nothing_changed st (Commit start ws) _ (λ n. refl)
touches_transacts {st} {start = start} {ws = ws} reached (is_late some h late) = nothing_changed st (Commit start ws) _ (λ n. refl)
touches_transacts {st} {start = start} {ws = ws} reached (gives_up storage) = nothing_changed st (Commit start ws) _ (λ n. refl)
touches_transacts {st} {start = start} {ws = ws} reached (refuses_one comes refused) = nothing_changed st (Commit start ws) _ (λ n. refl)

-- ---- reads

abbrev said_name : Bool → Bool → ℕ → Name → Bool
said_name first stays s name = is_name (if_of_kind (if first && stays then Some kinds.Session else None) (Some (Session s))) name

silent_end : (first : Bool) (s : ℕ) (name : Name) → said_name first false s name ≡ false
silent_end true s name = refl
silent_end false s name = refl

was_begun : (first : Bool) (s : ℕ) (name : Name) → said_name first true s name ≡ true → (first ≡ true) × (same_name (Session s) name ≡ true)
was_begun true s name e = (refl, e)
was_begun false s name e = absurd (differ (sym e))

-- a Read that leaves its session live
read_open : (st next : State) (start s : ℕ) (xs : List Cell) (said : List (Option Item)) (mid : State) → IsOpened st start s mid → OneSession s mid next → is_open next (Session s) ≡ true
    → TouchesItsOwn st (Read start xs true) (ReadDone s said) next
read_open st next start s xs said mid begun one there = record {
  others = λ name live ne. leaves name (λ e. ne (begun.named (subst (λ n. is_open st n ≡ true) e live) ∙ ap Some (sym e)));
  was_new = λ name g. new_one name (was_begun (nat_eq start 0) s name g);
  is_there = λ name g. subst (λ n. is_open next n ≡ true) (same (Session s) name (was_begun (nat_eq start 0) s name g).1) there;
  only = λ name shut live. found name shut live (same_name (Session s) name) refl;
  goes_on = λ name e live. absurd (differ e);
}
  where
    leaves : (name : Name) → name ≢ Session s → StaysAsItWas st next name
    leaves name ne = stays_on st mid next name (begun.leaves name ne) (one.leaves name ne)

    no_name : nat_eq start 0 ≡ true → start_name start ≡ Some (Session s) → ⊥
    no_name zero e = none-some (Session s) (sym (ap (λ (b : Bool). if b then None else Some (Session start)) zero) ∙ e)

    shut_before : (c : Bool) → is_open st (Session s) ≡ c → nat_eq start 0 ≡ true → is_open st (Session s) ≡ false
    shut_before false e zero = e
    shut_before true e zero = absurd (no_name zero (begun.named e))

    new_one : (name : Name) → (nat_eq start 0 ≡ true) × (same_name (Session s) name ≡ true) → is_open st name ≡ false
    new_one name p = subst (λ n. is_open st n ≡ false) (same (Session s) name p.1) (shut_before (is_open st (Session s)) refl p.0)

    zero_start : (name : Name) → start ≡ 0 → said_name (nat_eq start 0) true s name ≡ same_name (Session s) name
    zero_start name zero = ap (λ (n : ℕ). said_name (nat_eq n 0) true s name) zero

    found : (name : Name) → is_open st name ≡ false → is_open next name ≡ true → (c : Bool) → same_name (Session s) name ≡ c → said_name (nat_eq start 0) true s name ≡ true
    found name shut live true e = zero_start name (begun.new (subst (λ n. is_open st n ≡ false) (sym (same (Session s) name e)) shut)) ∙ e
    found name shut live false e = absurd (differ (sym live ∙ (stays_open st next name (leaves name (is_or_not name s (λ t. differ (sym t ∙ e)))) ∙ shut)))

still_there : {s used : ℕ} {st next : State} {xs : List Cell} {said : List (Option Item)} → ReadsAll s used st xs said next → is_open st (Session s) ≡ true → is_open next (Session s) ≡ true
still_there {s} all there = ap (λ m. is_some (get m s)) (reads_stay all) ∙ there

touches_read : (b : Bool) {st next mid read : State} {start s : ℕ} {xs : List Cell} {said : List (Option Item)} → IsReached st → Opens st start s mid → ReadsAll s 0 mid xs said read → StaysOrEnds b read s next
    → TouchesItsOwn st (Read start xs b) (ReadDone s said) next
touches_read true {st} {next} {mid} {read} {start} {s} {xs} {said} reached opens all end =
    read_open st next start s xs said mid (opened reached opens) (one_by_one s mid read next (reads_one all) (ends_one true end))
    (ap (λ (x : State). is_open x (Session s)) end ∙ still_there all (opened reached opens).there)
touches_read false {st} {next} {mid} {read} {start} {s} {xs} {said} reached opens all end =
    one_ended st next (Read start xs false) (ReadDone s said) start s mid refl refl (λ n. silent_end (nat_eq start 0) s n) (opened reached opens)
    (one_by_one s mid read next (reads_one all) (ends_one false end)) (stop_closes end)

touches_together : {st next : State} {start : ℕ} {xs : List Cell} {b : Bool} {answer : Answer} → IsReached st → ReadsTogether st start xs b answer next → TouchesItsOwn st (Read start xs b) answer next
touches_together {b = b} reached (reads few opens all end) = touches_read b reached opens all end
touches_together {st} {start = start} {xs = xs} {b = b} reached (miscounts many) = nothing_changed st (Read start xs b) _ (λ n. refl)
touches_together {st} {start = start} {xs = xs} {b = b} reached (gives_up_reads storage) = nothing_changed st (Read start xs b) _ (λ n. refl)
touches_together {st} {start = start} {xs = xs} {b = b} reached (names_unknown few some none) = nothing_changed st (Read start xs b) _ (λ n. refl)
touches_together {st} {start = start} {xs = xs} {b = b} reached (names_late few some h late) = nothing_changed st (Read start xs b) _ (λ n. refl)
touches_together {st} {start = start} {xs = xs} {b = b} reached (refuses_begin few none refused) = nothing_changed st (Read start xs b) _ (λ n. refl)
touches_together {st} {start = start} {xs = xs} {b = b} reached (refuses_read after few is opens all refused) = nothing_changed st (Read start xs b) _ (λ n. refl)

-- ---- one request

same_active : (st next : State) (name : Name) → next.active ≡ st.active → next.cleaners ≡ st.cleaners → next.collectors ≡ st.collectors → is_open next name ≡ is_open st name
same_active st next (Session k) a b c = ap (λ m. is_some (get m k)) a
same_active st next (Cleaner k) a b c = ap (λ m. is_some (get m k)) b
same_active st next (Collector k) a b c = ap (λ m. is_some (get m k)) c

get_open : {st next : State} {s : ℕ} {x : Cell} {r : Reply} → Step st (Get s x) r next → (name : Name) → is_open next name ≡ is_open st name
get_open (refuses f) name = refl
get_open {st} {next} (accepts ok (reads_cell h none shown)) name = same_active st next name refl refl refl
get_open (accepts ok (tells t)) name = refl

scan_open : {st next : State} {s n : ℕ} {range : Range} {keys : Bool} {r : Reply} → Step st (asks.ScanFrom s range keys n) r next → (name : Name) → is_open next name ≡ is_open st name
scan_open (refuses f) name = refl
scan_open {st} {next} (accepts ok (scans h is)) name = same_active st next name refl refl refl
scan_open (accepts ok (tells t)) name = refl

set_open : {s : ℕ} {x : Cell} {v : Value} {st next : State} {r : Reply} → Step st (asks.Set s x v) r next → (name : Name) → is_open next name ≡ is_open st name
set_open (refuses f) name = refl
set_open {st = st} {next = next} (accepts ok (sets h w by)) name = same_active st next name refl refl refl
set_open (accepts ok (tells t)) name = refl

delete_open : {s : ℕ} {x : Cell} {st next : State} {r : Reply} → Step st (asks.Delete s x) r next → (name : Name) → is_open next name ≡ is_open st name
delete_open (refuses f) name = refl
delete_open {st = st} {next = next} (accepts ok (deletes h w by)) name = same_active st next name refl refl refl
delete_open (accepts ok (tells t)) name = refl

stays_there : (q : Request) {st next : State} {r : Reply} → Step st q r next → may_end (One q) ≡ false → (name : Name) → is_open next name ≡ is_open st name
stays_there (asks.Get s x) step e name = get_open step name
stays_there (asks.ScanFrom s range keys n) step e name = scan_open step name
stays_there (asks.Set s x v) step e name = set_open step name
stays_there (asks.Delete s x) step e name = delete_open step name
stays_there (asks.Advance s) step e name = absurd (differ e)
stays_there (asks.Stop s) step e name = absurd (differ e)
stays_there (asks.CleanStep i) step e name = absurd (differ e)
stays_there (asks.CollectStep i n) step e name = absurd (differ e)
stays_there asks.Begin step e name = absurd (differ e)
stays_there (asks.CleanBegin x) step e name = absurd (differ e)
stays_there asks.CollectBegin step e name = absurd (differ e)
stays_there (asks.Minor k) step e name = absurd (differ e)
stays_there (asks.Merge k n) step e name = absurd (differ e)
stays_there (asks.Major k) step e name = absurd (differ e)
stays_there (asks.Split row) step e name = absurd (differ e)
stays_there (asks.Move k n) step e name = absurd (differ e)
stays_there asks.Sweep step e name = absurd (differ e)
stays_there asks.OracleRestart step e name = absurd (differ e)
stays_there (asks.Raw x f low high) step e name = absurd (differ e)
stays_there asks.Checkpoint step e name = absurd (differ e)
stays_there (asks.Status k) step e name = absurd (differ e)

and_true : (b : Bool) → (b && not false) ≡ b
and_true true = refl
and_true false = refl

still_some : {X : Type 0} (m : FinMap nat_cmp X) (k q : ℕ) (v : X) → is_some (get m q) ≡ true → is_some (get (insert m k v) q) ≡ true
still_some m k q v live = either (nat_eq k q) refl
  where
    either : (b : Bool) → nat_eq k q ≡ b → is_some (get (insert m k v) q) ≡ true
    either true e = is_there m k q v e
    either false e = ap is_some (get_other m k v q (ne_of k q e)) ∙ live

held_open : {st next : State} {q : Request} {n c : ℕ} → Step st q (asks.Held n c) next → (name : Name) → is_open st name ≡ true → is_open next name ≡ true
held_open (accepts ok (tells told)) name live = elim told [ ]
held_open {st = st} (accepts ok (holds {t = t} {k = k} h w p free)) (Session n) live = still_some st.active t n (Holding (k + 1)) live
held_open (accepts ok (holds h w p free)) (Cleaner n) live = live
held_open (accepts ok (holds h w p free)) (Collector n) live = live

drawn_open : {st next : State} {q : Request} {c : ℕ} → Step st q (asks.Drawn c) next → (name : Name) → is_open st name ≡ true → is_open next name ≡ true
drawn_open (accepts ok (tells told)) name live = elim told [ ]
drawn_open {st = st} {c = c} (accepts ok (draws {t = t} h w d)) (Session n) live = still_some st.active t n (Stamped c) live
drawn_open (accepts ok (draws h w d)) (Cleaner n) live = live
drawn_open (accepts ok (draws h w d)) (Collector n) live = live

-- what is open stays so, if the answer says that its session goes on
further : {st next : State} {q : Request} (r : Reply) → Step st q r next → goes_further (Said r) ≡ true → (name : Name) → is_open st name ≡ true → is_open next name ≡ true
further (asks.Held n c) step e name live = held_open step name live
further (asks.Drawn c) step e name live = drawn_open step name live
further r step e name live = absurd (differ (sym e))

goes_there : (q : Request) {st next : State} (r : Reply) → Step st q r next → may_close (One q) (Said r) ≡ false → (name : Name) → is_open st name ≡ true → is_open next name ≡ true
goes_there q {next = next} r step e name live = either (goes_further (Said r)) refl
  where
    either : (b : Bool) → goes_further (Said r) ≡ b → is_open next name ≡ true
    either true is = further r step is name live
    either false is = stays_there q step (sym (and_true (may_end (One q))) ∙ (ap (λ (b : Bool). may_end (One q) && not b) (sym is) ∙ e)) name ∙ live

-- a name that is given is told, and is of the kind that the operation may give
is_told : (kind : Option Kind) (told : Option Name) (name : Name) → is_name (if_of_kind kind told) name ≡ true → is_name told name ≡ true
is_told kind None name e = e
is_told kind (Some n) name e = either (is_kind kind (kind_of n)) refl
  where
    either : (b : Bool) → is_kind kind (kind_of n) ≡ b → same_name n name ≡ true
    either true is = sym (ap (λ (b : Bool). is_name (if b then Some n else None) name) is) ∙ e
    either false is = absurd (differ (sym e ∙ ap (λ (b : Bool). is_name (if b then Some n else None) name) is))

is_given : (kind : Option Kind) (told : Option Name) (name : Name) → is_name told name ≡ true → is_kind kind (kind_of name) ≡ true → is_name (if_of_kind kind told) name ≡ true
is_given kind None name e is = e
is_given kind (Some n) name e is =
    ap (λ (b : Bool). is_name (if b then Some n else None) name) (subst (λ (m : Name). is_kind kind (kind_of m) ≡ true) (sym (same n name e)) is) ∙ e

touches : {st next : State} {q : Request} {r : Reply} → IsReached st → Step st q r next → TouchesItsOwn st (One q) (Said r) next
touches {st} {next} {q} {r} reached step = record {
  others = λ name live ne. others step name ne (quiet name live (gives r name) refl);
  was_new = λ name g. new_name reached step name (is_told (request_kind q) (reply_name r) name g);
  is_there = λ name g. given step name (is_told (request_kind q) (reply_name r) name g);
  only = λ name shut live. let g = told name shut live (gives r name) refl in is_given (request_kind q) (reply_name r) name g (fits step name g);
  goes_on = λ name e live. goes_there q r step e name live;
}
  where
    quiet : (name : Name) → is_open st name ≡ true → (b : Bool) → gives r name ≡ b → gives r name ≡ false
    quiet name live false e = e
    quiet name live true e = absurd (differ (sym live ∙ new_name reached step name e))

    told : (name : Name) → is_open st name ≡ false → is_open next name ≡ true → (b : Bool) → gives r name ≡ b → gives r name ≡ true
    told name shut live true e = e
    told name shut live false e = absurd (differ (sym live ∙ stays_closed step name shut e))

pub touches_its_own : EachTouchesItsOwn
touches_its_own st next operation answer reached (steps step) = touches reached step
touches_its_own st next operation answer reached (transacts t) = touches_transacts reached t
touches_its_own st next operation answer reached (reads_together t) = touches_together reached t
