-- Frames of clients, as the machine handles them.
use Rattle.std.proofs.Common.{◌≡◌, ◌≢◌, ℕ, Bool, true, false, not, ◌&&◌, ◌||◌, List, [], ◌∷◌, ◌++◌, Option, Some, None, Result, Ok, Err, ◌⊎◌, inl, inr, refl, sym, ap, subst, ◌∙◌, arith}
use Rattle.std.specs.Prelude.{OnErr, is_err, nat_eq, is_some}
use Rattle.std.specs.List.{AllByRecursion}
use Rattle.std.proofs.lemmas.Bool.Decides.{nat_tests}
use Rattle.std.proofs.lemmas.Option.{none-some, same_Some}
use Rattle.cell_key.specs.declared.refusals.Refusal.{Refusal}
use Rattle.cell_key.specs.declared.refusals.Refusal.TheVariants.{UnknownSession}
use Rattle.si_model.specs.Machine.{State, IsReached, Refused, Stop, StopDone, Step, refuses as refuses_step, accepts, tells, stops}
use Rattle.si_model.specs.Refusing.{Refuses, Applies, IsStorageRefusal, applies_first, gives_up, stop_unknown}
use Rattle.si_model.specs.Sets.{◌∈◌, here, there}
use Rattle.si_model.specs.Transactions.{Operation, One, Answer, Said, Goes, steps}
use Rattle.si_model.proofs.Reached.{stays_reached}
use Rattle.request_codec.specs.declared.answers.Answer.{Answer as CodecAnswer}
use Rattle.request_codec.specs.declared.operations.Operation.{Operation as Lent}
use Rattle.ownership.specs.Effects.{TouchesItsOwn}
use Rattle.ownership.specs.Frames.{client_body}
use Rattle.ownership.specs.Names.{gives, is_name, is_open, is_session, name_of, same_name}
use Rattle.ownership.specs.Tables.{Knows, Table, heir_of, owned_after, owned_without, owns, refusal_for, table_of}
use Rattle.ownership.specs.Turns.{Frame, Asks, Leaves, Exchange, Turn, Stops, none, one_more, Ends, Handles, HandlesAll}
use Rattle.ownership.specs.Turns as turned
use Rattle.ownership.specs.declared.names.Name.{Name}
use Rattle.ownership.specs.declared.names.Name.TheVariants.{Session, Cleaner, Collector}
use Rattle.ownership.proofs.Effects.{stop_closes, touches_its_own}
use Rattle.ownership.proofs.Noted.{in_order, its_heir, left_other, left_session, stop_applies, stop_turn, turn_of}
use Rattle.ownership.proofs.Steps.{differ, is_named, itself as same_itself, not_named, same, stays_open}
use Rattle.ownership.proofs.Turns.{asked_own, handles_knows, handles_reached, itself, same_number, stops_reached, turn_knows}
use Rattle.server_loop.specs.Batches.{AnswersAll}
use Rattle.server_loop.specs.Clients.{AnswersFrame, AreExchanges, EndsClient, HandlesFrame, HandlesTo, IsAnsweredTo, IsFrameOf, NotesAnswer, SettlesOwned, ShowsOwned, StopsEach, StopsOne, Unchanged, asks, has_no_client, is_malformed, is_too_large, lacks_memory, leaves, refuses}
use Rattle.server_loop.specs.Runs.{Taken, IfAnswerRefused}
use Rattle.server_loop.specs.declared.client_server.ClientServer.{ClientServer}
use Rattle.server_loop.proofs.ReachedRuns.{laws_of}

abbrev Dec : Bool → Type 0
Dec b = (b ≡ true) ⊎ (b ≡ false)

dec : (b : Bool) → Dec b
dec true = inl refl
dec false = inr refl

-- what an error tells
pub on_err : {A E : Type 0} {P : Type 0} (r : Result A E) → is_err r ≡ true → OnErr r P → P
on_err (Err x) e told = told
on_err (Ok a) e told = absurd (differ (sym e))

-- ---- Stops

refused_stop : {st : State} {start : ℕ} {n : Refusal} → Refuses st (Stop start) n → n ≡ UnknownSession → is_open st (Session start) ≡ false
refused_stop (applies_first f) e = stop_applies f.applies
refused_stop (gives_up s) e = absurd (subst IsStorageRefusal e s)

-- a session that is there is stopped
is_done : {start : ℕ} {st next : State} {answer : Answer} → Goes st (One (Stop start)) answer next → IfAnswerRefused (λ refusal. refusal ≡ UnknownSession) answer → is_open st (Session start) ≡ true → answer ≡ Said StopDone
is_done (steps (refuses_step f)) known live = absurd (differ (sym live ∙ refused_stop f known))
is_done (steps (accepts ok (stops h))) known live = refl
is_done (steps (accepts ok (tells t))) known live = elim t [ ]

pub done_step : {st next : State} {start : ℕ} → Goes st (One (Stop start)) (Said StopDone) next → Step st (Stop start) StopDone next
done_step (steps step) = step

module _ {S : Type 0} (shows : S → State → Type 0) (says : S → Lent → CodecAnswer → S → Type 0) where
  -- a Stop that the machine took
  pub stopped_by : (client start : ℕ) (old new : ClientServer S) (one : StopsOne shows says client old start new) (before : State) → IsReached before → ShowsOwned shows old before → (after : State) → Goes before (One (Stop start)) one.answer after → shows new.server after
      → Goes before (One (Stop start)) (Said StopDone) after × ShowsOwned shows new after
  stopped_by client start old new one before reached shown after goes shows_after =
      let live = shown.1.is_there client (Session start) one.its in
      let done : Goes before (One (Stop start)) (Said StopDone) after = subst (λ (a : Answer). Goes before (One (Stop start)) a after) (is_done goes one.known live) goes in
      let turn : Turn before (table_of old.owners) client (One (Stop start)) (Said StopDone) after (table_of new.owners) =
      stop_turn reached shown.1 (in_order new.owners) one.its done one.noted in
      (done, (shows_after, turn_knows reached shown.1 turn))

  stopped_one : (client start : ℕ) (old new : ClientServer S) → StopsOne shows says client old start new → (before : State) → IsReached before → ShowsOwned shows old before
      → (after : State) × Goes before (One (Stop start)) (Said StopDone) after × IsReached after × ShowsOwned shows new after
  stopped_one client start old new one before reached shown =
      let (after, goes, shows_after) = one.said.goes before reached shown.0 in
      let (done, shown_after) = stopped_by client start old new one before reached shown after goes shows_after in
      (after, done, stays_reached before after (One (Stop start)) (Said StopDone) reached done, shown_after)

  stopped_each : (client : ℕ) (old new : ClientServer S) (starts : List ℕ) → StopsEach shows says client old starts new → (before : State) → IsReached before → ShowsOwned shows old before
      → (after : State) × Stops before starts after × ShowsOwned shows new after
  stopped_each client old new [] same before reached shown = (before, none, subst (λ (s : ClientServer S). ShowsOwned shows s before) (sym same) shown)
  stopped_each client old new (start ∷ more) each before reached shown =
      let (mid, goes, reached_mid, shown_mid) = stopped_one client start old each.0 each.1 before reached shown in
      let (after, stops_more, shown_after) = stopped_each client each.0 new more each.2 mid reached_mid shown_mid in
      (after, one_more goes stops_more, shown_after)

  -- one more
  pub stops_then : (client : ℕ) (a b c : ClientServer S) (starts : List ℕ) (start : ℕ) → StopsEach shows says client a starts b → StopsOne shows says client b start c → StopsEach shows says client a (starts ++ start ∷ []) c
  stops_then client a b c [] start same one = (c, subst (λ (s : ClientServer S). StopsOne shows says client s start c) same one, refl)
  stops_then client a b c (first ∷ more) start each one = (each.0, each.1, stops_then client each.0 b c more start each.2 one)

  first_of : (a b : Bool) → (a && b) ≡ true → a ≡ true
  first_of true b e = refl
  first_of false b e = absurd (differ (sym e))

  -- what is owned after a Stop was owned before
  was_owned : (client start : ℕ) (old new : ClientServer S) → StopsOne shows says client old start new → (other : ℕ) (name : Name) → owns (table_of new.owners) other name ≡ true → owns (table_of old.owners) other name ≡ true
  was_owned client start old new one other name own = first_of (owns (table_of old.owners) other name) (not (nat_eq client other && same_name (Session start) name)) (sym (one.noted other name) ∙ own)

  all_were : (client start : ℕ) (old new : ClientServer S) → StopsOne shows says client old start new → (starts : List ℕ) → AllByRecursion (λ (s : ℕ). owns (table_of new.owners) client (Session s) ≡ true) starts → AllByRecursion (λ (s : ℕ). owns (table_of old.owners) client (Session s) ≡ true) starts
  all_were client start old new one [] all = tt
  all_were client start old new one (s ∷ more) all = (was_owned client start old new one client (Session s) all.0, all_were client start old new one more all.1)

  all_its : (client : ℕ) (old new : ClientServer S) (starts : List ℕ) → StopsEach shows says client old starts new → AllByRecursion (λ (s : ℕ). owns (table_of old.owners) client (Session s) ≡ true) starts
  all_its client old new [] same = tt
  all_its client old new (start ∷ more) each = (each.1.its, all_were client start old each.0 each.1 more (all_its client each.0 new more each.2))

  kept_own : (own asked named : Bool) → own ≡ true → named ≡ false → (own && not (asked && named)) ≡ true
  kept_own true true false o n = refl
  kept_own true false false o n = refl
  kept_own own asked true o n = absurd (differ n)
  kept_own false asked named o n = absurd (differ (sym o))

  each_stopped : (client : ℕ) (old new : ClientServer S) (starts : List ℕ) → StopsEach shows says client old starts new → ((s : ℕ) → owns (table_of new.owners) client (Session s) ≡ false) → (s : ℕ) → owns (table_of old.owners) client (Session s) ≡ true → s ∈ starts
  each_stopped client old new [] same all s own = absurd (differ (sym own ∙ subst (λ (c : ClientServer S). owns (table_of c.owners) client (Session s) ≡ false) same (all s)))
  each_stopped client old new (start ∷ more) each all s own = elim (dec (nat_eq start s)) [
    | inl e ↦ subst (λ (n : ℕ). n ∈ (start ∷ more)) (same_number start s e) here
    | inr ne ↦ there (each_stopped client each.0 new more each.2 all s (each.1.noted client (Session s) ∙ kept_own (owns (table_of old.owners) client (Session s)) (nat_eq client client) (nat_eq start s) own ne))
  ]

  aside : (own asked named session : Bool) → (session ≡ false) ⊎ (asked ≡ false) → (named ≡ true → session ≡ true) → (own && not (asked && named)) ≡ own
  aside true true true session (inl no_session) h = absurd (differ (sym (h refl) ∙ no_session))
  aside true true false session (inl no_session) h = refl
  aside true false named session (inl no_session) h = refl
  aside true false named session (inr other) h = refl
  aside true true named session (inr other) h = absurd (differ other)
  aside false asked named session a h = refl

  named_session : (start : ℕ) (name : Name) → same_name (Session start) name ≡ true → is_session name ≡ true
  named_session start (Session n) e = refl
  named_session start (Cleaner n) e = absurd (differ (sym e))
  named_session start (Collector n) e = absurd (differ (sym e))

  -- other names are whose they were
  others_stay : (client : ℕ) (old new : ClientServer S) (starts : List ℕ) → StopsEach shows says client old starts new → (other : ℕ) (name : Name) → (is_session name ≡ false) ⊎ (nat_eq client other ≡ false) → owns (table_of new.owners) other name ≡ owns (table_of old.owners) other name
  others_stay client old new [] each other name apart = ap (λ (s : ClientServer S). owns (table_of s.owners) other name) each
  others_stay client old new (start ∷ more) each other name apart =
      others_stay client each.0 new more each.2 other name apart
      ∙ (each.1.noted other name ∙ aside (owns (table_of old.owners) other name) (nat_eq client other) (same_name (Session start) name) (is_session name) apart (named_session start name))

  -- the table after an end
  ends_noted : (client : ℕ) (old new : ClientServer S) (e : EndsClient shows says client old new) (other : ℕ) (name : Name) → owns (table_of new.owners) other name ≡ owned_without (heir_of old.admin) (table_of old.owners) client other name
  ends_noted client old new e other (Session s) =
      e.passed other (Session s)
      ∙ left_session (owns (table_of old.owners) other (Session s)) (owns (table_of e.mid.owners) other (Session s)) (nat_eq client other) (nat_eq (heir_of old.admin) other) (owns (table_of e.mid.owners) client (Session s))
      (λ is. subst (λ (c : ℕ). owns (table_of e.mid.owners) c (Session s) ≡ false) (same_number client other is) (e.none s))
      (λ is. others_stay client old e.mid e.starts e.stopped other (Session s) (inr is))
      ∙ ap (λ (b : Bool). (owns (table_of old.owners) other (Session s) && not (nat_eq client other)) || b) (its_heir (nat_eq (heir_of old.admin) other) (owns (table_of e.mid.owners) client (Session s)) (owns (table_of old.owners) client (Session s)))
  ends_noted client old new e other (Cleaner n) =
      e.passed other (Cleaner n)
      ∙ left_other (owns (table_of old.owners) other (Cleaner n)) (owns (table_of e.mid.owners) other (Cleaner n)) (nat_eq client other) (nat_eq (heir_of old.admin) other) (owns (table_of old.owners) client (Cleaner n)) (owns (table_of e.mid.owners) client (Cleaner n))
      (others_stay client old e.mid e.starts e.stopped other (Cleaner n) (inl refl)) (others_stay client old e.mid e.starts e.stopped client (Cleaner n) (inl refl))
  ends_noted client old new e other (Collector n) =
      e.passed other (Collector n)
      ∙ left_other (owns (table_of old.owners) other (Collector n)) (owns (table_of e.mid.owners) other (Collector n)) (nat_eq client other) (nat_eq (heir_of old.admin) other) (owns (table_of old.owners) client (Collector n)) (owns (table_of e.mid.owners) client (Collector n))
      (others_stay client old e.mid e.starts e.stopped other (Collector n) (inl refl)) (others_stay client old e.mid e.starts e.stopped client (Collector n) (inl refl))

  -- ---- a frame

  -- from a state that is shown before the machine handles it, to one that is shown after
  abbrev pub HandledFrom : State → ClientServer S → ClientServer S → Frame → ℕ → Answer → Type 0
  HandledFrom before old new frame to answer = (after : State) × Handles old.admin before (table_of old.owners) frame to answer after (table_of new.owners) × shows new.server after

  pub same_state : (before : State) (old new : ClientServer S) (frame : Frame) (to : ℕ) (answer : Answer) → Unchanged old new → shows old.server before → Handles old.admin before (table_of old.owners) frame to answer before (table_of old.owners) → HandledFrom before old new frame to answer
  same_state before old new frame to answer same shown handled =
      (before, subst (λ (t : Table). Handles old.admin before (table_of old.owners) frame to answer before t) (sym same.table) handled, subst (λ (s : S). shows s before) (sym same.server) shown)

  -- an operation that the machine took
  pub asked_by : (client : ℕ) (operation : Operation) (answer : Answer) (old new : ClientServer S) → refusal_for old.admin (table_of old.owners) client operation ≡ None → NotesAnswer shows says client operation answer old new → (before : State) → IsReached before → ShowsOwned shows old before
      → (after : State) → Goes before operation answer after → shows new.server after → Handles old.admin before (table_of old.owners) (Asks client operation) client answer after (table_of new.owners)
  asked_by client operation answer old new free notes before reached shown after goes shows_after =
      turned.turns free (turn_of reached shown.1 (in_order new.owners) (λ name e. asked_own old.admin (table_of old.owners) client operation name free e) goes
      (λ other name. notes.noted other name ∙ ap (λ (closed : Bool). (owns (table_of old.owners) other name && not (nat_eq client other && closed)) || (nat_eq client other && gives operation answer name)) (notes.ended after shows_after name)))

  -- a client that is gone
  pub ended_by : (client : ℕ) (old new : ClientServer S) (e : EndsClient shows says client old new) (before after : State) → Stops before e.starts after → Handles old.admin before (table_of old.owners) (Leaves client) client (Said StopDone) after (table_of new.owners)
  ended_by client old new e before after stopped = turned.leaves (record {
    starts = e.starts;
    stopped = stopped;
    its = all_its client old e.mid e.starts e.stopped;
    each = each_stopped client old e.mid e.starts e.stopped e.none;
    noted = ends_noted client old new e;
    ordered = in_order new.owners;
  })

  pub handled_from : {old new : ClientServer S} {frame : Frame} {to : ℕ} {answer : Answer} → HandlesFrame shows says old new frame to answer → (before : State) → IsReached before → ShowsOwned shows old before → HandledFrom before old new frame to answer
  handled_from {old} {new} (asks {client = client} {operation = operation} {answer = answer} free said notes) before reached shown =
      let (after, goes, shows_after) = said.goes before reached shown.0 in
      (after, asked_by client operation answer old new free notes before reached shown after goes shows_after, shows_after)
  handled_from {old} {new} (refuses is same) before reached shown = same_state before old new _ _ _ same shown.0 (turned.refuses is)
  handled_from {old} {new} (lacks_memory takes same) before reached shown = same_state before old new _ _ _ same shown.0 (turned.lacks_memory takes)
  handled_from {old} {new} (is_malformed same) before reached shown = same_state before old new _ _ _ same shown.0 turned.is_malformed
  handled_from {old} {new} (has_no_client same) before reached shown = same_state before old new _ _ _ same shown.0 turned.has_no_client
  handled_from {old} {new} (is_too_large same) before reached shown = same_state before old new _ _ _ same shown.0 turned.is_too_large
  handled_from {old} {new} (leaves {client = client} e) before reached shown =
      let (after, stopped, shown_after) = stopped_each client old e.mid e.starts e.stopped before reached shown in
      (after, ended_by client old new e before after stopped, subst (λ (s : S). shows s after) (sym e.server) shown_after.0)

  -- ---- frames, one after the other

  module _ (between : S → S → Type 0) where
    nothing_handled : (a e : ClientServer S) → e ≡ a → (before : State) → IsReached before → ShowsOwned shows a before → HandlesTo shows before a e [] []
    nothing_handled a e same before reached shown = record {
      exchanges = [];
      are = tt;
      after = before;
      handled = (refl, ap (λ (s : ClientServer S). table_of s.owners) same);
      reached = reached;
      laws = laws_of before reached;
      shown = subst (λ (s : ClientServer S). ShowsOwned shows s before) (sym same) shown;
    }

    pub handles_to : (a e : ClientServer S) (ts : List Taken) (bodies : List (List ℕ)) → AnswersAll (IsAnsweredTo shows says between) a ts bodies e → (before : State) → IsReached before → ShowsOwned shows a before → HandlesTo shows before a e ts bodies
    handles_to a e [] [] p before reached shown = nothing_handled a e p before reached shown
    handles_to a e [] (b ∷ bodies) p before reached shown = absurd p
    handles_to a e (t ∷ ts) [] p before reached shown = absurd p
    handles_to a e (t ∷ ts) (b ∷ bodies) p before reached shown =
        let one = p.1 in
        let (next, handled, shows_mid) = handled_from one.answered.handled before reached shown in
        let known = handles_knows handled reached shown.1 in
        let table : table_of p.0.owners ≡ table_of one.mid.owners = ap (λ owners. table_of owners) one.owners in
        let shown_next : ShowsOwned shows p.0 next = (one.shown next shows_mid, subst (λ (t : Table). Knows t next) (sym table) known) in
        let rest = handles_to p.0 e ts bodies p.2 next (handles_reached handled reached) shown_next in
        record {
          exchanges = record { frame = one.answered.frame; to = one.to; answer = one.answer } ∷ rest.exchanges;
          are = (one.answered.is_frame, one.is_body, rest.are);
          after = rest.after;
          handled = (
            next,
            table_of p.0.owners,
            subst (λ (t : Table). Handles a.admin before (table_of a.owners) one.answered.frame one.to one.answer next t) (sym table) handled,
            subst (λ (admin : Option ℕ). HandlesAll admin next (table_of p.0.owners) rest.exchanges rest.after (table_of e.owners)) (one.admin ∙ one.answered.admin) rest.handled,
          );
          reached = rest.reached;
          laws = rest.laws;
          shown = rest.shown;
        }

-- ---- settling

module _ {S : Type 0} (shows : S → State → Type 0) (says : S → Lent → CodecAnswer → S → Type 0) (between settles fails : S → S → Type 0)
    (belongs : (first mid new : S) → between first mid → settles mid new ⊎ fails mid new → between first new) (stays : (old new : S) → settles old new ⊎ fails old new → (st : State) → shows old st → shows new st) where
  either_settled : (old new : ClientServer S) → SettlesOwned settles old new ⊎ SettlesOwned fails old new → settles old.server new.server ⊎ fails old.server new.server
  either_settled old new (inl done) = inl done.settled
  either_settled old new (inr failed) = inr failed.settled

  same_owners : (old new : ClientServer S) → SettlesOwned settles old new ⊎ SettlesOwned fails old new → (new.owners ≡ old.owners) × (new.admin ≡ old.admin)
  same_owners old new (inl done) = (done.owners, done.admin)
  same_owners old new (inr failed) = (failed.owners, failed.admin)

  -- settling belongs to the answer before it
  pub joins_owned : (first mid new : ClientServer S) (taken : Taken) (body : List ℕ) → IsAnsweredTo shows says between first taken body mid → SettlesOwned settles mid new ⊎ SettlesOwned fails mid new → IsAnsweredTo shows says between first taken body new
  joins_owned first mid new taken body is after = record {
    to = is.to;
    answer = is.answer;
    is_body = is.is_body;
    mid = is.mid;
    answered = is.answered;
    tended = belongs is.mid.server mid.server new.server is.tended (either_settled mid new after);
    shown = λ st shown. stays mid.server new.server (either_settled mid new after) st (is.shown st shown);
    owners = (same_owners mid new after).0 ∙ is.owners;
    admin = (same_owners mid new after).1 ∙ is.admin;
  }
