-- The table of owners after an answer, after Stops, and after the end of a client.
use Rattle.std.proofs.Common.{◌≡◌, ◌≢◌, ℕ, Bool, true, false, not, ◌&&◌, ◌||◌, List, [], ◌∷◌, ◌++◌, Option, Some, None, ◌⊎◌, inl, inr, refl, sym, ap, subst, ◌∙◌}
use Rattle.std.specs.Prelude.{nat_eq, is_some}
use Rattle.std.specs.FinMap.{get, remove}
use Rattle.std.specs.List.{AllByRecursion}
use Rattle.std.proofs.lemmas.Option.{same_Some}
use Rattle.cell_key.specs.declared.refusals.Refusal.{Refusal}
use Rattle.si_model.specs.Machine.{State, IsReached, Stop, StopDone, Step, accepts, stops}
use Rattle.si_model.specs.Refusing.{Applies, stop_unknown}
use Rattle.si_model.specs.Sets.{◌∈◌, here, there}
use Rattle.si_model.specs.Transactions.{Operation, One, Answer, Said, Goes}
use Rattle.ownership.specs.Effects.{may_close}
use Rattle.ownership.specs.Names.{gives, is_name, is_open, is_session, name_of, same_name}
use Rattle.ownership.specs.Tables.{IsOrdered, Knows, Table, nobodys, owned_without, owns, table_of}
use Rattle.ownership.specs.Turns.{Ends, Stops, StopsSome, Turn, none, one_more}
use Rattle.ownership.specs.declared.names.Name.{Name}
use Rattle.ownership.specs.declared.names.Name.TheVariants.{Session, Cleaner, Collector}
use Rattle.ownership.specs.declared.owners.Owners.{Owners}
use Rattle.ownership.proofs.Effects.{stop_closes, touches_its_own}
use Rattle.ownership.proofs.Steps.{differ, is_named, not_named, others, same, stays_closed, stays_open}
use Rattle.ownership.proofs.Turns.{itself, member, same_number, stop_step, stops_leave}

abbrev Dec : Bool → Type 0
Dec b = (b ≡ true) ⊎ (b ≡ false)

dec : (b : Bool) → Dec b
dec true = inl refl
dec false = inr refl

-- the lists of a table are in order
pub in_order : (owners : Owners) → IsOrdered (table_of owners)
in_order owners = record {
  sessions = owners.sessions.order;
  cleaners = owners.cleaners.order;
  collectors = owners.collectors.order;
}

nobody_owns : (client : ℕ) (name : Name) → owns nobodys client name ≡ false
nobody_owns client (Session k) = refl
nobody_owns client (Cleaner k) = refl
nobody_owns client (Collector k) = refl

-- where nothing is open, nobody has anything
pub nothing_known : {st : State} → ((name : Name) → is_open st name ≡ false) → Knows nobodys st
nothing_known shut = record {
  owned = λ name live. absurd (differ (sym live ∙ shut name));
  is_there = λ client name own. absurd (differ (sym own ∙ nobody_owns client name));
  one = λ a b name own other. absurd (differ (sym own ∙ nobody_owns a name));
}

-- ---- after an answer

-- what was owned and is closed is taken out, and what was given comes in
settled : (own asked ends named live given : Bool) → (own ≡ true → given ≡ false) → (given ≡ true → live ≡ true) → (own ≡ true → named ≡ false → live ≡ true) → (own ≡ true → ends ≡ false → live ≡ true) → (own ≡ true → named ≡ true → asked ≡ true)
    → ((own && not (asked && (ends && (named && not live)))) || (asked && given)) ≡ (live && (own || (asked && given)))
settled false true ends named true true a b c d e = refl
settled false true ends named false true a b c d e = absurd (differ (sym (b refl)))
settled false true ends named true false a b c d e = refl
settled false true ends named false false a b c d e = refl
settled false false ends named true given a b c d e = refl
settled false false ends named false given a b c d e = refl
settled true asked ends named live true a b c d e = absurd (differ (a refl))
settled true true true true true false a b c d e = refl
settled true true true true false false a b c d e = refl
settled true false ends true live false a b c d e = absurd (differ (sym (e refl refl)))
settled true true true false true false a b c d e = refl
settled true asked ends false false false a b c d e = absurd (differ (sym (c refl refl)))
settled true asked false named false false a b c d e = absurd (differ (sym (d refl refl)))
settled true true false named true false a b c d e = refl
settled true false ends false true false a b c d e = refl

module _ {st next : State} {table table' : Table} {client : ℕ} {operation : Operation} {answer : Answer} (reached : IsReached st) (known : Knows table st) (ordered : IsOrdered table')
    (own : (name : Name) → name_of operation ≡ Some name → owns table client name ≡ true) (goes : Goes st operation answer next)
    (notes : (other : ℕ) (name : Name) → owns table' other name ≡ ((owns table other name && not (nat_eq client other && (may_close operation answer && (is_name (name_of operation) name && not (is_open next name))))) || (nat_eq client other && gives operation answer name))) where
  pub turn_of : Turn st table client operation answer next table'
  turn_of = let touched = touches_its_own st next operation answer reached goes in record {
    goes = goes;
    noted = λ other name. notes other name ∙ settled (owns table other name) (nat_eq client other) (may_close operation answer) (is_name (name_of operation) name) (is_open next name) (gives operation answer name)
        (λ o. not_given other name o (dec (gives operation answer name)))
        (λ g. touched.is_there name g)
        (λ o n. stays_open st next name (touched.others name (known.is_there other name o) (not_named (name_of operation) name n)) ∙ known.is_there other name o)
        (λ o e. touched.goes_on name e (known.is_there other name o))
        (λ o n. subst (λ (c : ℕ). nat_eq client c ≡ true) (known.one client other name (own name (is_named (name_of operation) name n)) o) (itself client));
    ordered = ordered;
  }
    where
      not_given : (other : ℕ) (name : Name) → owns table other name ≡ true → Dec (gives operation answer name) → gives operation answer name ≡ false
      not_given other name o (inr g) = g
      not_given other name o (inl g) = absurd (differ (sym (known.is_there other name o) ∙ (touches_its_own st next operation answer reached goes).was_new name g))

-- ---- a Stop

some_of : {X : Type 0} (o : Option X) → is_some o ≡ true → (x : X) × (o ≡ Some x)
some_of (Some x) e = (x, refl)
some_of None e = absurd (differ (sym e))

pub stop_applies : {st : State} {start : ℕ} {n : Refusal} → Applies st (Stop start) n → is_open st (Session start) ≡ false
stop_applies (stop_unknown e) = ap is_some e

-- a session that is open can be stopped
pub can_stop : (st : State) (start : ℕ) → is_open st (Session start) ≡ true → (next : State) × Step st (Stop start) StopDone next
can_stop st start live =
    let found = some_of (get st.active start) live in
    (record st { active = remove st.active start }, accepts (λ n a. differ (sym live ∙ stop_applies a)) (stops found.1))

out : (own asked named live : Bool) → (named ≡ true → live ≡ false) → (own && not (asked && named)) ≡ ((own && not (asked && (true && (named && not live)))) || (asked && false))
out true true true true h = absurd (differ (h refl))
out true true true false h = refl
out true true false live h = refl
out true false named live h = refl
out false true named live h = refl
out false false named live h = refl

-- a session of a client was stopped, and is nobody's
pub stop_turn : {st next : State} {table table' : Table} {client start : ℕ} → IsReached st → Knows table st → IsOrdered table' → owns table client (Session start) ≡ true → Goes st (One (Stop start)) (Said StopDone) next
    → ((other : ℕ) (name : Name) → owns table' other name ≡ (owns table other name && not (nat_eq client other && same_name (Session start) name)))
    → Turn st table client (One (Stop start)) (Said StopDone) next table'
stop_turn {st} {next} {table} {table'} {client} {start} reached known ordered own done noted =
    turn_of reached known ordered (λ name e. subst (λ (n : Name). owns table client n ≡ true) (same_Some (Session start) name e) own) done
    (λ other name. noted other name ∙ out (owns table other name) (nat_eq client other) (same_name (Session start) name) (is_open next name)
    (λ e. subst (λ (n : Name). is_open next n ≡ false) (same (Session start) name e) (stop_closes (stop_step done))))

-- ---- Stops, one after the other

pub stops_then : {a b c : State} {starts : List ℕ} {start : ℕ} → Stops a starts b → Goes b (One (Stop start)) (Said StopDone) c → Stops a (starts ++ start ∷ []) c
stops_then none goes = one_more goes none
stops_then (one_more first more) goes = one_more first (stops_then more goes)

all_more : (P : ℕ → Type 0) (xs : List ℕ) (x : ℕ) → AllByRecursion P xs → P x → AllByRecursion P (xs ++ x ∷ [])
all_more P [] x all is = (is, tt)
all_more P (y ∷ ys) x all is = (all.0, all_more P ys x all.1 is)

in_front : {x : ℕ} {xs : List ℕ} (y : ℕ) → x ∈ xs → x ∈ (xs ++ y ∷ [])
in_front y here = here
in_front y (there is) = there (in_front y is)

at_end : (xs : List ℕ) (x : ℕ) → x ∈ (xs ++ x ∷ [])
at_end [] x = here
at_end (y ∷ ys) x = there (at_end ys x)

live_own : (own live : Bool) → (own ≡ true → live ≡ true) → own ≡ (live && own)
live_own true true h = refl
live_own true false h = absurd (differ (sym (h refl)))
live_own false true h = refl
live_own false false h = refl

pub stops_none : {client : ℕ} {st : State} {table : Table} → Knows table st → StopsSome client st table st table
stops_none {client} {st} {table} known = record {
  starts = [];
  stopped = none;
  its = tt;
  each = λ start own out. absurd (differ (sym own ∙ out));
  kept = λ other name. live_own (owns table other name) (is_open st name) (λ o. known.is_there other name o);
}

both : (a b : Bool) → (a && b) ≡ true → (a ≡ true) × (b ≡ true)
both true true e = (refl, refl)
both true false e = absurd (differ (sym e))
both false b e = absurd (differ (sym e))

-- what is closed stays closed
still_kept : (live was own asked : Bool) → (was ≡ false → live ≡ false) → (live && ((was && own) || (asked && false))) ≡ (live && own)
still_kept false was own asked h = refl
still_kept true true true asked h = refl
still_kept true true false true h = refl
still_kept true true false false h = refl
still_kept true false own asked h = absurd (differ (h refl))

module _ {client start : ℕ} {st mid next : State} {table middle table' : Table} (some : StopsSome client st table mid middle) (known : Knows middle mid)
    (own : owns middle client (Session start) ≡ true) (turn : Turn mid middle client (One (Stop start)) (Said StopDone) next table') where
  was_own : (s : ℕ) → owns middle client (Session s) ≡ true → owns table client (Session s) ≡ true
  was_own s e = (both (is_open mid (Session s)) (owns table client (Session s)) (sym (some.kept client (Session s)) ∙ e)).1

  -- another session is still open, and the client's
  still_own : (s : ℕ) → owns middle client (Session s) ≡ true → s ≢ start → owns table' client (Session s) ≡ true
  still_own s is ne =
      let stays = others (stop_step turn.goes) (Session s) (λ e. ne (sym (session_of (same_Some (Session start) (Session s) e)))) refl in
      let live = stays_open mid next (Session s) stays ∙ known.is_there client (Session s) is in
      turn.noted client (Session s) ∙ ap (λ (p : Bool × Bool). p.0 && (p.1 || (nat_eq client client && false))) (λ i. (live i, is i))
    where
      session_of : Session start ≡ Session s → start ≡ s
      session_of e = ap start_of e
        where
          start_of : Name → ℕ
          start_of (Session n) = n
          start_of (Cleaner n) = n
          start_of (Collector n) = n

  each_more : (s : ℕ) → owns table client (Session s) ≡ true → owns table' client (Session s) ≡ false → Dec (owns middle client (Session s)) → Dec (nat_eq start s) → s ∈ (some.starts ++ start ∷ [])
  each_more s was shut (inr out) either = in_front start (some.each s was out)
  each_more s was shut (inl is) (inl e) = subst (λ (n : ℕ). n ∈ (some.starts ++ start ∷ [])) (same_number start s e) (at_end some.starts start)
  each_more s was shut (inl is) (inr ne) = absurd (differ (sym (still_own s is (λ e. differ (sym (itself start) ∙ subst (λ (n : ℕ). nat_eq start n ≡ false) e ne))) ∙ shut))

  pub stops_more : StopsSome client st table next table'
  stops_more = record {
    starts = some.starts ++ start ∷ [];
    stopped = stops_then some.stopped turn.goes;
    its = all_more (λ (s : ℕ). owns table client (Session s) ≡ true) some.starts start some.its (was_own start own);
    each = λ s was shut. each_more s was shut (dec (owns middle client (Session s))) (dec (nat_eq start s));
    kept = λ other name. turn.noted other name
        ∙ ap (λ (b : Bool). is_open next name && (b || (nat_eq client other && false))) (some.kept other name)
        ∙ still_kept (is_open next name) (is_open mid name) (owns table other name) (nat_eq client other) (λ shut. stays_closed (stop_step turn.goes) name shut refl);
  }

-- ---- the end of a client

pub left_session : (was now gone heir its : Bool) → (gone ≡ true → now ≡ false) → (gone ≡ false → now ≡ was) → ((now && (true || not gone)) || (heir && its && not true)) ≡ ((was && not gone) || (heir && its && not true))
left_session was true true heir its a b = absurd (differ (a refl))
left_session true false true heir its a b = refl
left_session false false true heir its a b = refl
left_session true true false heir its a b = refl
left_session false true false heir its a b = absurd (differ (b refl))
left_session true false false heir its a b = absurd (differ (sym (b refl)))
left_session false false false heir its a b = refl

pub left_other : (was now gone heir its its_now : Bool) → now ≡ was → its_now ≡ its → ((now && (false || not gone)) || (heir && its_now && not false)) ≡ ((was && not gone) || (heir && its && not false))
left_other was now gone heir its its_now e f = ap (λ (p : Bool × Bool). (p.0 && (false || not gone)) || (heir && p.1 && not false)) (λ i. (e i, f i))

pub its_heir : (heir its now : Bool) → (heir && its && not true) ≡ (heir && now && not true)
its_heir true true true = refl
its_heir true true false = refl
its_heir true false true = refl
its_heir true false false = refl
its_heir false its now = refl

kept_is : (own live now : Bool) → now ≡ (live && own) → (own ≡ true → live ≡ true) → now ≡ own
kept_is true true now e h = e
kept_is true false now e h = absurd (differ (sym (h refl)))
kept_is false true now e h = e
kept_is false false now e h = e

module _ (heir client : ℕ) (st next : State) (table middle table' : Table) (known : Knows table st) (some : StopsSome client st table next middle)
    (no_session : (s : ℕ) → owns middle client (Session s) ≡ false) (ordered : IsOrdered table')
    (passed : (other : ℕ) (name : Name) → owns table' other name
    ≡ ((owns middle other name && (is_session name || not (nat_eq client other))) || (nat_eq heir other && owns middle client name && not (is_session name)))) where
  -- what wasn't stopped stays whose it was
  stays_whose : (other : ℕ) (name : Name) → ((s : ℕ) → s ∈ some.starts → owns table other name ≡ true → name ≢ Session s) → owns middle other name ≡ owns table other name
  stays_whose other name not_stopped = kept_is (owns table other name) (is_open next name) (owns middle other name) (some.kept other name)
      (λ own. stays_open st next name (stops_leave some.stopped name (λ s is. not_stopped s is own)) ∙ known.is_there other name own)

  another : (other : ℕ) (name : Name) → nat_eq client other ≡ false → owns middle other name ≡ owns table other name
  another other name ne = stays_whose other name (λ s is own e.
      let its = member (λ (start : ℕ). owns table client (Session start) ≡ true) some.its is in
      let same_client = known.one client other name (subst (λ (n : Name). owns table client n ≡ true) (sym e) its) own in
      differ (sym (itself client) ∙ subst (λ (c : ℕ). nat_eq client c ≡ false) (sym same_client) ne))

  not_session : (other : ℕ) (name : Name) → is_session name ≡ false → owns middle other name ≡ owns table other name
  not_session other name fits = stays_whose other name (λ s is own e. differ (subst (λ (n : Name). is_session n ≡ false) e fits))

  noted : (other : ℕ) (name : Name) → owns table' other name ≡ owned_without heir table client other name
  noted other (Session s) =
      passed other (Session s)
      ∙ left_session (owns table other (Session s)) (owns middle other (Session s)) (nat_eq client other) (nat_eq heir other) (owns middle client (Session s))
      (λ is. subst (λ (c : ℕ). owns middle c (Session s) ≡ false) (same_number client other is) (no_session s))
      (λ ne. another other (Session s) ne)
      ∙ ap (λ (b : Bool). (owns table other (Session s) && not (nat_eq client other)) || b) (its_heir (nat_eq heir other) (owns middle client (Session s)) (owns table client (Session s)))
  noted other (Cleaner n) =
      passed other (Cleaner n)
      ∙ left_other (owns table other (Cleaner n)) (owns middle other (Cleaner n)) (nat_eq client other) (nat_eq heir other) (owns table client (Cleaner n)) (owns middle client (Cleaner n))
      (not_session other (Cleaner n) refl) (not_session client (Cleaner n) refl)
  noted other (Collector n) =
      passed other (Collector n)
      ∙ left_other (owns table other (Collector n)) (owns middle other (Collector n)) (nat_eq client other) (nat_eq heir other) (owns table client (Collector n)) (owns middle client (Collector n))
      (not_session other (Collector n) refl) (not_session client (Collector n) refl)

  pub end_of : Ends heir st table client next table'
  end_of = record {
    starts = some.starts;
    stopped = some.stopped;
    its = some.its;
    each = λ s own. some.each s own (no_session s);
    noted = noted;
    ordered = ordered;
  }
