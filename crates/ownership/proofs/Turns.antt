-- What clients can rely on.
use Rattle.std.proofs.Common.{◌≡◌, ◌≢◌, ℕ, Bool, true, false, not, ◌&&◌, ◌||◌, List, [], ◌∷◌, Option, Some, None, ◌⊎◌, inl, inr, refl, sym, ap, subst, ◌∙◌, arith, if◌then◌else◌}
use Rattle.std.specs.Prelude.{nat_eq}
use Rattle.std.specs.List.{AllByRecursion}
use Rattle.std.proofs.lemmas.Bool.Decides.{nat_tests}
use Rattle.std.proofs.lemmas.Option.{none-some, same_Some}
use Rattle.cell_key.specs.declared.refusals.Refusal.TheVariants.{BadRequest, NoMemory, TooManySessions}
use Rattle.si_model.specs.Machine.{State, IsReached, Step, Stop, StopDone}
use Rattle.si_model.specs.Sets.{◌∈◌, here, there}
use Rattle.si_model.specs.Transactions.{Operation, One, Answer, Said, Goes, steps}
use Rattle.si_model.proofs.Reached.{stays_reached}
use Rattle.ownership.specs.Effects.{StaysAsItWas, TouchesItsOwn}
use Rattle.ownership.specs.Laws.{EachWasGiven, IsGone, IsLeftAlone, IsOfAnother, OthersAreRefused, StaysKnown, WasGiven, WasLeft}
use Rattle.ownership.specs.Names.{gives, is_open, is_session, name_of}
use Rattle.ownership.specs.Tables.{Knows, Table, heir_of, is_full, may_ask, name_refusal, owns, refusal_for, unknown}
use Rattle.ownership.specs.Turns.{Frame, Asks, Leaves, Turn, Stops, none, one_more, Ends, Exchange, Handles, turns, refuses, lacks_memory, leaves, is_malformed, has_no_client, is_too_large}
use Rattle.ownership.specs.declared.names.Name.{Name}
use Rattle.ownership.specs.declared.names.Name.TheVariants.{Session, Cleaner, Collector}
use Rattle.ownership.proofs.Effects.{stays_itself, stays_on, stop_closes, touches_its_own}
use Rattle.ownership.proofs.Steps.{differ, others, stays_closed, stays_open}

pub same_number : (a b : ℕ) → nat_eq a b ≡ true → a ≡ b
same_number a b e = grind (arith, nat_tests)

pub itself : (a : ℕ) → nat_eq a a ≡ true
itself a = grind (arith, nat_tests)

pub other_number : (a b : ℕ) → a ≢ b → nat_eq a b ≡ false
other_number a b ne = grind (arith, nat_tests)

not_same : (a b : ℕ) → nat_eq a b ≡ false → a ≢ b
not_same a b e same = grind (arith, nat_tests)

abbrev Dec : Bool → Type 0
Dec b = (b ≡ true) ⊎ (b ≡ false)

dec : (b : Bool) → Dec b
dec true = inl refl
dec false = inr refl

not_true : (b : Bool) → (b ≡ true → ⊥) → b ≡ false
not_true false fits = refl
not_true true fits = absurd (fits refl)

-- ---- Stops

pub stop_step : {st next : State} {s : ℕ} → Goes st (One (Stop s)) (Said StopDone) next → Step st (Stop s) StopDone next
stop_step (steps step) = step

pub stops_reached : {a b : State} {starts : List ℕ} → Stops a starts b → IsReached a → IsReached b
stops_reached none reached = reached
stops_reached {a} (one_more {mid = mid} {start = start} goes more) reached = stops_reached more (stays_reached a mid (One (Stop start)) (Said StopDone) reached goes)

-- what isn't stopped is as it was
pub stops_leave : {a b : State} {starts : List ℕ} → Stops a starts b → (name : Name) → ((s : ℕ) → s ∈ starts → name ≢ Session s) → StaysAsItWas a b name
stops_leave {a} none name out = stays_itself a name
stops_leave {a} {b} (one_more {mid = mid} {start = start} goes more) name out =
    stays_on a mid b name (others (stop_step goes) name (λ e. out start here (same_Some name (Session start) (sym e))) refl)
    (stops_leave more name (λ s is. out s (there is)))

-- what is closed stays closed
pub stops_open_none : {a b : State} {starts : List ℕ} → Stops a starts b → (name : Name) → is_open a name ≡ false → is_open b name ≡ false
stops_open_none none name shut = shut
stops_open_none (one_more goes more) name shut = stops_open_none more name (stays_closed (stop_step goes) name shut refl)

-- what is stopped is closed
pub stops_close : {a b : State} {starts : List ℕ} → Stops a starts b → (s : ℕ) → s ∈ starts → is_open b (Session s) ≡ false
stops_close (none {st = st}) s x5 = elim x5 [ ]
stops_close (one_more goes more) s here = stops_open_none more (Session s) (stop_closes (stop_step goes))
stops_close (one_more goes more) s (there is) = stops_close more s is

pub member : (P : ℕ → Type 0) {x : ℕ} {xs : List ℕ} → AllByRecursion P xs → x ∈ xs → P x
member P all here = all.0
member P all (there is) = member P all.1 is

-- ---- what is whose

after_cases : (live own asked given : Bool) → (live && (own || (asked && given))) ≡ true → (live ≡ true) × ((own ≡ true) ⊎ ((asked ≡ true) × (given ≡ true)))
after_cases true true asked given e = (refl, inl refl)
after_cases true false true true e = (refl, inr (refl, refl))
after_cases true false true false e = absurd (differ (sym e))
after_cases true false false given e = absurd (differ (sym e))
after_cases false own asked given e = absurd (differ (sym e))

without_cases : (own gone heir its session : Bool) → ((own && not gone) || (heir && its && not session)) ≡ true
    → ((own ≡ true) × (gone ≡ false)) ⊎ ((heir ≡ true) × (its ≡ true) × (session ≡ false))
without_cases true false heir its session e = inl (refl, refl)
without_cases true true true true false e = inr (refl, refl, refl)
without_cases false gone true true false e = inr (refl, refl, refl)
without_cases true true true true true e = absurd (differ (sym e))
without_cases true true true false session e = absurd (differ (sym e))
without_cases true true false its session e = absurd (differ (sym e))
without_cases false gone true true true e = absurd (differ (sym e))
without_cases false gone true false session e = absurd (differ (sym e))
without_cases false gone false its session e = absurd (differ (sym e))

own_first : (live own asked given : Bool) → live ≡ true → own ≡ true → (live && (own || (asked && given))) ≡ true
own_first true true asked given o w = refl
own_first true false asked given o w = absurd (differ (sym w))
own_first false own asked given o w = absurd (differ (sym o))

given_then : (live own asked given : Bool) → live ≡ true → asked ≡ true → given ≡ true → (live && (own || (asked && given))) ≡ true
given_then true true asked given o a g = refl
given_then true false true true o a g = refl
given_then true false true false o a g = absurd (differ (sym g))
given_then true false false given o a g = absurd (differ (sym a))
given_then false own asked given o a g = absurd (differ (sym o))

stays_its : (own gone heir its session : Bool) → own ≡ true → gone ≡ false → ((own && not gone) || (heir && its && not session)) ≡ true
stays_its true false heir its session o g = refl
stays_its true true heir its session o g = absurd (differ g)
stays_its false gone heir its session o g = absurd (differ (sym o))

is_passed : (own gone heir its session : Bool) → heir ≡ true → its ≡ true → session ≡ false → ((own && not gone) || (heir && its && not session)) ≡ true
is_passed true false heir its session h i s = refl
is_passed true true true true false h i s = refl
is_passed false gone true true false h i s = refl
is_passed own gone false its session h i s = absurd (differ (sym h))
is_passed true true true false session h i s = absurd (differ (sym i))
is_passed false gone true false session h i s = absurd (differ (sym i))
is_passed true true true true true h i s = absurd (differ s)
is_passed false gone true true true h i s = absurd (differ s)

module _ {st next : State} {table table' : Table} {client : ℕ} {operation : Operation} {answer : Answer}
    (reached : IsReached st) (known : Knows table st) (turn : Turn st table client operation answer next table') where
  touched : TouchesItsOwn st operation answer next
  touched = touches_its_own st next operation answer reached turn.goes

  abbrev Cases : ℕ → Name → Type 0
  Cases c name = (is_open next name ≡ true) × ((owns table c name ≡ true) ⊎ ((nat_eq client c ≡ true) × (gives operation answer name ≡ true)))

  cases : (c : ℕ) (name : Name) → owns table' c name ≡ true → Cases c name
  cases c name e = after_cases (is_open next name) (owns table c name) (nat_eq client c) (gives operation answer name) (sym (turn.noted c name) ∙ e)

  pub turn_knows : Knows table' next
  turn_knows = record {
    owned = λ name live. found name live (dec (is_open st name));
    is_there = λ c name e. (cases c name e).0;
    one = λ a b name e f. same a b name (cases a name e) (cases b name f);
  }
    where
      found : (name : Name) → is_open next name ≡ true → Dec (is_open st name) → (c : ℕ) × (owns table' c name ≡ true)
      found name live (inl was) =
          let o = known.owned name was in
          (o.0, turn.noted o.0 name ∙ own_first (is_open next name) (owns table o.0 name) (nat_eq client o.0) (gives operation answer name) live o.1)
      found name live (inr shut) =
          (client, turn.noted client name ∙ given_then (is_open next name) (owns table client name) (nat_eq client client) (gives operation answer name) live (itself client) (touched.only name shut live))

      new_and_old : (c : ℕ) (name : Name) → owns table c name ≡ true → gives operation answer name ≡ true → ⊥
      new_and_old c name own given = differ (sym (known.is_there c name own) ∙ touched.was_new name given)

      same : (a b : ℕ) (name : Name) → Cases a name → Cases b name → a ≡ b
      same a b name (_, inl p) (_, inl q) = known.one a b name p q
      same a b name (_, inl p) (_, inr q) = absurd (new_and_old a name p q.1)
      same a b name (_, inr p) (_, inl q) = absurd (new_and_old b name q p.1)
      same a b name (_, inr p) (_, inr q) = sym (same_number client a p.0) ∙ same_number client b q.0

module _ {heir : ℕ} {st next : State} {table table' : Table} {client : ℕ} (known : Knows table st) (ends : Ends heir st table client next table') where
  abbrev Left : ℕ → Name → Type 0
  Left c name = ((owns table c name ≡ true) × (nat_eq client c ≡ false)) ⊎ ((nat_eq heir c ≡ true) × (owns table client name ≡ true) × (is_session name ≡ false))

  left : (c : ℕ) (name : Name) → owns table' c name ≡ true → Left c name
  left c name e = without_cases (owns table c name) (nat_eq client c) (nat_eq heir c) (owns table client name) (is_session name) (sym (ends.noted c name) ∙ e)

  its_start : (s : ℕ) → s ∈ ends.starts → owns table client (Session s) ≡ true
  its_start s is = member (λ (start : ℕ). owns table client (Session start) ≡ true) ends.its is

  -- what is another's isn't stopped
  anothers : (c : ℕ) (name : Name) → owns table c name ≡ true → c ≢ client → StaysAsItWas st next name
  anothers c name own ne = stops_leave ends.stopped name (λ s is e. ne (known.one c client name own (subst (λ n. owns table client n ≡ true) (sym e) (its_start s is))))

  no_session : (name : Name) → is_session name ≡ false → StaysAsItWas st next name
  no_session name fits = stops_leave ends.stopped name (λ s is e. differ (subst (λ n. is_session n ≡ false) e fits))

  still : (name : Name) → StaysAsItWas st next name → is_open st name ≡ true → is_open next name ≡ true
  still name same live = stays_open st next name same ∙ live

  pub end_knows : Knows table' next
  end_knows = record {
    owned = λ name live. found name live (dec (is_open st name));
    is_there = λ c name e. present c name (left c name e);
    one = λ a b name e f. same a b name (left a name e) (left b name f);
  }
    where
      present : (c : ℕ) (name : Name) → Left c name → is_open next name ≡ true
      present c name (inl p) = still name (anothers c name p.0 (λ e. not_same client c p.1 (sym e))) (known.is_there c name p.0)
      present c name (inr p) = still name (no_session name p.2) (known.is_there client name p.1)

      of_client : (name : Name) → is_open next name ≡ true → owns table client name ≡ true → (c : ℕ) × (owns table' c name ≡ true)
      of_client (Session s) live own = absurd (differ (sym live ∙ stops_close ends.stopped s (ends.each s own)))
      of_client (Cleaner n) live own =
          (heir, ends.noted heir (Cleaner n) ∙ is_passed (owns table heir (Cleaner n)) (nat_eq client heir) (nat_eq heir heir) (owns table client (Cleaner n)) false (itself heir) own refl)
      of_client (Collector n) live own =
          (heir, ends.noted heir (Collector n) ∙ is_passed (owns table heir (Collector n)) (nat_eq client heir) (nat_eq heir heir) (owns table client (Collector n)) false (itself heir) own refl)

      of_any : (name : Name) → is_open next name ≡ true → (c : ℕ) → owns table c name ≡ true → Dec (nat_eq client c) → (c : ℕ) × (owns table' c name ≡ true)
      of_any name live c own (inl e) = of_client name live (subst (λ n. owns table n name ≡ true) (sym (same_number client c e)) own)
      of_any name live c own (inr ne) =
          (c, ends.noted c name ∙ stays_its (owns table c name) (nat_eq client c) (nat_eq heir c) (owns table client name) (is_session name) own ne)

      found : (name : Name) → is_open next name ≡ true → Dec (is_open st name) → (c : ℕ) × (owns table' c name ≡ true)
      found name live (inl was) = let o = known.owned name was in of_any name live o.0 o.1 (dec (nat_eq client o.0))
      found name live (inr shut) = absurd (differ (sym live ∙ stops_open_none ends.stopped name shut))

      same : (a b : ℕ) (name : Name) → Left a name → Left b name → a ≡ b
      same a b name (inl p) (inl q) = known.one a b name p.0 q.0
      same a b name (inl p) (inr q) = absurd (not_same client a p.1 (known.one client a name q.1 p.0))
      same a b name (inr p) (inl q) = absurd (not_same client b q.1 (known.one client b name p.1 q.0))
      same a b name (inr p) (inr q) = sym (same_number heir a p.0) ∙ same_number heir b q.0

-- ---- a frame

pub handles_reached : {admin : Option ℕ} {st next : State} {table table' : Table} {frame : Frame} {to : ℕ} {answer : Answer} → Handles admin st table frame to answer next table' → IsReached st → IsReached next
handles_reached {st = st} {next = next} (turns {operation = operation} {answer = answer} fits turn) reached = stays_reached st next operation answer reached turn.goes
handles_reached (leaves ends) reached = stops_reached ends.stopped reached
handles_reached (refuses is) reached = reached
handles_reached (lacks_memory takes) reached = reached
handles_reached is_malformed reached = reached
handles_reached has_no_client reached = reached
handles_reached is_too_large reached = reached

pub handles_knows : {admin : Option ℕ} {st next : State} {table table' : Table} {frame : Frame} {to : ℕ} {answer : Answer} → Handles admin st table frame to answer next table' → IsReached st → Knows table st → Knows table' next
handles_knows (turns fits turn) reached known = turn_knows reached known turn
handles_knows (leaves ends) reached known = end_knows known ends
handles_knows (refuses is) reached known = known
handles_knows (lacks_memory takes) reached known = known
handles_knows is_malformed reached known = known
handles_knows has_no_client reached known = known
handles_knows is_too_large reached known = known

pub stays_known : StaysKnown
stays_known admin st next table table' [] reached known h = (subst IsReached (sym h.0) reached, subst (λ (s : State). Knows table' s) (sym h.0) (subst (λ (t : Table). Knows t st) (sym h.1) known))
stays_known admin st next table table' (x ∷ more) reached known h = stays_known admin h.0 next h.1 table' more (handles_reached h.2 reached) (handles_knows h.2 reached known) h.3

-- an operation that isn't refused names nothing, or what is the client's
name_asked : (table : Table) (client : ℕ) (o : Option Name) (name : Name) → name_refusal table client o ≡ None → o ≡ Some name → owns table client name ≡ true
name_asked table client None name fits e = absurd (none-some name e)
name_asked table client (Some n) name fits e = subst (λ m. owns table client m ≡ true) (same_Some n name e) (found (owns table client n) refl)
  where
    found : (b : Bool) → owns table client n ≡ b → owns table client n ≡ true
    found true is = is
    found false is = absurd (none-some (unknown n) (sym fits ∙ ap (λ (b : Bool). if b then None else Some (unknown n)) is))

pub asked_own : (admin : Option ℕ) (table : Table) (client : ℕ) (operation : Operation) (name : Name) → refusal_for admin table client operation ≡ None → name_of operation ≡ Some name → owns table client name ≡ true
asked_own admin table client operation name fits e = go (may_ask admin client operation) (is_full table client operation) fits
  where
    go : (may full : Bool) → (if not may then Some BadRequest else (if full then Some TooManySessions else name_refusal table client (name_of operation))) ≡ None → owns table client name ≡ true
    go false full is = absurd (none-some BadRequest (sym is))
    go true true is = absurd (none-some TooManySessions (sym is))
    go true false is = name_asked table client (name_of operation) name is e

pub others_are_refused : OthersAreRefused
others_are_refused admin st next table table' client to operation answer name (turns fits turn) named not_own = absurd (differ (sym (asked_own admin table client operation name fits named) ∙ not_own))
others_are_refused admin st next table table' client to operation answer name (refuses {refusal = refusal} is) named not_own = (refl, refl, refl, (refusal, refl))
others_are_refused admin st next table table' client to operation answer name (lacks_memory takes) named not_own = (refl, refl, refl, (NoMemory, refl))

-- ---- what was given

member_later : {xs : List Exchange} {x : Exchange} {client : ℕ} {name : Name} → WasGiven xs client name → WasGiven (x ∷ xs) client name
member_later w = (w.0, w.1, there w.2, w.3, w.4, w.5)

-- a frame of the client gave it the name, or a client that is gone left it to the heir
abbrev GivenBy : Frame → ℕ → Answer → ℕ → Name → Type 0
GivenBy frame to answer client name = (operation : Operation) × (frame ≡ Asks client operation) × (to ≡ client) × (gives operation answer name ≡ true)

abbrev LeftBy : Option ℕ → Table → Frame → ℕ → Name → Type 0
LeftBy admin table frame client name = (gone : ℕ) × (frame ≡ Leaves gone) × (client ≡ heir_of admin) × (owns table gone name ≡ true) × (is_session name ≡ false)

given_once : {admin : Option ℕ} {st next : State} {table table' : Table} {frame : Frame} {to : ℕ} {answer : Answer} → Handles admin st table frame to answer next table' → (client : ℕ) (name : Name) → owns table' client name ≡ true
    → (owns table client name ≡ true) ⊎ (GivenBy frame to answer client name ⊎ LeftBy admin table frame client name)
given_once {admin = admin} {table = table} (turns {client = asker} {operation = operation} {answer = answer} {next = next} fits turn) client name own =
    go (after_cases (is_open next name) (owns table client name) (nat_eq asker client) (gives operation answer name) (sym (turn.noted client name) ∙ own)).1
  where
    go : (owns table client name ≡ true) ⊎ ((nat_eq asker client ≡ true) × (gives operation answer name ≡ true))
        → (owns table client name ≡ true) ⊎ (GivenBy (Asks asker operation) asker answer client name ⊎ LeftBy admin table (Asks asker operation) client name)
    go (inl was) = inl was
    go (inr g) = let e = same_number asker client g.0 in inr (inl (operation, ap (λ (c : ℕ). Asks c operation) e, e, g.1))
given_once {admin = admin} {table = table} (leaves {client = gone} ends) client name own =
    elim (without_cases (owns table client name) (nat_eq gone client) (nat_eq (heir_of admin) client) (owns table gone name) (is_session name) (sym (ends.noted client name) ∙ own)) [
      | inl p ↦ inl p.0
      | inr p ↦ inr (inr (gone, refl, sym (same_number (heir_of admin) client p.0), p.1, p.2))
    ]
given_once (refuses is) client name own = inl own
given_once (lacks_memory takes) client name own = inl own
given_once is_malformed client name own = inl own
given_once has_no_client client name own = inl own
given_once is_too_large client name own = inl own

-- the same, with one frame more in front
left_later : {admin : Option ℕ} {st mid : State} {table middle : Table} {x : Exchange} {more : List Exchange} {name : Name} → Handles admin st table x.frame x.to x.answer mid middle → WasLeft middle more name → WasLeft table (x ∷ more) name
left_later {admin} {st} {mid} {table} {middle} {x} {more} {name} h w = elim w.5 [
  | inr given ↦ (w.0, w.1, there w.2, w.3, w.4, inr (member_later given))
  | inl now ↦ elim (given_once h w.0 name now) [
    | inl was ↦ (w.0, w.1, there w.2, w.3, w.4, inl was)
    | inr g ↦ elim g [
      | inl by ↦ (w.0, w.1, there w.2, w.3, w.4, inr (x, by.0, here, by.1, by.2, by.3))
      | inr by ↦ (by.0, x, here, by.1, by.4, inl by.3)
    ]
  ]
]

pub each_was_given : EachWasGiven
each_was_given admin st next table table' [] client name h own = inl (subst (λ (t : Table). owns t client name ≡ true) h.1 own)
each_was_given admin st next table table' (x ∷ more) client name h own = elim (each_was_given admin h.0 next h.1 table' more client name h.3 own) [
  | inr later ↦ elim later [
    | inl given ↦ inr (inl (member_later given))
    | inr left ↦ inr (inr (left.0, left_later h.2 left.1))
  ]
  | inl now ↦ elim (given_once h.2 client name now) [
    | inl was ↦ inl was
    | inr g ↦ elim g [
      | inl by ↦ inr (inl (x, by.0, here, by.1, by.2, by.3))
      | inr by ↦ inr (inr (by.2, (by.0, x, here, by.1, by.4, inl by.3)))
    ]
  ]
]

-- ---- left alone

alone_once : {admin : Option ℕ} {st next : State} {table table' : Table} {frame : Frame} {to : ℕ} {answer : Answer} → IsReached st → Knows table st → Handles admin st table frame to answer next table'
    → (client : ℕ) (name : Name) → IsOfAnother client frame → owns table client name ≡ true → StaysAsItWas st next name × (owns table' client name ≡ true)
alone_once {admin} {st} {next} {table} {table'} reached known (turns {client = asker} {operation = operation} {answer = answer} fits turn) client name other own =
    let live = known.is_there client name own in
    let touched = touches_its_own st next operation answer reached turn.goes in
    let stays = touched.others name live (λ e. other (known.one asker client name (asked_own admin table asker operation name fits e) own)) in
    (stays, turn.noted client name ∙ own_first (is_open next name) (owns table client name) (nat_eq asker client) (gives operation answer name) (stays_open st next name stays ∙ live) own)
alone_once {admin} {st} {next} {table} {table'} reached known (leaves {client = gone} ends) client name other own = (
  anothers known ends client name own (λ e. other (sym e)),
  ends.noted client name ∙ stays_its (owns table client name) (nat_eq gone client) (nat_eq (heir_of admin) client) (owns table gone name) (is_session name) own (other_number gone client other),
)
alone_once {st = st} reached known (refuses is) client name other own = (stays_itself st name, own)
alone_once {st = st} reached known (lacks_memory takes) client name other own = (stays_itself st name, own)
alone_once {st = st} reached known is_malformed client name other own = (stays_itself st name, own)
alone_once {st = st} reached known has_no_client client name other own = (stays_itself st name, own)
alone_once {st = st} reached known is_too_large client name other own = (stays_itself st name, own)

pub is_left_alone : IsLeftAlone
is_left_alone admin st next table table' [] client name reached known h all own =
    (subst (λ (s : State). StaysAsItWas st s name) (sym h.0) (stays_itself st name), subst (λ (t : Table). owns t client name ≡ true) (sym h.1) own)
is_left_alone admin st next table table' (x ∷ more) client name reached known h all own =
    let once = alone_once reached known h.2 client name all.0 own in
    let rest = is_left_alone admin h.0 next h.1 table' more client name (handles_reached h.2 reached) (handles_knows h.2 reached known) h.3 all.1 once.1 in
    (stays_on st h.0 next name once.0 rest.0, rest.1)

-- ---- gone

pub is_gone : IsGone
is_gone admin st next table table' client to answer name reached known (leaves ends) apart =
    (not_true (owns table' client name) (λ own. nothing (left known ends client name own)), closed name)
  where
    nothing : ((owns table client name ≡ true) × (nat_eq client client ≡ false)) ⊎ ((nat_eq (heir_of admin) client ≡ true) × (owns table client name ≡ true) × (is_session name ≡ false)) → ⊥
    nothing (inl p) = differ (sym (itself client) ∙ p.1)
    nothing (inr p) = elim apart [ inl ne ↦ ne (sym (same_number (heir_of admin) client p.0)) | inr session ↦ differ (sym session ∙ p.2) ]

    closed : (name : Name) → owns table client name ≡ true → is_session name ≡ true → is_open next name ≡ false
    closed (Session s) own is = stops_close ends.stopped s (ends.each s own)
    closed (Cleaner n) own is = absurd (differ (sym is))
    closed (Collector n) own is = absurd (differ (sym is))
