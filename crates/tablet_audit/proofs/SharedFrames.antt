-- The judgement of frames of several clients.
use Rattle.std.proofs.Common.{◌≡◌, ◌≢◌, ℕ, ◌<◌, ◌⊎◌, inl, inr, Bool, true, false, not, ◌&&◌, ◌||◌, List, [], ◌∷◌, ◌++◌, length, drop, Option, Some, None, Result, Ok, Err, refl, sym, ap, ◌∙◌, subst, arith, length-append}
use Rattle.std.specs.Prelude.{IfOk, IsTrue, ◌↔◌, nat_eq}
use Rattle.std.proofs.lemmas.Option.{none-some, same_Some}
use Rattle.cell_key.specs.declared.refusals.Refusal.{Refusal}
use Rattle.cell_key.specs.declared.refusals.Refusal.TheVariants.{BadRequest, NoMemory}
use Rattle.si_model.specs.Machine.{State, Refused, Stop, StopDone}
use Rattle.si_model.specs.Transactions.{Operation, One, Answer, Said, Goes, steps}
use Rattle.si_model.proofs.Reached.{stays_reached}
use Rattle.request_codec.specs.Answers.{IsAnswerBody, IsNoAnswer}
use Rattle.request_codec.specs.Fields.{number}
use Rattle.audit.specs.Audits.{JudgesOperation, JudgesStep, Keeps as KeepsState, KeepsReached}
use Rattle.audit.specs.declared.audit.Audit.{Audit}
use Rattle.ownership.specs.Effects.{may_close}
use Rattle.ownership.specs.Frames.{IsBodyOf, IsOfClient}
use Rattle.ownership.specs.Names.{gives, is_name, is_open, is_session, name_of, same_name}
use Rattle.ownership.specs.Tables.{Knows, Table, heir_of, owns, refusal_for, table_of}
use Rattle.ownership.specs.Turns.{Frame, Asks, Leaves, Malformed, NoClient, Handles, StopsSome, TakesMemory, Turn, turns, refuses, lacks_memory, leaves, is_malformed, has_no_client}
use Rattle.ownership.specs.declared.names.Name.{Name}
use Rattle.ownership.specs.declared.names.Name.TheVariants.{Session}
use Rattle.ownership.specs.declared.owners.Owners.{Owners}
use Rattle.ownership.proofs.Noted.{can_stop, end_of, in_order, stop_turn, stops_more, stops_none, turn_of}
use Rattle.ownership.proofs.Steps.{differ}
use Rattle.ownership.proofs.Turns.{asked_own, end_knows, stop_step, turn_knows}
use Rattle.tablet_audit.specs.Judges.{Follows, IsNotAllowed, JudgesFrame, JudgesStops, JudgesTurn, Keeps, KeepsKnown}
use Rattle.tablet_audit.specs.Pairs.{JudgesShared}
use Rattle.tablet_audit.specs.Runs.{AnswersShared, HandlesSo, IsAnswerTo, Moment}
use Rattle.tablet_audit.specs.Verdicts.{IsNoAnswerTo}
use Rattle.tablet_audit.specs.declared.judges.Judge.{Judge}
use Rattle.tablet_audit.specs.declared.sharing.Sharing.TheVariants.{Shared}

-- ---- an answer to a client

behind_number : (n : ℕ) (rest : List ℕ) → drop 4 (number 4 n ++ rest) ≡ rest
unfolding number
behind_number n rest = refl

length-number : (n : ℕ) → length (number 4 n) ≡ 4
unfolding number
length-number n = refl

pub too_short : (body : List ℕ) → length body < 4 → IsNoAnswerTo body
too_short body few client said is =
    let whole = ap length is.1.1 in
    omega (arith, few, whole, length-append (number 4 client) is.0, length-number client)

pub no_answer_to : (client : ℕ) (rest body : List ℕ) → IsOfClient client rest body → IsNoAnswer rest → IsNoAnswerTo body
no_answer_to client rest body of none other said is =
    let same : is.0 ≡ rest = sym (behind_number other is.0) ∙ ap (drop 4) (sym is.1.1 ∙ of.1) ∙ behind_number client rest in
    none said (subst (IsAnswerBody said) same is.2)

-- ---- an operation

keeps_known : (admin : Option ℕ) (judge : Judge) (now : Moment) → Keeps (Shared admin) judge now → KeepsKnown judge now.state
keeps_known admin judge now keeps = record { state = keeps.state; known = subst (λ (t : Table). Knows t now.state) keeps.table keeps.known }

-- a moment after a moment that is kept
abbrev Goes_to : Option ℕ → Judge → Moment → Frame → ℕ → Answer → Type 0
Goes_to admin new now frame to said = (next : Moment) × HandlesSo admin frame to said now next × Keeps (Shared admin) new next

after_kept : (admin : Option ℕ) (old new : Judge) (now : Moment) (frame : Frame) (to : ℕ) (said : Answer) (next : State) → Keeps (Shared admin) old now
    → Handles admin now.state (table_of old.owners) frame to said next (table_of new.owners) → KeepsKnown new next → Goes_to admin new now frame to said
after_kept admin old new now frame to said next keeps handles kept = (
  record { state = next; table = table_of new.owners },
  subst (λ (t : Table). Handles admin now.state t frame to said next (table_of new.owners)) (sym keeps.table) handles,
  record { state = kept.state; table = refl; known = kept.known },
)

abbrev Lacks : Operation → Answer → Type 0
Lacks operation said = TakesMemory operation × (said ≡ Said (Refused NoMemory))

pub lacking : (admin : Option ℕ) (judge : Judge) (client : ℕ) (operation : Operation) (said : Answer) → Lacks operation said → JudgesFrame admin judge judge (Asks client operation) client said true
lacking admin judge client operation said lacks = λ now keeps.
    (now, subst (λ (a : Answer). Handles admin now.state now.table (Asks client operation) client a now.state now.table) (sym lacks.1) (lacks_memory lacks.0), keeps)

not_refused : {admin : Option ℕ} {st next : State} {table table' : Table} {client to : ℕ} {operation : Operation} {said : Answer} → Handles admin st table (Asks client operation) to said next table' → (refusal : Refusal)
    → refusal_for admin table client operation ≡ Some refusal → ¬ Lacks operation said → (said ≡ Said (Refused refusal) → ⊥) → ⊥
not_refused (turns free turn) refusal is lacks other = none-some refusal (sym free ∙ is)
not_refused (refuses {refusal = given} so) refusal is lacks other = other (ap (λ (r : Refusal). Said (Refused r)) (same_Some given refusal (sym so ∙ is)))
not_refused (lacks_memory takes) refusal is lacks other = lacks (takes, refl)

pub refused : (admin : Option ℕ) (judge : Judge) (client : ℕ) (operation : Operation) (said : Answer) (refusal : Refusal) (yes : Bool) → IsTrue yes ↔ (said ≡ Said (Refused refusal))
    → refusal_for admin (table_of judge.owners) client operation ≡ Some refusal → ¬ Lacks operation said → JudgesFrame admin judge judge (Asks client operation) client said yes
refused admin judge client operation said refusal true test is lacks = λ now keeps. (
  now,
  subst (λ (a : Answer). Handles admin now.state now.table (Asks client operation) client a now.state now.table) (sym (test.0 refl)) (refuses (ap (λ (t : Table). refusal_for admin t client operation) keeps.table ∙ is)),
  keeps,
)
refused admin judge client operation said refusal false test is lacks = λ now next keeps handles.
    not_refused handles refusal (ap (λ (t : Table). refusal_for admin t client operation) keeps.table ∙ is) lacks (λ e. differ (sym (test.1 e)))

not_turned : {admin : Option ℕ} {st next : State} {table table' : Table} {client to : ℕ} {operation : Operation} {said : Answer} → Handles admin st table (Asks client operation) to said next table'
    → refusal_for admin table client operation ≡ None → ¬ Lacks operation said → ((after : State) → Goes st operation said after → ⊥) → ⊥
not_turned {next = next} (turns free turn) is lacks none = none next turn.goes
not_turned (refuses {refusal = refusal} so) is lacks none = none-some refusal (sym is ∙ so)
not_turned (lacks_memory takes) is lacks none = lacks (takes, refl)

pub asked : (admin : Option ℕ) (old new : Judge) (client : ℕ) (operation : Operation) (said : Answer) (result : Result Bool Refusal) → refusal_for admin (table_of old.owners) client operation ≡ None → ¬ Lacks operation said
    → IfOk result (JudgesTurn old new client operation said) → IfOk result (JudgesFrame admin old new (Asks client operation) client said)
asked admin old new client operation said (Ok true) free lacks judges = λ now keeps.
    let known = keeps_known admin old now keeps in
    let (next, turn, kept) = judges now.state known in
    after_kept admin old new now (Asks client operation) client said next keeps (turns free turn) (record { state = kept; known = turn_knows known.state.0 known.known turn })
asked admin old new client operation said (Ok false) free lacks judges = λ now next keeps handles.
    not_turned handles (ap (λ (t : Table). refusal_for admin t client operation) keeps.table ∙ free) lacks (λ after goes. judges now.state after keeps.state goes)
asked admin old new client operation said (Err refusal) free lacks judges = tt

pub turned : (old : Judge) (audit : Audit) (owners : Owners) (client : ℕ) (operation : Operation) (said : Answer) (result : Result Bool Refusal) → result ≡ Ok true → JudgesOperation old.audit audit operation said result
    → ((name : Name) → name_of operation ≡ Some name → owns (table_of old.owners) client name ≡ true)
    → ((st : State) → KeepsState audit st → (other : ℕ) (name : Name) → owns (table_of owners) other name
    ≡ ((owns (table_of old.owners) other name && not (nat_eq client other && (may_close operation said && (is_name (name_of operation) name && not (is_open st name))))) || (nat_eq client other && gives operation said name)))
    → JudgesTurn old (record { audit = audit; owners = owners }) client operation said true
turned old audit owners client operation said result is judges own noted = λ st known.
    let (next, goes, kept) = subst (JudgesOperation old.audit audit operation said) is judges st known.state in
    (next, turn_of known.state.0 known.known (in_order owners) own goes (λ other name. noted next kept.1 other name), kept)

pub not_taken : (old new : Judge) (audit : Audit) (client : ℕ) (operation : Operation) (said : Answer) (result : Result Bool Refusal) → result ≡ Ok false → JudgesOperation old.audit audit operation said result
    → JudgesTurn old new client operation said false
not_taken old new audit client operation said result is judges = λ st next keeps goes. (subst (JudgesOperation old.audit audit operation said) is judges).0 st next keeps goes

-- ---- the end of a client

pub stopped : (old : Judge) (audit : Audit) (owners : Owners) (client start : ℕ) (result : Result Bool Refusal) → result ≡ Ok true → JudgesStep old.audit audit (Stop start) StopDone result
    → owns (table_of old.owners) client (Session start) ≡ true
    → ((other : ℕ) (name : Name) → owns (table_of owners) other name ≡ (owns (table_of old.owners) other name && not (nat_eq client other && same_name (Session start) name)))
    → JudgesTurn old (record { audit = audit; owners = owners }) client (One (Stop start)) (Said StopDone) true
stopped old audit owners client start result is judges own noted = λ st known.
    let (next, step, kept) = subst (JudgesStep old.audit audit (Stop start) StopDone) is judges st known.state.1 in (
      next,
      stop_turn known.state.0 known.known (in_order owners) own (steps step) noted,
      (stays_reached st next (One (Stop start)) (Said StopDone) known.state.0 (steps step), kept),
    )

pub not_stopped : (old new : Judge) (audit : Audit) (client start : ℕ) (result : Result Bool Refusal) → result ≡ Ok false → JudgesStep old.audit audit (Stop start) StopDone result
    → JudgesTurn old new client (One (Stop start)) (Said StopDone) false
not_stopped old new audit client start result is judges = λ st next keeps goes. (subst (JudgesStep old.audit audit (Stop start) StopDone) is judges).0 st next keeps.1 (stop_step goes)

pub none_stopped : (judge : Judge) (client : ℕ) → JudgesStops judge judge client true
none_stopped judge client = λ st known. (st, stops_none known.known, known)

pub one_stopped : (old mid new : Judge) (client start : ℕ) → JudgesStops old mid client true → owns (table_of mid.owners) client (Session start) ≡ true
    → JudgesTurn mid new client (One (Stop start)) (Said StopDone) true → JudgesStops old new client true
one_stopped old mid new client start so_far own judges = λ st known.
    let (now, some, kept) = so_far st known in
    let (next, turn, kept_next) = judges now kept in
    (next, stops_more some kept.known own turn, record { state = kept_next; known = turn_knows kept.state.0 kept.known turn })

pub never_unstopped : (old mid new : Judge) (client start : ℕ) → JudgesStops old mid client true → owns (table_of mid.owners) client (Session start) ≡ true
    → JudgesTurn mid new client (One (Stop start)) (Said StopDone) false → (last : Judge) → JudgesStops old last client false
never_unstopped old mid new client start so_far own judges last = λ st known.
    let (now, some, kept) = so_far st known in
    let (next, step) = can_stop now start (kept.known.is_there client (Session start) own) in
    judges now next kept.state (steps step)

pub left : (admin : Option ℕ) (old mid new : Judge) (client : ℕ) → JudgesStops old mid client true → ((start : ℕ) → owns (table_of mid.owners) client (Session start) ≡ false) → new.audit ≡ mid.audit
    → ((other : ℕ) (name : Name) → owns (table_of new.owners) other name
    ≡ ((owns (table_of mid.owners) other name && (is_session name || not (nat_eq client other))) || (nat_eq (heir_of admin) other && owns (table_of mid.owners) client name && not (is_session name))))
    → JudgesFrame admin old new (Leaves client) client (Said StopDone) true
left admin old mid new client stops none same passed = λ now keeps.
    let known = keeps_known admin old now keeps in
    let (next, some, kept) = stops now.state known in
    let ends = end_of (heir_of admin) client now.state next (table_of old.owners) (table_of mid.owners) (table_of new.owners) known.known some none (in_order new.owners) passed in
    after_kept admin old new now (Leaves client) client (Said StopDone) next keeps (leaves ends)
    (record { state = subst (λ (a : Audit). KeepsReached a next) (sym same) kept.state; known = end_knows known.known ends })

pub never_left : (admin : Option ℕ) (old mid new : Judge) (client : ℕ) → JudgesStops old mid client false → JudgesFrame admin old new (Leaves client) client (Said StopDone) false
never_left admin old mid new client none = λ now next keeps handles. none now.state (keeps_known admin old now keeps)

-- ---- a frame

to_asker : {admin : Option ℕ} {st next : State} {table table' : Table} {client to : ℕ} {operation : Operation} {said : Answer} → Handles admin st table (Asks client operation) to said next table' → to ≡ client
to_asker (turns free turn) = refl
to_asker (refuses so) = refl
to_asker (lacks_memory takes) = refl

ends_so : {admin : Option ℕ} {st next : State} {table table' : Table} {client to : ℕ} {said : Answer} → Handles admin st table (Leaves client) to said next table' → (to ≡ client) × (said ≡ Said StopDone)
ends_so (leaves ends) = (refl, refl)

malformed_so : {admin : Option ℕ} {st next : State} {table table' : Table} {client to : ℕ} {said : Answer} → Handles admin st table (Malformed client) to said next table' → (to ≡ client) × (said ≡ Said (Refused BadRequest))
malformed_so is_malformed = (refl, refl)

nobody_so : {admin : Option ℕ} {st next : State} {table table' : Table} {to : ℕ} {said : Answer} → Handles admin st table NoClient to said next table' → (to ≡ 0) × (said ≡ Said (Refused BadRequest))
nobody_so has_no_client = (refl, refl)

pub wrong_asker : (admin : Option ℕ) (old new : Judge) (client to : ℕ) (operation : Operation) (said : Answer) → to ≢ client → JudgesFrame admin old new (Asks client operation) to said false
wrong_asker admin old new client to operation said ne = λ now next keeps handles. ne (to_asker handles)

pub wrong_end : (admin : Option ℕ) (old new : Judge) (client to : ℕ) (said : Answer) → ¬ ((to ≡ client) × (said ≡ Said StopDone)) → JudgesFrame admin old new (Leaves client) to said false
wrong_end admin old new client to said other = λ now next keeps handles. other (ends_so handles)

pub malformed : (admin : Option ℕ) (judge : Judge) (client to : ℕ) (said : Answer) (yes : Bool) → IsTrue yes ↔ ((to ≡ client) × (said ≡ Said (Refused BadRequest))) → JudgesFrame admin judge judge (Malformed client) to said yes
malformed admin judge client to said true test = λ now keeps.
    let so = test.0 refl in
    (now, subst (λ (t : ℕ). Handles admin now.state now.table (Malformed client) t said now.state now.table) (sym so.0) (subst (λ (a : Answer). Handles admin now.state now.table (Malformed client) client a now.state now.table) (sym so.1) is_malformed), keeps)
malformed admin judge client to said false test = λ now next keeps handles. differ (sym (test.1 (malformed_so handles)))

pub nobody : (admin : Option ℕ) (judge : Judge) (to : ℕ) (said : Answer) (yes : Bool) → IsTrue yes ↔ ((to ≡ 0) × (said ≡ Said (Refused BadRequest))) → JudgesFrame admin judge judge NoClient to said yes
nobody admin judge to said true test = λ now keeps.
    let so = test.0 refl in
    (now, subst (λ (t : ℕ). Handles admin now.state now.table NoClient t said now.state now.table) (sym so.0) (subst (λ (a : Answer). Handles admin now.state now.table NoClient 0 a now.state now.table) (sym so.1) has_no_client), keeps)
nobody admin judge to said false test = λ now next keeps handles. differ (sym (test.1 (nobody_so handles)))

pub asked_so : (admin : Option ℕ) (old new : Judge) (frame : Frame) (client to : ℕ) (operation : Operation) (said : Answer) (result : Result Bool Refusal) → frame ≡ Asks client operation → client ≡ to
    → IfOk result (JudgesFrame admin old new (Asks to operation) to said) → IfOk result (JudgesFrame admin old new frame to said)
asked_so admin old new frame client to operation said result is same judged =
    subst (λ (f : Frame). IfOk result (JudgesFrame admin old new f to said)) (sym (is ∙ ap (λ (n : ℕ). Asks n operation) same)) judged

pub left_so : (admin : Option ℕ) (old new : Judge) (frame : Frame) (client to : ℕ) (said : Answer) (result : Result Bool Refusal) → frame ≡ Leaves client → client ≡ to → said ≡ Said StopDone
    → IfOk result (JudgesFrame admin old new (Leaves to) to (Said StopDone)) → IfOk result (JudgesFrame admin old new frame to said)
left_so admin old new frame client to said result is same ended judged =
    subst (λ (a : Answer). IfOk result (JudgesFrame admin old new frame to a)) (sym ended)
    (subst (λ (f : Frame). IfOk result (JudgesFrame admin old new f to (Said StopDone))) (sym (is ∙ ap (λ (n : ℕ). Leaves n) same)) judged)

pub malformed_to : (admin : Option ℕ) (judge : Judge) (frame : Frame) (client to : ℕ) (said : Answer) (told : Bool) → frame ≡ Malformed client → client ≡ to → IsTrue told ↔ (said ≡ Said (Refused BadRequest))
    → JudgesFrame admin judge judge frame to said told
malformed_to admin judge frame client to said told is same test =
    subst (λ (f : Frame). JudgesFrame admin judge judge f to said told) (sym is) (malformed admin judge client to said told (λ t. (sym same, test.0 t), λ p. test.1 p.1))

pub nobody_to : (admin : Option ℕ) (judge : Judge) (frame : Frame) (to : ℕ) (said : Answer) (told : Bool) → frame ≡ NoClient → to ≡ 0 → IsTrue told ↔ (said ≡ Said (Refused BadRequest))
    → JudgesFrame admin judge judge frame to said told
nobody_to admin judge frame to said told is zero test =
    subst (λ (f : Frame). JudgesFrame admin judge judge f to said told) (sym is) (nobody admin judge to said told (λ t. (zero, test.0 t), λ p. test.1 p.1))

-- both bodies
pub passes_shared : (admin : Option ℕ) (old new : Judge) (k : ℕ) (body answer : List ℕ) (frame : Frame) (to : ℕ) (said : Answer) → IsBodyOf frame body → IsAnswerTo to said answer
    → JudgesFrame admin old new frame to said true → JudgesShared admin old new k body answer None
passes_shared admin old new k body answer frame to said is answers judges = λ now keeps.
    let (next, handles, kept) = judges now keeps in
    (next, (frame, to, said, is, answers, handles), kept)
