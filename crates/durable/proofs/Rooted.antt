-- What checkpoints and answers leave over a kill, one after the other.
use Rattle.std.proofs.Common.{◌≡◌, ◌≤◌, ◌⊎◌, ◌∙◌, ℕ, Bool, true, false, inl, inr, refl, sym, subst, ap, arith}
use Rattle.std.specs.Prelude.{Result, Ok, Err, IfErr, IsErrAnd, IsErrOf}
use Rattle.cell_key.specs.declared.refusals.Refusal.{Refusal}
use Rattle.cell_key.specs.declared.refusals.Refusal.TheVariants.{Damaged, Device, NoMemory}
use Rattle.request_codec.specs.Replies.{replied}
use Rattle.request_codec.specs.declared.answers.Answer.{Answer}
use Rattle.request_codec.specs.declared.answers.Answer.TheVariants as given
use Rattle.request_codec.specs.declared.operations.Operation.{Operation}
use Rattle.request_codec.specs.declared.operations.Operation.TheVariants as lent
use Rattle.request_codec.specs.declared.replies.Reply.{Reply}
use Rattle.request_codec.specs.declared.replies.Reply.TheVariants as codec
use Rattle.request_codec.specs.declared.requests.Request.{Request}
use Rattle.request_codec.specs.declared.requests.Request.TheVariants.{Begin, Step, CleanStep, CollectStep, Split, Move, Sweep, Checkpoint}
use Rattle.cell_key.specs.Faults.{HasReason, HasRisen}
use Rattle.request_codec.specs.Operations.{operation_of}
use Rattle.server_loop.specs.Commands.{checkpointed}
use Rattle.server_loop.specs.OperationLaws.{StandsForSeveral}
use Rattle.server_loop.specs.Runs.{StepsAs}
use Rattle.si_model.specs.Machine.{IsStorageRefusal, Refused, Reply as MachineReply, Request as MachineRequest, State, Step as MachineStep, Checkpoint as CheckpointAsked, refuses}
use Rattle.si_model.specs.Transactions.{Answer as MachineAnswer, Operation as MachineOperation, One, Commit, Read, Said, Goes, steps, transacts, reads_together, gives_up as gives_up_commit, gives_up_reads}
use Rattle.si_model.specs.Refusing.{gives_up}
use Rattle.durable.specs.Durability.{GoesOn, Settles, StepsOn}
use Rattle.commit_log.specs.declared.logs.Log.{Ghosts as Log}
use Rattle.oracle.specs.declared.marks.MarkStore.{Ghosts as MarkStore}
use Rattle.durable.specs.Answers.{AnswersInRoom, AnswersDurably, AnswersRooted, Checkpoints, HasFailed, MovesTablets, NeedsLogRoom, NeedsRoom, ActsOnRoots, PutsRoot, RefusesRooted, SweepsAfter, TouchesRoots}
use Rattle.durable.specs.View.{RootCalls, View}
use Rattle.durable.specs.Visits.{AsksForFew}
use Rattle.durable.specs.declared.server.DurableServer.{DurableServer}
use Rattle.durable.proofs.Logged.{no_less}
use Rattle.durable.specs.Answers.PutsRoot.{answered, failed, roomless, unlogged, unnamed, unready}

module _ {S : Type 0} (view : View S) (calls : RootCalls S) (says : S → Operation → Answer → S → Type 0) (stopped risen : Type 0) (before now : ℕ) where
  pub moves_rooted : (old new : S) (request : Request) (reply : Reply) → MovesTablets request → AnswersRooted view calls (λ a r b. says a (lent.One request) (given.Said r) b) stopped risen old reply new → AnswersDurably view calls says stopped risen before now old (lent.One request) (given.Said reply) new
  moves_rooted old new (Split row) reply of p = p
  moves_rooted old new (Move tablet server) reply of p = p
  moves_rooted old new request reply of p = absurd of

  pub plain_lasting : (old new : S) (request : Request) (reply : Reply) → ¬ ActsOnRoots request → ¬ NeedsRoom request → says old (lent.One request) (given.Said reply) new → AnswersDurably view calls says stopped risen before now old (lent.One request) (given.Said reply) new
  plain_lasting old new (Split row) reply other plain p = absurd (other tt)
  plain_lasting old new (Move tablet server) reply other plain p = absurd (other tt)
  plain_lasting old new Sweep reply other plain p = absurd (other tt)
  plain_lasting old new Checkpoint reply other plain p = absurd (other tt)
  plain_lasting old new Begin reply other plain p = absurd (plain tt)
  plain_lasting old new (Step start) reply other plain p = absurd (plain tt)
  plain_lasting old new (CleanStep cleaner) reply other plain p = absurd (plain tt)
  plain_lasting old new (CollectStep collector visits) reply other plain p = absurd (plain tt)
  plain_lasting old new request reply other plain p = p

  pub room_lasting : (old new : S) (request : Request) (reply : Reply) → NeedsRoom request → AsksForFew request → AnswersInRoom view calls (says old (lent.One request) (given.Said reply) new) (λ n. reply ≡ codec.Refused n) before now old new → AnswersDurably view calls says stopped risen before now old (lent.One request) (given.Said reply) new
  room_lasting old new Begin reply needs few p = p
  room_lasting old new (Step start) reply needs few p = p
  room_lasting old new (CleanStep cleaner) reply needs few p = p
  room_lasting old new (CollectStep collector visits) reply needs few p =
      subst (λ k. AnswersInRoom view calls (says old (lent.One (CollectStep collector k)) (given.Said reply) new) (λ n. reply ≡ codec.Refused n) before now old new) (sym few) p
  room_lasting old new request reply needs few p = absurd needs

pub rootless : (request : Request) → NeedsRoom request → ¬ ActsOnRoots request
rootless Begin needs root = root
rootless (Step start) needs root = root
rootless (CleanStep cleaner) needs root = root
rootless (CollectStep collector visits) needs root = root
rootless request needs root = absurd needs

module _ {S : Type 0} (view : View S) (calls : RootCalls S) (says : S → Operation → Answer → S → Type 0) (stopped risen : Type 0) (before now : ℕ) where
  pub at_once_lasting : (old new : S) (operation : Operation) (answer : Answer) → StandsForSeveral (operation_of operation) → says old operation answer new → now ≡ before → AnswersDurably view calls says stopped risen before now old operation answer new
  at_once_lasting old new (lent.One request) answer several p unfailed = absurd several
  at_once_lasting old new (lent.Commit start writes) answer several p unfailed = inl (p, unfailed)
  at_once_lasting old new (lent.Read start cells stays_open) answer several p unfailed = inl (p, unfailed)

  pub roomless_lasting : (old : S) (operation : Operation) (refusal : Refusal) → NeedsLogRoom operation → ((refusal ≡ Device) × HasRisen before now) ⊎ (refusal ≡ NoMemory) → AnswersDurably view calls says stopped risen before now old operation (given.Said (codec.Refused refusal)) old
  roomless_lasting old (lent.One request) refusal needs why = absurd needs
  roomless_lasting old (lent.Commit start writes) refusal needs (inl (is, rose)) = inr (refl, inl (ap (λ n. given.Said (codec.Refused n)) is, rose))
  roomless_lasting old (lent.Commit start writes) refusal needs (inr is) = inr (refl, inr (ap (λ n. given.Said (codec.Refused n)) is))
  roomless_lasting old (lent.Read start cells stays_open) refusal needs (inl (is, rose)) = inr (refl, inl ((needs, ap (λ n. given.Said (codec.Refused n)) is), rose))
  roomless_lasting old (lent.Read start cells stays_open) refusal needs (inr is) = inr (refl, inr (needs, ap (λ n. given.Said (codec.Refused n)) is))

pub several_rootless : (operation : Operation) → StandsForSeveral (operation_of operation) → ¬ TouchesRoots operation
several_rootless (lent.One request) several root = several
several_rootless (lent.Commit start writes) several root = root
several_rootless (lent.Read start cells stays_open) several root = root

-- what is stopped, or has risen, may be said of a later moment
module _ {S : Type 0} (view : View S) (calls : RootCalls S) {stopped stopped' risen risen' : Type 0} (still : stopped → stopped') (rises : risen → risen') where
  pub puts_still : (a b : S) (reply : Reply) → PutsRoot view calls stopped risen a reply b → PutsRoot view calls stopped' risen' a reply b
  puts_still a b reply (answered p) = answered p
  puts_still a b reply (unnamed is p) = unnamed is p
  puts_still a b reply (unready is risen p) = unready is (rises risen) p
  puts_still a b reply (roomless is p) = roomless is p
  puts_still a b reply (failed is stops p) = failed is (still stops) p
  puts_still a b reply (unlogged is stops p) = unlogged is (still stops) p

pub sweeps_still : {S : Type 0} {stopped stopped' : Type 0} (calls : RootCalls S) → (stopped → stopped') → (upkeep : Bool) (reply : Reply) (a b : S) → SweepsAfter calls stopped upkeep reply a b → SweepsAfter calls stopped' upkeep reply a b
sweeps_still calls still true codec.Checkpoint a b (result, inl swept) = (result, inl swept)
sweeps_still calls still true codec.Checkpoint a b (result, inr none) = (result, inr (none.0, still none.1, none.2))
sweeps_still calls still true _ a b same = same
sweeps_still calls still false reply a b same = same

-- a root for which no device but the files failed
module _ {S : Type 0} (view : View S) (calls : RootCalls S) (stopped risen : Type 0) where
  pub never_unready : (old new : S) (reply : Reply) → PutsRoot view calls stopped ⊥ old reply new → PutsRoot view calls stopped risen old reply new
  never_unready old new reply (answered p) = answered p
  never_unready old new reply (unnamed is p) = unnamed is p
  never_unready old new reply (unready is risen p) = absurd risen
  never_unready old new reply (roomless is p) = roomless is p
  never_unready old new reply (failed is stops p) = failed is stops p
  never_unready old new reply (unlogged is stops p) = unlogged is stops p

  -- a root after nothing but something that changed the journal alone
  pub puts_after : ((a b c : S) → view.same a b → view.same b c → view.same a c) → (old mid new : S) (reply : Reply) → view.same old mid → PutsRoot view calls stopped risen mid reply new → PutsRoot view calls stopped risen old reply new
  puts_after then old mid new reply same (answered (a, b, first, p, last)) = answered (a, b, then old mid a same first, p, last)
  puts_after then old mid new reply same (unnamed is (a, b, first, p, last)) = unnamed is (a, b, then old mid a same first, p, last)
  puts_after then old mid new reply same (unready is risen p) = unready is risen (then old mid new same p)
  puts_after then old mid new reply same (roomless is p) = roomless is (then old mid new same p)
  puts_after then old mid new reply same (failed is stops (inl p)) = failed is stops (inl (then old mid new same p))
  puts_after then old mid new reply same (failed is stops (inr (a, b, first, p, last))) = failed is stops (inr (a, b, then old mid a same first, p, last))
  puts_after then old mid new reply same (unlogged is stops (a, b, first, p, last)) = unlogged is stops (a, b, then old mid a same first, p, last)

-- what holds of a refusal holds of a result that passes it on
pub passed : (P : Result (Unit {0}) Refusal → Type 0) (r : Result (Unit {0}) Refusal) (e : Refusal) → IsErrAnd r (λ given. given ≡ e) → P (Err e) → P r
passed P (Ok done) e by p = absurd by
passed P (Err given) e by p = subst (λ (f : Refusal). P (Err f)) (sym by) p

pub risen_within : (a b c d : ℕ) → a ≤ b → c ≤ d → HasRisen b c → HasRisen a d
risen_within a b c d low high risen = omega (arith, low, high, risen)

-- what failed between two moments has failed between an earlier and a later one
module _ {S M L : Type 0} (marks : MarkStore M) (log : Log L) where
  pub failed_later : (old mid new : DurableServer S M L) → new.marks.marks ≡ mid.marks.marks → log.faults mid.log ≤ log.faults new.log → HasFailed marks log old mid → HasFailed marks log old new
  failed_later old mid new same later (inl risen) = inl (subst (λ (m : M). HasRisen (marks.faults old.marks.marks) (marks.faults m)) (sym same) risen)
  failed_later old mid new same later (inr risen) = inr (risen_within _ _ _ _ (no_less (log.faults old.log)) later risen)

  pub failed_before : (old mid new : DurableServer S M L) → mid.marks.marks ≡ old.marks.marks → log.faults old.log ≤ log.faults mid.log → HasFailed marks log mid new → HasFailed marks log old new
  failed_before old mid new same later (inl risen) = inl (subst (λ (m : M). HasRisen (marks.faults m) (marks.faults new.marks.marks)) same risen)
  failed_before old mid new same later (inr risen) = inr (risen_within _ _ _ _ later (no_less (log.faults new.log)) risen)

-- a refusal of a log that was to be renewed
abbrev pub IsLogRefusal : Refusal → Type 0
IsLogRefusal refusal = (refusal ≡ Device) ⊎ (refusal ≡ NoMemory)

pub stored_refusal : (refusal : Refusal) → IsLogRefusal refusal → IsStorageRefusal refusal
stored_refusal refusal (inl is) = subst IsStorageRefusal (sym is) tt
stored_refusal refusal (inr is) = subst IsStorageRefusal (sym is) tt

pub only_storage : (r : Result (Unit {0}) Refusal) → IfErr r IsLogRefusal → IfErr r IsStorageRefusal
only_storage (Ok done) c = tt
only_storage (Err refusal) c = stored_refusal refusal c

-- a checkpoint that was made, and whose root was named or not
module _ {S : Type 0} (view : View S) (calls : RootCalls S) (stopped risen : Type 0) where
  pub named_answer : (old new : S) (r : Result (Unit {0}) Refusal) → IfErr r IsLogRefusal → (IsErrOf r Device → stopped) → Checkpoints view calls old codec.Checkpoint new → PutsRoot view calls stopped risen old (checkpointed r) new
  named_answer old new (Ok done) c stops p = answered p
  named_answer old new (Err refusal) (inl is) stops p = failed (ap codec.Refused is) (stops (ap Err is)) (inr p)
  named_answer old new (Err refusal) (inr is) stops p = unnamed (ap codec.Refused is) p

  -- a checkpoint for which the log got no room
  pub unready_answer : (old new : S) (r : Result (Unit {0}) Refusal) (e : Refusal) → IsErrAnd r (λ given. given ≡ e) → IsLogRefusal e → (e ≡ Device → risen) → view.same old new → PutsRoot view calls stopped risen old (checkpointed r) new
  unready_answer old new (Ok done) e by why rises same = absurd by
  unready_answer old new (Err given) e by (inl device) rises same = unready (ap codec.Refused (by ∙ device)) (rises device) same
  unready_answer old new (Err given) e by (inr memory) rises same = roomless (ap codec.Refused (by ∙ memory)) same

  -- a checkpoint that was made, and behind which there may be no room for a second one
  pub second_unready : (old new : S) (r : Result (Unit {0}) Refusal) → IfErr r IsLogRefusal → (IsErrOf r Device → risen) → ¬ stopped → Checkpoints view calls old codec.Checkpoint new → IfErr r (λ refusal. RefusesRooted view calls stopped risen old refusal new)
  second_unready old new (Ok done) c rises on p = tt
  second_unready old new (Err refusal) (inl is) rises on p = inr (p, on, inl (is, rises (ap Err is)))
  second_unready old new (Err refusal) (inr is) rises on p = inr (p, on, inr is)

-- a call after one of which no device failed
pub reason_then : {T : Type 0} (a b c : ℕ) (r : Result T Refusal) → b ≡ a → HasReason b c r → HasReason a c r
reason_then a b c r same reason = subst (λ (n : ℕ). HasReason n c r) same reason

module _ {S : Type 0} (shows : S → State → Type 0) where
  pub steps_unready : (old new : S) (r : Result (Unit {0}) Refusal) (e : Refusal) → IsErrAnd r (λ given. given ≡ e) → IsLogRefusal e → ((st : State) → shows old st → shows new st) → StepsAs shows old new CheckpointAsked (replied (checkpointed r))
  steps_unready old new (Ok done) e by why same = absurd by
  steps_unready old new (Err given) e by why same =
      let log : IsLogRefusal given = subst IsLogRefusal (sym by) why in
      λ before reached shown. (before, refuses (gives_up (stored_refusal given log)), same before shown, λ whole. elim log [ inl is ↦ cc | inr is ↦ cc ])

  pub steps_named : (old new : S) (r : Result (Unit {0}) Refusal) → IfErr r IsLogRefusal → StepsAs shows old new CheckpointAsked (replied codec.Checkpoint) → ((st : State) → shows old st → shows new st) → StepsAs shows old new CheckpointAsked (replied (checkpointed r))
  steps_named old new (Ok done) c step same = step
  steps_named old new (Err refusal) c step same = λ before reached shown. (before, refuses (gives_up (stored_refusal refusal c)), same before shown, λ e. elim c [ inl is ↦ cc | inr is ↦ cc ])

-- a refusal of the store may come at any time
stays_refused : (now : State) (operation : MachineOperation) (refusal : Refusal) → IsStorageRefusal refusal → Goes now operation (Said (Refused refusal)) now
stays_refused now (One request) refusal stores = steps (refuses (gives_up stores))
stays_refused now (Commit start writes) refusal stores = transacts (gives_up_commit stores)
stays_refused now (Read start cells stays_open) refusal stores = reads_together (gives_up_reads stores)

stepped : (now next : State) (request : MachineRequest) (reply : MachineReply) → Goes now (One request) (Said reply) next → MachineStep now request reply next
stepped now next request reply (steps step) = step

-- what the machine answers to one request is a step
pub step_of : {S : Type 0} {shows lasts : S → State → Type 0} {logs : S → Type 0} {request : MachineRequest} {reply : MachineReply} {old new : S} {now : State} → StepsOn shows lasts logs (One request) (Said reply) old new now
    → (after : State) × MachineStep now request reply after × shows new after × (reply ≡ Refused Damaged → ⊥)
step_of on = (on.next, stepped _ _ _ _ on.goes, on.shown, λ is. on.whole (ap Said is))

module _ {S : Type 0} (shows lasts : S → State → Type 0) (logs : S → Type 0) where
  pub settles_then : (a b c : S) → Settles shows lasts logs a b → Settles shows lasts logs b c → Settles shows lasts logs a c
  settles_then a b c first second = record {
    shown = λ st s. second.shown st (first.shown st s);
    logged = λ now reached s l. second.logged now reached (first.shown now s) (first.logged now reached s l);
    lasting = λ now reached s l st x.
        let on = second.lasting now reached (first.shown now s) (first.logged now reached s l) in
        elim (first.lasting now reached s l st x) [
          | inl y ↦ on st y
          | inr y ↦ elim (on now y) [ inl z ↦ inr z | inr z ↦ inr z ]
        ];
  }

  -- an answer after something that settled
  pub goes_after : (operation : MachineOperation) (answer : MachineAnswer) (a b c : S) → Settles shows lasts logs a b → GoesOn shows lasts logs operation answer b c → GoesOn shows lasts logs operation answer a c
  goes_after operation answer a b c first second = λ now reached s.
      let on = second now reached (first.shown now s) in
      record {
        next = on.next;
        goes = on.goes;
        shown = on.shown;
        whole = on.whole;
        logged = λ l. on.logged (first.logged now reached s l);
        lasting = λ l st x.
            let l' = first.logged now reached s l in
            elim (first.lasting now reached s l st x) [
              | inl y ↦ on.lasting l' st y
              | inr y ↦ elim (on.lasting l' now y) [ inl z ↦ inr (inl z) | inr z ↦ inr z ]
            ];
      }

  -- a refusal, after nothing but something that settled
  pub goes_nowhere : (operation : MachineOperation) (refusal : Refusal) → IsStorageRefusal refusal → ¬ (refusal ≡ Damaged) → (a b : S) → Settles shows lasts logs a b → GoesOn shows lasts logs operation (Said (Refused refusal)) a b
  goes_nowhere operation refusal stores whole a b settles = λ now reached s. record {
    next = now;
    goes = stays_refused now operation refusal stores;
    shown = settles.shown now s;
    whole = λ is. whole cc;
    logged = settles.logged now reached s;
    lasting = λ l st x. elim (settles.lasting now reached s l st x) [ inl y ↦ inl y | inr y ↦ inr (inl y) ];
  }
