-- A server's steps, from its sessions' steps.
use Rattle.std.proofs.Common.{◌≡◌, ℕ, Option, Some, None, Result, Ok, Err, IsErrOf, refl, ap, ◌∙◌, ◌⊎◌, subst, sym, inl, inr}
use Rattle.std.specs.Prelude.{⊤, ◌+◌, IfSome}
use Rattle.std.specs.FinMap.{empty, get-empty}
use Rattle.cell_key.specs.Faults.{HasRisen}
use Rattle.cell_key.specs.Keys.{key_cmp}
use Rattle.cell_key.specs.declared.refusals.Refusal.{Refusal}
use Rattle.cell_key.specs.declared.refusals.Refusal.TheVariants.{BadRow, BadColumn, Damaged, Device, Exhausted, NoMemory, TooManySessions}
use Rattle.si_model.proofs.ByServers.{by_servers}
use Rattle.si_model.specs.Machine.{State, Request, Reply, Begun, SetDone, DeleteDone, StopDone, Refused, IsReached, OracleRestart, RestartDone, accepts, refuses, tells, restarts, new_machine}
use Rattle.si_model.specs.Collection.{ChangesCells}
use Rattle.si_model.specs.Kinds.{OfSessions, kind_of}
use Rattle.si_model.specs.ShowsCells.{ShowsCells}
use Rattle.si_model.specs.Refusing.{Refuses, gives_up}
use Rattle.si_model.specs.Replies.{found_reply, progress_reply, scan_reply}
use Rattle.si_model.specs.Transactions.{Answer, One, Said, steps}
use Rattle.si_model.specs.declared.scans.ScanReply.{ScanReply}
use Rattle.si_model.specs.declared.replies.Found.{Found}
use Rattle.si_model.specs.declared.replies.Found.TheVariants as founds
use Rattle.si_model.specs.declared.replies.Progress.{Progress}
use Rattle.si_model.specs.declared.replies.Progress.TheVariants as progresses
use Rattle.file_store.specs.Store.{Contents}
use Rattle.row_atomic.specs.Recorded.{seen_recorded}
use Rattle.row_atomic.specs.Clusters.{cells_in}
use Rattle.txn_client.specs.Reads.{IsShort}
use Rattle.oracle.specs.Ranges.{SameNumbers}
use Rattle.rows.specs.Sources.{Source}
use Rattle.txn_client.specs.Refusals.{HasOneReason, IsBeginRefusal}
use Rattle.txn_client.specs.Shows as clients
use Rattle.txn_client.specs.Shows.{DrawsIn}
use Rattle.request_codec.specs.Replies.{replied, HoldsWithinLimits}
use Rattle.request_codec.specs.declared.replies.Reply.{Reply as CodecReply}
use Rattle.request_codec.specs.declared.replies.Reply.TheVariants as codec
use Rattle.server_loop.specs.declared.server.Server.{Server}
use Rattle.server_loop.specs.Server.{HoldsIn, Shows, server_cells}
use Rattle.server_loop.specs.Sessions.{LeavesMark, LeavesOracle}
use Rattle.server_loop.specs.Runs.{GoesFrom, StampsGoOn, StepsAs, IfRefused}
use Rattle.server_loop.proofs.CleanSteps.{spots_in}
use Rattle.server_loop.proofs.OthersShown.{floor_stays, cleaners_stay, collectors_stay, not_kind, sessions_not_cleaners, sessions_not_collectors}
use Rattle.server_loop.proofs.SamePlaces.{KeepsPlaces}
use Rattle.server_loop.proofs.SplitSteps.{still_placed, still_next}

module _ {F M W : Type 0} (contents : F → Option Contents) (old new : Server F M W) where
  -- a step of a session, which leaves the tablets' places, the cleaners and the collectors unchanged
  pub steps_as : (request : Request) (reply : Reply) → KeepsPlaces request → kind_of request ≡ OfSessions → new.cleaners ≡ old.cleaners
      → new.collectors ≡ old.collectors → ((st : State) → IsReached st → Shows contents old st → ChangesCells (server_cells contents old) st (server_cells contents new))
      → (HoldsIn contents old → clients.Steps (cells_in (contents old.rows.cluster.files) old.rows.cluster.tablets) old.clients old.oracle.last request reply (cells_in (contents new.rows.cluster.files) new.rows.cluster.tablets) new.clients new.oracle.last)
      → (HoldsIn contents old → HoldsIn contents new) → (seen_recorded contents).storage new.rows ≡ (seen_recorded contents).storage old.rows
      → ((st : State) → IsReached st → HoldsIn contents old → clients.Shows (cells_in (contents old.rows.cluster.files) old.rows.cluster.tablets) old.clients old.oracle.last st → reply ≡ Refused Damaged → ⊥)
      → StepsAs (Shows contents) old new request reply
  steps_as request reply keeps kind same_cleaners same_collectors changes step still storage whole = λ before reached shown.
      let (next, taken, shows, known) = step shown.in_order before (by_servers reached) shown.shows in
      let after : Shows contents new next = record {
        in_order = still shown.in_order;
        shows = shows;
        alone = (known shown.alone.0, floor_stays before next request reply taken old.collectors new.collectors (not_kind kind sessions_not_collectors) same_collectors shown.alone.1);
        cleaners = cleaners_stay before next request reply taken old.cleaners new.cleaners reached (not_kind kind sessions_not_cleaners) same_cleaners shown.cleaners;
        collectors = collectors_stay before next request reply taken _ _ old.collectors new.collectors reached shown.shows.store (not_kind kind sessions_not_collectors) (changes before reached shown) same_collectors shown.collectors;
        places = still_placed before next request reply taken keeps old.rows.cluster.places new.rows.cluster.places (ap spots_in storage) shown.places;
        next = still_next before next request reply taken keeps shown.next;
      } in
      (next, taken, after, whole before reached shown.in_order shown.shows)

-- the reply that an answer to one request is
abbrev pub said_of : Answer → Reply
said_of (Said reply) = reply
said_of answer = SetDone

-- a step of the machine is an answer to one request
pub goes_one : {S : Type 0} (shows : S → State → Type 0) (old new : S) (request : Request) (reply : Reply) → StepsAs shows old new request reply → GoesFrom shows old new (One request) (Said reply)
goes_one shows old new request reply steps_to before reached shown =
    let (after, step, shown_after, whole) = steps_to before reached shown in
    (after, steps step, shown_after, λ is. whole (ap said_of is))

-- nothing was drawn for a begin, by the reason of its refusal
abbrev pub Undrawn : Refusal → Type 0
Undrawn refusal =
    IsErrOf {T = ℕ} (Err refusal) TooManySessions ⊎ IsErrOf {T = ℕ} (Err refusal) Exhausted

-- the effects of a refused begin on the oracle
pub begin_leaves_oracle : {F M W : Type 0} (mark : M → Option ℕ) (refusal : Refusal) (old new : Server F M W) → IsBeginRefusal refusal → (Undrawn refusal → new.oracle ≡ old.oracle)
    → (IsErrOf {T = ℕ} (Err refusal) NoMemory → new.oracle ≡ old.oracle) → LeavesMark mark old new × SameNumbers old.oracle new.oracle → LeavesOracle mark refusal old new
begin_leaves_oracle mark TooManySessions old new is undrawn allocated device = undrawn (inl refl)
begin_leaves_oracle mark Exhausted old new is undrawn allocated device = undrawn (inr refl)
begin_leaves_oracle mark NoMemory old new is undrawn allocated device = allocated refl
begin_leaves_oracle mark Device old new is undrawn allocated device = device
begin_leaves_oracle mark _ old new is undrawn allocated device = absurd is

-- a refusal of another kind isn't Damaged
pub undamaged : (P : Refusal → Type 0) (refusal : Refusal) → P refusal → (P Damaged → ⊥) → Refused refusal ≡ Refused Damaged → ⊥
undamaged P refusal holds none same = none (subst (IfRefused P) same holds)

pub begun_undamaged : (start : ℕ) → Begun start ≡ Refused Damaged → ⊥
begun_undamaged start e = cc

pub set_undamaged : SetDone ≡ Refused Damaged → ⊥
set_undamaged e = cc

pub delete_undamaged : DeleteDone ≡ Refused Damaged → ⊥
delete_undamaged e = cc

pub stop_undamaged : StopDone ≡ Refused Damaged → ⊥
stop_undamaged e = cc

pub name_undamaged : (refusal : Refusal) → ¬ (refusal ≡ Damaged) → Refused refusal ≡ Refused Damaged → ⊥
name_undamaged refusal none same = none (subst (IfRefused (λ (r : Refusal). refusal ≡ r)) same refl)

pub err_undamaged : {A : Type 0} (result : Result A Refusal) (refusal : Refusal) → result ≡ Err refusal → (IsErrOf result Damaged → ⊥) → Refused refusal ≡ Refused Damaged → ⊥
err_undamaged result refusal is none same = none (is ∙ ap (λ (r : Refusal). Err r) (subst (IfRefused (λ (r : Refusal). refusal ≡ r)) same refl))

abbrev pub IfTold : (Refusal → Type 0) → CodecReply → Type 0
IfTold P (codec.Refused refusal) = P refusal
IfTold P reply = ⊤

-- a call's refusal and its reply have the same properties
pub as_err : {A : Type 0} (result : Result A Refusal) (refusal other : Refusal) → result ≡ Err refusal → codec.Refused refusal ≡ codec.Refused other → IsErrOf result other
as_err result refusal other is same = subst (IfTold (λ (r : Refusal). IsErrOf result r)) same is

abbrev reply_of : {A : Type 0} → Result A Refusal → CodecReply
reply_of (Ok value) = codec.Set
reply_of (Err refusal) = codec.Refused refusal

pub as_refused : {A : Type 0} (result : Result A Refusal) (refusal other : Refusal) → result ≡ Err refusal → IsErrOf result other → codec.Refused refusal ≡ codec.Refused other
as_refused result refusal other is err = ap reply_of (sym is ∙ err)

pub found_undamaged : (found : Found) → found_reply found ≡ Refused Damaged → ⊥
found_undamaged (founds.Value value) = λ e. cc
found_undamaged founds.Nothing = λ e. cc
found_undamaged (founds.Pending start) = λ e. cc

pub scan_undamaged : (reply : ScanReply) → scan_reply reply ≡ Refused Damaged → ⊥
scan_undamaged reply = λ e. cc

pub progress_undamaged : (progress : Progress) → progress_reply progress ≡ Refused Damaged → ⊥
progress_undamaged (progresses.Held place count) = λ e. cc
progress_undamaged (progresses.Conflict place) = λ e. cc
progress_undamaged (progresses.Stamped stamp) = λ e. cc
progress_undamaged (progresses.Committed stamp) = λ e. cc
progress_undamaged progresses.Lost = λ e. cc
progress_undamaged (progresses.Finished place count) = λ e. cc

-- an accepted step is no refusal
pub progress_told : (P : Refusal → Type 0) (progress : Progress) → IfRefused P (progress_reply progress)
progress_told P (progresses.Held place count) = tt
progress_told P (progresses.Conflict place) = tt
progress_told P (progresses.Stamped stamp) = tt
progress_told P (progresses.Committed stamp) = tt
progress_told P progresses.Lost = tt
progress_told P (progresses.Finished place count) = tt

pub progress_limits : (progress : Progress) → HoldsWithinLimits (progress_reply progress)
progress_limits (progresses.Held place count) = tt
progress_limits (progresses.Conflict place) = tt
progress_limits (progresses.Stamped stamp) = tt
progress_limits (progresses.Committed stamp) = tt
progress_limits progresses.Lost = tt
progress_limits (progresses.Finished place count) = tt

module _ {F M W : Type 0} (contents : F → Option Contents) (old new : Server F M W) where
  -- a restart of the oracle, after which the server shows the same
  pub restart_done : ((st : State) → Shows contents old st → Shows contents new st) → StepsAs (Shows contents) old new OracleRestart RestartDone
  restart_done still = λ before reached shown. (before, accepts (λ n applies. elim applies [ ]) (tells restarts), still before shown, λ same. cc)

  -- a restart that was prevented by a device's fault
  pub restart_refused : (refusal : Refusal) → refusal ≡ Device → ((st : State) → Shows contents old st → Shows contents new st) → StepsAs (Shows contents) old new OracleRestart (Refused refusal)
  restart_refused refusal device still = λ before reached shown. (
    before,
    refuses (subst (λ (r : Refusal). Refuses before OracleRestart r) (sym device) (gives_up tt)),
    still before shown,
    undamaged (λ (r : Refusal). r ≡ Device) refusal device (λ h. cc),
  )

-- a reply is none of the refusals that the request can't have
pub never : (P : Refusal → Type 0) (reply : CodecReply) (refusal : Refusal) → IfRefused P (replied reply) → (P refusal → ⊥) → reply ≡ codec.Refused refusal → ⊥
never P reply refusal told none is = none (subst (λ (r : CodecReply). IfRefused P (replied r)) is told)

-- a step's stamp is the next one of a source that knows its last one
module _ {S : Type 0} (source : Source S) (old new : S) (known : source.known old ≡ Some (source.last old)) where
  pub progress_goes : (progress : Progress) → DrawsIn source old new progress → StampsGoOn (progress_reply progress) (source.last old) (source.last new)
  progress_goes (progresses.Held place count) draws = ap source.last draws
  progress_goes (progresses.Conflict place) draws = ap source.last draws
  progress_goes (progresses.Stamped stamp) draws = (subst (λ (o : Option ℕ). IfSome o (λ last. stamp ≡ last + 1)) known draws.next, draws.becomes)
  progress_goes (progresses.Committed stamp) draws = ap source.last draws
  progress_goes progresses.Lost draws = ap source.last draws
  progress_goes (progresses.Finished place count) draws = ap source.last draws

-- the result of a read is no refusal and draws no stamp
pub found_told : (P : Refusal → Type 0) (found : Found) → IfRefused P (found_reply found)
found_told P (founds.Value value) = tt
found_told P founds.Nothing = tt
found_told P (founds.Pending start) = tt

pub found_stays : (found : Found) (last : ℕ) → StampsGoOn (found_reply found) last last
found_stays (founds.Value value) last = refl
found_stays founds.Nothing last = refl
found_stays (founds.Pending start) last = refl

-- a value in the answer is short
pub short_found : (found : Found) → IsShort found → HoldsWithinLimits (found_reply found)
short_found (founds.Value value) short = short
short_found founds.Nothing short = tt
short_found (founds.Pending start) short = tt

-- a reply is no refusal
abbrev pub IsDone : CodecReply → Type 0
IsDone (codec.Refused refusal) = ⊥
IsDone reply = ⊤

pub not_done : (reply : CodecReply) (refusal : Refusal) → IsDone reply → reply ≡ codec.Refused refusal → ⊥
not_done reply refusal done same = subst IsDone same done

pub ok_not : {A E : Type 0} (value : A) (fault : E) → ¬ (Ok value ≡ Err fault)
ok_not value fault e = cc

-- a name has only two refusals
pub named_not : {bad memory : Refusal} (refusal other : Refusal) → (bad ≡ other → ⊥) → (memory ≡ other → ⊥) → (refusal ≡ bad) ⊎ (refusal ≡ memory)
    → codec.Refused refusal ≡ codec.Refused other → ⊥
named_not refusal other bad memory which same =
    let is : refusal ≡ other = subst (IfTold (λ (r : Refusal). refusal ≡ r)) same refl in
    elim which [
      | inl e ↦ bad (sym e ∙ is)
      | inr e ↦ memory (sym e ∙ is)
    ]

-- a refusal is one of two
pub refused_either : (e a b : Refusal) → (e ≡ a) ⊎ (e ≡ b) → (codec.Refused e ≡ codec.Refused a) ⊎ (codec.Refused e ≡ codec.Refused b)
refused_either e a b which = elim which [
  | inl is ↦ inl (ap (λ (r : Refusal). codec.Refused r) is)
  | inr is ↦ inr (ap (λ (r : Refusal). codec.Refused r) is)
]

-- one of two counts tells a device's fault, and the other is unchanged
pub first_stays : {A : Type 0} {a b c d : ℕ} {r : Result A Refusal} → HasOneReason a b c d r → ¬ IsErrOf r Device → b ≡ a
first_stays one none = elim one [
  | inl first ↦ first.0.told none
  | inr second ↦ second.1
]

pub second_stays : {A : Type 0} {a b c d : ℕ} {r : Result A Refusal} → HasOneReason a b c d r → ¬ IsErrOf r Device → d ≡ c
second_stays one none = elim one [
  | inl first ↦ first.1
  | inr second ↦ second.0.told none
]

pub one_rose : {A : Type 0} {a b c d : ℕ} {r : Result A Refusal} → HasOneReason a b c d r → IsErrOf r Device → HasRisen a b ⊎ HasRisen c d
one_rose one is = elim one [
  | inl first ↦ inl (first.0.device is)
  | inr second ↦ inr (second.0.device is)
]

never_some : {X P : Type 0} (x : X) → None ≡ Some x → P
never_some x e = let none : ⊥ = cc in absurd none

-- an empty cell map shows the new machine
pub new_cells : ShowsCells empty new_machine
new_cells = record {
  marks = λ x t m. elim m [ ];
  locks = λ x t b there. never_some b (sym (get-empty key_cmp _) ∙ there);
  records = λ x c b there. never_some b (sym (get-empty key_cmp _) ∙ there);
  commits = λ a m. elim m [ ];
  given = λ x t b there. never_some b (sym (get-empty key_cmp _) ∙ there);
}

-- refusals that differ
pub row_not_device : BadRow ≡ Device → ⊥
row_not_device is = cc

pub column_not_device : BadColumn ≡ Device → ⊥
column_not_device is = cc

pub memory_not_device : NoMemory ≡ Device → ⊥
memory_not_device is = cc

-- want of memory is no device's fault
pub memory_only : (e : Refusal) → e ≡ NoMemory → codec.Refused e ≡ codec.Refused Device → ⊥
memory_only e is same = memory_not_device (sym is ∙ subst (IfTold (λ (r : Refusal). e ≡ r)) same refl)
