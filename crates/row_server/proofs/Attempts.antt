-- An attempt of a request, from its parts, and attempts one after the other.
use Rattle.std.proofs.Common.{◌≡◌, ◌≢◌, ◌≤◌, Bor, List, ℕ, Option, Some, None, Bool, true, false, sym, subst, refl, arith}
use Rattle.std.specs.Prelude.{IsSome}
use Rattle.cell_key.specs.Cells.{Cells}
use Rattle.cell_key.specs.declared.refusals.Refusal.{Refusal}
use Rattle.cell_key.specs.declared.refusals.Refusal.TheVariants.{Damaged, Device}
use Rattle.clean_up.specs.Shows.{SameCleaners}
use Rattle.clean_up.specs.declared.cleaners.Cleaners.{Cleaners}
use Rattle.request_codec.specs.Replies.{replied, HoldsWithinLimits}
use Rattle.request_codec.specs.Requests.{asked}
use Rattle.request_codec.specs.declared.replies.Reply.{Reply}
use Rattle.request_codec.specs.declared.replies.Reply.TheVariants as codec
use Rattle.request_codec.specs.declared.requests.Request.{Request}
use Rattle.request_codec.specs.declared.requests.Request.TheVariants as lent
use Rattle.rows.proofs.Calls.{reads_none}
use Rattle.rows.specs.Calls.{OnlyReads}
use Rattle.rows.specs.declared.rows.Rows.{Ghosts as Rows}
use Rattle.rows.specs.declared.stamps.Stamps.{Ghosts as Stamps}
use Rattle.server_loop.specs.Runs.{IfRefused, StepsAs}
use Rattle.server_loop.specs.Sessions.{IsAlwaysTold}
use Rattle.servers_model.specs.Servers.{ShowsServer}
use Rattle.servers_model.specs.Serves.{ServesCleaner, ServesCollector, ServesSession, of_cleaner, of_collector, of_session}
use Rattle.si_model.proofs.ByServers.{by_servers}
use Rattle.si_model.specs.Kinds.{OfCollectors, kind_of}
use Rattle.si_model.specs.Machine as machine
use Rattle.si_model.specs.Machine.{State, Acts, IsReached, Refused, Step, accepts, refuses, tells}
use Rattle.si_model.specs.Refusing.{Refuses, gives_up}
use Rattle.si_model.specs.ShowsCells.{ShowsCells}
use Rattle.si_model.specs.declared.scans.ScanRange.{ScanRange}
use Rattle.txn_client.specs.Shows.{SameClients}
use Rattle.txn_client.specs.declared.sessions.Clients.{Clients}
use Rattle.version_collector.specs.Shows.{SameCollectors, ShowsCollectors}
use Rattle.version_collector.specs.declared.collectors.Collectors.{Collectors}
use Rattle.row_server.specs.Answers.{IsFaultSeen, IsOfferedReply, FailedAttempts, IsRefusalHere, IsServed, IsAttempt, IsMadeOnce, IsUnoffered, LeavesAll, is_offered, no_attempt, one_more, serves}
use Rattle.row_server.specs.Server.{StaysKnown, Shows, memory_of, stays}
use Rattle.row_server.specs.declared.server.RowServer.{RowServer}
use Rattle.row_server.proofs.PartSteps.{cleaner_steps, collector_steps, session_steps}

-- ---- the same parts

pub same_clients : {clients : Clients} → SameClients clients clients
same_clients = record { top = refl; buffered = refl; limit = refl; each = λ t. refl }

pub same_cleaners : {cleaners : Cleaners} → SameCleaners cleaners cleaners
same_cleaners = record { next = refl; each = λ i. refl; count = refl }

pub same_collectors : {collectors : Collectors} → SameCollectors collectors collectors
same_collectors = record { next = refl; floor = refl; each = λ i. refl; count = refl }

pub low : {n : ℕ} → n ≤ n
low = omega arith

pub low_by_same : {a b : ℕ} → b ≡ a → a ≤ b
low_by_same same = omega arith

-- the request has no arm of its own
pub record HasNoArm (q : Request) : Type 0 where
  pub not_Begin : q ≢ lent.Begin
  pub not_Get : (start : ℕ) (row family : Bor (List ℕ)) → q ≢ lent.Get start row family
  pub not_Set : (start : ℕ) (row family value : Bor (List ℕ)) → q ≢ lent.Set start row family value
  pub not_Delete : (start : ℕ) (row family : Bor (List ℕ)) → q ≢ lent.Delete start row family
  pub not_Scan : (start : ℕ) (range : ScanRange) (keys_only : Bool) (cells : ℕ) → q ≢ lent.Scan start range keys_only cells
  pub not_Step : (start : ℕ) → q ≢ lent.Step start
  pub not_Stop : (start : ℕ) → q ≢ lent.Stop start
  pub not_CleanBegin : (row family : Bor (List ℕ)) → q ≢ lent.CleanBegin row family
  pub not_CleanStep : (cleaner : ℕ) → q ≢ lent.CleanStep cleaner
  pub not_CollectBegin : q ≢ lent.CollectBegin
  pub not_CollectStep : (collector visits : ℕ) → q ≢ lent.CollectStep collector visits

-- so it isn't offered
pub not_offered : (q : Request) → HasNoArm q → is_offered q ≡ false
not_offered lent.Begin not = absurd (not.not_Begin refl)
not_offered (lent.Get start row family) not = absurd (not.not_Get start row family refl)
not_offered (lent.Set start row family value) not = absurd (not.not_Set start row family value refl)
not_offered (lent.Delete start row family) not = absurd (not.not_Delete start row family refl)
not_offered (lent.Scan start range keys_only cells) not = absurd (not.not_Scan start range keys_only cells refl)
not_offered (lent.Step start) not = absurd (not.not_Step start refl)
not_offered (lent.Stop start) not = absurd (not.not_Stop start refl)
not_offered (lent.CleanBegin row family) not = absurd (not.not_CleanBegin row family refl)
not_offered (lent.CleanStep cleaner) not = absurd (not.not_CleanStep cleaner refl)
not_offered lent.CollectBegin not = absurd (not.not_CollectBegin refl)
not_offered (lent.CollectStep collector visits) not = absurd (not.not_CollectStep collector visits refl)
not_offered _ not = refl

-- a refusal's property, by another one
pub if_refused : (P Q : Refusal → Type 0) (reply : machine.Reply) → ((refusal : Refusal) → P refusal → Q refusal) → IfRefused P reply → IfRefused Q reply
if_refused P Q (Refused refusal) go is = go refusal is
if_refused P Q _ go is = tt

pub step_not_begin : {i n : ℕ} → machine.CollectStep i n ≢ machine.CollectBegin
step_not_begin is = cc

no_refusal : (st next : State) (q : machine.Request) (e : Refusal) → Acts st q (Refused e) next → ⊥
no_refusal st next q e (tells t) = elim t [ ]

-- a refusal leaves the machine's state
refused_same : (st next : State) (q : machine.Request) (e : Refusal) → Step st q (Refused e) next → next ≡ st
refused_same st next q e (refuses n) = refl
refused_same st next q e (accepts ok acts) = absurd (no_refusal st next q e acts)

pub unoffered_device : (known : Option ℕ) (why : Refusal) → IsSome known → IsUnoffered known why → why ≡ Device
unoffered_device None why some is = absurd cc
unoffered_device (Some last) why some is = is

pub not_damaged : (why : Refusal) → why ≡ Device → Refused why ≡ Refused Damaged → ⊥
not_damaged why device same = cc

module _ {R S : Type 0} (rows : Rows R) (forgot : R → Type 0) (raced : R → Bool) (stamps : Stamps S) (allows : S → ℕ → Type 0) where
  -- ---- from its parts

  module _ (old : RowServer R S) (request : Request) (reply : Reply) (offered : is_offered request ≡ true) (other : asked request ≢ machine.CollectBegin)
      (refusal : IfRefused (IsRefusalHere request) (replied reply)) (limits : HoldsWithinLimits (replied reply))
      (whole : (st : State) → IsReached st → Shows rows.seen stamps.source old st → replied reply ≡ Refused Damaged → ⊥)
      (told : (st : State) → ShowsServer (rows.seen.cells old.rows) (memory_of old) st → IsAlwaysTold request reply st)
    where
      as_served : (new : RowServer R S) → IsOfferedReply rows forgot raced stamps allows old request reply new → IsServed rows forgot raced stamps allows (is_offered request) old request reply new
      as_served new is = subst (λ (b : Bool). IsServed rows forgot raced stamps allows b old request reply new) (sym offered) is

      pub session_attempt : (r : R) (s : S) (clients : Clients) (new : RowServer R S) → new ≡ record old { rows = r; stamps = s; clients = clients }
          → (rows.seen.holds old.rows → ServesSession (rows.seen.cells old.rows) old.clients (stamps.source.last old.stamps) (asked request) (replied reply) (rows.seen.cells r) clients (stamps.source.last s))
          → (rows.seen.holds old.rows → rows.seen.holds r) → (StaysKnown stamps.source old.stamps → StaysKnown stamps.source s)
          → IfRefused (λ _. LeavesAll rows forgot raced stamps allows old new) (replied reply) → (reply ≡ codec.Refused Device → IsFaultSeen rows forgot raced stamps allows old new) → IsMadeOnce rows forgot raced stamps allows old request reply new
      session_attempt r s clients new is serve still known leaves device =
          subst (λ (n : RowServer R S). IfRefused (λ _. LeavesAll rows forgot raced stamps allows old n) (replied reply) → (reply ≡ codec.Refused Device → IsFaultSeen rows forgot raced stamps allows old n) → IsMadeOnce rows forgot raced stamps allows old request reply n) (sym is)
          (λ left fault. record {
            served = as_served (record old { rows = r; stamps = s; clients = clients }) (record { serves = serves other (λ holds. of_session (serve holds)); refusal = refusal; leaves = left; told = told; device = fault });
            still = still;
            step = session_steps rows.seen stamps.source old (record old { rows = r; stamps = s; clients = clients }) (asked request) (replied reply) still whole refl refl known serve;
            limits = limits;
          }) leaves device

      pub cleaner_attempt : (r : R) (cleaners : Cleaners) (new : RowServer R S) → new ≡ record old { rows = r; cleaners = cleaners }
          → (rows.seen.holds old.rows → ServesCleaner (rows.seen.cells old.rows) old.cleaners (asked request) (replied reply) (rows.seen.cells r) cleaners)
          → (rows.seen.holds old.rows → rows.seen.holds r)
          → IfRefused (λ _. LeavesAll rows forgot raced stamps allows old new) (replied reply) → (reply ≡ codec.Refused Device → IsFaultSeen rows forgot raced stamps allows old new) → IsMadeOnce rows forgot raced stamps allows old request reply new
      cleaner_attempt r cleaners new is serve still leaves device =
          subst (λ (n : RowServer R S). IfRefused (λ _. LeavesAll rows forgot raced stamps allows old n) (replied reply) → (reply ≡ codec.Refused Device → IsFaultSeen rows forgot raced stamps allows old n) → IsMadeOnce rows forgot raced stamps allows old request reply n) (sym is)
          (λ left fault. record {
            served = as_served (record old { rows = r; cleaners = cleaners }) (record { serves = serves other (λ holds. of_cleaner (serve holds)); refusal = refusal; leaves = left; told = told; device = fault });
            still = still;
            step = cleaner_steps rows.seen stamps.source old (record old { rows = r; cleaners = cleaners }) (asked request) (replied reply) still whole refl refl refl serve;
            limits = limits;
          }) leaves device

      pub collector_attempt : (r : R) (collectors : Collectors) (new : RowServer R S) → new ≡ record old { rows = r; collectors = collectors } → kind_of (asked request) ≡ OfCollectors
          → (rows.seen.holds old.rows → ServesCollector (rows.seen.cells old.rows) old.collectors (asked request) (replied reply) (rows.seen.cells r) collectors)
          → (rows.seen.holds old.rows → rows.seen.holds r)
          → IfRefused (λ _. LeavesAll rows forgot raced stamps allows old new) (replied reply) → (reply ≡ codec.Refused Device → IsFaultSeen rows forgot raced stamps allows old new) → IsMadeOnce rows forgot raced stamps allows old request reply new
      collector_attempt r collectors new is kind serve still leaves device =
          subst (λ (n : RowServer R S). IfRefused (λ _. LeavesAll rows forgot raced stamps allows old n) (replied reply) → (reply ≡ codec.Refused Device → IsFaultSeen rows forgot raced stamps allows old n) → IsMadeOnce rows forgot raced stamps allows old request reply n) (sym is)
          (λ left fault. record {
            served = as_served (record old { rows = r; collectors = collectors }) (record { serves = serves other (λ holds. of_collector (serve holds)); refusal = refusal; leaves = left; told = told; device = fault });
            still = still;
            step = collector_steps rows.seen stamps.source old (record old { rows = r; collectors = collectors }) (asked request) (replied reply) still whole kind refl refl refl (λ known. known)
                (λ st reached shown. (serve shown.holds).steps st (by_servers reached) shown.store shown.memory.collectors);
            limits = limits;
          }) leaves device

  -- ---- after what was read is forgotten

  shows_after : (old : RowServer R S) (fresh : R) → OnlyReads rows.seen old.rows fresh → (st : State) → Shows rows.seen stamps.source old st → Shows rows.seen stamps.source (record old { rows = fresh }) st
  shows_after old fresh reads st shown = record {
    holds = reads.still shown.holds;
    store = subst (λ (cells : Cells). ShowsCells cells st) (sym reads.kept) shown.store;
    top = shown.top;
    memory = record {
      sessions = shown.memory.sessions;
      cleaners = shown.memory.cleaners;
      collectors = subst (λ (cells : Cells). ShowsCollectors cells old.collectors st) (sym reads.kept) shown.memory.collectors;
    };
    knows_top = shown.knows_top;
    knows_floor = shown.knows_floor;
    known = shown.known;
  }

  pub attempt_step : (old : RowServer R S) (request : Request) (reply : Reply) (new : RowServer R S) → IsAttempt rows forgot raced stamps allows old request reply new
      → StepsAs (Shows rows.seen stamps.source) old new (asked request) (replied reply)
  attempt_step old request reply new is = λ st reached shown. is.made.step st reached (shows_after old is.fresh is.reads st shown)

  -- ---- what isn't offered

  pub unoffered_attempt : (old : RowServer R S) (request : Request) (why : Refusal) → is_offered request ≡ false → IsUnoffered (stamps.source.known old.stamps) why
      → IsMadeOnce rows forgot raced stamps allows old request (codec.Refused why) old
  unoffered_attempt old request why offered is = record {
    served = subst (λ (b : Bool). IsServed rows forgot raced stamps allows b old request (codec.Refused why) old) (sym offered) (record {
      why = why;
      is = is;
      refused = refl;
      leaves = record { reads = reads_none; clients = same_clients; cleaners = same_cleaners; collectors = same_collectors; rises = low };
    });
    still = λ holds. holds;
    step = λ before reached shown.
        let device = unoffered_device (stamps.source.known old.stamps) why (shown.known old.stamps stays) is in
        (before, refuses (subst (λ (n : Refusal). Refuses before (asked request) n) (sym device) (gives_up tt)), shown, λ same. not_damaged why device same);
    limits = tt;
  }

  -- ---- made again

  pub shown_still : (request : Request) (count : ℕ) (old mid : RowServer R S) → FailedAttempts rows forgot raced stamps allows request count old mid → (st : State) → IsReached st → Shows rows.seen stamps.source old st → Shows rows.seen stamps.source mid st
  shown_still request _ old _ no_attempt st reached shown = shown
  shown_still request _ old _ (one_more {count = count} {mid = mid} {new = new} {refusal = refusal} failed last is_raced) st reached shown =
      let (next, taken, after, whole) = attempt_step mid request _ new last st reached (shown_still request count old mid failed st reached shown) in
      subst (λ (n : State). Shows rows.seen stamps.source new n) (refused_same st next (asked request) refusal taken) after

  pub attempts_step : (old : RowServer R S) (request : Request) (count : ℕ) (mid : RowServer R S) (reply : Reply) (new : RowServer R S) → FailedAttempts rows forgot raced stamps allows request count old mid
      → IsAttempt rows forgot raced stamps allows mid request reply new → StepsAs (Shows rows.seen stamps.source) old new (asked request) (replied reply)
  attempts_step old request count mid reply new failed last = λ st reached shown. attempt_step mid request reply new last st reached (shown_still request count old mid failed st reached shown)
