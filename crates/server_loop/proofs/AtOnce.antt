-- Answers to Commits and Reads, from the sessions' calls.
use Rattle.std.proofs.Common.{◌≡◌, ◌∙◌, ◌+◌, ℕ, List, length, map, Option, Result, Ok, Err, IsErrOf, ap, subst, sym}
use Rattle.cell_key.specs.Cells.{Cells}
use Rattle.cell_key.specs.declared.refusals.Refusal.{Refusal}
use Rattle.cell_key.specs.declared.refusals.Refusal.TheVariants.{Damaged}
use Rattle.file_store.specs.Store.{Contents}
use Rattle.request_codec.specs.Answers.{HoldsAnswerWithinLimits}
use Rattle.request_codec.specs.declared.answers.Answer.{Answer as CodecAnswer}
use Rattle.request_codec.specs.declared.answers.Answer.TheVariants as given
use Rattle.request_codec.specs.declared.replies.Reply.{Reply as CodecReply}
use Rattle.request_codec.specs.declared.replies.Reply.TheVariants as codec
use Rattle.row_atomic.specs.Clusters.{cells_in}
use Rattle.row_atomic.specs.Recorded.{seen_recorded}
use Rattle.rows.specs.Calls.{KeepsBelow, OnlyReads}
use Rattle.si_model.proofs.ByServers.{by_servers}
use Rattle.si_model.specs.Answers.{cell_named, cells_named, commit_answer, read_answer}
use Rattle.si_model.specs.Machine as machine
use Rattle.si_model.specs.Machine.{IsReached, Refused, State, Writes}
use Rattle.si_model.specs.Transactions.{Answer, Commit, Goes, IsReadCount, Operation, Said}
use Rattle.si_model.specs.declared.transactions.CellName.{CellName}
use Rattle.si_model.specs.declared.transactions.CommitReply.{CommitReply}
use Rattle.si_model.specs.declared.transactions.CommitReply.TheVariants as commits
use Rattle.si_model.specs.declared.transactions.ReadReply.{ReadReply}
use Rattle.clean_up.specs.Shows.{ShowsCleaners}
use Rattle.clean_up.specs.declared.cleaners.Cleaners.{Cleaners}
use Rattle.version_collector.specs.Shows.{ShowsCollectors}
use Rattle.version_collector.specs.declared.collectors.Collectors.{Collectors}
use Rattle.txn_client.specs.Commits.{CommitDoes}
use Rattle.txn_client.specs.Shows as clients
use Rattle.txn_client.specs.Transactions as clients_goes
use Rattle.txn_client.specs.Writes.{write_of}
use Rattle.server_loop.specs.OperationLaws.{StandsForSeveral}
use Rattle.server_loop.specs.Operations.{LeavesOthers}
use Rattle.server_loop.specs.Runs.{GoesFrom, IfAnswerRefused}
use Rattle.server_loop.specs.Server.{HoldsIn, Shows, last_of, machine_place, rows_of, server_cells}
use Rattle.server_loop.specs.declared.server.Server.{Server}
use Rattle.server_loop.proofs.StreamReads.{length-map}
use Rattle.server_loop.proofs.CleanSteps.{logged_in, spots_in, unlogged}
use Rattle.server_loop.proofs.OperationsShown.{commits_keep_collectors, operations_keep_collectors, operations_leave_others}

-- ---- an answer that is no refusal

pub commit_told : (P : Refusal → Type 0) (reply : CommitReply) → IfAnswerRefused P (commit_answer reply)
commit_told P (commits.Committed s c) = tt
commit_told P (commits.Conflict s place) = tt

pub commit_limits : (reply : CommitReply) → HoldsAnswerWithinLimits (commit_answer reply)
commit_limits (commits.Committed s c) = tt
commit_limits (commits.Conflict s place) = tt

pub commit_undamaged : (reply : CommitReply) → commit_answer reply ≡ Said (Refused Damaged) → ⊥
commit_undamaged (commits.Committed s c) is = cc
commit_undamaged (commits.Conflict s place) is = cc

pub read_undamaged : (reply : ReadReply) → read_answer reply ≡ Said (Refused Damaged) → ⊥
read_undamaged reply is = cc

pub commit_not : (reply : CommitReply) (said : CodecReply) → given.Commit reply ≡ given.Said said → ⊥
commit_not reply said is = cc

pub read_not : (reply : ReadReply) (said : CodecReply) → given.Read reply ≡ given.Said said → ⊥
read_not reply said is = cc

-- a Read has as many cells as names
as_many : (names : List CellName) → length (cells_named names) ≡ length names
as_many names = length-map cell_named names

pub named_count : (names : List CellName) → IsReadCount (length (cells_named names)) → IsReadCount (length names)
named_count names few = subst IsReadCount (as_many names) few

pub cells_count : (names : List CellName) → IsReadCount (length names) → IsReadCount (length (cells_named names))
cells_count names few = subst IsReadCount (sym (as_many names)) few

-- ---- a refusal

abbrev IfGiven : (Refusal → Type 0) → CodecAnswer → Type 0
IfGiven P (given.Said (codec.Refused refusal)) = P refusal
IfGiven P answer = ⊥

-- a call's refusal and its answer have the same properties
pub given_err : {A : Type 0} (result : Result A Refusal) (refusal other : Refusal) → result ≡ Err refusal → given.Said (codec.Refused refusal) ≡ given.Said (codec.Refused other) → IsErrOf result other
given_err result refusal other is same = subst (IfGiven (λ (r : Refusal). IsErrOf result r)) same is

abbrev error_of : {A : Type 0} → Refusal → Result A Refusal → Refusal
error_of other (Ok value) = other
error_of other (Err refusal) = refusal

pub err_given : {A : Type 0} (result : Result A Refusal) (refusal other : Refusal) → result ≡ Err refusal → IsErrOf result other → given.Said (codec.Refused refusal) ≡ given.Said (codec.Refused other)
err_given result refusal other is err = ap (λ (r : Refusal). given.Said (codec.Refused r)) (ap (error_of refusal) (sym is ∙ err))

abbrev IfSaidRefused : (Refusal → Type 0) → Answer → Type 0
IfSaidRefused P (Said (machine.Refused refusal)) = P refusal
IfSaidRefused P answer = ⊥

-- Damaged isn't answered if the call doesn't refuse so
pub given_undamaged : {A : Type 0} (result : Result A Refusal) (refusal : Refusal) → result ≡ Err refusal → (IsErrOf result Damaged → ⊥) → Said (Refused refusal) ≡ Said (Refused Damaged) → ⊥
given_undamaged result refusal is none same = none (subst (IfSaidRefused (λ (r : Refusal). IsErrOf result r)) same is)

module _ {F M W : Type 0} (contents : F → Option Contents) (old new : Server F M W) where
  -- what a call over the rows leaves
  pub others_stay : new.cleaners ≡ old.cleaners → new.collectors ≡ old.collectors → new.tending ≡ old.tending → (seen_recorded contents).storage new.rows ≡ (seen_recorded contents).storage old.rows → LeavesOthers contents old new
  others_stay cleaners collectors tending stays = record {
    cleaners = cleaners;
    collectors = collectors;
    storage = ap unlogged stays;
    tending = tending;
    logged = ap logged_in stays;
  }

  -- what collectors show after a call that leaves the cells
  reads_collected : (operation : Operation) (answer : Answer) → StandsForSeveral operation → OnlyReads (seen_recorded contents) (rows_of old) (rows_of new)
      → (st next : State) → IsReached st → Shows contents old st → Goes st operation answer next → ShowsCollectors (server_cells contents new) old.collectors next
  reads_collected operation answer several reads st next reached shown goes =
      subst (λ (cells : Cells). ShowsCollectors cells old.collectors next) (sym reads.kept) (operations_keep_collectors (server_cells contents old) old.collectors st next operation answer reached several goes shown.collectors)

  -- and after a Commit
  commits_collected : (start : ℕ) (writes : Writes) (reply : CommitReply) → CommitDoes (seen_recorded contents) old.clients (last_of old) start writes (rows_of old) (rows_of new) reply
      → (st next : State) → IsReached st → Shows contents old st → Goes st (Commit start writes) (commit_answer reply) next → ShowsCollectors (server_cells contents new) old.collectors next
  commits_collected start writes (commits.Committed s c) does st next reached shown goes =
      subst (λ (cells : Cells). ShowsCollectors cells old.collectors next) (sym (does.made shown.in_order)) (commits_keep_collectors (server_cells contents old) old.collectors st next start s c writes (map write_of does.all) reached shown.shows.store goes shown.collectors)
  commits_collected start writes (commits.Conflict s place) does st next reached shown goes = reads_collected (Commit start writes) _ tt does.reads st next reached shown goes

  -- a Commit or a Read, which leaves the tablets' places, the cleaners and the collectors unchanged
  goes_from : (operation : Operation) (answer : Answer) → StandsForSeveral operation → new.cleaners ≡ old.cleaners → new.collectors ≡ old.collectors → (seen_recorded contents).storage new.rows ≡ (seen_recorded contents).storage old.rows
      → ((st next : State) → IsReached st → Shows contents old st → Goes st operation answer next → ShowsCollectors (server_cells contents new) old.collectors next)
      → (HoldsIn contents old → clients_goes.GoesAs (cells_in (contents old.rows.cluster.files) old.rows.cluster.tablets) old.clients old.oracle.last operation answer (cells_in (contents new.rows.cluster.files) new.rows.cluster.tablets) new.clients new.oracle.last)
      → (HoldsIn contents old → HoldsIn contents new)
      → ((st : State) → IsReached st → HoldsIn contents old → clients.Shows (cells_in (contents old.rows.cluster.files) old.rows.cluster.tablets) old.clients old.oracle.last st → answer ≡ Said (Refused Damaged) → ⊥)
      → GoesFrom (Shows contents) old new operation answer
  goes_from operation answer several cleaners collectors storage collected goes still whole = λ before reached shown.
      let (next, gone, shows, known) = goes shown.in_order before (by_servers reached) shown.shows in
      let left = operations_leave_others before next operation answer reached several gone in
      let after : Shows contents new next = record {
        in_order = still shown.in_order;
        shows = shows;
        alone = (known shown.alone.0, ap (λ (k : Collectors). k.greatest_floor) collectors ∙ shown.alone.1 ∙ sym left.floor);
        cleaners = subst (λ (k : Cleaners). ShowsCleaners k next) (sym cleaners) (left.cleaners old.cleaners shown.cleaners);
        collectors = subst (λ (k : Collectors). ShowsCollectors (server_cells contents new) k next) (sym collectors) (collected before next reached shown gone);
        places = ap (map machine_place) (ap spots_in storage) ∙ shown.places ∙ sym left.places;
        next = left.next_tablet ∙ shown.next ∙ ap (λ (ps : List machine.Place). length ps + 1) (sym left.places);
      } in
      (next, gone, after, whole before reached shown.in_order shown.shows)

  -- the same of a call that leaves the rows
  pub reads_go : (operation : Operation) (answer : Answer) → StandsForSeveral operation → new.cleaners ≡ old.cleaners → new.collectors ≡ old.collectors → OnlyReads (seen_recorded contents) (rows_of old) (rows_of new)
      → (HoldsIn contents old → clients_goes.GoesAs (cells_in (contents old.rows.cluster.files) old.rows.cluster.tablets) old.clients old.oracle.last operation answer (cells_in (contents new.rows.cluster.files) new.rows.cluster.tablets) new.clients new.oracle.last)
      → ((st : State) → IsReached st → HoldsIn contents old → clients.Shows (cells_in (contents old.rows.cluster.files) old.rows.cluster.tablets) old.clients old.oracle.last st → answer ≡ Said (Refused Damaged) → ⊥)
      → GoesFrom (Shows contents) old new operation answer
  reads_go operation answer several cleaners collectors reads goes whole = goes_from operation answer several cleaners collectors reads.stays (reads_collected operation answer several reads) goes reads.still whole

  -- and of a Commit
  pub commit_goes : (start : ℕ) (writes : Writes) (reply : CommitReply) → new.cleaners ≡ old.cleaners → new.collectors ≡ old.collectors → KeepsBelow (seen_recorded contents) (rows_of old) (rows_of new)
      → CommitDoes (seen_recorded contents) old.clients (last_of old) start writes (rows_of old) (rows_of new) reply
      → (HoldsIn contents old → clients_goes.GoesAs (cells_in (contents old.rows.cluster.files) old.rows.cluster.tablets) old.clients old.oracle.last (Commit start writes) (commit_answer reply) (cells_in (contents new.rows.cluster.files) new.rows.cluster.tablets) new.clients new.oracle.last)
      → GoesFrom (Shows contents) old new (Commit start writes) (commit_answer reply)
  commit_goes start writes reply cleaners collectors below does goes =
      goes_from (Commit start writes) (commit_answer reply) tt cleaners collectors below.stays (commits_collected start writes reply does) goes below.still (λ st reached held shown. commit_undamaged reply)
