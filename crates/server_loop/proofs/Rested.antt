-- The state at which a server rests after an answer, and between two requests.
use Rattle.std.proofs.Common.{◌≡◌, ◌≢◌, ◌≤◌, ◌⊎◌, inl, inr, ℕ, Bool, true, false, List, Option, None, Some, Result, Ok, Err, refl, ap, subst, sym, arith}
use Rattle.std.specs.Prelude.{IsSome, IsSomeAnd}
use Rattle.cell_key.specs.Cells.{Cells}
use Rattle.cell_key.specs.declared.refusals.Refusal.{Refusal}
use Rattle.cell_key.specs.declared.refusals.Refusal.TheVariants.{Device}
use Rattle.file_store.specs.declared.files.Files.{Ghosts as Files}
use Rattle.oracle.specs.declared.marks.MarkStore.{Ghosts as MarkStore}
use Rattle.metadata_table.specs.Roots.{RootView}
use Rattle.oracle.specs.Marks.{IsWithinMark, MayHold}
use Rattle.oracle.specs.Ranges.{OracleState}
use Rattle.request_codec.specs.Requests.{asked}
use Rattle.request_codec.specs.declared.answers.Answer.{Answer as CodecAnswer}
use Rattle.request_codec.specs.declared.replies.Reply.{Reply as CodecReply}
use Rattle.request_codec.specs.declared.replies.Reply.TheVariants as codec
use Rattle.request_codec.specs.declared.requests.Request.{Request as Lent}
use Rattle.request_codec.specs.declared.requests.Request.TheVariants as lent
use Rattle.tablet.specs.declared.merge_policy.MergePolicy.{MergePolicy}
use Rattle.row_atomic.specs.Clusters.{ClusterState}
use Rattle.row_atomic.specs.Roots.{KeepsRoot, RootIsStored, RootOutlastsFlushes, RootStays}
use Rattle.row_atomic.specs.declared.commands.Command.{Command}
use Rattle.row_atomic.specs.declared.commands.Outcome.TheVariants as outcome
use Rattle.si_model.specs.Machine as machine
use Rattle.si_model.specs.Machine.{Acts, CheckpointDone, IsReached, Refused, State, Step, Writes, accepts, refuses, reopened, tells}
use Rattle.si_model.specs.ShowsCells.{ShowsCells}
use Rattle.si_model.specs.Transactions.{Operation, Commit, Read, Said, Goes, steps, transacts, reads_together, is_unknown, is_late, gives_up, refuses as refuses_commit, miscounts, gives_up_reads, names_unknown, names_late, refuses_begin, refuses_read}
use Rattle.si_model.specs.declared.replies.Cell.{Cell}
use Rattle.si_model.specs.declared.transactions.CommitReply.{CommitReply}
use Rattle.si_model.specs.declared.transactions.ReadReply.{ReadReply}
use Rattle.txn_client.specs.Transactions.{IsCommitRefusal, IsReadRequestRefusal}
use Rattle.server_loop.specs.Answer.{IsPlainAnswer, TendsTablets}
use Rattle.server_loop.specs.Commands.{HasOutcome, command_of}
use Rattle.server_loop.specs.OperationLaws.{StandsForSeveral}
use Rattle.server_loop.specs.Operations.{AnswersAtOnce, IsCommitAnswer, IsPlainCommit, IsPlainRead, IsReadAnswer, LeavesAll, LeavesOthers, StaysAtRest, commit_given, read_given}
use Rattle.server_loop.specs.Resting.{IsSparing, KeepsResting, RestingIsKept, RestsAt, RestsBetween, StoresState, TellsState}
use Rattle.server_loop.specs.Runs.{GoesFrom}
use Rattle.server_loop.specs.Server.{Shows, cluster_of, last_of, marks_of}
use Rattle.server_loop.specs.Sessions.{KeepsOracle, LeavesOracle}
use Rattle.server_loop.specs.Tending.{MergesWhere}
use Rattle.server_loop.specs.declared.server.Server.{Server}
use Rattle.server_loop.proofs.AtOnce.{commit_told}

-- ---- the machine's state is unchanged

no_refusal : (st next : State) (q : machine.Request) (e : Refusal) → Acts st q (Refused e) next → ⊥
no_refusal st next q e (tells t) = elim t [ ]

refused_same : (st next : State) (q : machine.Request) (e : Refusal) → Step st q (Refused e) next → next ≡ st
refused_same st next q e (refuses n) = refl
refused_same st next q e (accepts ok acts) = absurd (no_refusal st next q e acts)

refused_goes : (st next : State) (operation : Operation) (e : Refusal) → StandsForSeveral operation → Goes st operation (Said (Refused e)) next → next ≡ st
refused_goes st next operation e several (steps step) = absurd several
refused_goes st next operation e several (transacts (is_unknown some none)) = refl
refused_goes st next operation e several (transacts (is_late some h late)) = refl
refused_goes st next operation e several (transacts (gives_up storage)) = refl
refused_goes st next operation e several (transacts (refuses_commit comes refused)) = refl
refused_goes st next operation e several (reads_together (miscounts many)) = refl
refused_goes st next operation e several (reads_together (gives_up_reads storage)) = refl
refused_goes st next operation e several (reads_together (names_unknown few some none)) = refl
refused_goes st next operation e several (reads_together (names_late few some h late)) = refl
refused_goes st next operation e several (reads_together (refuses_begin few none refused)) = refl
refused_goes st next operation e several (reads_together (refuses_read after few is opens all refused)) = refl

checkpoint_same : (st next : State) → Step st machine.Checkpoint CheckpointDone next → next ≡ st
checkpoint_same st next (accepts ok (tells t)) = refl

spared_same : (st next : State) (q : Lent) (r : machine.Reply) → IsSparing q → Step st (asked q) r next → next ≡ st
spared_same st next (lent.Minor t) r is (refuses n) = refl
spared_same st next (lent.Minor t) r is (accepts ok (tells told)) = refl
spared_same st next lent.Sweep r is (refuses n) = refl
spared_same st next lent.Sweep r is (accepts ok (tells told)) = refl
spared_same st next lent.OracleRestart r is (refuses n) = refl
spared_same st next lent.OracleRestart r is (accepts ok (tells told)) = refl
spared_same st next (lent.Raw row family qualifier lo hi) r is (refuses n) = refl
spared_same st next (lent.Raw row family qualifier lo hi) r is (accepts ok (tells told)) = refl
spared_same st next (lent.Status t) r is (refuses n) = refl
spared_same st next (lent.Status t) r is (accepts ok (tells told)) = refl
spared_same st next q r is step = absurd is

-- ---- the mark is still told

may_told : (n : ℕ) (old new : Option ℕ) → MayHold n old new → IsSome old → IsSome new
may_told n old new (inl same) told = subst (λ (o : Option ℕ). IsSome o) (sym same) told
may_told n None new (inr same) told = cc
may_told n (Some m) new (inr same) told = subst (λ (o : Option ℕ). IsSome o) (sym same) refl

some_told : (told : Option ℕ) (P : ℕ → Type 0) → IsSomeAnd told P → IsSome told
some_told None P is = absurd is
some_told (Some m) P is = refl

marked_now : (told : Option ℕ) (top last : ℕ) → IsSome told → IsWithinMark last told → top ≤ last → IsSomeAnd told (λ m. top ≤ m)
marked_now None top last is within low = cc
marked_now (Some m) top last is within low = omega (arith, within, low)

module _ {F M W : Type 0} (files : Files F W) (store : MarkStore M) where
  told_left : (e : Refusal) (old new : Server F M W) → LeavesOracle store.mark e old new → IsSome (store.mark (marks_of old)) → IsSome (store.mark (marks_of new))
  told_left Device old new left told = may_told _ _ _ left.0 told
  told_left e old new left told = subst (λ (o : OracleState M). IsSome (store.mark o.marks)) (sym left) told

  told_mark : (request : Lent) (e : Refusal) (old new : Server F M W) → KeepsOracle files.contents store.mark request (codec.Refused e) old new → IsSome (store.mark (marks_of old)) → IsSome (store.mark (marks_of new))
  told_mark lent.Begin e old new keeps told = told_left e old new keeps told
  told_mark (lent.Step start) e old new keeps told = may_told _ _ _ keeps.1.0 told
  told_mark lent.OracleRestart e old new keeps told = subst (λ (o : Option ℕ). IsSome o) (sym keeps.0) told
  told_mark request e old new keeps told = subst (λ (o : OracleState M). IsSome (store.mark o.marks)) (sym keeps) told

  told_spared : (request : Lent) (reply : CodecReply) (old new : Server F M W) → IsSparing request → KeepsOracle files.contents store.mark request reply old new → IsSome (store.mark (marks_of old)) → IsSome (store.mark (marks_of new))
  told_spared (lent.Minor t) reply old new is keeps told = subst (λ (o : OracleState M). IsSome (store.mark o.marks)) (sym keeps) told
  told_spared lent.Sweep reply old new is keeps told = subst (λ (o : OracleState M). IsSome (store.mark o.marks)) (sym keeps) told
  told_spared lent.OracleRestart reply old new is keeps told = subst (λ (o : Option ℕ). IsSome o) (sym keeps.0) told
  told_spared (lent.Raw row family qualifier lo hi) reply old new is keeps told = subst (λ (o : OracleState M). IsSome (store.mark o.marks)) (sym keeps) told
  told_spared (lent.Status t) reply old new is keeps told = subst (λ (o : OracleState M). IsSome (store.mark o.marks)) (sym keeps) told
  told_spared request reply old new is keeps told = absurd is

  -- ---- the files keep the root

  module _ (stored : RootIsStored files.contents) (stays : RootStays files.contents files.faults) (root : RootView) (cells : Cells) where
    not_done : (e : Refusal) → outcome.Refused e ≢ outcome.Done
    not_done e same = cc

    by_command : (command : Option Command) (request : Lent) (e : Refusal) (old new : ClusterState F) → HasOutcome files.contents files.faults command request (codec.Refused e) old new → KeepsRoot files.contents root cells old → KeepsRoot files.contents root cells new
    by_command None request e old new same keeps = (stored root cells old new same).1 keeps
    by_command (Some command) request e old new (inl is) keeps = (stays command (outcome.Refused e) root cells old new is).1 (λ takes. not_done e takes.1) keeps
    by_command (Some command) request e old new (inr none) keeps = subst (λ (state : ClusterState F). KeepsRoot files.contents root cells state) (sym none.1) keeps

    tends_root : (request : Lent) (e : Refusal) (old new : Server F M W) → request ≢ lent.Checkpoint → TendsTablets files request (codec.Refused e) old new
        → KeepsRoot files.contents root cells (cluster_of old) → KeepsRoot files.contents root cells (cluster_of new)
    tends_root lent.Checkpoint e old new other tends keeps = absurd (other refl)
    tends_root (lent.Status t) e old new other tends keeps = subst (λ (server : Server F M W). KeepsRoot files.contents root cells (cluster_of server)) (sym tends.0) keeps
    tends_root request e old new other tends keeps = by_command (command_of request) request e (cluster_of old) (cluster_of new) tends keeps

    spared_root : (request : Lent) (reply : CodecReply) (old new : Server F M W) → IsSparing request → TendsTablets files request reply old new
        → KeepsRoot files.contents root cells (cluster_of old) → KeepsRoot files.contents root cells (cluster_of new)
    spared_root (lent.Minor t) reply old new is (inl made) keeps = (stays _ _ root cells (cluster_of old) (cluster_of new) made).1 (λ takes. takes.0) keeps
    spared_root (lent.Minor t) reply old new is (inr none) keeps = absurd none.0
    spared_root lent.Sweep reply old new is (inl made) keeps = (stays _ _ root cells (cluster_of old) (cluster_of new) made).1 (λ takes. takes.0) keeps
    spared_root lent.Sweep reply old new is (inr none) keeps = absurd none.0
    spared_root lent.OracleRestart reply old new is same keeps = (stored root cells (cluster_of old) (cluster_of new) same).1 keeps
    spared_root (lent.Raw row family qualifier lo hi) reply old new is (inl made) keeps = (stays _ _ root cells (cluster_of old) (cluster_of new) made).1 (λ takes. takes.0) keeps
    spared_root (lent.Raw row family qualifier lo hi) reply old new is (inr none) keeps = subst (λ (state : ClusterState F). KeepsRoot files.contents root cells state) (sym none.1) keeps
    spared_root (lent.Status t) reply old new is tends keeps = subst (λ (server : Server F M W). KeepsRoot files.contents root cells (cluster_of server)) (sym tends.0) keeps
    spared_root request reply old new is tends keeps = absurd is

  module _ (old new : Server F M W) (within : IsWithinMark (last_of new) (store.mark (marks_of new))) where
    -- it rests at the same root
    rests_on : (st : State) → Shows files.contents new st → (rests : RestsAt files.contents store.mark old st) → KeepsRoot files.contents rests.root rests.cells (cluster_of new) → IsSome (store.mark (marks_of new)) → RestsAt files.contents store.mark new st
    rests_on st shown rests keeps told = record {
      shows = shown;
      root = rests.root;
      cells = rests.cells;
      keeps = keeps;
      tells = record {
        top = rests.tells.top;
        floor = rests.tells.floor;
        places = rests.tells.places;
        next = rests.tells.next;
        marked = marked_now _ _ _ told within shown.shows.top;
        shows = rests.tells.shows;
      };
    }

    -- after a refusal of a Commit or a Read
    pub rests_at_once : RootIsStored files.contents → (operation : Operation) (e : Refusal) → StandsForSeveral operation → GoesFrom (Shows files.contents) old new operation (Said (Refused e)) → LeavesOthers files.contents old new → LeavesAll files.contents store.mark old new
        → (st : State) → IsReached st → RestsAt files.contents store.mark old st → RestsAt files.contents store.mark new st
    rests_at_once stored operation e several goes others left st reached rests =
        let (next, gone, after, whole) = goes st reached rests.shows in
        let shown : Shows files.contents new st = subst (λ (s : State). Shows files.contents new s) (refused_goes _ _ operation e several gone) after in
        rests_on st shown rests ((stored rests.root rests.cells (cluster_of old) (cluster_of new) others.storage).1 rests.keeps) (may_told _ _ _ left.marked (some_told _ _ rests.tells.marked))

    commit_rests : RootIsStored files.contents → (start : ℕ) (writes : Writes) (result : Result CommitReply Refusal) → AnswersAtOnce files store (Commit start writes) IsCommitRefusal old (commit_given result) new → StaysAtRest files.contents store.mark (commit_given result) old new
    commit_rests stored start writes (Ok reply) at_once = commit_told _ reply
    commit_rests stored start writes (Err e) at_once = rests_at_once stored (Commit start writes) e tt at_once.goes at_once.others at_once.refused

    pub commit_stays : RootIsStored files.contents → (start : ℕ) (writes : Writes) (answer : CodecAnswer) → IsPlainCommit files store old start writes answer new → IsCommitAnswer files store old start writes answer new
    commit_stays stored start writes answer plain = record {
      plain = plain;
      rested = subst (λ (a : CodecAnswer). StaysAtRest files.contents store.mark a old new) (sym plain.gives)
          (commit_rests stored start writes plain.result (subst (λ (a : CodecAnswer). AnswersAtOnce files store (Commit start writes) IsCommitRefusal old a new) plain.gives plain.at_once));
    }

    read_rests : RootIsStored files.contents → (start : ℕ) (cells : List Cell) (stays_open : Bool) (result : Result ReadReply Refusal) → AnswersAtOnce files store (Read start cells stays_open) IsReadRequestRefusal old (read_given result) new
        → StaysAtRest files.contents store.mark (read_given result) old new
    read_rests stored start cells stays_open (Ok reply) at_once = tt
    read_rests stored start cells stays_open (Err e) at_once = rests_at_once stored (Read start cells stays_open) e tt at_once.goes at_once.others at_once.refused

    pub read_stays : RootIsStored files.contents → (start : ℕ) (cells : List Cell) (stays_open : Bool) (answer : CodecAnswer) → IsPlainRead files store old start cells stays_open answer new → IsReadAnswer files store old start cells stays_open answer new
    read_stays stored start cells stays_open answer plain = record {
      plain = plain;
      rested = subst (λ (a : CodecAnswer). StaysAtRest files.contents store.mark a old new) (sym plain.gives)
          (read_rests stored start cells stays_open plain.result (subst (λ (a : CodecAnswer). AnswersAtOnce files store (Read start cells stays_open) IsReadRequestRefusal old a new) plain.gives plain.at_once));
    }

  module _ (reopens : (cells : Cells) (st : State) → ShowsCells cells st → ShowsCells cells (reopened st)) (stored : RootIsStored files.contents) (stays : RootStays files.contents files.faults) (old new : Server F M W) (within : IsWithinMark (last_of new) (store.mark (marks_of new))) where
    rests_refused : (request : Lent) (e : Refusal) → request ≢ lent.Checkpoint → IsPlainAnswer files store old request (codec.Refused e) new → (st : State) → IsReached st → RestsAt files.contents store.mark old st → RestsAt files.contents store.mark new st
    rests_refused request e other plain st reached rests =
        let (next, step, after, whole) = plain.step.step st reached rests.shows in
        let shown : Shows files.contents new st = subst (λ (s : State). Shows files.contents new s) (refused_same _ _ _ _ step) after in
        rests_on old new within st shown rests (tends_root stored stays rests.root rests.cells request e old new other plain.tablets rests.keeps) (told_mark request e old new plain.sessions.oracle (some_told _ _ rests.tells.marked))

    rests_spared : (request : Lent) (reply : CodecReply) → IsSparing request → IsPlainAnswer files store old request reply new → (st : State) → IsReached st → RestsAt files.contents store.mark old st → RestsAt files.contents store.mark new st
    rests_spared request reply is plain st reached rests =
        let (next, step, after, whole) = plain.step.step st reached rests.shows in
        let shown : Shows files.contents new st = subst (λ (s : State). Shows files.contents new s) (spared_same _ _ request _ is step) after in
        rests_on old new within st shown rests (spared_root stored stays rests.root rests.cells request reply old new is plain.tablets rests.keeps) (told_spared request reply old new is plain.sessions.oracle (some_told _ _ rests.tells.marked))

    rests_done : IsPlainAnswer files store old lent.Checkpoint codec.Checkpoint new → (st : State) → IsReached st → Shows files.contents old st → IsSome (store.mark (marks_of old)) → RestsAt files.contents store.mark new st
    rests_done plain st reached shown told =
        let (next, step, after, whole) = plain.step.step st reached shown in
        let shows : Shows files.contents new st = subst (λ (s : State). Shows files.contents new s) (checkpoint_same _ _ step) after in
        record {
          shows = shows;
          root = _;
          cells = _;
          keeps = plain.tablets.1 refl shown.in_order.0;
          tells = record {
            top = shown.alone.0;
            floor = shown.alone.1;
            places = shows.places;
            next = shows.next;
            marked = marked_now _ _ _ (subst (λ (o : OracleState M). IsSome (store.mark o.marks)) (sym plain.sessions.oracle) told) within shows.shows.top;
            shows = reopens _ st shown.shows.store;
          };
        }

    -- the state that a refused checkpoint leaves in the files
    stores_after : (e : Refusal) → files.replaces → IsPlainAnswer files store old lent.Checkpoint (codec.Refused e) new → (kept st : State) → StoresState files.contents store.mark old kept → IsReached st → Shows files.contents old st
        → StoresState files.contents store.mark new kept ⊎ StoresState files.contents store.mark new st
    stores_after e replaces plain kept st stores reached shown =
        let (next, step, after, whole) = plain.step.step st reached shown in
        let shows : Shows files.contents new st = subst (λ (s : State). Shows files.contents new s) (refused_same _ _ _ _ step) after in
        let same : store.mark (marks_of new) ≡ store.mark (marks_of old) = ap (λ (o : OracleState M). store.mark o.marks) plain.sessions.oracle in
        elim (plain.tablets.2 replaces e refl) [
          | inl stays ↦ inl (record {
            root = stores.root;
            cells = stores.cells;
            has = (stays stores.root stores.cells).0 stores.has;
            tells = subst (λ (o : Option ℕ). TellsState stores.root stores.cells o kept) (sym same) stores.tells;
          })
          | inr rests ↦ inr (record {
            root = _;
            cells = _;
            has = (rests shown.in_order.0).has;
            tells = record {
              top = shown.alone.0;
              floor = shown.alone.1;
              places = shows.places;
              next = shows.next;
              marked = marked_now _ _ _ (subst (λ (o : Option ℕ). IsSome o) (sym same) (some_told _ _ stores.tells.marked)) within shows.shows.top;
              shows = reopens _ st shown.shows.store;
            };
          })
        ]

    pub keeps_resting : (request : Lent) (reply : CodecReply) → IsPlainAnswer files store old request reply new → KeepsResting files store.mark request reply old new
    keeps_resting request reply plain = record {
      done = λ is told. rests_done (subst (λ (q : Lent). IsPlainAnswer files store old q codec.Checkpoint new) is (subst (λ (r : CodecReply). IsPlainAnswer files store old request r new) told plain));
      refused = λ other e told. rests_refused request e other (subst (λ (r : CodecReply). IsPlainAnswer files store old request r new) told plain);
      spared = λ is. rests_spared request reply is plain;
      unfinished = λ replaces is e told. stores_after e replaces (subst (λ (q : Lent). IsPlainAnswer files store old q (codec.Refused e) new) is (subst (λ (r : CodecReply). IsPlainAnswer files store old request r new) told plain));
    }

  -- ---- between two requests

  merged_none : (b : Bool) (merge : Option MergePolicy) (old new : ClusterState F) → (merge ≡ None) ⊎ (b ≡ false) → MergesWhere b files.contents files.faults merge old new → new ≡ old
  merged_none false merge old new none merges = merges
  merged_none true None old new none merges = merges
  merged_none true (Some policy) old new (inl none) merges = cc
  merged_none true (Some policy) old new (inr none) merges = cc

  pub rests_between : RootOutlastsFlushes files.contents files.faults → RestsBetween files store.mark
  rests_between outlasts old new st tended none rests = record {
    shows = tended.shown st rests.shows;
    root = rests.root;
    cells = rests.cells;
    keeps = subst (λ (state : ClusterState F). KeepsRoot files.contents rests.root rests.cells state) (sym (merged_none _ _ _ _ none tended.merges))
        (((outlasts rests.root rests.cells (cluster_of old) tended.compacted).0 _ tended.compacts).1 rests.keeps);
    tells = subst (λ (o : OracleState M). TellsState rests.root rests.cells (store.mark o.marks) st) (sym tended.oracle) rests.tells;
  }

  pub resting_is_kept : RestingIsKept files store.mark
  resting_is_kept server st rests = record {
    kept = rests.keeps.has.kept;
    on_disk = rests.keeps.has.on_disk;
    root = rests.root;
    cells = rests.cells;
    keeps = rests.keeps.has.keeps;
    tells = rests.tells;
  }
