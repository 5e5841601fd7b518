-- The cells that a server's files keep under their root, and the calls that leave them.
use Rattle.std.proofs.Common.{◌≡◌, ◌≢◌, ◌≤◌, ◌⊎◌, ℕ, Bool, true, false, List, [], ◌++◌, length, map, Option, None, Some, Result, Ok, Err, IfErr, IsErrOf, OnErr, OnOk, append-nil, inl, inr, refl, sym, ap, ◌∙◌, subst, arith}
use Rattle.std.specs.Prelude.{is_some, option_map}
use Rattle.std.specs.List.{AllByRecursion}
use Rattle.std.specs.FinMap.{get}
use Rattle.cell_key.specs.Cells.{Cells}
use Rattle.cell_key.specs.declared.edits.Edit.{Edit}
use Rattle.cell_key.specs.declared.refusals.Refusal.{Refusal}
use Rattle.cell_key.specs.declared.refusals.Refusal.TheVariants.{Damaged, Device, NoMemory}
use Rattle.commit_log.specs.Edits.{IsStoredEdit, LogsEdits, spelled_edits, spelled_entries}
use Rattle.file_store.specs.Store.{Contents}
use Rattle.file_store.specs.declared.files.Files.{Ghosts as Files}
use Rattle.metadata_table.specs.Places.{PlaceView}
use Rattle.metadata_table.specs.Roots.{IsRoot, OneRoot, RootView}
use Rattle.oracle.specs.declared.marks.MarkStore.{Ghosts as MarkStore}
use Rattle.request_codec.specs.Replies.{replied}
use Rattle.request_codec.specs.Requests.{asked}
use Rattle.request_codec.specs.declared.answers.Answer.{Answer as CodecAnswer}
use Rattle.request_codec.specs.declared.answers.Answer.TheVariants as given
use Rattle.request_codec.specs.declared.operations.Operation.{Operation as LentOperation}
use Rattle.request_codec.specs.declared.operations.Operation.TheVariants as operations
use Rattle.request_codec.specs.declared.replies.Reply.{Reply as CodecReply}
use Rattle.request_codec.specs.declared.requests.Request.{Request as Lent}
use Rattle.request_codec.specs.declared.requests.Request.TheVariants as lent
use Rattle.rows.specs.Refusals.{IsReadRefusal}
use Rattle.tablet.specs.declared.merge_policy.MergePolicy.{MergePolicy}
use Rattle.tablet.specs.declared.merge_policy.MergePolicy.TheVariants.{AtCount, Levels}
use Rattle.row_atomic.specs.Changes.{Holds}
use Rattle.row_atomic.specs.Clusters.{ClusterState, Spot, spot_of, spots_of}
use Rattle.row_atomic.specs.Commands.{cells_shown}
use Rattle.row_atomic.specs.Journals.{JournalView, all_logged}
use Rattle.row_atomic.specs.Recorded.{Follows, Tracks, edits_written, entry_bytes_written, logged_of, waiting_of}
use Rattle.row_atomic.specs.declared.recorded.Recorded.{Recorded}
use Rattle.row_atomic.specs.RootSweeps.{RootOutlastsSweeps, SweepsBesideRoot}
use Rattle.row_atomic.specs.Roots.{HasRoot, RootIsStored, RootOutlastsFlushes, RootOutlastsMerges, Rests, RootStays, root_at, root_name}
use Rattle.row_atomic.specs.declared.commands.Command.{Command}
use Rattle.row_atomic.specs.declared.commands.Command.TheVariants as command
use Rattle.row_atomic.specs.declared.commands.Outcome.{Outcome}
use Rattle.si_model.specs.Machine as machine
use Rattle.si_model.specs.Machine.{IsReached, State, reopened}
use Rattle.si_model.specs.ShowsCells.{ShowsCells}
use Rattle.server_loop.specs.Answer.{IsAnswer, IsPlainAnswer, KeepsLogged, TendsTablets}
use Rattle.server_loop.specs.Checkpoints.{ActsAsCheckpoint, FlushesAll}
use Rattle.server_loop.specs.Commands.{HasOutcome, checkpointed, command_of, outcome_of}
use Rattle.durable.specs.Answers as lasts
use Rattle.durable.specs.Answers.{HasNewRoot, KeepsJournal, MovesTablets, ActsOnRoots, StaysRooted, StaysStored, TouchesRoots}
use Rattle.server_loop.specs.Sessions.{KeepsOracle}
use Rattle.rows.specs.Storage.{Storage}
use Rattle.server_loop.specs.Operations.{IsAnswerTo, LeavesOthers}
use Rattle.server_loop.specs.Server.{Shows, cluster_of, floor_of, forgets, journal_of, last_of, machine_place, machine_places, next_root, rows_of, top_of}
use Rattle.durable.specs.Stored.{IsClean, IsRooted, StoresCells, calls_of, view_of}
use Rattle.server_loop.specs.Tending.{IsTended, MergesWhere}
use Rattle.server_loop.specs.declared.server.Server.{Server}
use Rattle.server_loop.proofs.SamePlaces.{KeepsPlaces, keeps_places}

-- ---- one root

module _ {F : Type 0} (contents : F → Option Contents) where
  pub same_root : OneRoot → (a b : RootView) (first second : Cells) (state : ClusterState F) → HasRoot contents a first state → HasRoot contents b second state → a ≡ b
  same_root one a b first second state p q =
      let kept : p.kept ≡ q.kept = some_same p.kept q.kept (sym p.on_disk ∙ q.on_disk) in
      let image : p.keeps.image ≡ q.keeps.image = some_same p.keeps.image q.keeps.image (sym p.keeps.there ∙ (ap (λ (m : Contents). get m root_name) kept ∙ q.keeps.there)) in
      one a b q.keeps.image (subst (λ (bytes : List ℕ). IsRoot a bytes) image p.keeps.form) q.keeps.form
    where
      some_same : {A : Type 0} (x y : A) → Some x ≡ Some y → x ≡ y
      some_same x y is = cc

-- ---- places

pub same_machine_places : (old new : List PlaceView) → map spot_of new ≡ map spot_of old → machine_places new ≡ machine_places old
same_machine_places old new is = ap (λ (spots : List Spot). map machine_place spots) is

-- ---- a server

module _ {F M W : Type 0} (contents : F → Option Contents) where
  -- the journal leads to the state that is shown
  pub follows_in : OneRoot → ((cells : Cells) (st : State) → ShowsCells cells st → ShowsCells cells (reopened st)) → (server : Server F M W) (root : RootView) (st : State) (journal : Option JournalView) → journal_of server ≡ journal → is_some journal ≡ true → Follows contents (cluster_of server) journal
      → IsRooted contents server root → Shows contents server st → lasts.Follows (view_of contents) server root st
  follows_in one reopens server root st None same_journal is follows rooted shown = cc
  follows_in one reopens server root st (Some journal) same_journal is follows rooted shown =
      let same = same_root contents one root follows.such.root rooted.base follows.such.base (cluster_of server) rooted.has follows.such.has in
      record {
        base = follows.such.base;
        kept = record {
          has = subst (λ (r : RootView). HasRoot contents r follows.such.base (cluster_of server)) (sym same) follows.such.has;
          placed = rooted.placed ∙ shown.places;
        };
        first = follows.logged;
        then = follows.waiting;
        logged_bytes = ap logged_of same_journal ∙ follows.logged_bytes;
        waiting_bytes = ap waiting_of same_journal ∙ follows.waiting_bytes;
        counted = ap edits_written same_journal ∙ follows.counted;
        measured = ap entry_bytes_written same_journal ∙ follows.measured;
        stored = follows.stored;
        shows = subst (λ (cells : Cells). ShowsCells cells (reopened st)) (sym follows.such.replay) (reopens _ st shown.shows.store);
        next = shown.next;
        top = shown.shows.top;
      }

  -- the root that files keep is the one that is there
  pub one_stored : OneRoot → (server : Server F M W) (root other : RootView) (base : Cells) (places : List machine.Place) → StoresCells contents server root base places → IsRooted contents server other → root ≡ other
  one_stored one server root other base places stored rooted = same_root contents one root other base rooted.base (cluster_of server) stored.has rooted.has

  -- ---- unchanged roots

  pub stays_rooted : (old new : Server F M W) → ((root : RootView) (cells : Cells) → HasRoot contents root cells (cluster_of old) → HasRoot contents root cells (cluster_of new)) → machine_places (cluster_of new).places ≡ machine_places (cluster_of old).places
      → StaysRooted (view_of contents) old new
  stays_rooted old new stays places = record {
    stored = λ root base ps s. record { has = stays root base s.has; placed = s.placed };
    rooted = λ root r. record { base = r.base; has = stays root r.base r.has; placed = r.placed ∙ sym places };
  }

  -- ---- a new root

  -- no stamp of the root that is put next is above the last one
  pub next_low : (server : Server F M W) (st : State) → Shows contents server st → top_of server ≤ last_of server
  next_low server st shown = let top = shown.shows.top in let is = shown.alone.0 in omega (arith, is, top)

  pub new_root : ((cells : Cells) (st : State) → ShowsCells cells st → ShowsCells cells (reopened st)) → (old new : Server F M W) (st : State) → Rests contents (top_of old) (floor_of old) (cluster_of old) (cluster_of new) → machine_places (cluster_of new).places ≡ machine_places (cluster_of old).places → last_of new ≡ last_of old → next_root new ≡ root_at (top_of old) (floor_of old) (cluster_of new)
      → Shows contents old st → HasNewRoot (view_of contents) (next_root new) new st
  new_root reopens old new st rests places last next shown =
      let keeps = rests shown.in_order.0 in
      let top : st.top ≤ last_of new = let below = shown.shows.top in omega (arith, below, last) in
      let low : top_of old ≤ last_of new = let is = next_low old st shown in omega (arith, is, last) in
      subst (λ (root : RootView). HasNewRoot (view_of contents) root new st) (sym next) (record {
        rooted = record { base = cells_shown contents (cluster_of old); has = keeps.has; placed = refl };
        base = cells_shown contents (cluster_of old);
        kept = record { has = keeps.has; placed = places ∙ shown.places };
        shows = reopens _ st shown.shows.store;
        next = shown.next;
        top = top;
        low = low;
      })

-- ---- answers

plain_keeps : (request : Lent) → ¬ ActsOnRoots request → KeepsPlaces (asked request)
plain_keeps (lent.Split row) other = absurd (other tt)
plain_keeps (lent.Move tablet server) other = absurd (other tt)
plain_keeps request other = tt

plain_not_sweep : (request : Lent) → ¬ ActsOnRoots request → command_of request ≢ Some command.Sweep
plain_not_sweep lent.Sweep other = λ is. other tt
plain_not_sweep request other = λ is. cc

moves_not_sweep : (request : Lent) → MovesTablets request → command_of request ≢ Some command.Sweep
moves_not_sweep (lent.Split row) of = λ is. cc
moves_not_sweep (lent.Move tablet server) of = λ is. cc
moves_not_sweep request of = absurd of

plain_not_checkpoint : (request : Lent) → ¬ ActsOnRoots request → request ≢ lent.Checkpoint
plain_not_checkpoint request other is = other (subst ActsOnRoots (sym is) tt)

moves_not_checkpoint : (request : Lent) → MovesTablets request → request ≢ lent.Checkpoint
moves_not_checkpoint request of is = subst MovesTablets is of

plain_logged : (request : Lent) (old new : Option JournalView) → ¬ ActsOnRoots request → KeepsLogged request old new → logged_of new ≡ logged_of old
plain_logged (lent.Split row) old new other p = absurd (other tt)
plain_logged (lent.Move tablet server) old new other p = absurd (other tt)
plain_logged lent.Sweep old new other p = absurd (other tt)
plain_logged lent.Checkpoint old new other p = absurd (other tt)
plain_logged request old new other p = p

moved_journal : (request : Lent) (old new : Option JournalView) → MovesTablets request → KeepsLogged request old new → new ≡ old
moved_journal (lent.Split row) old new of p = p
moved_journal (lent.Move tablet server) old new of p = p
moved_journal request old new of p = absurd of

-- tablets move without a stamp
moved_stamp : {F M W : Type 0} (contents : F → Option Contents) (mark : M → Option ℕ) (request : Lent) (reply : CodecReply) (old new : Server F M W) → MovesTablets request → KeepsOracle contents mark request reply old new → last_of new ≡ last_of old
moved_stamp contents mark (lent.Split row) reply old new of p = ap (λ o. o.last) p
moved_stamp contents mark (lent.Move tablet server) reply old new of p = ap (λ o. o.last) p
moved_stamp contents mark request reply old new of p = absurd of

module _ {F M W : Type 0} (files : Files F W) (marks : MarkStore M) (stored : RootIsStored files.contents) (stays : RootStays files.contents files.faults) where
  by_has : (made : Option Command) (request : Lent) (reply : CodecReply) (old new : ClusterState F) → made ≢ Some command.Sweep → HasOutcome files.contents files.faults made request reply old new → (root : RootView) (cells : Cells) → HasRoot files.contents root cells old → HasRoot files.contents root cells new
  by_has None request reply old new other same root cells has = (stored root cells old new same).0 has
  by_has (Some made) request reply old new other (inl is) root cells has = (stays made (outcome_of reply) root cells old new is).0 (λ sweep. absurd (other (ap (λ (c : Command). Some c) sweep))) has
  by_has (Some made) request reply old new other (inr none) root cells has = subst (λ (state : ClusterState F). HasRoot files.contents root cells state) (sym none.1) has

  answer_root : (request : Lent) (reply : CodecReply) (old new : Server F M W) → request ≢ lent.Checkpoint → command_of request ≢ Some command.Sweep → TendsTablets files request reply old new
      → (root : RootView) (cells : Cells) → HasRoot files.contents root cells (cluster_of old) → HasRoot files.contents root cells (cluster_of new)
  answer_root lent.Checkpoint reply old new first other tends = absurd (first refl)
  answer_root (lent.Status t) reply old new first other tends = λ root cells has. subst (λ (server : Server F M W). HasRoot files.contents root cells (cluster_of server)) (sym tends.0) has
  answer_root request reply old new first other tends = by_has (command_of request) request reply (cluster_of old) (cluster_of new) other tends

  reply_leaves : (old new : Server F M W) (request : Lent) (reply : CodecReply) → ¬ ActsOnRoots request → IsAnswer files marks old request reply new → (now : State) → IsReached now → Shows files.contents old now
      → StaysRooted (view_of files.contents) old new × (logged_of (journal_of new) ≡ logged_of (journal_of old))
  reply_leaves old new request reply other answer now reached shown =
      let plain = answer.plain in
      let (next, step, shows, whole) = plain.step.step now reached shown in
      let places : machine_places (cluster_of new).places ≡ machine_places (cluster_of old).places = shows.places ∙ ((keeps_places now (asked request) (replied reply) next step (plain_keeps request other)).0 ∙ sym shown.places) in (
        stays_rooted files.contents old new (answer_root request reply old new (plain_not_checkpoint request other) (plain_not_sweep request other) plain.tablets) places,
        plain_logged request (journal_of old) (journal_of new) other plain.logged,
      )

  at_once_leaves : (old new : Server F M W) → LeavesOthers files.contents old new → StaysRooted (view_of files.contents) old new × (logged_of (journal_of new) ≡ logged_of (journal_of old))
  at_once_leaves old new others = (
    stays_rooted files.contents old new (λ root cells has. (stored root cells (cluster_of old) (cluster_of new) others.storage).0 has) (ap (λ (s : Storage). machine_places s.places) others.storage),
    others.logged,
  )

  -- an answer that puts no root and removes no file
  pub answer_leaves : (old new : Server F M W) (operation : LentOperation) (answer : CodecAnswer) → ¬ TouchesRoots operation → IsAnswerTo files marks old operation answer new → (now : State) → IsReached now → Shows files.contents old now
      → StaysRooted (view_of files.contents) old new × (logged_of (journal_of new) ≡ logged_of (journal_of old))
  answer_leaves old new (operations.One request) (given.Said reply) other is now reached shown = reply_leaves old new request reply other is now reached shown
  answer_leaves old new (operations.One request) answer other is now reached shown = absurd is
  answer_leaves old new (operations.Commit start writes) answer other is now reached shown = at_once_leaves old new is.plain.at_once.others
  answer_leaves old new (operations.Read start cells stays_open) answer other is now reached shown = at_once_leaves old new is.plain.at_once.others

  pub answer_moves : (old new : Server F M W) (request : Lent) (reply : CodecReply) → MovesTablets request → IsAnswer files marks old request reply new
      → StaysStored (view_of files.contents) old new × KeepsJournal (view_of files.contents) old new
  answer_moves old new request reply of answer =
      let plain = answer.plain in
      let roots = answer_root request reply old new (moves_not_checkpoint request of) (moves_not_sweep request of) plain.tablets in
      let same = moved_journal request (journal_of old) (journal_of new) of plain.logged in (
        λ root base ps s. record { has = roots root base s.has; placed = s.placed },
        record {
          goes_on = ap (λ (j : Option JournalView). is_some j) same;
          has = ap (λ (j : Option JournalView). logged_of j) same;
          waits = ap (λ (j : Option JournalView). waiting_of j) same;
          stamp = moved_stamp files.contents marks.mark request reply old new of plain.sessions.oracle;
        },
      )

-- ---- between two answers

module _ {F : Type 0} (contents : F → Option Contents) (faults : F → ℕ) (flushes : RootOutlastsFlushes contents faults) (merge : RootOutlastsMerges contents faults) where
  merges_root : (due : Bool) (policy : Option MergePolicy) (old new : ClusterState F) → MergesWhere due contents faults policy old new → (root : RootView) (cells : Cells) → HasRoot contents root cells old → HasRoot contents root cells new
  merges_root false policy old new same root cells has = subst (λ (state : ClusterState F). HasRoot contents root cells state) (sym same) has
  merges_root true None old new same root cells has = subst (λ (state : ClusterState F). HasRoot contents root cells state) (sym same) has
  merges_root true (Some (AtCount count)) old new made root cells has = merge root cells old new (AtCount count) made has
  merges_root true (Some Levels) old new (inl same) root cells has = subst (λ (state : ClusterState F). HasRoot contents root cells state) (sym same) has
  merges_root true (Some Levels) old new (inr step) root cells has = step.2 root cells has

  pub tended_leaves : {M W : Type 0} (old new : Server F M W) → IsTended contents faults old new
      → StaysRooted (view_of contents) old new × (logged_of (journal_of new) ≡ logged_of (journal_of old)) × ((st : State) → Shows contents old st → Shows contents new st)
  tended_leaves old new tended = (
    stays_rooted contents old new (λ root cells has. merges_root _ _ tended.compacted (cluster_of new) tended.merges root cells (((flushes root cells (cluster_of old) tended.compacted).0 _ tended.compacts).0 has))
        (same_machine_places (cluster_of old).places (cluster_of new).places tended.keeps.spots),
    ap (λ (j : Option JournalView). logged_of j) tended.journal,
    tended.shown,
  )

-- ---- logged edits

module _ {F : Type 0} (contents : F → Option Contents) (laws : LogsEdits) where
  -- the waiting edits become logged
  pub follows_logged : (state : ClusterState F) (journal : Option JournalView) → Follows contents state journal → Follows contents state (option_map all_logged journal)
  follows_logged state None follows = tt
  follows_logged state (Some journal) follows =
      let edits = follows.logged ++ follows.waiting in
      let same = sym (append-nil edits) in
      record {
        logged = edits;
        waiting = [];
        logged_bytes = ap (λ (x : List ℕ). x ++ journal.waiting) follows.logged_bytes ∙ (ap (λ (x : List ℕ). spelled_edits follows.logged ++ x) follows.waiting_bytes ∙ sym (laws.after follows.logged follows.waiting));
        waiting_bytes = refl;
        counted = follows.counted ∙ ap (λ (es : List Edit). length es) same;
        measured = follows.measured ∙ ap (λ (es : List Edit). length (spelled_entries es)) same;
        stored = subst (λ (es : List Edit). AllByRecursion IsStoredEdit es) same follows.stored;
        such = subst (λ (es : List Edit). Tracks contents state es) same follows.such;
      }

module _ {F M W : Type 0} (contents : F → Option Contents) where
  -- the same server with other rows, of the same cluster
  same_cluster : (old : Server F M W) (rows : Recorded F W) → rows.cluster ≡ cluster_of old → StaysRooted (view_of contents) old (record old { rows = rows })
  same_cluster old rows is = stays_rooted contents old (record old { rows = rows }) (λ root cells has. subst (λ (state : ClusterState F). HasRoot contents root cells state) (sym is) has) (ap (λ (state : ClusterState F). machine_places state.places) is)

  pub same_rows : (old new : Server F M W) (rows : Recorded F W) → new ≡ record old { rows = rows } → rows.cluster ≡ cluster_of old → StaysRooted (view_of contents) old new
  same_rows old new rows is same = subst (λ (server : Server F M W). StaysRooted (view_of contents) old server) (sym is) (same_cluster old rows same)

  -- a state shown without a journal is shown with one that follows
  pub remembers : (server : Server F M W) (st : State) → Shows contents (forgets server) st → Follows contents (cluster_of server) (journal_of server) → Shows contents server st
  remembers server st shown follows = record { in_order = (shown.in_order.0, follows); shows = shown.shows; alone = shown.alone; cleaners = shown.cleaners; collectors = shown.collectors; places = shown.places; next = shown.next }

  pub logged_shows : LogsEdits → (server now : Server F M W) (st : State) → now ≡ record server { rows = record { cluster = cluster_of server; journal = option_map all_logged (journal_of server) } } → Shows contents server st → Shows contents now st
  logged_shows laws server now st is shown = subst (λ (s : Server F M W). Shows contents s st) (sym is) (record {
    in_order = (shown.in_order.0, follows_logged contents laws (cluster_of server) (journal_of server) shown.in_order.1);
    shows = shown.shows;
    alone = shown.alone;
    cleaners = shown.cleaners;
    collectors = shown.collectors;
    places = shown.places;
    next = shown.next;
  })

-- ---- checkpoints

module _ {F M W : Type 0} (files : Files F W) (marks : MarkStore M) (reopens : (cells : Cells) (st : State) → ShowsCells cells st → ShowsCells cells (reopened st)) (old new : Server F M W) (spots : spots_of (cluster_of new) ≡ spots_of (cluster_of old)) where
  abbrev NewRoot : State → Type 0
  NewRoot st = HasNewRoot (view_of files.contents) (next_root new) new st

  abbrev Checked : Result (Unit {0}) Refusal → Type 0
  Checked result = IsPlainAnswer files marks old lent.Checkpoint (checkpointed result) (forgets new)

  -- a checkpoint leaves the two stamps of the root that is next
  same_root_next : {reply : CodecReply} → IsPlainAnswer files marks old lent.Checkpoint reply (forgets new) → next_root new ≡ root_at (top_of old) (floor_of old) (cluster_of new)
  same_root_next plain = λ i. root_at (plain.sessions.sessions.top i) (plain.sessions.collectors.floor i) (cluster_of new)

  pub checkpoint_done : (result : Result (Unit {0}) Refusal) → Checked result → OnOk result (Holds files.contents (cluster_of old) → IsClean files.contents new)
      → OnOk result ((st : State) → Shows files.contents old st → NewRoot st × IsClean files.contents new)
  checkpoint_done (Ok done) plain clean = λ st shown. (new_root files.contents reopens old new st (plain.tablets.1 refl) (same_machine_places (cluster_of old).places (cluster_of new).places spots) (ap (λ o. o.last) plain.sessions.oracle) (same_root_next plain) shown, clean shown.in_order.0)
  checkpoint_done (Err refusal) plain clean = tt

  pub checkpoint_undone : files.replaces → (result : Result (Unit {0}) Refusal) → Checked result
      → OnErr result (StaysRooted (view_of files.contents) old new ⊎ ((st : State) → Shows files.contents old st → NewRoot st))
  checkpoint_undone replaces (Ok done) plain = tt
  checkpoint_undone replaces (Err refusal) plain =
      let places = same_machine_places (cluster_of old).places (cluster_of new).places spots in
      let last : last_of new ≡ last_of old = ap (λ o. o.last) plain.sessions.oracle in
      elim (plain.tablets.2 replaces refusal refl) [
        | inl stays ↦ inl (stays_rooted files.contents old new (λ root cells. (stays root cells).0) places)
        | inr rests ↦ inr (λ st shown. new_root files.contents reopens old new st rests places last (same_root_next plain) shown)
      ]

-- a checkpoint of the files is one under a log
module _ {F M W : Type 0} (files : Files F W) (marks : MarkStore M) (reopens : (cells : Cells) (st : State) → ShowsCells cells st → ShowsCells cells (reopened st)) (replaces : files.replaces) (old new : Server F M W) where
  keeps_journal : (journal : journal_of new ≡ journal_of old) → last_of new ≡ last_of old → KeepsJournal (view_of files.contents) old new
  keeps_journal journal stamp = record {
    goes_on = ap (λ (j : Option JournalView). is_some j) journal;
    has = ap (λ (j : Option JournalView). logged_of j) journal;
    waits = ap (λ (j : Option JournalView). waiting_of j) journal;
    stamp = stamp;
  }

  pub acts_so : (result : Result (Unit {0}) Refusal) → ActsAsCheckpoint files marks old result new → lasts.ActsAsCheckpoint (view_of files.contents) (calls_of files marks) (Shows files.contents) old result new
  acts_so result acts = record {
    step = λ before reached shown.
        let (next, step, shows, whole) = acts.plain.step.step before reached shown in
        (next, step, remembers files.contents new next shows (acts.follows replaces shown.in_order.0 shown.in_order.1), whole);
    shown = λ st shown. remembers files.contents new st (acts.shown st shown) (acts.follows replaces shown.in_order.0 shown.in_order.1);
    says = acts.plain;
    keeps = keeps_journal acts.journal (ap (λ o. o.last) acts.plain.sessions.oracle);
    done = checkpoint_done files marks reopens old new acts.spots result acts.plain acts.clean;
    undone = checkpoint_undone files marks reopens old new acts.spots replaces result acts.plain;
  }

  -- a flush leaves the root
  pub flush_stays : RootOutlastsFlushes files.contents files.faults → (result : Result (Unit {0}) Refusal) (outcome : Outcome) → ActsAsCheckpoint files marks old result new → FlushesAll files.contents files.faults old outcome new → StaysRooted (view_of files.contents) old new
  flush_stays outlasts result outcome acts flushed = stays_rooted files.contents old new (λ root cells has. ((outlasts root cells (cluster_of old) (cluster_of new)).1 _ _ flushed.flushes).0 has) (same_machine_places (cluster_of old).places (cluster_of new).places acts.spots)

-- ---- sweeps

-- the refusals of reading are storage refusals
pub read_storage : (r : Result ℕ Refusal) → IfErr r IsReadRefusal → IfErr r machine.IsStorageRefusal
read_storage (Ok count) read = tt
read_storage (Err Device) read = tt
read_storage (Err NoMemory) read = tt
read_storage (Err Damaged) read = tt
read_storage (Err _) read = absurd read

module _ {F M W : Type 0} (contents : F → Option Contents) (faults : F → ℕ) (law : RootOutlastsSweeps contents faults) (old new : Server F M W) (result : Result ℕ Refusal) (swept : SweepsBesideRoot contents faults result (cluster_of old) (cluster_of new)) where
  -- a server with a journal has a root, so its root file is one
  pub swept_sound : is_some (journal_of old) ≡ true → Follows contents (cluster_of old) (journal_of old) → ¬ IsErrOf result Damaged
  swept_sound = go (journal_of old)
    where
      go : (journal : Option JournalView) → is_some journal ≡ true → Follows contents (cluster_of old) journal → ¬ IsErrOf result Damaged
      go None some follows = cc
      go (Some journal) some follows = law.whole follows.such.root follows.such.base result (cluster_of old) (cluster_of new) swept follows.such.has

pub sweep_keeps : {F M W : Type 0} (contents : F → Option Contents) (old new : Server F M W) → new ≡ record old { rows = record (rows_of old) { cluster = cluster_of new } }
    → KeepsJournal (view_of contents) old new
sweep_keeps contents old new others = record {
  goes_on = ap (λ (s : Server _ _ _). is_some (journal_of s)) others;
  has = ap (λ (s : Server _ _ _). logged_of (journal_of s)) others;
  waits = ap (λ (s : Server _ _ _). waiting_of (journal_of s)) others;
  stamp = ap (λ (s : Server _ _ _). last_of s) others;
}
