-- The journal leads to the cells shown.
use Rattle.std.proofs.Common.{◌≡◌, ◌<◌, ◌⊎◌, ◌+◌, ◌∙◌, inl, inr, ℕ, zero, suc, List, [], ◌∷◌, ◌++◌, length, Option, None, Some, IsSome, drop, take, slice_index_or, refl, sym, ap, subst, arith}
use Rattle.std.proofs.lemmas.List.{append_assoc, length-append}
use Rattle.std.proofs.lemmas.List.Concat.{flat_map-append}
use Rattle.std.proofs.lemmas.Bool.{false≢true}
use Rattle.std.specs.FinMap.{get}
use Rattle.std.specs.List.{AllByRecursion}
use Rattle.cell_key.specs.Cells.{Cells, after_edits}
use Rattle.cell_key.specs.Replays.{Replays}
use Rattle.cell_key.specs.declared.edits.Edit.{Edit}
use Rattle.commit_log.specs.Edits.{IsStoredEdit, spelled_edit, spelled_edits, spelled_entries, spelled_entry}
use Rattle.file_store.specs.Store.{Contents}
use Rattle.metadata_table.specs.Roots.{RootView}
use Rattle.rows.specs.Calls.{Applies, AppliesAll, OnlyReads, StaysReadable, View}
use Rattle.rows.specs.Room.{OverfillsOne}
use Rattle.rows.specs.RowEdits.{all_edits}
use Rattle.rows.specs.declared.row_edits.RowEdits.{RowEdits}
use Rattle.row_atomic.specs.Seen.{seen_of}
use Rattle.row_atomic.specs.Changes.{Holds}
use Rattle.row_atomic.specs.Clusters.{ClusterState, cells_in, storage_of}
use Rattle.row_atomic.specs.Commands.{AnswersFromCells, OverfillsCluster, cells_shown}
use Rattle.row_atomic.specs.Journals.{HasRoomFor, HasWritten, IsWithin, JournalView, with_waiting}
use Rattle.row_atomic.specs.Open.{IsOpenedOf, IsStore}
use Rattle.row_atomic.specs.Recorded.{FitsMemtables, Follows, IfWritten, IsOfUpkeep, KeepsFollowing, OpensFollowing, OverfillsJournal, OverfillsRecorded, Tracks, logged_of, seen_recorded}
use Rattle.row_atomic.specs.RootSweeps.{RootOutlastsSweeps}
use Rattle.row_atomic.specs.Roots.{HasRoot, KeepsRoot, Rests, RootIsStored, RootOutlastsFlushes, RootOutlastsMerges, RootStays, root_at, root_name}
use Rattle.row_atomic.specs.declared.commands.Command.{Command}
use Rattle.row_atomic.specs.declared.commands.Command.TheVariants as command
use Rattle.row_atomic.specs.declared.commands.Outcome.{Outcome}
use Rattle.row_atomic.specs.declared.commands.Outcome.TheVariants as outcome
use Rattle.row_atomic.specs.declared.recorded.Recorded.{Recorded}
use Rattle.row_atomic.proofs.JournalRoom.{empty_fits}

-- ---- the edits of a journal

all_both : (P : Edit → Type 0) (xs ys : List Edit) → AllByRecursion P xs → AllByRecursion P ys → AllByRecursion P (xs ++ ys)
all_both P [] ys first then = then
all_both P (x ∷ xs) ys first then = (first.0, all_both P xs ys first.1 then)

entries_length : (edits later : List Edit) → length (spelled_entries (edits ++ later)) ≡ length (spelled_entries edits) + length (spelled_entries later)
entries_length edits later = ap (λ (bs : List ℕ). length bs) (flat_map-append spelled_entry edits later) ∙ length-append (spelled_entries edits) (spelled_entries later)

-- a property of the journal's edits implies another
pub each_such : {Such Other : List Edit → Type 0} → ((edits : List Edit) → Such edits → Other edits) → (journal : Option JournalView) → IfWritten Such journal → IfWritten Other journal
each_such goes None written = tt
each_such goes (Some journal) written = record {
  logged = written.logged;
  waiting = written.waiting;
  logged_bytes = written.logged_bytes;
  waiting_bytes = written.waiting_bytes;
  counted = written.counted;
  measured = written.measured;
  stored = written.stored;
  such = goes (written.logged ++ written.waiting) written.such;
}

-- more edits in the journal
pub more_written : {Such Other : List Edit → Type 0} (more : List Edit) → AllByRecursion IsStoredEdit more → ((edits : List Edit) → Such edits → Other (edits ++ more)) → (journal : JournalView) → HasWritten Such journal → HasWritten Other (with_waiting more journal)
more_written {Such} {Other} more stored goes journal written =
    let behind : (written.logged ++ written.waiting) ++ more ≡ written.logged ++ (written.waiting ++ more) = append_assoc written.logged written.waiting more in
    let counted : journal.count + length more ≡ length ((written.logged ++ written.waiting) ++ more) = ap (λ (n : ℕ). n + length more) written.counted ∙ sym (length-append (written.logged ++ written.waiting) more) in
    let measured : journal.entry_bytes + length (spelled_entries more) ≡ length (spelled_entries ((written.logged ++ written.waiting) ++ more)) = ap (λ (n : ℕ). n + length (spelled_entries more)) written.measured ∙ sym (entries_length (written.logged ++ written.waiting) more) in
    record {
      logged = written.logged;
      waiting = written.waiting ++ more;
      logged_bytes = written.logged_bytes;
      waiting_bytes = ap (λ (bs : List ℕ). bs ++ spelled_edits more) written.waiting_bytes ∙ sym (flat_map-append spelled_edit written.waiting more);
      counted = counted ∙ ap (λ (es : List Edit). length es) behind;
      measured = measured ∙ ap (λ (es : List Edit). length (spelled_entries es)) behind;
      stored = subst (λ (es : List Edit). AllByRecursion IsStoredEdit es) behind (all_both IsStoredEdit (written.logged ++ written.waiting) more written.stored stored);
      such = subst Other behind (goes (written.logged ++ written.waiting) written.such);
    }

-- the room of a journal with edits added
pub less_room : (journal : JournalView) (edits later : List Edit) → ¬ HasRoomFor (with_waiting edits journal) later → ¬ HasRoomFor journal (edits ++ later)
less_room journal edits later none room =
    let e = room.edits in
    let b = room.bytes in
    let both = length-append edits later in
    let all = entries_length edits later in
    none (record { edits = omega (arith, e, both); bytes = omega (arith, b, all) })

less_now : (journal : JournalView) (edits later : List Edit) → ¬ HasRoomFor journal later → ¬ HasRoomFor (with_waiting edits journal) later
less_now journal edits later none room =
    let e = room.edits in
    let b = room.bytes in
    none (record { edits = omega (arith, e); bytes = omega (arith, b) })

pub more_room : (journal : JournalView) (edits later : List Edit) → ¬ HasRoomFor journal (edits ++ later) → ¬ HasRoomFor (with_waiting edits journal) later
more_room journal edits later none room =
    let e = room.edits in
    let b = room.bytes in
    let both = length-append edits later in
    let all = entries_length edits later in
    none (record { edits = omega (arith, e, both); bytes = omega (arith, b, all) })

-- ---- calls of rows

-- edits of rows, if those can be read
record Makes {R : Type 0} (seen : View R) (Read : Type 0) (edits : List Edit) (old new : R) : Type 0 where
  still : seen.holds old → seen.holds new
  readable : StaysReadable seen old new
  made : Read → seen.cells new ≡ after_edits (seen.cells old) edits
  room : (r : List ℕ) (later : List Edit) → seen.overfills new r later → seen.overfills old r later ⊎ seen.overfills old r (edits ++ later)
  stays : seen.storage new ≡ seen.storage old

of_one : {R : Type 0} {seen : View R} (row : List ℕ) (edits : List Edit) (old new : R) → Applies seen row edits old new → Makes seen (seen.readable old row) edits old new
of_one row edits old new applies = record { still = applies.still; readable = applies.readable; made = applies.made; room = applies.room; stays = applies.stays }

to_one : {R : Type 0} {seen : View R} (row : List ℕ) (edits : List Edit) (old new : R) → Makes seen (seen.readable old row) edits old new → Applies seen row edits old new
to_one row edits old new makes = record { still = makes.still; readable = makes.readable; made = makes.made; room = makes.room; stays = makes.stays }

module _ {F : Type 0} (contents : F → Option Contents) (stored : RootIsStored contents) where
  -- a call that keeps the state below, and changes the cells as the further edits do
  tracks_on : (old new : ClusterState F) → storage_of contents new ≡ storage_of contents old → (before after : List Edit) → ((base : Cells) → after_edits base before ≡ cells_shown contents old → after_edits base after ≡ cells_shown contents new)
      → Tracks contents old before → Tracks contents new after
  tracks_on old new same before after goes tracks = record {
    root = tracks.root;
    base = tracks.base;
    has = (stored tracks.root tracks.base old new same).0 tracks.has;
    replay = goes tracks.base tracks.replay;
  }

  pub reads_recorded : {W : Type 0} (old new : Recorded F W) → new.journal ≡ old.journal → OnlyReads (seen_of contents) old.cluster new.cluster → OnlyReads (seen_recorded contents) old new
  reads_recorded old new same reads = record {
    still = λ held. (
      reads.still held.0,
      subst (λ (journal : Option JournalView). Follows contents new.cluster journal) (sym same)
          (each_such (λ edits tracks. tracks_on old.cluster new.cluster reads.stays edits edits (λ base replay. replay ∙ sym reads.kept) tracks) old.journal held.1),
    );
    readable = reads.readable;
    kept = reads.kept;
    room = λ r later full. elim full [
      | inl full ↦ inl (reads.room r later full)
      | inr full ↦ inr (subst (λ (journal : Option JournalView). OverfillsJournal journal later) same full)
    ];
    stays = λ i. record (reads.stays i) { logged = logged_of (same i) };
  }

  -- without a journal
  makes_plain : {W : Type 0} (Read : Type 0) (edits : List Edit) (old new : Recorded F W) → old.journal ≡ None → new.journal ≡ None → Makes (seen_of contents) Read edits old.cluster new.cluster → Makes (seen_recorded contents) Read edits old new
  makes_plain Read edits old new none still_none makes = record {
    still = λ held. (makes.still held.0, subst (λ (journal : Option JournalView). Follows contents new.cluster journal) (sym still_none) tt);
    readable = makes.readable;
    made = makes.made;
    room = λ r later full. elim full [
      | inl full ↦ elim (makes.room r later full) [ inl before ↦ inl (inl before) | inr after ↦ inr (inl after) ]
      | inr full ↦ absurd (subst (λ (journal : Option JournalView). OverfillsJournal journal later) still_none full)
    ];
    stays = λ i. record (makes.stays i) { logged = logged_of ((still_none ∙ sym none) i) };
  }

  makes_recorded : {W : Type 0} → Replays → (Read : Type 0) (edits : List Edit) → AllByRecursion IsStoredEdit edits → (old new : Recorded F W) (journal : JournalView) → old.journal ≡ Some journal → new.journal ≡ Some (with_waiting edits journal)
      → ((seen_of contents).holds old.cluster → Read) → Makes (seen_of contents) Read edits old.cluster new.cluster → Makes (seen_recorded contents) Read edits old new
  makes_recorded replays Read edits are_stored old new journal was is each makes = record {
    still = λ held. (
      makes.still held.0,
      subst (λ (o : Option JournalView). Follows contents new.cluster o) (sym is)
          (more_written edits are_stored (λ before tracks. tracks_on old.cluster new.cluster makes.stays before (before ++ edits)
          (λ base replay. replays.joined base before edits ∙ (ap (λ (cs : Cells). after_edits cs edits) replay ∙ sym (makes.made (each held.0)))) tracks)
          journal (subst (λ (o : Option JournalView). Follows contents old.cluster o) was held.1)),
    );
    readable = makes.readable;
    made = makes.made;
    room = λ r later full. elim full [
      | inl full ↦ elim (makes.room r later full) [ inl before ↦ inl (inl before) | inr after ↦ inr (inl after) ]
      | inr full ↦ inr (inr (subst (λ (o : Option JournalView). OverfillsJournal o (edits ++ later)) (sym was) (less_room journal edits later (subst (λ (o : Option JournalView). OverfillsJournal o later) is full))))
    ];
    stays = λ i. record (makes.stays i) { logged = logged_is i };
  }
    where
      logged_is : logged_of new.journal ≡ logged_of old.journal
      logged_is = ap logged_of is ∙ ap logged_of (sym was)

  -- edits of one row
  pub applies_plain : {W : Type 0} (row : List ℕ) (edits : List Edit) (old new : Recorded F W) → old.journal ≡ None → new.journal ≡ None → Applies (seen_of contents) row edits old.cluster new.cluster → Applies (seen_recorded contents) row edits old new
  applies_plain row edits old new none still_none applies =
      to_one row edits old new (makes_plain ((seen_of contents).readable old.cluster row) edits old new none still_none (of_one row edits old.cluster new.cluster applies))

  pub applies_recorded : {W : Type 0} → Replays → (row : List ℕ) (edits : List Edit) → AllByRecursion IsStoredEdit edits → (old new : Recorded F W) (journal : JournalView) → old.journal ≡ Some journal → new.journal ≡ Some (with_waiting edits journal)
      → Applies (seen_of contents) row edits old.cluster new.cluster → Applies (seen_recorded contents) row edits old new
  applies_recorded replays row edits are_stored old new journal was is applies =
      to_one row edits old new
      (makes_recorded replays ((seen_of contents).readable old.cluster row) edits are_stored old new journal was is (λ held. (seen_of contents).each_readable old.cluster held row) (of_one row edits old.cluster new.cluster applies))

  -- edits of several rows
  abbrev AllRead : List RowEdits → ClusterState F → Type 0
  AllRead changes state = AllByRecursion (λ change. (seen_of contents).readable state change.row) changes

  each_read : (changes : List RowEdits) (state : ClusterState F) → (seen_of contents).holds state → AllRead changes state
  each_read [] state held = tt
  each_read (change ∷ changes) state held = ((seen_of contents).each_readable state held change.row, each_read changes state held)

  of_all : (changes : List RowEdits) (old new : ClusterState F) → AppliesAll (seen_of contents) changes old new → Makes (seen_of contents) (AllRead changes old) (all_edits changes) old new
  of_all changes old new applies = record { still = applies.still; readable = applies.readable; made = applies.made; room = applies.room; stays = applies.stays }

  to_all : {W : Type 0} (changes : List RowEdits) (old new : Recorded F W) → Makes (seen_recorded contents) (AllRead changes old.cluster) (all_edits changes) old new → AppliesAll (seen_recorded contents) changes old new
  to_all changes old new makes = record { still = makes.still; readable = makes.readable; made = makes.made; room = makes.room; stays = makes.stays }

  pub all_plain : {W : Type 0} (changes : List RowEdits) (old new : Recorded F W) → old.journal ≡ None → new.journal ≡ None → AppliesAll (seen_of contents) changes old.cluster new.cluster → AppliesAll (seen_recorded contents) changes old new
  all_plain changes old new none still_none applies =
      to_all changes old new (makes_plain (AllRead changes old.cluster) (all_edits changes) old new none still_none (of_all changes old.cluster new.cluster applies))

  pub all_recorded : {W : Type 0} → Replays → (changes : List RowEdits) → AllByRecursion IsStoredEdit (all_edits changes) → (old new : Recorded F W) (journal : JournalView) → old.journal ≡ Some journal → new.journal ≡ Some (with_waiting (all_edits changes) journal)
      → AppliesAll (seen_of contents) changes old.cluster new.cluster → AppliesAll (seen_recorded contents) changes old new
  all_recorded replays changes are_stored old new journal was is applies =
      to_all changes old new
      (makes_recorded replays (AllRead changes old.cluster) (all_edits changes) are_stored old new journal was is (each_read changes old.cluster) (of_all changes old.cluster new.cluster applies))

-- ---- the room of the memtables

module _ {F : Type 0} (contents : F → Option Contents) where
  -- the room of a cluster after edits
  abbrev LeavesRoom : List Edit → ClusterState F → ClusterState F → Type 0
  LeavesRoom edits old new = (r : List ℕ) (later : List Edit) → OverfillsCluster new r later → OverfillsCluster old r later ⊎ OverfillsCluster old r (edits ++ later)

  room_plain : {W : Type 0} (edits : List Edit) (old new : Recorded F W) → old.journal ≡ None → LeavesRoom edits old.cluster new.cluster → FitsMemtables old → FitsMemtables new
  room_plain edits old new none room fits = λ r later full. absurd (elim (room r later full) [
    | inl before ↦ subst (λ (o : Option JournalView). OverfillsJournal o later) none (fits r later before)
    | inr after ↦ subst (λ (o : Option JournalView). OverfillsJournal o (edits ++ later)) none (fits r (edits ++ later) after)
  ])

  room_recorded : {W : Type 0} (edits : List Edit) (old new : Recorded F W) (journal : JournalView) → old.journal ≡ Some journal → new.journal ≡ Some (with_waiting edits journal) → LeavesRoom edits old.cluster new.cluster → FitsMemtables old → FitsMemtables new
  room_recorded edits old new journal was is room fits = λ r later full. subst (λ (o : Option JournalView). OverfillsJournal o later) (sym is) (elim (room r later full) [
    | inl before ↦ less_now journal edits later (subst (λ (o : Option JournalView). OverfillsJournal o later) was (fits r later before))
    | inr after ↦ more_room journal edits later (subst (λ (o : Option JournalView). OverfillsJournal o (edits ++ later)) was (fits r (edits ++ later) after))
  ])

  pub fits_plain : {W : Type 0} (row : List ℕ) (edits : List Edit) (old new : Recorded F W) → old.journal ≡ None → Applies (seen_of contents) row edits old.cluster new.cluster → FitsMemtables old → FitsMemtables new
  fits_plain row edits old new none applies = room_plain edits old new none applies.room

  pub fits_recorded : {W : Type 0} (row : List ℕ) (edits : List Edit) (old new : Recorded F W) (journal : JournalView) → old.journal ≡ Some journal → new.journal ≡ Some (with_waiting edits journal) → Applies (seen_of contents) row edits old.cluster new.cluster → FitsMemtables old → FitsMemtables new
  fits_recorded row edits old new journal was is applies = room_recorded edits old new journal was is applies.room

  pub all_fits_plain : {W : Type 0} (changes : List RowEdits) (old new : Recorded F W) → old.journal ≡ None → AppliesAll (seen_of contents) changes old.cluster new.cluster → FitsMemtables old → FitsMemtables new
  all_fits_plain changes old new none applies = room_plain (all_edits changes) old new none applies.room

  pub all_fits_recorded : {W : Type 0} (changes : List RowEdits) (old new : Recorded F W) (journal : JournalView) → old.journal ≡ Some journal → new.journal ≡ Some (with_waiting (all_edits changes) journal) → AppliesAll (seen_of contents) changes old.cluster new.cluster → FitsMemtables old → FitsMemtables new
  all_fits_recorded changes old new journal was is applies = room_recorded (all_edits changes) old new journal was is applies.room

-- ---- the room for edits of several rows

-- a journal has room for the edits in the middle after those before them
pub room_between : (journal : JournalView) (before edits after : List Edit) → HasRoomFor journal (before ++ (edits ++ after)) → HasRoomFor (with_waiting before journal) edits
room_between journal before edits after room =
    let e = room.edits in
    let b = room.bytes in
    let both = length-append before (edits ++ after) in
    let rest = length-append edits after in
    let all = entries_length before (edits ++ after) in
    let some = entries_length edits after in
    record { edits = omega (arith, e, both, rest); bytes = omega (arith, b, all, some) }

-- the edits before a change, its own, and those after it
pub edits_parted : (changes : List RowEdits) (i : ℕ) (change : RowEdits) → i < length changes → change ≡ slice_index_or changes i change → all_edits changes ≡ all_edits (take i changes) ++ (change.edits.items ++ all_edits (drop (suc i) changes))
edits_parted [] i change below is = absurd (omega arith)
edits_parted (c ∷ cs) zero change below is = ap (λ (d : RowEdits). d.edits.items ++ all_edits cs) (sym is)
edits_parted (c ∷ cs) (suc i) change below is =
    ap (λ es. c.edits.items ++ es) (edits_parted cs i change (omega arith) is)
    ∙ sym (append_assoc c.edits.items (all_edits (take i cs)) (change.edits.items ++ all_edits (drop (suc i) cs)))

module _ {F W : Type 0} (changes : List RowEdits) (rows : Recorded F W) where
  -- the memtable of one row, and a journal, would exceed a limit
  pub all_full : OverfillsOne OverfillsCluster changes rows.cluster → OverfillsOne OverfillsRecorded changes rows
  all_full full = record { change = full.change; among = full.among; over = inl full.over }

  pub journal_full : (journal : JournalView) → rows.journal ≡ Some journal → IsWithin journal → ¬ HasRoomFor journal (all_edits changes) → OverfillsOne OverfillsRecorded changes rows
  journal_full journal was within = go changes
    where
      go : (cs : List RowEdits) → ¬ HasRoomFor journal (all_edits cs) → OverfillsOne OverfillsRecorded cs rows
      go [] none =
          let e = within.edits in
          let b = within.bytes in
          absurd (none (record { edits = omega (arith, e); bytes = omega (arith, b) }))
      go (c ∷ cs) none = record { change = c; among = (zero, omega arith, refl); over = inr (subst (λ (o : Option JournalView). OverfillsJournal o (all_edits (c ∷ cs))) (sym was) none) }

  pub within_plain : rows.journal ≡ None → ¬ OverfillsOne OverfillsCluster changes rows.cluster → ¬ OverfillsOne OverfillsRecorded changes rows
  within_plain none fits full = elim full.over [
    | inl over ↦ fits (record { change = full.change; among = full.among; over = over })
    | inr over ↦ subst (λ (o : Option JournalView). OverfillsJournal o (all_edits changes)) none over
  ]

  pub within_recorded : (journal : JournalView) → rows.journal ≡ Some journal → HasRoomFor journal (all_edits changes) → ¬ OverfillsOne OverfillsCluster changes rows.cluster → ¬ OverfillsOne OverfillsRecorded changes rows
  within_recorded journal was room fits full = elim full.over [
    | inl over ↦ fits (record { change = full.change; among = full.among; over = over })
    | inr over ↦ subst (λ (o : Option JournalView). OverfillsJournal o (all_edits changes)) was over room
  ]

-- ---- other calls of a cluster

-- no command of upkeep changes a cell
unchanged : (old new : Cells) (request : Command) (result : Outcome) → IsOfUpkeep request → AnswersFromCells old request result new → new ≡ old
unchanged old new (command.Newest row family qualifier lo hi) (outcome.Newest found) of is = is.1
unchanged old new (command.NextCell after) (outcome.NextCell found) of is = is.1
unchanged old new (command.Minor tablet) outcome.Done of is = is
unchanged old new (command.Merge tablet count) outcome.Done of is = is
unchanged old new (command.Major tablet) outcome.Done of is = is
unchanged old new (command.Split row) (outcome.Split left) of is = is
unchanged old new (command.Move tablet server) outcome.Done of is = is
unchanged old new command.Sweep (outcome.Swept count) of is = is
unchanged old new command.DropCaches outcome.Done of is = is
unchanged old new request (outcome.Refused refusal) of is = is.1
unchanged old new (command.Apply row edits) result of is = absurd of
unchanged old new request result of is = absurd is

module _ {F : Type 0} (contents : F → Option Contents) (faults : F → ℕ) where
  on : (old new : ClusterState F) → cells_shown contents new ≡ cells_shown contents old
      → ((root : RootView) (cells : Cells) → HasRoot contents root cells old → HasRoot contents root cells new)
      → (edits : List Edit) → Tracks contents old edits → Tracks contents new edits
  on old new same goes edits tracks = record { root = tracks.root; base = tracks.base; has = goes tracks.root tracks.base tracks.has; replay = tracks.replay ∙ sym same }

  -- from a new root the journal's edits lead to the cells shown
  rests_all : Replays → (top floor : ℕ) (old new : ClusterState F) → Rests contents top floor old new → Holds contents old → cells_shown contents new ≡ cells_shown contents old → (edits : List Edit) → Tracks contents old edits → Tracks contents new edits
  rests_all replays top floor old new rests holds same edits tracks = record {
    root = root_at top floor new;
    base = cells_shown contents old;
    has = (rests holds).has;
    replay = ap (λ (cells : Cells). after_edits cells edits) (sym tracks.replay) ∙ (replays.again tracks.base edits ∙ (tracks.replay ∙ sym same));
  }

  pub keeps_following : Replays → RootStays contents faults → RootOutlastsFlushes contents faults → RootOutlastsMerges contents faults → RootOutlastsSweeps contents faults → KeepsFollowing contents faults
  keeps_following replays stay outlast_flushes outlast_merges outlast_sweeps = record {
    commands = λ request result journal old new is of other holds. each_such
        (on old new (unchanged _ _ request result of (is.answers holds)) (λ root cells. (stay request result root cells old new is).0 (λ sweep. absurd (other sweep)))) journal;
    root_sweeps = λ result journal old new is holds. each_such (on old new (is.shown holds) (λ root cells. outlast_sweeps.stays root cells result old new is)) journal;
    flushes = λ limits journal old new is keeps holds. each_such (on old new (keeps.kept holds).1 (λ root cells. ((outlast_flushes root cells old new).0 limits is).0)) journal;
    merges = λ policy journal old new is keeps holds. each_such (on old new (keeps.kept holds).1 (λ root cells. outlast_merges root cells old new policy is)) journal;
    roots = λ journal old new goes keeps holds. each_such (on old new (keeps.kept holds).1 goes) journal;
    checkpoints = λ top floor journal old new rests keeps holds. each_such (rests_all replays top floor old new rests holds (keeps.kept holds).1) journal;
    rests = λ top floor old new rests keeps holds. record { root = root_at top floor new; base = cells_shown contents old; has = (rests holds).has; replay = sym (keeps.kept holds).1 };
    refused = λ top floor journal old new either keeps holds. elim either [
      | inl goes ↦ each_such (on old new (keeps.kept holds).1 (λ root cells. (goes root cells).0)) journal
      | inr rests ↦ each_such (rests_all replays top floor old new rests holds (keeps.kept holds).1) journal
    ];
  }

-- ---- opening

module _ {F : Type 0} (contents : F → Option Contents) where
  opened_of : (m : Contents) (top floor : ℕ) (state : ClusterState F) → contents state.files ≡ Some m → (image : List ℕ) → get m root_name ≡ Some image → IsOpenedOf m top floor image state → Tracks contents state []
  opened_of m top floor state known image there opened = record {
    root = root_at top floor state;
    base = cells_in (Some m) state.tablets;
    has = record {
      kept = m;
      on_disk = known;
      keeps = record { image = image; there = there; form = opened.form; measured = opened.measured; tablets = state.tablets; opened = opened.opened; shows = refl };
      below = omega arith;
    };
    replay = ap (λ (disk : Option Contents). cells_in disk state.tablets) (sym known);
  }

  store_of : (m : Contents) (top floor : ℕ) (state : ClusterState F) → contents state.files ≡ Some m → (o : Option (List ℕ)) → get m root_name ≡ o → IsSome o → IsStore m o top floor state → Tracks contents state []
  store_of m top floor state known None there some store = absurd (false≢true some)
  store_of m top floor state known (Some image) there some store = opened_of m top floor state known image there store

  pub opens_following : OpensFollowing contents
  opens_following = record {
    reopened = λ root cells top floor state is. record { root = root; base = cells; has = is.keeps.has; replay = sym is.shows };
    opened = λ m top floor state known some store. store_of m top floor state known (get m root_name) refl some store;
    fits = λ state journal emptied. empty_fits state journal emptied;
  }
