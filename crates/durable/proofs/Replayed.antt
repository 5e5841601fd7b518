-- Edits that are made once more, one after the other.
use Rattle.std.proofs.Common.{◌≡◌, ◌+◌, ℕ, List, [], ◌∷◌, ◌++◌, length, Option, None, Some, inl, inr, refl, sym, ap, ◌∙◌, subst, arith, length-append, append_assoc, append-nil}
use Rattle.std.specs.Prelude.{Err, IsErrAnd, IsErrOf, Ok, Result, option_map}
use Rattle.std.specs.List.{AllByRecursion}
use Rattle.std.proofs.lemmas.List.Concat.{flat_map-append}
use Rattle.cell_key.specs.Cells.{Cells, after_edits}
use Rattle.cell_key.specs.declared.edits.Edit.{Edit}
use Rattle.commit_log.specs.Edits.{IsStoredEdit, spelled_edit, spelled_edits, spelled_entries, spelled_entry}
use Rattle.file_store.specs.Store.{Contents}
use Rattle.metadata_table.specs.Roots.{RootView}
use Rattle.rows.specs.Calls.{Applies}
use Rattle.row_atomic.specs.Changes.{Holds}
use Rattle.row_atomic.specs.Clusters.{ClusterState, storage_of}
use Rattle.rows.specs.Storage.{Storage}
use Rattle.row_atomic.specs.Journals.{HasRoomFor, JournalView, all_logged, empty_journal, with_waiting}
use Rattle.row_atomic.specs.Recorded.{FitsMemtables, Follows, OverfillsJournal, OverfillsRecorded, seen_recorded}
use Rattle.row_atomic.specs.Roots.{RootIsStored}
use Rattle.row_atomic.specs.declared.recorded.Recorded.{Recorded}
use Rattle.durable.specs.Replay.{FollowsLog, HasRoom, Replays, ShowsRoot, logged_journal}
use Rattle.server_loop.specs.Server.{machine_places}

-- ---- storage

-- storage without its logged edits
pub below : {F W : Type 0} → (contents : F → Option Contents) → (old new : Recorded F W) → (seen_recorded contents).storage new ≡ (seen_recorded contents).storage old → storage_of contents new.cluster ≡ storage_of contents old.cluster
below contents old new same = ap (λ (s : Storage). record s { logged = [] }) same

-- ---- the edits of a journal

written_on : (first then : List Edit) (journal : Option JournalView) → option_map (with_waiting then) (option_map (with_waiting first) journal) ≡ option_map (with_waiting (first ++ then)) journal
written_on first then None = refl
written_on first then (Some journal) =
    let bytes : (journal.waiting ++ spelled_edits first) ++ spelled_edits then ≡ journal.waiting ++ spelled_edits (first ++ then) = append_assoc journal.waiting (spelled_edits first) (spelled_edits then) ∙ ap (λ (x : List ℕ). journal.waiting ++ x) (sym (flat_map-append spelled_edit first then)) in
    let count : (journal.count + length first) + length then ≡ journal.count + length (first ++ then) = omega (arith, length-append first then) in
    let size : (journal.entry_bytes + length (spelled_entries first)) + length (spelled_entries then) ≡ journal.entry_bytes + length (spelled_entries (first ++ then)) =
    omega (arith, ap length (flat_map-append spelled_entry first then), length-append (spelled_entries first) (spelled_entries then)) in
    λ i. Some (record { logged = journal.logged; waiting = bytes i; count = count i; entry_bytes = size i })

-- all edits that were put into an empty journal are logged
pub all_logged_now : (edits : List Edit) → option_map all_logged (Some (with_waiting edits empty_journal)) ≡ Some (logged_journal edits)
all_logged_now edits =
    let count : 0 + length edits ≡ length edits = omega arith in
    let size : 0 + length (spelled_entries edits) ≡ length (spelled_entries edits) = omega arith in
    λ i. Some (record { logged = spelled_edits edits; waiting = []; count = count i; entry_bytes = size i })

pub none_left : (edits : List Edit) → length edits ≡ 0 → edits ≡ []
none_left [] is = refl
none_left (e ∷ es) is = absurd (omega (arith, is))

abbrev pub err_of : {E : Type 0} (T : Type 0) → E → Result T E
err_of T e = Err e

-- a refusal that is handed on
pub handed_on : {T U E : Type 0} (r : Result T E) (e f : E) → IsErrAnd r (λ g. g ≡ e) → r ≡ Err f → IsErrOf (err_of U e) f
handed_on (Ok x) e f by is = absurd by
handed_on (Err g) e f by is = let s : g ≡ f = cc in ap Err (sym by ∙ s)

module _ {F W : Type 0} (contents : F → Option Contents) where
  pub replays_none : (rows : Recorded F W) → Replays contents [] rows rows
  replays_none rows = record {
    still = λ held. held;
    made = λ held. refl;
    written = none rows.journal;
    stays = refl;
    fits = λ f. f;
  }
    where
      none : (journal : Option JournalView) → journal ≡ option_map (with_waiting []) journal
      none None = refl
      none (Some journal) =
          let bytes : journal.waiting ≡ journal.waiting ++ [] = sym (append-nil journal.waiting) in
          let count : journal.count ≡ journal.count + 0 = omega arith in
          let size : journal.entry_bytes ≡ journal.entry_bytes + 0 = omega arith in
          λ i. Some (record { logged = journal.logged; waiting = bytes i; count = count i; entry_bytes = size i })

  pub replays_one : (edit : Edit) (rest : List Edit) (a b c : Recorded F W) → Replays contents (edit ∷ []) a b → Replays contents rest b c → Replays contents (edit ∷ rest) a c
  replays_one edit rest a b c first then = record {
    still = λ held. then.still (first.still held);
    made = λ held. then.made (first.still held) ∙ ap (λ (cells : Cells). after_edits cells rest) (first.made held);
    written = then.written ∙ ap (option_map (with_waiting rest)) first.written ∙ written_on (edit ∷ []) rest a.journal;
    stays = then.stays ∙ first.stays;
    fits = λ f. then.fits (first.fits f);
  }

  pub applied : (row : List ℕ) (edits : List Edit) (old new : Recorded F W) → Applies (seen_recorded contents) row edits old new → new.journal ≡ option_map (with_waiting edits) old.journal → (FitsMemtables old → FitsMemtables new) → Replays contents edits old new
  applied row edits old new made written fits = record {
    still = made.still;
    made = λ held. made.made ((seen_recorded contents).each_readable old held row);
    written = written;
    stays = below contents old new made.stays;
    fits = fits;
  }

-- ---- room

-- there is room for one after the other
pub room_then : (journal : Option JournalView) (edit : Edit) (rest : List Edit) → HasRoom journal (edit ∷ rest) → HasRoom (option_map (with_waiting (edit ∷ [])) journal) rest
room_then None edit rest room = room
room_then (Some journal) edit rest room =
    let edits = room.edits in
    let bytes = room.bytes in
    let front = length-append (spelled_entry edit) [] in
    let all = length-append (spelled_entry edit) (spelled_entries rest) in
    record { edits = omega (arith, edits); bytes = omega (arith, bytes, front, all) }

room_first : (journal : JournalView) (edit : Edit) (rest : List Edit) → HasRoomFor journal (edit ∷ rest) → HasRoomFor journal (edit ∷ [])
room_first journal edit rest room =
    let edits = room.edits in
    let bytes = room.bytes in
    let front = length-append (spelled_entry edit) [] in
    let all = length-append (spelled_entry edit) (spelled_entries rest) in
    record { edits = omega (arith, edits); bytes = omega (arith, bytes, front, all) }

pub not_full : {F W : Type 0} → (rows : Recorded F W) (row : List ℕ) (edit : Edit) (rest : List Edit) → FitsMemtables rows → HasRoom rows.journal (edit ∷ rest) → OverfillsRecorded rows row (edit ∷ []) → ⊥
not_full rows row edit rest fits room over = by rows.journal room (elim over [ inl cluster ↦ fits row (edit ∷ []) cluster | inr journal ↦ journal ])
  where
    by : (journal : Option JournalView) → HasRoom journal (edit ∷ rest) → OverfillsJournal journal (edit ∷ []) → ⊥
    by None room over = over
    by (Some journal) room over = over (room_first journal edit rest room)

-- ---- a log's edits over the files' cells

module _ {F : Type 0} (contents : F → Option Contents) (stored : RootIsStored contents) where
  pub starts : (state : ClusterState F) (root : RootView) (base : Cells) → ShowsRoot contents root base state → Holds contents state × Follows contents state (Some empty_journal)
  starts state root base shows = (
    shows.holds,
    record {
      logged = [];
      waiting = [];
      logged_bytes = refl;
      waiting_bytes = refl;
      counted = refl;
      measured = refl;
      stored = tt;
      such = record { root = root; base = base; has = shows.has; replay = sym shows.shows };
    },
  )

  pub follows_log : {W : Type 0} (old : ClusterState F) (mid : Recorded F W) (edits : List Edit) (root : RootView) (base : Cells) → ShowsRoot contents root base old → AllByRecursion IsStoredEdit edits → Replays contents edits (record { cluster = old; journal = Some empty_journal }) mid
      → FollowsLog {W = W} contents root base edits (record { cluster = mid.cluster; journal = Some (logged_journal edits) })
  follows_log {W} old mid edits root base shows all made =
      let from = starts old root base shows in
      let has = (stored root base old mid.cluster made.stays).0 shows.has in
      let cells = made.made from ∙ ap (λ (cells : Cells). after_edits cells edits) shows.shows in
      let same = append-nil edits in
      record {
        holds = (
          (made.still from).0,
          record {
            logged = edits;
            waiting = [];
            logged_bytes = refl;
            waiting_bytes = refl;
            counted = ap length (sym same);
            measured = ap (λ (es : List Edit). length (spelled_entries es)) (sym same);
            stored = subst (AllByRecursion IsStoredEdit) (sym same) all;
            such = record { root = root; base = base; has = has; replay = ap (after_edits base) same ∙ sym cells };
          },
        );
        has = has;
        placed = shows.placed ∙ ap (λ (s : Storage). machine_places s.places) (sym made.stays);
        shows = cells;
        journal = refl;
      }
