-- Effects on the cluster of a call of one tablet.
use Rattle.std.proofs.Common.{◌≡◌, ◌∙◌, ◌⊎◌, ℕ, List, [], ◌++◌, set, slice_get, Option, Some, Result, Ok, Err, OnOk, refl, sym, ap, subst}
use Rattle.cell_key.specs.Cells.{Cells, after_edits}
use Rattle.cell_key.specs.declared.edits.Edit.{Edit}
use Rattle.cell_key.specs.declared.refusals.Refusal.{Refusal}
use Rattle.file_store.specs.Store.{Contents}
use Rattle.tablet.specs.Views.{IsSameTablet}
use Rattle.tablet.specs.declared.tablet.Tablet.{Tablet}
use Rattle.rows.specs.Calls.{Applies, OnlyReads, StaysReadable, View}
use Rattle.row_atomic.specs.Seen.{seen_of}
use Rattle.row_atomic.specs.Changes.{Holds}
use Rattle.row_atomic.specs.Clusters.{ClusterState, IsReadable, Overfills, cells_in}
use Rattle.rows.proofs.Calls.{reads_none}
use Rattle.row_atomic.proofs.RowAnswers.{read_kept, read_still, still_in_order}
use Rattle.row_atomic.proofs.CompactionRoom.{room_same}
use Rattle.row_atomic.proofs.MergeStates.{told_still}
use Rattle.row_atomic.proofs.PlacedTablets.{set_same}
use Rattle.row_atomic.proofs.Readable.{read_stays, readable_set}

module _ {F : Type 0} (contents : F → Option Contents) (state : ClusterState F) where
  abbrev IsOrdered : ClusterState F → Type 0
  IsOrdered cluster = Holds contents cluster

  abbrev cells_shown : ClusterState F → Cells
  cells_shown cluster = cells_in (contents cluster.files) cluster.tablets

  abbrev IsOver : ClusterState F → List ℕ → List Edit → Type 0
  IsOver cluster row edits = Overfills cluster.places cluster.tablets row edits

  abbrev shown : View (ClusterState F)
  shown = seen_of contents

  abbrev with_tablet : ℕ → Tablet → ClusterState F
  with_tablet i u = record state { tablets = set state.tablets i u }

  -- a tablet that is unchanged
  pub same_tablet : (i : ℕ) (t u : Tablet) → slice_get state.tablets i ≡ Some t → u ≡ t → OnlyReads shown state (with_tablet i u)
  same_tablet i t u there same = subst (λ (ts : List Tablet). OnlyReads shown state (record state { tablets = ts })) (sym (ap (set state.tablets i) same ∙ set_same state.tablets i t there)) reads_none

  -- a read that leaves the tablet and the files' contents the same
  pub tablet_read : (i : ℕ) (t u : Tablet) (files : F) → slice_get state.tablets i ≡ Some t → IsSameTablet (contents state.files) t u → contents files ≡ contents state.files
      → OnlyReads shown state (record state { files = files; tablets = set state.tablets i u })
  tablet_read i t u files there stays same = record {
    still = λ held. (
      read_still (contents state.files) (contents files) state.next_name state.tablets i t u there stays same held.0,
      told_still (contents state.files) (contents files) state.file_limit state.next_name state.merge same held.1,
    );
    readable = λ row whole. subst (λ (o : Option Contents). IsReadable o state.places (set state.tablets i u) row) (sym same)
        (readable_set (contents state.files) state.places state.tablets i t u there (read_stays (contents state.files) t u stays) row whole);
    kept = read_kept (contents state.files) (contents files) state.next_name state.tablets i t u there stays same;
    room = λ row later. room_same state.places state.tablets i t u there stays.range stays.memory row later;
    stays = λ k. record { disk = same k; file_limit = state.file_limit; next_name = state.next_name; places = state.places; logged = [] };
  }

  -- files with the same contents
  pub files_read : (files : F) → contents files ≡ contents state.files → OnlyReads shown state (record state { files = files })
  files_read files same = record {
    still = λ held. (
      still_in_order (contents state.files) (contents files) state.next_name state.tablets same held.0,
      told_still (contents state.files) (contents files) state.file_limit state.next_name state.merge same held.1,
    );
    readable = λ row whole. subst (λ (o : Option Contents). IsReadable o state.places state.tablets row) (sym same) whole;
    kept = ap (λ (o : Option Contents). cells_in o state.tablets) same;
    room = λ row later full. full;
    stays = λ k. record { disk = same k; file_limit = state.file_limit; next_name = state.next_name; places = state.places; logged = [] };
  }

  -- a tablet in which edits were made
  pub applied_in : (i : ℕ) (u : Tablet) (row : List ℕ) (edits : List Edit) {A : Type 0} (r : Result A Refusal) → (IsOrdered state → IsOrdered (with_tablet i u)) → OnOk r (StaysReadable shown state (with_tablet i u))
      → (shown.readable state row → OnOk r (cells_shown (with_tablet i u) ≡ after_edits (cells_shown state) edits))
      → OnOk r ((r : List ℕ) (later : List Edit) → IsOver (with_tablet i u) r later → IsOver state r later ⊎ IsOver state r (edits ++ later))
      → OnOk r (Applies shown row edits state (with_tablet i u))
  applied_in i u row edits (Err e) still readable made room = tt
  applied_in i u row edits (Ok x) still readable made room = record { still = still; readable = readable; made = made; room = room; stays = refl }
