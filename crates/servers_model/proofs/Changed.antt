-- The cells change as by the steps of sessions, cleaners and collectors.
use Rattle.std.proofs.Common.{◌≡◌, ◌∙◌, ℕ, List, inl, inr, Bool, true, false, refl, sym, subst}
use Rattle.std.specs.Prelude.{Result, Ok, Err, OnErr, IfOk}
use Rattle.cell_key.specs.Cells.{Cells, after_edits}
use Rattle.cell_key.specs.declared.edits.Edit.{Edit}
use Rattle.cell_key.specs.LockEdits.{IsErasing, IsRecording}
use Rattle.cell_key.specs.declared.columns.WriteKind.{WriteKind}
use Rattle.cell_key.specs.declared.refusals.Refusal.{Refusal}
use Rattle.rows.specs.Calls.{OnlyReads, View}
use Rattle.rows.specs.Room.{AreAfter}
use Rattle.rows.specs.Sources.{Source}
use Rattle.si_model.specs.Collection.{ChangesCells, Collects, unchanged, locks_cell, records_commit, erases_lock, erases_versions}
use Rattle.si_model.specs.Machine.{State, Commit, Phase, Open, Holding, Stamped, Finishing, Writes, Cleaner, InPhase, CommittedAt}
use Rattle.si_model.specs.Servers.{Own, IsPartOf, IsReachedByServers, view}
use Rattle.si_model.specs.ShowsCells.{MayLack, kind_of_change, recorded_cells}
use Rattle.si_model.specs.declared.replies.Cell.{Cell}
use Rattle.si_model.specs.declared.replies.CleanReply.{CleanReply}
use Rattle.si_model.specs.declared.replies.CleanReply.TheVariants as cleans
use Rattle.si_model.specs.declared.replies.Progress.{Progress}
use Rattle.si_model.specs.declared.replies.Progress.TheVariants as steps
use Rattle.si_model.proofs.EditedCells.{make_cells}
use Rattle.si_model.proofs.Steps.{servers_sound}
use Rattle.txn_client.specs.Room as sessions
use Rattle.txn_client.specs.Refusals.{StepLeaves}
use Rattle.txn_client.specs.Shows.{InEachShown}
use Rattle.txn_client.specs.declared.sessions.Clients.{Clients}
use Rattle.txn_client.proofs.Room.{holding_makes}
use Rattle.clean_up.specs.Room as cleaners
use Rattle.clean_up.specs.Shows as clean
use Rattle.clean_up.specs.declared.cleaners.Cleaners.{Cleaners}
use Rattle.servers_model.specs.Merged.{turn_of}

-- ---- by the edits of a step

module _ (cells cells' : Cells) (st : State) where
  pub unchanged_if : cells' ≡ cells → ChangesCells cells st cells'
  unchanged_if same = subst (ChangesCells cells st) (sym same) unchanged

  held : (t k : ℕ) (p : Phase) (ws : Writes) (row : List ℕ) (edits : List Edit) → InPhase st t p → sessions.HoldsNext st ws k t row edits → cells' ≡ after_edits cells edits
      → ChangesCells cells st cells'
  held t k p ws row edits phase next is =
      subst (ChangesCells cells st) (sym (is ∙ holding_makes cells next.0 next.1 t next.2 edits next.8)) (locks_cell next.0 t p next.2 next.1 phase)

  recorded : (x : Cell) (t c : ℕ) (kind : WriteKind) (edits : List Edit) → ChangesCells cells st (recorded_cells cells x t c kind) → IsRecording x.row x.family t c kind edits → cells' ≡ after_edits cells edits → ChangesCells cells st cells'
  recorded x t c kind edits changes recording is = subst (ChangesCells cells st) (sym (is ∙ (make_cells cells x t edits).recorded c kind recording)) changes

  erased : (x : Cell) (t : ℕ) (edits : List Edit) → IsErasing x.row x.family t edits → cells' ≡ after_edits cells edits → ChangesCells cells st cells'
  erased x t edits erasing is = subst (ChangesCells cells st) (sym (is ∙ (make_cells cells x t edits).erased erasing)) (erases_lock x t)

  next_changes : (t : ℕ) (p : Phase) (ws : Writes) (row : List ℕ) (edits : List Edit) → IsReachedByServers st → InPhase st t p → sessions.ChangesIn st p ws t row edits
      → cells' ≡ after_edits cells edits → ChangesCells cells st cells'
  next_changes t Open ws row edits reached phase next is = held t 0 Open ws row edits phase next is
  next_changes t (Holding k) ws row edits reached phase next is = held t k (Holding k) ws row edits phase next is
  next_changes t (Stamped c) ws row edits reached phase next is = recorded next.0 t c (kind_of_change next.1) edits (records_commit next.0 t c (kind_of_change next.1) next.3 (inr phase)) next.5 is
  next_changes t (Finishing c k) ws row edits reached phase next is =
      let committed : CommittedAt st t c = (servers_sound reached).finishes t (Finishing c k) phase c k refl in
      recorded next.0 t c (kind_of_change next.1) edits (records_commit next.0 t c (kind_of_change next.1) next.3 (inl committed)) next.5 is

  after_step : (t : ℕ) → IsReachedByServers st → AreAfter (sessions.ChangesNext st t) cells cells' → ChangesCells cells st cells'
  after_step t reached (row, edits, next, is) = next_changes t next.0 next.1 row edits reached next.2 next.4 is

  pub step_changes : (t : ℕ) (progress : Progress) → IsReachedByServers st → sessions.Makes (sessions.ChangesNext st t) progress cells cells' → ChangesCells cells st cells'
  step_changes t (steps.Held k n) reached made = after_step t reached made
  step_changes t (steps.Committed c) reached made = after_step t reached made
  step_changes t (steps.Finished k n) reached made = elim made [
    | inl after ↦ after_step t reached after
    | inr same ↦ unchanged_if same
  ]
  step_changes t (steps.Conflict place) reached made = unchanged_if made
  step_changes t (steps.Stamped c) reached made = unchanged_if made
  step_changes t steps.Lost reached made = unchanged_if made

  cleaner_changes : (k : Cleaner) (decided : Bool) (row : List ℕ) (edits : List Edit) → cleaners.ChangesOf st k decided row edits → cells' ≡ after_edits cells edits → ChangesCells cells st cells'
  cleaner_changes k false row edits next is = erased next.0 k.start edits next.4 is
  cleaner_changes k true row edits next is = elim next.2 [
    | inl forward ↦ recorded k.cell k.start forward.0 (kind_of_change forward.1) edits (records_commit k.cell k.start forward.0 (kind_of_change forward.1) next.0 (inl forward.2)) forward.4 is
    | inr back ↦ erased k.cell k.start edits back.1 is
  ]

  after_clean : (i : ℕ) → AreAfter (cleaners.ChangesNext st i) cells cells' → ChangesCells cells st cells'
  after_clean i (row, edits, next, is) = cleaner_changes next.0 next.0.decided row edits next.2 is

  pub clean_changes : (i : ℕ) (done : CleanReply) → cleaners.Makes (cleaners.ChangesNext st i) done cells cells' → ChangesCells cells st cells'
  clean_changes i cleans.Decided made = elim made [
    | inl after ↦ after_clean i after
    | inr same ↦ unchanged_if same
  ]
  clean_changes i (cleans.RolledForward c) made = after_clean i made
  clean_changes i cleans.RolledBack made = after_clean i made
  clean_changes i cleans.Gone made = unchanged_if made

-- ---- by the result of a call

module _ {R : Type 0} (seen : View R) (clients : Clients) (start : ℕ) (old new : R) (holds : seen.holds old) where
  pub result_changes : {S : Type 0} (source : Source S) (stamps stamps' : S) (r : Result Progress Refusal)
      → OnErr r (StepLeaves seen source old new stamps stamps') → IfOk r (λ p. sessions.StepMakes seen clients start p old new) → InEachShown (seen.cells old) clients (λ st. ChangesCells (seen.cells old) st (seen.cells new))
  result_changes source stamps stamps' (Ok p) left made st reached store shown = step_changes (seen.cells old) (seen.cells new) st start p reached (made.made holds st reached store shown)
  result_changes source stamps stamps' (Err n) left made st reached store shown = unchanged_if (seen.cells old) (seen.cells new) st left.same.kept

module _ {R : Type 0} (seen : View R) (kept : Cleaners) (number : ℕ) (old new : R) where
  pub cleaned_changes : (r : Result CleanReply Refusal) → OnErr r (OnlyReads seen old new)
      → IfOk r (λ reply. clean.InEachShown (seen.cells old) kept (λ st. cleaners.Makes (cleaners.ChangesNext st number) reply (seen.cells old) (seen.cells new)))
      → clean.InEachShown (seen.cells old) kept (λ st. ChangesCells (seen.cells old) st (seen.cells new))
  cleaned_changes (Ok reply) left made st reached store shown = clean_changes (seen.cells old) (seen.cells new) st number reply (made st reached store shown)
  cleaned_changes (Err n) left made st reached store shown = unchanged_if (seen.cells old) (seen.cells new) st left.kept

-- ---- in the whole machine

module _ (cells : Cells) (st : State) (own : Own) (part : IsPartOf own st) where
  lacks_in_turn : (cells' : Cells) (x : Cell) (a : Commit) → MayLack cells' (view st own) x a → MayLack cells' (turn_of st own) x a
  lacks_in_turn cells' x a (inl r) = inl r
  lacks_in_turn cells' x a (inr f) = inr (record { deletes = f.deletes; cleared = f.cleared; oldest = f.oldest })

  collects_in_turn : (cells' : Cells) → Collects cells cells' (view st own) → Collects cells cells' (turn_of st own)
  collects_in_turn cells' c = record {
    locks = c.locks;
    records = λ x s. elim (c.records x s) [ inl same ↦ inl same | inr (gone, lacks) ↦ inr (gone, λ a i names at. lacks_in_turn cells' x a (lacks a i names at)) ];
    values = c.values;
    together = c.together;
  }

  pub changes_in_turn : (cells' : Cells) → ChangesCells cells (view st own) cells' → ChangesCells cells (turn_of st own) cells'
  changes_in_turn _ unchanged = unchanged
  changes_in_turn _ (locks_cell x t p v first h) = locks_cell x t p v first (part.sessions t p h)
  changes_in_turn _ (records_commit x t c kind m by) = records_commit x t c kind m (elim by [ inl committed ↦ inl committed | inr stamped ↦ inr (part.sessions t (Stamped c) stamped) ])
  changes_in_turn _ (erases_lock x t) = erases_lock x t
  changes_in_turn _ (erases_versions cells' collects) = erases_versions cells' (collects_in_turn cells' collects)
