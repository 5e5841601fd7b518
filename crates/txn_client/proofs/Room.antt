-- The effect of a step on the rows, from its session and from the state.
use Rattle.std.proofs.Common.{◌≡◌, ◌∙◌, ℕ, List, [], ◌∷◌, length, Some, None, refl, inl, inr, sym, subst}
use Rattle.std.specs.Ordering.{nat_cmp}
use Rattle.std.specs.BTreeMap as btree
use Rattle.cell_key.specs.Cells.{Cells, after_edits}
use Rattle.cell_key.specs.declared.edits.Edit.{Edit}
use Rattle.rows.specs.Calls.{AppliesSuch, KeepsBelow, View}
use Rattle.rows.specs.Room.{HasNoRoom, TakesRoomOf}
use Rattle.rows.proofs.Calls.{applies_keep, reads_keep, reads_none, such_so}
use Rattle.si_model.specs.Machine as machine
use Rattle.si_model.specs.Machine.{State, Change, InPhase}
use Rattle.si_model.specs.Servers.{IsReachedByServers}
use Rattle.si_model.specs.ShowsCells.{kind_of_change, ShowsCells, Touches, TouchesOneRow, held_cells}
use Rattle.si_model.specs.declared.replies.Cell.{Cell}
use Rattle.si_model.specs.declared.replies.Progress.{Progress}
use Rattle.si_model.specs.declared.replies.Progress.TheVariants as progress
use Rattle.si_model.proofs.EditedCells.{make_cells, put_so}
use Rattle.si_model.proofs.Kept.{held_phase}
use Rattle.si_model.proofs.ShownTouched.{touches_held, touches_recorded}
use Rattle.txn_client.specs.Room.{ChangesIn, ChangesNext, Does, EditsIn, EditsOf, EditsOfStep, HoldsAt, HoldsNext, IfConflict, IsHolding, IsStamped, Makes, RecordsAt, RecordsNext, TakesRoom}
use Rattle.txn_client.specs.Shows.{phase_of, writes_of, HasHeldSo, ShowsClients, ShowsSession, IsAboutToDraw, TouchesBy}
use Rattle.txn_client.specs.declared.sessions.Clients.{Clients}
use Rattle.txn_client.specs.declared.session.Phase.{Phase}
use Rattle.txn_client.specs.declared.session.Phase.TheVariants.{Open, Holding, Stamped, Finishing}
use Rattle.txn_client.specs.declared.session.Session.{Session}
use Rattle.txn_client.proofs.Advance.{free_open}
use Rattle.txn_client.proofs.Passed.{touches_kept}
use Rattle.txn_client.proofs.SessionSteps.{held_of, puts_of, count_of}
use Rattle.txn_client.proofs.Table.{shown_some}

-- ---- the effect of a row transaction's edits on the cells

pub holding_makes : (cells : Cells) (x first : Cell) (t : ℕ) (v : Change) (edits : List Edit) → IsHolding x t v first edits → after_edits cells edits ≡ held_cells cells x t v first
holding_makes cells x first t (Some v) [] is = absurd is
holding_makes cells x first t (Some v) (a ∷ []) is = absurd is
holding_makes cells x first t (Some v) (a ∷ b ∷ []) (value, lock) = put_so cells a (b ∷ []) _ _ value ∙ put_so _ b [] _ _ lock
holding_makes cells x first t (Some v) (a ∷ b ∷ c ∷ es) is = absurd is
holding_makes cells x first t None [] is = absurd is
holding_makes cells x first t None (a ∷ []) lock = put_so cells a [] _ _ lock
holding_makes cells x first t None (a ∷ b ∷ es) is = absurd is

-- ---- the effect of a step

-- edits with one property have another
pub no_room_so : {R : Type 0} (overfills : R → List ℕ → List Edit → Type 0) (rows : R) {P Q : List ℕ → List Edit → Type 0} → ((row : List ℕ) (edits : List Edit) → P row edits → Q row edits) → HasNoRoom overfills rows P → HasNoRoom overfills rows Q
no_room_so overfills rows so (row, edits, changes, full) = (row, edits, so row edits changes, full)

module _ {R : Type 0} (seen : View R) (old new : R) where
  abbrev Made : (List ℕ → List Edit → Type 0) → Type 0
  Made P = AppliesSuch seen P old new

  -- edits with one property have another
  pub does_so : {P Q : List ℕ → List Edit → Type 0} (p : Progress) → ((row : List ℕ) (edits : List Edit) → P row edits → Q row edits) → Does seen P p old new → Does seen Q p old new
  does_so (progress.Held k n) so made = such_so so made
  does_so (progress.Committed c) so made = such_so so made
  does_so (progress.Finished k n) so (inl made) = inl (such_so so made)
  does_so (progress.Finished k n) so (inr reads) = inr reads
  does_so (progress.Conflict k) so reads = reads
  does_so (progress.Stamped c) so reads = reads
  does_so progress.Lost so reads = reads

  made_below : {P : List ℕ → List Edit → Type 0} → Made P → KeepsBelow seen old new
  made_below made = applies_keep made.applied

  pub does_below : (P : List ℕ → List Edit → Type 0) (p : Progress) → Does seen P p old new → KeepsBelow seen old new
  does_below P (progress.Held k n) made = made_below made
  does_below P (progress.Committed c) made = made_below made
  does_below P (progress.Finished k n) (inl made) = made_below made
  does_below P (progress.Finished k n) (inr reads) = reads_keep reads
  does_below P (progress.Conflict k) reads = reads_keep reads
  does_below P (progress.Stamped c) reads = reads_keep reads
  does_below P progress.Lost reads = reads_keep reads

  module _ (held : seen.holds old) where
    pub does_make : (P : List ℕ → List Edit → Type 0) (p : Progress) → Does seen P p old new → Makes P p (seen.cells old) (seen.cells new)
    does_make P (progress.Held k n) made = (made.row, made.edits, made.such, made.applied.made (seen.each_readable old held made.row))
    does_make P (progress.Committed c) made = (made.row, made.edits, made.such, made.applied.made (seen.each_readable old held made.row))
    does_make P (progress.Finished k n) (inl made) = inl (made.row, made.edits, made.such, made.applied.made (seen.each_readable old held made.row))
    does_make P (progress.Finished k n) (inr reads) = inr reads.kept
    does_make P (progress.Conflict k) reads = reads.kept
    does_make P (progress.Stamped c) reads = reads.kept
    does_make P progress.Lost reads = reads.kept

    -- edits of this kind touch the keys that are added or erased
    pub does_touch : (P : List ℕ → List Edit → Type 0) (p : Progress) (T : Type 0) → ((row : List ℕ) (edits : List Edit) → P row edits → seen.cells new ≡ after_edits (seen.cells old) edits → T) → (seen.cells new ≡ seen.cells old → T) → Does seen P p old new → T
    does_touch P (progress.Held k n) T changed kept made = changed made.row made.edits made.such (made.applied.made (seen.each_readable old held made.row))
    does_touch P (progress.Committed c) T changed kept made = changed made.row made.edits made.such (made.applied.made (seen.each_readable old held made.row))
    does_touch P (progress.Finished k n) T changed kept (inl made) = changed made.row made.edits made.such (made.applied.made (seen.each_readable old held made.row))
    does_touch P (progress.Finished k n) T changed kept (inr reads) = kept reads.kept
    does_touch P (progress.Conflict k) T changed kept reads = kept reads.kept
    does_touch P (progress.Stamped c) T changed kept reads = kept reads.kept
    does_touch P progress.Lost T changed kept reads = kept reads.kept

  made_takes : (P : List ℕ → List Edit → Type 0) → Made P → TakesRoomOf seen.overfills P old new
  made_takes P made row later full = elim (made.applied.room row later full) [
    | inl before ↦ inl before
    | inr after ↦ inr (made.row, made.edits, made.such, after)
  ]

  pub does_take : (P : List ℕ → List Edit → Type 0) (p : Progress) → Does seen P p old new → TakesRoom seen.overfills P p old new
  does_take P (progress.Held k n) made = made_takes P made
  does_take P (progress.Committed c) made = made_takes P made
  does_take P (progress.Finished k n) (inl made) = made_takes P made
  does_take P (progress.Finished k n) (inr reads) = λ row later full. inl (reads.room row later full)
  does_take P (progress.Conflict k) reads = reads.room
  does_take P (progress.Stamped c) reads = reads.room
  does_take P progress.Lost reads = reads.room

-- a step that draws a stamp only reads
pub stamped_does : {R : Type 0} (seen : View R) (rows : R) (P : List ℕ → List Edit → Type 0) (p : Progress) → IsStamped p → Does seen P p rows rows
stamped_does seen rows P (progress.Stamped c) is = reads_none
stamped_does seen rows P (progress.Held k n) is = absurd is
stamped_does seen rows P (progress.Conflict k) is = absurd is
stamped_does seen rows P (progress.Committed c) is = absurd is
stamped_does seen rows P progress.Lost is = absurd is
stamped_does seen rows P (progress.Finished k n) is = absurd is

-- a conflict with one property has another
pub met_so : {P Q : ℕ → Type 0} (p : Progress) → ((place : ℕ) → P place → Q place) → IfConflict P p → IfConflict Q p
met_so (progress.Conflict k) so met = so k met
met_so (progress.Held k n) so met = tt
met_so (progress.Committed c) so met = tt
met_so (progress.Finished k n) so met = tt
met_so (progress.Stamped c) so met = tt
met_so progress.Lost so met = tt

-- a step that draws a stamp meets none
pub stamped_met : (P : ℕ → Type 0) (p : Progress) → IsStamped p → IfConflict P p
stamped_met P (progress.Conflict k) is = absurd is
stamped_met P (progress.Held k n) is = tt
stamped_met P (progress.Committed c) is = tt
stamped_met P (progress.Finished k n) is = tt
stamped_met P (progress.Stamped c) is = tt
stamped_met P progress.Lost is = tt

module _ (Holds : Type 0) (cells : Cells) (session : Session) where
  -- the edits of a known phase
  pub edits_in : (phase : Phase) → session.phase ≡ phase → (row : List ℕ) (edits : List Edit) → EditsIn phase Holds cells session row edits → EditsOf Holds cells session row edits
  edits_in phase is row edits = subst (λ (p : Phase). EditsIn p Holds cells session row edits) (sym is)

  -- the row that they touch, and at which stamps
  holding_touches : (k : ℕ) (new : Cells) (row : List ℕ) (edits : List Edit) → HoldsAt Holds cells session k row edits → new ≡ after_edits cells edits → TouchesOneRow cells new session.start session.start
  holding_touches k new row edits (w, first, e, e0, free, at) after =
      (w.cell.row, subst (λ (cs : Cells). Touches cells cs w.cell.row session.start session.start) (sym (after ∙ holding_makes cells w.cell first.cell session.start w.value edits at.1)) (touches_held cells w.cell session.start session.start w.value first.cell))

  recording_touches : (k : ℕ) (new : Cells) (row : List ℕ) (edits : List Edit) → RecordsAt Holds cells session k row edits → new ≡ after_edits cells edits → TouchesOneRow cells new session.start session.commit
  recording_touches k new row edits (w, e, at) after =
      (w.cell.row, subst (λ (cs : Cells). Touches cells cs w.cell.row session.start session.commit) (sym (after ∙ (make_cells cells w.cell session.start edits).recorded session.commit (kind_of_change w.value) at.2)) (touches_recorded cells w.cell session.start session.commit (kind_of_change w.value)))

  pub edits_touch : (phase : Phase) (new : Cells) (row : List ℕ) (edits : List Edit) → EditsIn phase Holds cells session row edits → new ≡ after_edits cells edits → TouchesBy phase cells new session.start session.commit
  edits_touch Open new = holding_touches 0 new
  edits_touch (Holding k) new = holding_touches k new
  edits_touch Stamped new = recording_touches 0 new
  edits_touch (Finishing k) new = recording_touches k new

  pub same_touch : (phase : Phase) (new : Cells) → new ≡ cells → TouchesBy phase cells new session.start session.commit
  same_touch Open new same = ([], touches_kept cells new [] _ _ same)
  same_touch (Holding k) new same = ([], touches_kept cells new [] _ _ same)
  same_touch Stamped new same = ([], touches_kept cells new [] _ _ same)
  same_touch (Finishing k) new same = ([], touches_kept cells new [] _ _ same)

  -- ---- if a state is shown

  module _ (held : Holds) (st : State) (reached : IsReachedByServers st) (shown : ShowsCells cells st) (mine : ShowsSession session session.start st) where
    -- a free cell may be held
    holds_next : (k : ℕ) → HasHeldSo session.phase k → (row : List ℕ) (edits : List Edit) → HoldsAt Holds cells session k row edits → HoldsNext st (writes_of session) k session.start row edits
    holds_next k so row edits (w, first, e, e0, free, at) =
        let phase = held_phase st session.start k (held_of session st k mine so) in
        (w.cell, first.cell, w.value, first.value, puts_of session k w e, puts_of session 0 first e0, free_open cells st reached shown w.cell session.start phase.p phase.is (free held), at.0, at.1)

    -- if there is a lock, there is a mark
    records_next : (k : ℕ) (row : List ℕ) (edits : List Edit) → RecordsAt Holds cells session k row edits → RecordsNext st (writes_of session) k session.start session.commit row edits
    records_next k row edits (w, e, at) =
        let stands = at.1 held in
        (w.cell, w.value, puts_of session k w e, shown.locks w.cell session.start stands.0 stands.1, at.0, at.2)

    pub changes_in : (phase : Phase) → session.phase ≡ phase → (row : List ℕ) (edits : List Edit) → EditsIn phase Holds cells session row edits → ChangesIn st (phase_of phase session.commit) (writes_of session) session.start row edits
    changes_in Open is = holds_next 0 (inr (is, refl))
    changes_in (Holding k) is = holds_next k (inl is)
    changes_in Stamped is = records_next 0
    changes_in (Finishing k) is = records_next k

-- the stored session's edits are the edits of its next step in a shown state
pub changes_shown : (Holds : Type 0) (cells : Cells) (clients : Clients) (t : ℕ) → Holds → (st : State) → IsReachedByServers st → ShowsCells cells st → ShowsClients clients st → (row : List ℕ) (edits : List Edit) → EditsOfStep Holds cells clients t row edits → ChangesNext st t row edits
changes_shown Holds cells clients t held st reached shown kept row edits (session, was, is) =
    let mine = shown_some clients t st session kept was in
    let phase = phase_of session.phase session.commit in (
      phase,
      writes_of session,
      mine.phase,
      mine.writes,
      subst (λ (n : ℕ). ChangesIn st phase (writes_of session) n row edits) mine.start (changes_in Holds cells session held st reached shown (subst (λ (n : ℕ). ShowsSession session n st) (sym mine.start) mine) session.phase refl row edits is),
    )

pub draws_shown : (clients : Clients) (t : ℕ) (session : Session) → btree.get nat_cmp clients.sessions t ≡ Some session → session.phase ≡ Holding (length session.writes)
    → (st : State) → ShowsClients clients st → IsAboutToDraw st t
draws_shown clients t session was held st shown =
    let mine = shown_some clients t st session shown was in
    (writes_of session, mine.writes, subst (λ (n : ℕ). InPhase st t (machine.Holding n)) (sym (count_of session)) (subst (λ (p : Phase). InPhase st t (phase_of p session.commit)) held mine.phase))
