-- The effect of a step on the rows, from its cleaner and from the state.
use Rattle.std.proofs.Common.{◌≡◌, ◌∙◌, ◌<◌, ◌^◌, ℕ, List, Some, refl, inl, inr, sym, subst, arith}
use Rattle.std.specs.Ordering.{nat_cmp}
use Rattle.std.specs.BTreeMap as btree
use Rattle.cell_key.specs.Cells.{Cells, after_edits}
use Rattle.cell_key.specs.declared.edits.Edit.{Edit}
use Rattle.cell_key.specs.declared.keys.Qualifier.TheVariants as column
use Rattle.cell_key.specs.LockEdits.{IsRecording}
use Rattle.cell_key.proofs.RecordTexts.{names_of}
use Rattle.cell_key.specs.declared.columns.WriteKind.{WriteKind}
use Rattle.rows.specs.Calls.{AppliesSuch, View}
use Rattle.rows.specs.Room.{HasNoRoom, TakesRoomOf}
use Rattle.rows.proofs.Calls.{such_so}
use Rattle.si_model.specs.Deciding.{IsRight}
use Rattle.si_model.specs.Edits.{ErasesCell}
use Rattle.si_model.specs.Machine.{State, Marked}
use Rattle.si_model.specs.Servers.{IsReachedByServers}
use Rattle.si_model.specs.ShowsCells.{NamesCommit, ShowsCells, ShowsMark, IsThere, Touches, kind_of_change}
use Rattle.si_model.specs.declared.replies.CleanReply.{CleanReply}
use Rattle.si_model.specs.declared.replies.CleanReply.TheVariants as clean
use Rattle.si_model.specs.declared.replies.Cell.{Cell}
use Rattle.si_model.proofs.Bounds.{servers_bounds}
use Rattle.si_model.proofs.EditedCells.{make_cells}
use Rattle.si_model.proofs.ShownTouched.{touches_erased, touches_recorded}
use Rattle.si_model.proofs.Steps.{servers_sound}
use Rattle.clean_up.specs.Fates.{HasBadRecord, verdict_of}
use Rattle.clean_up.specs.Room.{ChangesNext, ChangesOf, Does, EditsIn, EditsOf, Makes, TakesRoom}
use Rattle.clean_up.specs.Shows.{ShowsCleaner, ShowsCleaners, TouchesFor, cleaner_of, is_decided}
use Rattle.clean_up.specs.declared.cleaner.Cleaner.{Cleaner}
use Rattle.clean_up.specs.declared.cleaners.Cleaners.{Cleaners}
use Rattle.clean_up.specs.declared.fates.Fate.{Fate}
use Rattle.clean_up.specs.declared.fates.Fate.TheVariants.{Open, Forward, Back}
use Rattle.clean_up.proofs.LockTexts.{told_kind}
use Rattle.clean_up.proofs.Table.{shown_some}

-- shown cells have no bad record
pub no_bad_record : (cells : Cells) (st : State) → IsReachedByServers st → ShowsCells cells st → (x : Cell) → ¬ HasBadRecord cells x
no_bad_record cells st reached store x (c, b, there, lacks) = lacks k.commit.start (kind_of_change k.change, names_of k.commit.start (kind_of_change k.change) b low k.is_text)
  where
    k : NamesCommit cells st x c b
    k = store.records x c b there

    low : k.commit.start < 2 ^ 64
    low =
        let start = (servers_sound reached).start_low k.commit.start k.commit.writes ((servers_sound reached).fair k.commit k.is_in).wrote in
        let top = (servers_bounds reached).top in
        omega arith

-- edits with one property have another
pub no_room_so : {R : Type 0} (overfills : R → List ℕ → List Edit → Type 0) (rows : R) {P Q : List ℕ → List Edit → Type 0} → ((row : List ℕ) (edits : List Edit) → P row edits → Q row edits) → HasNoRoom overfills rows P → HasNoRoom overfills rows Q
no_room_so overfills rows so (row, edits, changes, full) = (row, edits, so row edits changes, full)

module _ {R : Type 0} (seen : View R) (old new : R) where
  abbrev Made : (List ℕ → List Edit → Type 0) → Type 0
  Made P = AppliesSuch seen P old new

  pub does_so : {P Q : List ℕ → List Edit → Type 0} (p : CleanReply) → ((row : List ℕ) (edits : List Edit) → P row edits → Q row edits) → Does seen P p old new → Does seen Q p old new
  does_so clean.Decided so (inl made) = inl (such_so so made)
  does_so clean.Decided so (inr reads) = inr reads
  does_so (clean.RolledForward c) so made = such_so so made
  does_so clean.RolledBack so made = such_so so made
  does_so clean.Gone so reads = reads

  module _ (held : seen.holds old) where
    pub does_make : (P : List ℕ → List Edit → Type 0) (p : CleanReply) → Does seen P p old new → Makes P p (seen.cells old) (seen.cells new)
    does_make P clean.Decided (inl made) = inl (made.row, made.edits, made.such, made.applied.made (seen.each_readable old held made.row))
    does_make P clean.Decided (inr reads) = inr reads.kept
    does_make P (clean.RolledForward c) made = (made.row, made.edits, made.such, made.applied.made (seen.each_readable old held made.row))
    does_make P clean.RolledBack made = (made.row, made.edits, made.such, made.applied.made (seen.each_readable old held made.row))
    does_make P clean.Gone reads = reads.kept

    -- edits of this kind touch the keys that are added or erased
    pub does_touch : (P : List ℕ → List Edit → Type 0) (p : CleanReply) (T : Type 0) → ((row : List ℕ) (edits : List Edit) → P row edits → seen.cells new ≡ after_edits (seen.cells old) edits → T) → (seen.cells new ≡ seen.cells old → T) → Does seen P p old new → T
    does_touch P clean.Decided T changed kept (inl made) = changed made.row made.edits made.such (made.applied.made (seen.each_readable old held made.row))
    does_touch P clean.Decided T changed kept (inr reads) = kept reads.kept
    does_touch P (clean.RolledForward c) T changed kept made = changed made.row made.edits made.such (made.applied.made (seen.each_readable old held made.row))
    does_touch P clean.RolledBack T changed kept made = changed made.row made.edits made.such (made.applied.made (seen.each_readable old held made.row))
    does_touch P clean.Gone T changed kept reads = kept reads.kept

  made_takes : (P : List ℕ → List Edit → Type 0) → Made P → TakesRoomOf seen.overfills P old new
  made_takes P made row later full = elim (made.applied.room row later full) [
    | inl before ↦ inl before
    | inr after ↦ inr (made.row, made.edits, made.such, after)
  ]

  pub does_take : (P : List ℕ → List Edit → Type 0) (p : CleanReply) → Does seen P p old new → TakesRoom seen.overfills P p old new
  does_take P clean.Decided (inl made) = made_takes P made
  does_take P clean.Decided (inr reads) = λ row later full. inl (reads.room row later full)
  does_take P (clean.RolledForward c) made = made_takes P made
  does_take P clean.RolledBack made = made_takes P made
  does_take P clean.Gone reads = reads.room

-- ---- if a state is shown

module _ (Holds : Type 0) (cells : Cells) (i : ℕ) (cleaner : Cleaner) (held : Holds) (st : State) (store : ShowsCells cells st) (mine : ShowsCleaner cleaner i st) where
  -- if the cleaner's cell has the lock, the cleaner's decision is right
  marked : IsThere cells cleaner.cell column.Lock cleaner.lock.start → Marked st cleaner.cell cleaner.lock.start
  marked stands = store.locks cleaner.cell cleaner.lock.start stands.0 stands.1

  right : (f : Fate) → cleaner.fate ≡ f → IsThere cells cleaner.cell column.Lock cleaner.lock.start → IsRight st cleaner.lock.start (verdict_of f)
  right f is stands = subst (λ (f : Fate). IsRight st cleaner.lock.start (verdict_of f)) is (mine.knows.right (marked stands))

  changes_in : (f : Fate) → cleaner.fate ≡ f → (row : List ℕ) (edits : List Edit) → EditsIn f Holds cells cleaner row edits → ChangesOf st (cleaner_of cleaner) (is_decided f) row edits
  changes_in Open is row edits at = let stands = at.1 held in (cleaner.lock.first, mine.knows.is_first, store.locks cleaner.lock.first cleaner.lock.start stands.0 stands.1, at.0, at.2)
  changes_in (Forward c) is row edits at =
      let stands = at.2.1 held in
      let mark : ShowsMark cells st cleaner.cell cleaner.lock.start = store.marks cleaner.cell cleaner.lock.start (marked stands) in
      let kind = told_kind cells st cleaner.cell cleaner.lock.start at.0 mark (at.1 held) in
      (marked stands, at.2.0, inl (c, mark.change, right (Forward c) is stands, mark.is_change, subst (λ (k : WriteKind). IsRecording cleaner.cell.row cleaner.cell.family cleaner.lock.start c k edits) kind at.2.2))
  changes_in Back is row edits at = let stands = at.1 held in (marked stands, at.0, inr (right Back is stands, at.2))

  erasing_touches : (x : Cell) (new : Cells) (row : List ℕ) (edits : List Edit) → ErasesCell Holds cells x cleaner.lock.start row edits → new ≡ after_edits cells edits → TouchesFor st i cells new
  erasing_touches x new row edits at after = inr (
    cleaner_of cleaner,
    cleaner.lock.start,
    mine.kept,
    inl refl,
    (x.row, subst (λ (cs : Cells). Touches cells cs x.row cleaner.lock.start cleaner.lock.start) (sym (after ∙ (make_cells cells x cleaner.lock.start edits).erased at.2)) (touches_erased cells x cleaner.lock.start cleaner.lock.start)),
  )

  -- the row that they touch, and at which stamps
  touches_in : (f : Fate) → cleaner.fate ≡ f → (new : Cells) (row : List ℕ) (edits : List Edit) → EditsIn f Holds cells cleaner row edits → new ≡ after_edits cells edits → TouchesFor st i cells new
  touches_in Open is new row edits at after = erasing_touches cleaner.lock.first new row edits at after
  touches_in Back is new row edits at after = erasing_touches cleaner.cell new row edits at after
  touches_in (Forward c) is new row edits at after = inr (
    cleaner_of cleaner,
    c,
    mine.kept,
    inr (right (Forward c) is (at.2.1 held)),
    (cleaner.cell.row, subst (λ (cs : Cells). Touches cells cs cleaner.cell.row cleaner.lock.start c) (sym (after ∙ (make_cells cells cleaner.cell cleaner.lock.start edits).recorded c at.0 at.2.2)) (touches_recorded cells cleaner.cell cleaner.lock.start c at.0)),
  )

  pub edits_touch : (new : Cells) (row : List ℕ) (edits : List Edit) → EditsOf Holds cells cleaner row edits → new ≡ after_edits cells edits → TouchesFor st i cells new
  edits_touch = touches_in cleaner.fate refl

  -- the cleaner's edits are the edits of its next step in a shown state
  pub changes_next : (row : List ℕ) (edits : List Edit) → EditsOf Holds cells cleaner row edits → ChangesNext st i row edits
  changes_next row edits at = (cleaner_of cleaner, mine.kept, changes_in cleaner.fate refl row edits at)

-- if the cleaner is stored at its number
module _ (Holds : Type 0) (cells : Cells) (cleaners : Cleaners) (i : ℕ) (cleaner : Cleaner) (was : btree.get nat_cmp cleaners.cleaners i ≡ Some cleaner) (held : Holds) (st : State) (store : ShowsCells cells st) (shown : ShowsCleaners cleaners st) where
  pub changes_shown : (row : List ℕ) (edits : List Edit) → EditsOf Holds cells cleaner row edits → ChangesNext st i row edits
  changes_shown = changes_next Holds cells i cleaner held st store (shown_some cleaners i st cleaner shown was)

  pub touches_shown : (new : Cells) (row : List ℕ) (edits : List Edit) → EditsOf Holds cells cleaner row edits → new ≡ after_edits cells edits → TouchesFor st i cells new
  touches_shown = edits_touch Holds cells i cleaner held st store (shown_some cleaners i st cleaner shown was)
