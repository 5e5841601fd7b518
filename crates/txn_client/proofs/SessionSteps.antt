-- The steps of a session, if store and session show the machine's state.
use Rattle.std.proofs.Common.{◌≡◌, ℕ, ◌+◌, ◌<◌, ◌^◌, ◌⊎◌, inl, inr, Bool, true, false, cond, ◌∷◌, length, Some, None, refl, sym, ap, subst, ◌∙◌, arith}
use Rattle.std.specs.Prelude.{slice_get, nat_eq}
use Rattle.std.specs.Option.{option_map}
use Rattle.std.specs.Prelude.{IfOk}
use Rattle.std.specs.declared.result.Result.{Result}
use Rattle.std.specs.declared.result.Result.TheVariants.{Ok, Err}
use Rattle.std.specs.FinMap.{insert, remove}
use Rattle.std.proofs.lemmas.Option.{slice_get-map}
use Rattle.std.proofs.lemmas.List.{length-map}
use Rattle.cell_key.specs.Cells.{Cells}
use Rattle.cell_key.specs.declared.keys.Qualifier.TheVariants.{Lock}
use Rattle.si_model.specs.Machine as machine
use Rattle.si_model.specs.Machine.{State, Step, Puts, InPhase, HasHeld}
use Rattle.si_model.specs.declared.replies.Cell.{Cell}
use Rattle.si_model.specs.ShowsCells.{at, kind_of_change, IsThere, ShowsCells, held_cells, recorded_cells}
use Rattle.txn_client.specs.Reads.{IsTaken, IsFree}
use Rattle.txn_client.specs.Writes.{write_of}
use Rattle.txn_client.specs.Shows.{phase_of, writes_of, ShowsSession, Advances, HasHeldSo}
use Rattle.txn_client.specs.declared.session.Session.{Session}
use Rattle.txn_client.specs.declared.writes.Write.{Write}
use Rattle.txn_client.specs.declared.session.Phase.{Phase}
use Rattle.txn_client.specs.declared.session.Phase.TheVariants.{Holding, Stamped, Finishing}
use Rattle.si_model.specs.declared.replies.Progress.TheVariants as progress
use Rattle.txn_client.proofs.Advance.{conflicts_at, holds_at, draws_at, loses_at, commits_at, finishes_gone, finishes_at}

pub puts_of : (session : Session) (k : ℕ) (w : Write) → slice_get session.writes k ≡ Some w → Puts (writes_of session) k w.cell w.value
puts_of session k w e = slice_get-map write_of session.writes k ∙ ap (option_map write_of) e

pub count_of : (session : Session) → length (writes_of session) ≡ length session.writes
count_of session = length-map session.writes write_of

pub held_of : (session : Session) (st : State) (k : ℕ) → ShowsSession session session.start st → HasHeldSo session.phase k → HasHeld st session.start k
held_of session st k shown (inl e) = inl (subst (λ (p : Phase). InPhase st session.start (phase_of p session.commit)) e shown.phase)
held_of session st k shown (inr e) = inr (subst (λ (p : Phase). InPhase st session.start (phase_of p session.commit)) e.0 shown.phase, e.1)

abbrev without_session : State → ℕ → State
without_session st t = record st { active = remove st.active t }

abbrev with_mark : State → ℕ → Cell → ℕ → State
with_mark st t x k = record st { marks = (x, t) ∷ st.marks; active = insert st.active t (machine.Holding k) }

module _ (cells : Cells) (session : Session) (last : ℕ) where
  pub advance_conflict : (k : ℕ) (w : Write) → HasHeldSo session.phase k → slice_get session.writes k ≡ Some w → IsTaken cells w.cell session.start
      → (cells' : Cells) → cells' ≡ cells → Advances cells session last (record { progress = progress.Conflict (k + 1); ended = true }) cells' session last
  advance_conflict k w held e taken cells' same st reached shown mine low =
      let s = conflicts_at cells st reached shown w.cell w.value session.start k (writes_of session) (held_of session st k mine held) mine.writes (puts_of session k w e) taken in
      (without_session st session.start, s.0, subst (λ (cs : Cells). ShowsCells cs (without_session st session.start)) (sym same) s.1, record { begun = refl; active = refl; top = refl }, low)

  pub advance_held : (k n : ℕ) (w first : Write) → HasHeldSo session.phase k → slice_get session.writes k ≡ Some w → slice_get session.writes 0 ≡ Some first
      → IsFree cells w.cell session.start → n ≡ length session.writes
      → (cells' : Cells) → cells' ≡ held_cells cells w.cell session.start w.value first.cell
      → Advances cells session last (record { progress = progress.Held (k + 1) n; ended = false }) cells' (record session { phase = Holding (k + 1) }) last
  advance_held k n w first held e e0 free count cells' same st reached shown mine low =
      let next : State = with_mark st session.start w.cell (k + 1) in
      let s = holds_at cells st reached shown w.cell w.value first.cell first.value session.start k (writes_of session) (held_of session st k mine held) mine.writes (puts_of session k w e) (puts_of session 0 first e0) free in (
        next,
        subst (λ (n : ℕ). Step st (machine.Advance session.start) (machine.Held (k + 1) n) next) (count_of session ∙ sym count) s.0,
        subst (λ (cs : Cells). ShowsCells cs next) (sym same) s.1,
        record { begun = refl; active = refl; top = refl },
        low,
      )

  pub advance_drawn : (c : ℕ) → session.phase ≡ Holding (length session.writes) → last < c → c < 2 ^ 63
      → (last' : ℕ) → last' ≡ c → Advances cells session last (record { progress = progress.Stamped c; ended = false }) cells (record session { phase = Stamped; commit = c }) last'
  advance_drawn c held next limit last' now st reached shown mine low =
      let phase = subst (λ (p : Phase). InPhase st session.start (phase_of p session.commit)) held mine.phase in
      let phase' = subst (λ (n : ℕ). InPhase st session.start (machine.Holding n)) (sym (count_of session)) phase in
      let s = draws_at cells st reached shown session.start c (writes_of session) phase' mine.writes (omega arith) limit in
      (record st { top = c; active = insert st.active session.start (machine.Stamped c) }, s.0, s.1, record { begun = refl; active = refl; top = refl }, omega arith)

  pub advance_lost : (w : Write) → session.phase ≡ Stamped → slice_get session.writes 0 ≡ Some w → at cells w.cell Lock session.start ≡ None
      → (cells' : Cells) → cells' ≡ cells → Advances cells session last (record { progress = progress.Lost; ended = true }) cells' session last
  advance_lost w is e gone cells' same st reached shown mine low =
      let phase = subst (λ (p : Phase). InPhase st session.start (phase_of p session.commit)) is mine.phase in
      let s = loses_at cells st reached shown session.start session.commit (writes_of session) w.cell w.value mine.writes (puts_of session 0 w e) phase gone in
      (without_session st session.start, s.0, subst (λ (cs : Cells). ShowsCells cs (without_session st session.start)) (sym same) s.1, record { begun = refl; active = refl; top = refl }, low)

  pub advance_committed : (w : Write) (ended : Bool) → session.phase ≡ Stamped → slice_get session.writes 0 ≡ Some w → IsThere cells w.cell Lock session.start
      → ended ≡ nat_eq 1 (length session.writes)
      → (cells' : Cells) → cells' ≡ recorded_cells cells w.cell session.start session.commit (kind_of_change w.value)
      → Advances cells session last (record { progress = progress.Committed session.commit; ended = ended }) cells' (record session { phase = Finishing 1 }) last
  advance_committed w ended is e lock end cells' same st reached shown mine low =
      let phase = subst (λ (p : Phase). InPhase st session.start (phase_of p session.commit)) is mine.phase in
      let s = commits_at cells st reached shown session.start session.commit (writes_of session) w.cell w.value mine.writes (puts_of session 0 w e) phase lock in (
        s.0,
        s.1,
        subst (λ (cs : Cells). ShowsCells cs s.0) (sym same) s.2,
        record { begun = s.3; active = s.4 ∙ ap (λ (b : Bool). cond b (remove st.active session.start) (insert st.active session.start (machine.Finishing session.commit 1))) (ap (nat_eq 1) (count_of session) ∙ sym end); top = s.5 },
        (let e = s.5 in omega arith),
      )

  pub advance_finished : (k n : ℕ) (w : Write) (ended : Bool) → session.phase ≡ Finishing k → slice_get session.writes k ≡ Some w
      → n ≡ length session.writes → ended ≡ nat_eq (k + 1) n
      → (cells' : Cells) → (IsThere cells w.cell Lock session.start × (cells' ≡ recorded_cells cells w.cell session.start session.commit (kind_of_change w.value))) ⊎ ((at cells w.cell Lock session.start ≡ None) × (cells' ≡ cells))
      → Advances cells session last (record { progress = progress.Finished (k + 1) n; ended = ended }) cells' (record session { phase = Finishing (k + 1) }) last
  advance_finished k n w ended is e count end cells' found st reached shown mine low = elim found [
    | inl (lock, same) ↦
        let s = finishes_at cells st reached shown session.start session.commit k (writes_of session) w.cell w.value mine.writes (puts_of session k w e) phase lock in (
          s.0,
          subst (λ (n : ℕ). Step st (machine.Advance session.start) (machine.Finished (k + 1) n) s.0) counted s.1,
          subst (λ (cs : Cells). ShowsCells cs s.0) (sym same) s.2,
          record { begun = s.3; active = s.4 ∙ goes_on; top = s.5 },
          (let e = s.5 in omega arith),
        )
    | inr (gone, same) ↦
        let s = finishes_gone cells st reached shown session.start session.commit k (writes_of session) w.cell w.value mine.writes (puts_of session k w e) phase gone in (
          s.0,
          subst (λ (n : ℕ). Step st (machine.Advance session.start) (machine.Finished (k + 1) n) s.0) counted s.1,
          subst (λ (cs : Cells). ShowsCells cs s.0) (sym same) s.2,
          record { begun = s.3; active = s.4 ∙ goes_on; top = s.5 },
          (let e = s.5 in omega arith),
        )
  ]
    where
      counted : length (writes_of session) ≡ n
      counted = count_of session ∙ sym count

      phase : InPhase st session.start (machine.Finishing session.commit k)
      phase = subst (λ (p : Phase). InPhase st session.start (phase_of p session.commit)) is mine.phase

      goes_on : machine.finishing st.active session.start session.commit (k + 1) (length (writes_of session)) ≡ cond ended (remove st.active session.start) (insert st.active session.start (machine.Finishing session.commit (k + 1)))
      goes_on = ap (λ (b : Bool). cond b (remove st.active session.start) (insert st.active session.start (machine.Finishing session.commit (k + 1)))) (ap (nat_eq (k + 1)) counted ∙ sym end)

-- a property of an accepted step for each x holds for one x
pub ok_at : {T E X : Type 0} (P : T → X → Type 0) (r : Result T E) → IfOk r (λ o. (x : X) → P o x) → (x : X) → IfOk r (λ o. P o x)
ok_at P (Ok o) h x = h x
ok_at P (Err e) h x = tt
