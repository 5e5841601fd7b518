-- A run of a session's steps in which it commits: its cells are free, and its commit stamp is drawn.
use Rattle.std.proofs.Common.{◌≡◌, ◌≢◌, ◌∙◌, ℕ, ◌+◌, ◌≤◌, inl, inr, List, [], ◌∷◌, length, Option, Some, None, refl, sym, subst, ap, arith}
use Rattle.std.specs.FinMap.{get, insert, remove}
use Rattle.std.specs.Prelude.{nat_eq, cond, Bool, true, false, slice_get}
use Rattle.std.proofs.lemmas.Bool.{cases_eq}
use Rattle.std.proofs.lemmas.Option.{same_Some, slice_get_within}
use Rattle.si_model.specs.Sets.{◌∈◌, here, there}
use Rattle.si_model.specs.Machine as machine
use Rattle.si_model.specs.Machine.{State, Change, Writes, Phase, Open, Holding, Stamped, Finishing, InPhase, Wrote, Puts, Clashes, Draws, HasHeld, Advance, Step, accepts, Acts, tells, holds, conflicts, draws, loses, commits, finishes, finishing}
use Rattle.si_model.specs.Refusing.{advance_empty}
use Rattle.cell_key.specs.declared.refusals.Refusal.TheVariants.{EmptyCommit}
use Rattle.si_model.specs.Replies.{progress_reply}
use Rattle.si_model.specs.Transactions.{Advances, rests, advances}
use Rattle.si_model.specs.declared.replies.Cell.{Cell}
use Rattle.si_model.specs.declared.replies.Progress.{Progress}
use Rattle.si_model.specs.declared.replies.Progress.TheVariants as progress
use Rattle.si_model.proofs.Tools.{get_same, get_removed, same_entry}

module _ (s c : ℕ) (ws : Writes) where
  -- the writes from this place on are free
  abbrev IsFreeFrom : State → ℕ → Type 0
  IsFreeFrom st k = (j : ℕ) (x : Cell) (v : Change) → k ≤ j → Puts ws j x v → ¬ Clashes st x s

  -- what a session that is in this phase, and commits at c, still has before it
  abbrev MayCommit : State → Option Phase → Type 0
  MayCommit st None = ⊥
  MayCommit st (Some Open) = IsFreeFrom st 0 × Draws st c
  MayCommit st (Some (Holding k)) = IsFreeFrom st k × Draws st c
  MayCommit st (Some (Stamped d)) = c ≡ d
  MayCommit st (Some (Finishing d k)) = ⊥

  -- no write clashes after one more cell is held
  held_free : (st mid : State) (k : ℕ) (x : Cell) (v : Change) → mid ≡ record st { marks = (x, s) ∷ st.marks; active = mid.active } → Puts ws k x v → ¬ Clashes st x s → IsFreeFrom mid (k + 1) → IsFreeFrom st k
  held_free st mid k x v is put free later j y w ge puts clash = elim (cases_eq j k) [
    | inl e ↦ free (subst (λ (z : Cell). Clashes st z s) (ap (λ (p : Cell × Change). p.0) (same_Some (y, w) (x, v) (sym puts ∙ (ap (machine_get ws) e ∙ put)))) clash)
    | inr ne ↦ later j y w (omega (arith, ge, ne)) puts (still (subst (λ (m : State). Clashes m y s) (sym is)) clash)
  ]
    where
      machine_get : Writes → ℕ → Option (Cell × Change)
      machine_get l i = slice_get l i

      still : (Clashes (record st { marks = (x, s) ∷ st.marks; active = mid.active }) y s → Clashes mid y s) → Clashes st y s → Clashes mid y s
      still to (inl (u, m)) = to (inl (u, there m))
      still to (inr more) = to (inr more)

  at_phase : (st : State) (o : Option Phase) (p : Phase) → get st.active s ≡ o → InPhase st s p → MayCommit st (Some p) → MayCommit st o
  at_phase st o p e h may = subst (MayCommit st) (sym h ∙ e) may

  held_may : (st : State) (k : ℕ) (o : Option Phase) → get st.active s ≡ o → HasHeld st s k → IsFreeFrom st k × Draws st c → MayCommit st o
  held_may st k o e (inl h) may = at_phase st o (Holding k) e h may
  held_may st k o e (inr (h, zero)) may = at_phase st o Open e h (subst (IsFreeFrom st) zero may.0, may.1)

  none_after : (st mid : State) (d k n : ℕ) (b : Bool) → ((o : Option Phase) → get (cond b (remove st.active s) (insert st.active s (Finishing d k))) s ≡ o → MayCommit mid o) → ⊥
  none_after st mid d k n true may = may None (get_removed st.active s)
  none_after st mid d k n false may = may (Some (Finishing d k)) (get_same st.active s (Finishing d k))

  -- a step of the session, before it commits
  module _ (st : State) (wrote : Wrote st s ws) (o : Option Phase) (e : get st.active s ≡ o) where
    abbrev Later : State → Type 0
    Later mid = (o : Option Phase) → get mid.active s ≡ o → MayCommit mid o

    one_step : (mid : State) (p : Progress) → Step st (Advance s) (progress_reply p) mid → Wrote mid s ws → Later mid → MayCommit st o
    one_step mid (progress.Held place count) (accepts ok (holds {k = k} {ws = us} {x = x} {v = v} h w put free)) wrote' later =
        let may = later (Some (Holding (k + 1))) (get_same st.active s (Holding (k + 1))) in
        let same : us ≡ ws = same_entry st.begun s us ws w wrote in
        held_may st k o e h (held_free st mid k x v refl (subst (λ (l : Writes). Puts l k x v) same put) free may.0, may.1)
    one_step mid (progress.Held place count) (accepts ok (tells t)) wrote' later = elim t [ ]
    one_step mid (progress.Conflict place) (accepts ok (conflicts h w put clash)) wrote' later = absurd (later None (get_removed st.active s))
    one_step mid (progress.Conflict place) (accepts ok (tells t)) wrote' later = elim t [ ]
    one_step mid (progress.Stamped d) (accepts ok (draws {ws = us} h w draw)) wrote' later =
        let same : us ≡ ws = same_entry st.begun s us ws w wrote in
        let is : c ≡ d = later (Some (Stamped d)) (get_same st.active s (Stamped d)) in
        at_phase st o (Holding (length us)) e h (
          λ j x v ge puts clash. let within = slice_get_within ws j (x, v) puts in let len = ap length same in absurd (omega (arith, ge, within, len)),
          subst (Draws st) (sym is) draw,
        )
    one_step mid (progress.Stamped d) (accepts ok (tells t)) wrote' later = elim t [ ]
    one_step mid (progress.Committed d) step wrote' later = absurd (committed d mid step later)
      where
        committed : (d : ℕ) (mid : State) → Step st (Advance s) (machine.Committed d) mid → Later mid → ⊥
        committed d mid (accepts ok (commits {ws = us} h alive w put less)) later = none_after st mid d 1 (length us) (nat_eq 1 (length us)) later
        committed d mid (accepts ok (tells t)) later = elim t [ ]
    one_step mid progress.Lost (accepts ok (loses h dead)) wrote' later = absurd (later None (get_removed st.active s))
    one_step mid progress.Lost (accepts ok (tells t)) wrote' later = elim t [ ]
    one_step mid (progress.Finished place count) (accepts ok (finishes {c = d} {k = k} {ws = us} h w put less)) wrote' later = absurd (none_after st mid d (k + 1) (length us) (nat_eq (k + 1) (length us)) later)
    one_step mid (progress.Finished place count) (accepts ok (tells t)) wrote' later = elim t [ ]

    commit_here : (mid : State) → Step st (Advance s) (machine.Committed c) mid → MayCommit st o
    commit_here mid (accepts ok (commits h alive w put less)) = at_phase st o (Stamped c) e h refl
    commit_here mid (accepts ok (tells t)) = elim t [ ]

  keeps_writes : (st mid : State) (p : Progress) → Wrote st s ws → Step st (Advance s) (progress_reply p) mid → Wrote mid s ws
  keeps_writes st mid (progress.Held place count) wrote (accepts ok (holds h w put free)) = wrote
  keeps_writes st mid (progress.Held place count) wrote (accepts ok (tells t)) = elim t [ ]
  keeps_writes st mid (progress.Conflict place) wrote (accepts ok (conflicts h w put clash)) = wrote
  keeps_writes st mid (progress.Conflict place) wrote (accepts ok (tells t)) = elim t [ ]
  keeps_writes st mid (progress.Stamped d) wrote (accepts ok (draws h w draw)) = wrote
  keeps_writes st mid (progress.Stamped d) wrote (accepts ok (tells t)) = elim t [ ]
  keeps_writes st mid (progress.Committed d) wrote step = committed d mid step
    where
      committed : (d : ℕ) (mid : State) → Step st (Advance s) (machine.Committed d) mid → Wrote mid s ws
      committed d mid (accepts ok (commits h alive w put less)) = wrote
      committed d mid (accepts ok (tells t)) = elim t [ ]
  keeps_writes st mid progress.Lost wrote (accepts ok (loses h dead)) = wrote
  keeps_writes st mid progress.Lost wrote (accepts ok (tells t)) = elim t [ ]
  keeps_writes st mid (progress.Finished place count) wrote (accepts ok (finishes h w put less)) = wrote
  keeps_writes st mid (progress.Finished place count) wrote (accepts ok (tells t)) = elim t [ ]

  run_commits : (st next : State) (ps : List Progress) → Wrote st s ws → Advances s st ps next → progress.Committed c ∈ ps → (o : Option Phase) → get st.active s ≡ o → MayCommit st o
  run_commits st next [] wrote rests i o e = elim i [ ]
  run_commits st next (p ∷ ps) wrote (advances {mid = mid} step more) here o e = commit_here st wrote o e mid step
  run_commits st next (p ∷ ps) wrote (advances {mid = mid} step more) (there i) o e =
      let wrote' = keeps_writes st mid p wrote step in
      one_step st wrote o e mid p step wrote' (run_commits mid next ps wrote' more i)

  -- a session that is open and commits in this run
  pub commits_from_open : (st next : State) (ps : List Progress) → InPhase st s Open → Wrote st s ws → Advances s st ps next → progress.Committed c ∈ ps
      → ((j : ℕ) (x : Cell) (v : Change) → Puts ws j x v → ¬ Clashes st x s) × Draws st c
  commits_from_open st next ps h wrote run i =
      let may = run_commits st next ps wrote run i (Some Open) h in
      (λ j x v. may.0 j x v (omega arith), may.1)

  -- and it has writes
  pub commits_some : (st next : State) (ps : List Progress) → Wrote st s ws → Advances s st ps next → progress.Committed c ∈ ps → ws ≢ []
  commits_some st next [] wrote rests i e = elim i [ ]
  commits_some st next (p ∷ ps) wrote (advances {mid = mid} step more) i e = first st mid p wrote step
    where
      first : (st mid : State) (p : Progress) → Wrote st s ws → Step st (Advance s) (progress_reply p) mid → ⊥
      first st mid (progress.Held place count) wrote (accepts ok acts) = ok EmptyCommit (advance_empty (wrote ∙ ap Some e))
      first st mid (progress.Conflict place) wrote (accepts ok acts) = ok EmptyCommit (advance_empty (wrote ∙ ap Some e))
      first st mid (progress.Stamped d) wrote (accepts ok acts) = ok EmptyCommit (advance_empty (wrote ∙ ap Some e))
      first st mid (progress.Committed d) wrote (accepts ok acts) = ok EmptyCommit (advance_empty (wrote ∙ ap Some e))
      first st mid progress.Lost wrote (accepts ok acts) = ok EmptyCommit (advance_empty (wrote ∙ ap Some e))
      first st mid (progress.Finished place count) wrote (accepts ok acts) = ok EmptyCommit (advance_empty (wrote ∙ ap Some e))
