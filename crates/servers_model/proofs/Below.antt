-- A floor that isn't above any session stays so.
use Rattle.std.proofs.Common.{◌≡◌, ◌+◌, ◌≤◌, ℕ, true, false, cond, length, Some, arith}
use Rattle.std.specs.Prelude.{nat_eq}
use Rattle.std.specs.FinMap.{get, insert, remove}
use Rattle.si_model.specs.Machine.{State, Phase, Open, Holding, Stamped, Finishing, Request, Reply, InPhase, finishing}
use Rattle.si_model.specs.Machine.{Acts, tells, begins, reads, scans, sets, deletes, holds, conflicts, draws, loses, commits, finishes, stops, opens, kills, learns, rolls_forward, rolls_back, finds_gone, collects, has_collected, splits, moves_tablet}
use Rattle.si_model.specs.Servers.{IsBelowAll}
use Rattle.si_model.proofs.Kept.{held_phase}
use Rattle.si_model.proofs.Tools.{each_insert, each_remove}

module _ (st : State) (f : ℕ) (below : IsBelowAll st f) where
  goes : (t : ℕ) (p p' : Phase) → InPhase st t p → (u : ℕ) (q : Phase) → get (insert st.active t p') u ≡ Some q → f ≤ u
  goes t p p' h = each_insert st.active t (λ u q. f ≤ u) p' (below.1 t p h) (λ u q ne g. below.1 u q g)

  ends : (t : ℕ) (u : ℕ) (q : Phase) → get (remove st.active t) u ≡ Some q → f ≤ u
  ends t = each_remove st.active t (λ u q. f ≤ u) (λ u q ne g. below.1 u q g)

  goes_or_ends : (t c k n : ℕ) (p : Phase) → InPhase st t p → (u : ℕ) (q : Phase) → get (finishing st.active t c k n) u ≡ Some q → f ≤ u
  goes_or_ends t c k n p h u q = elim (nat_eq k n) as (λ b. get (cond b (remove st.active t) (insert st.active t (Finishing c k))) u ≡ Some q → f ≤ u) [
    | true ↦ ends t u q
    | false ↦ goes t p (Finishing c k) h u q
  ]

pub acts_below : {st next : State} {q : Request} {r : Reply} (f : ℕ) → Acts st q r next → IsBelowAll st f → IsBelowAll next f
acts_below {st} f (begins {s = s} d) b = let low = b.0 in let new = d.0 in (omega arith, each_insert st.active s (λ u p. f ≤ u) Open (omega arith) (λ u p ne h. b.1 u p h))
acts_below {st} f (holds {t = t} {k = k} h w puts free) b = let hp = held_phase st t k h in (b.0, goes st f b t hp.p (Holding (k + 1)) hp.is)
acts_below {st} f (conflicts {t = t} h w puts clash) b = (b.0, ends st f b t)
acts_below {st} f (draws {t = t} {c = c} {ws = ws} h w d) b = let low = b.0 in let new = d.0 in (omega arith, goes st f b t (Holding (length ws)) (Stamped c) h)
acts_below {st} f (loses {t = t} h d) b = (b.0, ends st f b t)
acts_below {st} f (commits {t = t} {c = c} {ws = ws} h alive w puts less) b = (b.0, goes_or_ends st f b t c 1 (length ws) (Stamped c) h)
acts_below {st} f (finishes {t = t} {c = c} {k = k} {ws = ws} h w puts less) b = (b.0, goes_or_ends st f b t c (k + 1) (length ws) (Finishing c k) h)
acts_below {st} f (stops {t = t} h) b = (b.0, ends st f b t)
acts_below f (tells t) b = b
acts_below f (reads h none shown) b = b
acts_below f (scans h is) b = b
acts_below f (sets h w by) b = b
acts_below f (deletes h w by) b = b
acts_below f (opens m room) b = b
acts_below f (kills is nc alive w puts less) b = b
acts_below f (learns is fate) b = b
acts_below f (rolls_forward is m committed less) b = b
acts_below f (rolls_back is m nc less) b = b
acts_below f (finds_gone is m) b = b
acts_below f (collects is_floor room) b = b
acts_below f (has_collected h none) b = b
acts_below f (splits cut) b = b
acts_below f (moves_tablet is_moved) b = b
