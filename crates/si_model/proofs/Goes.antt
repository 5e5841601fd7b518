-- Effects of a step on the starts that have held a cell, and on cleared stamps.
use Rattle.std.proofs.Common.{◌≡◌, ◌≢◌, ℕ, true, false, cond, [], ◌∷◌, ◌+◌, length, Some, sym, ap, subst, ◌∙◌, arith, refl}
use Rattle.std.specs.Prelude.{nat_eq}
use Rattle.std.specs.FinMap.{get, insert, remove}
use Rattle.si_model.specs.Machine.{State, Phase, Open, Holding, Stamped, Finishing, Request, Reply, Writes, Wrote, InPhase, finishing}
use Rattle.si_model.specs.Machine.{Acts, tells, begins, reads, scans, sets, deletes, holds, conflicts, draws, loses, commits, finishes, stops, opens, kills, learns, rolls_forward, rolls_back, finds_gone, collects, has_collected, splits, moves_tablet, Step, refuses, accepts, goes_on, rests}
use Rattle.si_model.specs.Servers.{IsReachedByServers}
use Rattle.si_model.specs.Laws.{Goes}
use Rattle.si_model.proofs.Tools.{get_other, each_insert, each_remove}
use Rattle.si_model.proofs.Invariant.{Sound}
use Rattle.si_model.proofs.Steps.{servers_sound}
use Rattle.si_model.proofs.Floors.{stays_cleared, acts_cleared, servers_floors}
use Rattle.si_model.proofs.LastingMarks.{have_tried}

-- the writes of a start that isn't open are unchanged, and it doesn't become open again
record OpenStays (st st' : State) : Type 0 where
  wrote : (u : ℕ) (ws : Writes) → Wrote st u ws → ¬ InPhase st u Open → Wrote st' u ws
  late : (u : ℕ) (ws : Writes) → Wrote st u ws → ¬ InPhase st u Open → ¬ InPhase st' u Open

goes_open : (st : State) (t : ℕ) (p : Phase) → p ≢ Open → (u : ℕ) → get (insert st.active t p) u ≡ Some Open → InPhase st u Open
goes_open st t p late u h = each_insert st.active t (λ u q. q ≡ Open → InPhase st u q) p (λ e. absurd (late e)) (λ u q ne g e. g) u Open h refl

ends_open : (st : State) (t : ℕ) (u : ℕ) → get (remove st.active t) u ≡ Some Open → InPhase st u Open
ends_open st t = λ u. each_remove st.active t (λ u q. InPhase st u q) (λ u q ne g. g) u Open

late_open : (st : State) (t c k n u : ℕ) → get (finishing st.active t c k n) u ≡ Some Open → InPhase st u Open
late_open st t c k n u = elim (nat_eq k n) as (λ b. get (cond b (remove st.active t) (insert st.active t (Finishing c k))) u ≡ Some Open → InPhase st u Open) [
  | true ↦ ends_open st t u
  | false ↦ goes_open st t (Finishing c k) (λ e. cc) u
]

goes_by : (st st' : State) → st'.begun ≡ st.begun → ((u : ℕ) → InPhase st' u Open → InPhase st u Open) → OpenStays st st'
goes_by st st' same opened = record {
  wrote = λ u ws w late. ap (λ m. get m u) same ∙ w;
  late = λ u ws w late h. late (opened u h);
}

acts_open : {st st' : State} {q : Request} {r : Reply} → Sound st → Acts st q r st' → OpenStays st st'
acts_open {st} {st'} i (tells t) = goes_by st st' refl (λ u h. h)
acts_open {st} i (begins {s = s} d) = record {
  wrote = λ u ws w late. get_other st.begun s [] u (let low = i.start_low u ws w in let new = d.0 in omega arith) ∙ w;
  late = λ u ws w late h. late (sym (get_other st.active s Open u (let low = i.start_low u ws w in let new = d.0 in omega arith)) ∙ h);
}
acts_open {st} i (sets {s = s} {ws' = ws'} h w' by) = record {
  wrote = λ u ws w late. get_other st.begun s ws' u (λ e. late (subst (λ v. InPhase st v Open) (sym e) h)) ∙ w;
  late = λ u ws w late. late;
}
acts_open {st} i (deletes {s = s} {ws' = ws'} h w' by) = record {
  wrote = λ u ws w late. get_other st.begun s ws' u (λ e. late (subst (λ v. InPhase st v Open) (sym e) h)) ∙ w;
  late = λ u ws w late. late;
}
acts_open {st} {st'} i (reads h none shown) = goes_by st st' refl (λ u h. h)
acts_open {st} {st'} i (scans h is) = goes_by st st' refl (λ u h. h)
acts_open {st} {st'} i (holds {t = t} {k = k} h w puts free) = goes_by st st' refl (goes_open st t (Holding (k + 1)) (λ e. cc))
acts_open {st} {st'} i (conflicts {t = t} h w puts clash) = goes_by st st' refl (ends_open st t)
acts_open {st} {st'} i (draws {t = t} {c = c} h w d) = goes_by st st' refl (goes_open st t (Stamped c) (λ e. cc))
acts_open {st} {st'} i (loses {t = t} h d) = goes_by st st' refl (ends_open st t)
acts_open {st} {st'} i (commits {t = t} {c = c} {ws = ws} h alive w puts less) = goes_by st st' refl (late_open st t c 1 (length ws))
acts_open {st} {st'} i (finishes {t = t} {c = c} {k = k} {ws = ws} h w puts less) = goes_by st st' refl (late_open st t c (k + 1) (length ws))
acts_open {st} {st'} i (stops {t = t} h) = goes_by st st' refl (ends_open st t)
acts_open {st} {st'} i (opens m room) = goes_by st st' refl (λ u h. h)
acts_open {st} {st'} i (kills is nc alive w puts less) = goes_by st st' refl (λ u h. h)
acts_open {st} {st'} i (learns is fate) = goes_by st st' refl (λ u h. h)
acts_open {st} {st'} i (rolls_forward is m committed less) = goes_by st st' refl (λ u h. h)
acts_open {st} {st'} i (rolls_back is m nc less) = goes_by st st' refl (λ u h. h)
acts_open {st} {st'} i (finds_gone is m) = goes_by st st' refl (λ u h. h)
acts_open {st} {st'} i (collects is_floor room) = goes_by st st' refl (λ u h. h)
acts_open {st} {st'} i (has_collected h none) = goes_by st st' refl (λ u h. h)
acts_open {st} {st'} i (splits cut) = goes_by st st' refl (λ u h. h)
acts_open {st} {st'} i (moves_tablet is_moved) = goes_by st st' refl (λ u h. h)

step_open : {st st' : State} {q : Request} {r : Reply} → Sound st → Step st q r st' → OpenStays st st'
step_open {st} {st'} i (refuses n) = goes_by st st' refl (λ u h. h)
step_open i (accepts ok a) = acts_open i a

pub goes : {st st' : State} {q : Request} {r : Reply} → IsReachedByServers st → Step st q r st' → Goes st st'
goes {st} {st'} {q} {r} reached s =
    let o = step_open (servers_sound reached) s in
    record {
      wrote = o.wrote;
      marked = λ x u ws m w. o.wrote u ws w (λ h. ((have_tried st reached).marked x u m).past Open h);
      late = o.late;
      cleared = λ n k. stays_cleared st reached st' (q ∷ []) (r ∷ []) (goes_on s rests) n k;
    }

pub acts_goes : {st st' : State} {q : Request} {r : Reply} → IsReachedByServers st → Acts st q r st' → Goes st st'
acts_goes {st} {st'} reached a =
    let o = acts_open (servers_sound reached) a in
    record {
      wrote = o.wrote;
      marked = λ x u ws m w. o.wrote u ws w (λ h. ((have_tried st reached).marked x u m).past Open h);
      late = o.late;
      cleared = acts_cleared (servers_floors reached) a;
    }
