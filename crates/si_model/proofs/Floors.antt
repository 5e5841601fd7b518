-- Every active start is at least the floor, so a cleared stamp stays cleared.
use Rattle.std.proofs.Common.{◌≡◌, ℕ, ◌+◌, ◌≤◌, max, true, false, cond, List, length, Some, sym, subst, ◌∙◌, arith}
use Rattle.std.specs.Prelude.{nat_eq}
use Rattle.std.specs.Ordering.{nat_cmp}
use Rattle.std.specs.FinMap.{get, insert, remove, get-empty}
use Rattle.std.proofs.Math.Nat.{max-le, le-max_left, le-max_right, le_trans}
use Rattle.std.proofs.lemmas.Option.{none-some}
use Rattle.si_model.specs.Machine.{State, Phase, Open, Holding, Stamped, Finishing, Request, Reply, CollectStep, Collected, InPhase, finishing}
use Rattle.si_model.specs.declared.replies.Cell.{Cell}
use Rattle.si_model.specs.Machine.IsFloor.{least, none_active}
use Rattle.si_model.specs.Machine.{Acts, tells, begins, reads, scans, sets, deletes, holds, conflicts, draws, loses, commits, finishes, stops, opens, kills, learns, rolls_forward, rolls_back, finds_gone, collects, has_collected, splits, moves_tablet, Step, refuses, accepts}
use Rattle.si_model.specs.Machine.{Run, rests, goes_on, IsReached}
use Rattle.si_model.specs.Servers.{IsReachedByServers, starts_new, acts, raises, sees}
use Rattle.si_model.specs.Laws.{FloorStaysLow, IsCleared, StaysCleared}
use Rattle.si_model.proofs.Tools.{same_entry, each_cons, each_insert, each_remove}
use Rattle.si_model.proofs.Invariant.{Sound}
use Rattle.si_model.proofs.Kept.{held_phase}
use Rattle.si_model.proofs.ByServers.{by_servers}
use Rattle.si_model.proofs.Steps.{step_sound, servers_sound}

-- an active session continues
goes : (st : State) (t : ℕ) (p p' : Phase) → InPhase st t p → FloorStaysLow st → (u : ℕ) (q : Phase) → get (insert st.active t p') u ≡ Some q → st.floor ≤ u
goes st t p p' h f = each_insert st.active t (λ u q. st.floor ≤ u) p' (f.above t p h) (λ u q ne g. f.above u q g)

ends : (st : State) (t : ℕ) → FloorStaysLow st → (u : ℕ) (q : Phase) → get (remove st.active t) u ≡ Some q → st.floor ≤ u
ends st t f = each_remove st.active t (λ u q. st.floor ≤ u) (λ u q ne g. f.above u q g)

goes_or_ends : (st : State) (t c k n : ℕ) (p : Phase) → InPhase st t p → FloorStaysLow st → (u : ℕ) (q : Phase) → get (finishing st.active t c k n) u ≡ Some q → st.floor ≤ u
goes_or_ends st t c k n p h f u q = elim (nat_eq k n) as (λ b. get (cond b (remove st.active t) (insert st.active t (Finishing c k))) u ≡ Some q → st.floor ≤ u) [
  | true ↦ ends st t f u q
  | false ↦ goes st t p (Finishing c k) h f u q
]

-- a collector is begun
each_floor : (st : State) (n : ℕ) → FloorStaysLow st → (i f : ℕ) → get (insert st.collectors st.next_collector n) i ≡ Some f → f ≤ max st.floor n
each_floor st n f = each_insert st.collectors st.next_collector (λ i g. g ≤ max st.floor n) n (le-max_right st.floor n) (λ i g ne h. le_trans (f.each i g h) (le-max_left st.floor n))

acts_floors : {st st' : State} {q : Request} {r : Reply} → Sound st → FloorStaysLow st → Acts st q r st' → FloorStaysLow st'
acts_floors i f (tells t) = f
acts_floors {st} i f (begins {s = s} d) =
    let low = f.low in let new = d.0 in record { above = each_insert st.active s (λ u q. st.floor ≤ u) Open (omega arith) (λ u q ne g. f.above u q g); low = omega arith; each = f.each }
acts_floors i f (reads h none shown) = record { above = f.above; low = f.low; each = f.each }
acts_floors i f (scans h is) = record { above = f.above; low = f.low; each = f.each }
acts_floors i f (sets h w by) = record { above = f.above; low = f.low; each = f.each }
acts_floors i f (deletes h w by) = record { above = f.above; low = f.low; each = f.each }
acts_floors {st} i f (holds {t = t} {k = k} h w puts free) = let hp = held_phase st t k h in record { above = goes st t hp.p (Holding (k + 1)) hp.is f; low = f.low; each = f.each }
acts_floors {st} i f (conflicts {t = t} h w puts clash) = record { above = ends st t f; low = f.low; each = f.each }
acts_floors {st} i f (draws {t = t} {c = c} {ws = ws} h w d) = let low = f.low in let new = d.0 in record { above = goes st t (Holding (length ws)) (Stamped c) h f; low = omega arith; each = f.each }
acts_floors {st} i f (loses {t = t} h d) = record { above = ends st t f; low = f.low; each = f.each }
acts_floors {st} i f (commits {t = t} {c = c} {ws = ws} h alive w puts less) = record { above = goes_or_ends st t c 1 (length ws) (Stamped c) h f; low = f.low; each = f.each }
acts_floors {st} i f (finishes {t = t} {c = c} {k = k} {ws = ws} h w puts less) = record { above = goes_or_ends st t c (k + 1) (length ws) (Finishing c k) h f; low = f.low; each = f.each }
acts_floors {st} i f (stops {t = t} h) = record { above = ends st t f; low = f.low; each = f.each }
acts_floors i f (opens m room) = record { above = f.above; low = f.low; each = f.each }
acts_floors i f (kills is nc alive w puts less) = record { above = f.above; low = f.low; each = f.each }
acts_floors i f (learns is fate) = record { above = f.above; low = f.low; each = f.each }
acts_floors i f (rolls_forward is m committed less) = record { above = f.above; low = f.low; each = f.each }
acts_floors i f (rolls_back is m nc less) = record { above = f.above; low = f.low; each = f.each }
acts_floors i f (finds_gone is m) = record { above = f.above; low = f.low; each = f.each }
acts_floors {st} i f (collects (least {t = t} {p = p} h all) room) = let b = i.has_begun t p h in let low = i.start_low t b.0 b.1 in let old = f.low in record { above = λ u q g. max-le (f.above u q g) (all u q g); low = max-le old (omega arith); each = each_floor st t f }
acts_floors {st} i f (collects (none_active none) room) = record { above = λ u q h. absurd (none u q h); low = max-le f.low (omega arith); each = each_floor st (st.top + 1) f }
acts_floors {st} i f (has_collected {i = n} h none) = record { above = f.above; low = f.low; each = each_remove st.collectors n (λ i g. g ≤ st.floor) (λ i g ne h. f.each i g h) }
acts_floors i f (splits cut) = record { above = f.above; low = f.low; each = f.each }
acts_floors i f (moves_tablet is_moved) = record { above = f.above; low = f.low; each = f.each }

step_floors : {st st' : State} {q : Request} {r : Reply} → Sound st → FloorStaysLow st → Step st q r st' → FloorStaysLow st'
step_floors i f (refuses n) = f
step_floors i f (accepts ok a) = acts_floors i f a

pub servers_floors : {st : State} → IsReachedByServers st → FloorStaysLow st
servers_floors starts_new = record { above = λ t p h. absurd (none-some p (sym (get-empty nat_cmp t) ∙ h)); low = omega arith; each = λ i g h. absurd (none-some g (sym (get-empty nat_cmp i) ∙ h)) }
servers_floors (acts mine r ok a) = acts_floors (servers_sound r) (servers_floors r) a
servers_floors (raises {st = st} {f = g} r below) = let f = servers_floors r in record {
  above = λ t p h. max-le (f.above t p h) (below.1 t p h);
  low = max-le f.low below.0;
  each = λ i h is. le_trans (f.each i h is) (le-max_left st.floor g);
}
servers_floors (sees r part) = let f = servers_floors r in record { above = λ t p h. f.above t p (part.sessions t p h); low = f.low; each = part.collectors }

pub reached_floors : {st : State} → IsReached st → FloorStaysLow st
reached_floors r = servers_floors (by_servers r)

pub acts_cleared : {st st' : State} {q : Request} {r : Reply} → FloorStaysLow st → Acts st q r st' → (c : ℕ) → IsCleared st c → IsCleared st' c
acts_cleared f (tells t) c k = k
acts_cleared {st} f (holds {t = t} {k = k} {x = x} h w puts free) c k' =
    let hp = held_phase st t k h in let above = f.above t hp.p hp.is in let low = k'.0 in
    (k'.0, λ y u m. each_cons (λ (n : Cell × ℕ). c ≤ n.1) (omega arith) (λ n old. k'.1 n.0 n.1 old) (y, u) m)
acts_cleared {st} f (collects (least {t = t} {p = p} h all) room) c k = let low = k.0 in (le_trans low (le-max_left st.floor t), k.1)
acts_cleared {st} f (collects (none_active none) room) c k = let low = k.0 in (le_trans low (le-max_left st.floor (st.top + 1)), k.1)
acts_cleared f (begins d) c k = (k.0, k.1)
acts_cleared f (reads h none shown) c k = (k.0, k.1)
acts_cleared f (scans h is) c k = (k.0, k.1)
acts_cleared f (sets h w by) c k = (k.0, k.1)
acts_cleared f (deletes h w by) c k = (k.0, k.1)
acts_cleared f (conflicts h w puts clash) c k = (k.0, k.1)
acts_cleared f (draws h w d) c k = (k.0, k.1)
acts_cleared f (loses h d) c k = (k.0, k.1)
acts_cleared f (stops h) c k = (k.0, k.1)
acts_cleared f (opens m room) c k = (k.0, k.1)
acts_cleared f (learns is fate) c k = (k.0, k.1)
acts_cleared f (finds_gone is m) c k = (k.0, k.1)
acts_cleared f (has_collected h none) c k = (k.0, k.1)
acts_cleared f (splits cut) c k = (k.0, k.1)
acts_cleared f (moves_tablet is_moved) c k = (k.0, k.1)
acts_cleared f (commits h alive w puts less) c k = (k.0, λ y u n. k.1 y u ((less.same (y, u)).0 n).0)
acts_cleared f (finishes h w puts less) c k = (k.0, λ y u n. k.1 y u ((less.same (y, u)).0 n).0)
acts_cleared f (kills is nc alive w puts less) c k = (k.0, λ y u n. k.1 y u ((less.same (y, u)).0 n).0)
acts_cleared f (rolls_forward is m committed less) c k = (k.0, λ y u n. k.1 y u ((less.same (y, u)).0 n).0)
acts_cleared f (rolls_back is m nc less) c k = (k.0, λ y u n. k.1 y u ((less.same (y, u)).0 n).0)

step_cleared : {st st' : State} {q : Request} {r : Reply} → FloorStaysLow st → Step st q r st' → (c : ℕ) → IsCleared st c → IsCleared st' c
step_cleared f (refuses n) c k = k
step_cleared f (accepts ok a) c k = acts_cleared f a c k

run_cleared : {st st' : State} {qs : List Request} {rs : List Reply} → Sound st → FloorStaysLow st → Run st qs rs st' → (c : ℕ) → IsCleared st c → IsCleared st' c
run_cleared i f rests c k = k
run_cleared i f (goes_on s r) c k = run_cleared (step_sound i s) (step_floors i f s) r c (step_cleared f s c k)

pub stays_cleared : (st : State) → IsReachedByServers st → StaysCleared st
stays_cleared st r end qs rs run c k = run_cleared (servers_sound r) (servers_floors r) run c k

pub clears_floor : {st : State} {i n : ℕ} {next : State} → FloorStaysLow st → (f : ℕ) → get st.collectors i ≡ Some f → Step st (CollectStep i n) Collected next → IsCleared next f
clears_floor k f g (accepts ok (tells t)) = elim t [ ]
clears_floor {st} {i = i} k f g (accepts ok (has_collected {f = f'} h none)) =
    (k.each i f g, λ x t m. subst (λ n. n ≤ t) (same_entry st.collectors i f' f h g) (none x t m))
