-- Worked scripts of sessions that stop, or wait, or are cleaned.
use Rattle.std.proofs.Common.{◌≡◌, ◌≢◌, ℕ, ◌≤◌, [], ◌∷◌, true, false, Some, None, codes, inl, inr, refl, sym, ap, ◌∙◌, lit<, lit≤, arith}
use Rattle.std.specs.Ordering.{nat_cmp}
use Rattle.std.specs.FinMap.{FinMap, get, insert, remove, get-empty, gets}
use Rattle.std.proofs.lemmas.Option.{none-some}
use Rattle.cell_key.specs.declared.refusals.Refusal.TheVariants.{UnknownCollector}
use Rattle.si_model.specs.Sets.{◌∈◌, here, there}
use Rattle.si_model.specs.declared.replies.Cell.{Cell}
use Rattle.si_model.specs.Machine.{State, Writes, Commit, Phase, Open, Stamped, Finishing, InPhase, Marked, IsCommitted, CollectStep, Refused, Pending, Get, Step, refuses, accepts, goes_on, rests}
use Rattle.si_model.specs.Machine.{tells, waits, finds_none, finds_gone, appends, is_blocked, goes_further, stops, opens, kills, loses, learns, rolls_forward, rolls_back, collects, has_collected}
use Rattle.si_model.specs.Machine.IsFloor.{none_active}
use Rattle.si_model.specs.Scripts.{bob, joe, RolledBackTransfer, CommitPoint, LostTransfer, StrandedMark, MarkStays}
use Rattle.si_model.proofs.Tools.{each_cons, get_other, each_remove}
use Rattle.si_model.proofs.FirstRefusals.{collect_unknown_first}
use Rattle.si_model.proofs.Acceptable.{get_ok, advance_ok, stop_ok, clean_begin_ok, clean_step_ok, collect_begin_ok, collect_step_ok}
use Rattle.si_model.proofs.ScriptSteps.{IsCell, bob_is, joe_is, joe_not_bob, begin_step, set_step, first_hold_step, get_step, commit_step, finish_step, ended_step, leaves_only, leaves_last, no_marks, other_mark, other_commit, run_append, newest}
use Rattle.si_model.proofs.Transfers.{before, stamped, fills, sees, moves, old_bob, old_joe}

-- the writes of the transfer
abbrev two : Writes
two = (bob, Some (codes "3")) ∷ (joe, Some (codes "9")) ∷ []

abbrev one : Writes
one = (bob, Some (codes "v")) ∷ []

open_still : ¬ IsCommitted before 3
open_still (c, (ws, m)) = other_commit _ 3 (λ e. absurd (omega (arith, e))) c ws m

marks_differ : ◌≢◌ {A = Cell × ℕ} (joe, 3) (bob, 3)
marks_differ e = joe_not_bob (ap (λ (m : Cell × ℕ). m.0) e)

pub rolled_back : RolledBackTransfer
rolled_back = (
  _,
  run_append (fills (codes "10") (codes "2") (lit≤ tt) (lit≤ tt))
      (run_append sees
      (run_append moves
      (goes_on (accepts (stop_ok {s = 3} (Stamped 4) (simp gets refl)) (stops {p = Stamped 4} (simp gets refl)))
      (goes_on (begin_step _ 5 (simp gets (lit< tt)) (lit< tt, lit< tt))
      (goes_on (accepts (clean_begin_ok {x = joe} joe_is.row joe_is.family (inr (simp gets (lit< tt)))) (opens {t = 3} here (lit< tt)))
      (goes_on
      (accepts (clean_step_ok {i = 1} (record { cell = joe; start = 3; decided = false }) (simp gets refl))
      (kills {t = 3} {x = joe} {y = bob} {v = Some (codes "3")} {ws = two} (simp gets refl) open_still (λ d. elim d [ ]) (simp gets refl) refl (leaves_last (joe, 3) (bob, 3) marks_differ)))
      (goes_on
      (accepts (clean_step_ok {i = 1} (record { cell = joe; start = 3; decided = true }) (simp gets refl))
      (rolls_back {t = 3} {x = joe} (simp gets refl) here open_still (leaves_only (joe, 3))))
      (goes_on (get_step _ 5 bob _ bob_is (simp gets refl) (λ t m. absurd (no_marks bob t m)) (old_bob 5 (lit≤ tt)))
      (goes_on (get_step _ 5 joe _ joe_is (simp gets refl) (λ t m. absurd (no_marks joe t m)) (old_joe 5 (lit≤ tt)))
      rests))))))))),
)

pub lost : LostTransfer
lost = (
  _,
  run_append (fills (codes "10") (codes "2") (lit≤ tt) (lit≤ tt))
      (run_append sees
      (run_append moves
      (goes_on (begin_step _ 5 (simp gets (lit< tt)) (lit< tt, lit< tt))
      (goes_on (accepts (clean_begin_ok {x = joe} joe_is.row joe_is.family (inr (simp gets (lit< tt)))) (opens {t = 3} here (lit< tt)))
      (goes_on
      (accepts (clean_step_ok {i = 1} (record { cell = joe; start = 3; decided = false }) (simp gets refl))
      (kills {t = 3} {x = joe} {y = bob} {v = Some (codes "3")} {ws = two} (simp gets refl) open_still (λ d. elim d [ ]) (simp gets refl) refl (leaves_last (joe, 3) (bob, 3) marks_differ)))
      (goes_on
      (accepts (clean_step_ok {i = 1} (record { cell = joe; start = 3; decided = true }) (simp gets refl))
      (rolls_back {t = 3} {x = joe} (simp gets refl) here open_still (leaves_only (joe, 3))))
      (goes_on (accepts (advance_ok {s = 3} (Stamped 4) two (simp gets refl) (simp gets refl) (lit≤ tt)) (loses {c = 4} (simp gets refl) here))
      (goes_on (ended_step _ 3 (simp gets refl))
      rests)))))))),
)

-- the commit of the transfer is the newest
newer : (b : Commit) → b ∈ before.commits → b.stamp ≤ 4
newer = each_cons (λ b. b.stamp ≤ 4) (lit≤ tt) (λ b h. elim h [ ])

wait_step : (st : State) (s t : ℕ) (x : Cell) → IsCell x → InPhase st s Open → Marked st x t → t ≤ s → Step st (Get s x) (Pending t) st
wait_step st s t x is h m late = accepts (get_ok h is.row is.family) (tells (waits h m late))

pub commit_point : CommitPoint
commit_point = (
  _,
  run_append (fills (codes "10") (codes "2") (lit≤ tt) (lit≤ tt))
      (run_append sees
      (run_append moves
      (goes_on (begin_step _ 5 (simp gets (lit< tt)) (lit< tt, lit< tt))
      (goes_on (wait_step _ 5 3 bob bob_is (simp gets refl) (there here) (lit≤ tt))
      (goes_on (commit_step _ 3 4 two bob (Some (codes "3")) ((joe, 3) ∷ []) (simp gets refl) (λ d. elim d [ ]) (simp gets refl) refl (lit≤ tt) (leaves_last (joe, 3) (bob, 3) marks_differ))
      (goes_on (get_step _ 5 bob _ bob_is (simp gets refl) (λ t m. absurd (other_mark joe bob 3 joe_not_bob t m)) (newest _ _ 5 0 bob (Some (codes "3")) refl (lit≤ tt) newer))
      (goes_on (wait_step _ 5 3 joe joe_is (simp gets refl) here (lit≤ tt))
      (goes_on (finish_step _ 3 4 1 two joe (Some (codes "9")) [] (simp gets refl) (simp gets refl) refl (lit≤ tt) (leaves_only (joe, 3)))
      (goes_on (get_step _ 5 joe _ joe_is (simp gets refl) (λ t m. absurd (no_marks joe t m)) (newest _ _ 5 1 joe (Some (codes "9")) refl (lit≤ tt) newer))
      rests))))))))),
)

-- only k has an entry
abbrev IsAlone : FinMap nat_cmp Phase → ℕ → Type 0
IsAlone m k = (u : ℕ) (q : Phase) → u ≢ k → get m u ≡ Some q → ⊥

alone : (m : FinMap nat_cmp Phase) (k : ℕ) (p : Phase) → IsAlone m k → IsAlone (insert m k p) k
alone m k p only u q ne h = only u q ne (sym (get_other m k p u ne) ∙ h)

nobody : (m : FinMap nat_cmp Phase) (k : ℕ) → IsAlone m k → (u : ℕ) (q : Phase) → get (remove m k) u ≡ Some q → ⊥
nobody m k only = each_remove m k (λ u q. ⊥) only

idle_before : (u : ℕ) (q : Phase) → get before.active u ≡ Some q → ⊥
idle_before = nobody _ 1 (alone _ 1 _ (alone _ 1 _ (alone _ 1 _ (alone _ 1 _ (alone _ 1 _ (λ u q ne h. none-some q (sym (get-empty nat_cmp u) ∙ h)))))))

idle_after : (u : ℕ) (q : Phase) → get (remove (insert stamped.active 3 (Finishing 4 1)) 3) u ≡ Some q → ⊥
idle_after = nobody _ 3 (alone _ 3 _ (alone _ 3 _ (alone _ 3 _ (alone _ 3 _ (alone _ 3 _ (λ u q ne h. idle_before u q h))))))

closed_step : (st : State) (i n : ℕ) → get st.collectors i ≡ None → Step st (CollectStep i n) (Refused UnknownCollector) st
closed_step st i n e = refuses (collect_unknown_first e)

pub stranded : StrandedMark
stranded = (
  _,
  run_append (fills (codes "10") (codes "2") (lit≤ tt) (lit≤ tt))
      (run_append sees
      (run_append moves
      (goes_on (commit_step _ 3 4 two bob (Some (codes "3")) ((joe, 3) ∷ []) (simp gets refl) (λ d. elim d [ ]) (simp gets refl) refl (lit≤ tt) (leaves_last (joe, 3) (bob, 3) marks_differ))
      (goes_on (accepts (stop_ok {s = 3} (Finishing 4 1) (simp gets refl)) (stops {p = Finishing 4 1} (simp gets refl)))
      (goes_on (accepts (collect_begin_ok (simp gets (lit< tt))) (collects (none_active idle_after) (lit< tt)))
      (goes_on (accepts (collect_step_ok {i = 1} {visits = 10} 5 (simp gets refl) (lit≤ tt) (lit≤ tt)) (tells (is_blocked {f = 5} {t = 3} {x = joe} (simp gets refl) here (lit< tt))))
      (goes_on (accepts (clean_begin_ok {x = joe} joe_is.row joe_is.family (inr (simp gets (lit< tt)))) (opens {t = 3} here (lit< tt)))
      (goes_on
      (accepts (clean_step_ok {i = 1} (record { cell = joe; start = 3; decided = false }) (simp gets refl)) (learns {t = 3} {x = joe} (simp gets refl) (inl (4, (two, here)))))
      (goes_on
      (accepts (clean_step_ok {i = 1} (record { cell = joe; start = 3; decided = true }) (simp gets refl))
      (rolls_forward {t = 3} {c = 4} {x = joe} (simp gets refl) here (two, here) (leaves_only (joe, 3))))
      (goes_on (accepts (collect_step_ok {i = 1} {visits = 6} 5 (simp gets refl) (lit≤ tt) (lit≤ tt)) (tells (goes_further {f = 5} (simp gets refl))))
      (goes_on (accepts (collect_step_ok {i = 1} {visits = 1} 5 (simp gets refl) (lit≤ tt) (lit≤ tt)) (has_collected {f = 5} (simp gets refl) (λ x t m. absurd (no_marks x t m))))
      (goes_on (closed_step _ 1 1 (simp gets refl))
      rests)))))))))))),
)

pub mark_stays : MarkStays
mark_stays = (
  _,
  _,
  goes_on (begin_step _ 1 (simp gets (lit< tt)) (lit< tt, lit< tt))
      (goes_on (set_step _ 1 bob (codes "v") [] one bob_is (lit≤ tt) (lit< tt) (simp gets refl) (simp gets refl) appends)
      (goes_on (first_hold_step _ 1 one bob (Some (codes "v")) (simp gets refl) (simp gets refl) refl (lit≤ tt) (no_marks bob) (λ a m. elim m [ ]))
      rests)),
  goes_on (begin_step _ 2 (simp gets (lit< tt)) (lit< tt, lit< tt))
      (goes_on (wait_step _ 2 1 bob bob_is (simp gets refl) here (lit≤ tt))
      (goes_on (accepts (clean_begin_ok {x = bob} bob_is.row bob_is.family (inr (simp gets (lit< tt)))) (opens {t = 1} here (lit< tt)))
      (goes_on
      (accepts (clean_step_ok {i = 1} (record { cell = bob; start = 1; decided = false }) (simp gets refl))
      (kills {t = 1} {x = bob} {y = bob} {v = Some (codes "v")} {ws = one} (simp gets refl) (λ c. elim c.1.1 [ ]) (λ d. elim d [ ]) (simp gets refl) refl (leaves_only (bob, 1))))
      (goes_on
      (accepts (clean_step_ok {i = 1} (record { cell = bob; start = 1; decided = true }) (simp gets refl)) (finds_gone {t = 1} {x = bob} (simp gets refl) (no_marks bob 1)))
      (goes_on (get_step _ 2 bob None bob_is (simp gets refl) (λ t m. absurd (no_marks bob t m)) (inr (refl, λ b m. elim m [ ])))
      (goes_on (accepts (clean_begin_ok {x = bob} bob_is.row bob_is.family (inl (no_marks bob))) (tells (finds_none (no_marks bob))))
      rests)))))),
)
