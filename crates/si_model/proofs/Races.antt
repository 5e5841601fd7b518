-- Worked scripts of two concurrent sessions.
use Rattle.std.proofs.Common.{ℕ, ap, ◌≤◌, [], ◌∷◌, Some, codes, inl, inr, refl, lit<, lit≤}
use Rattle.std.specs.FinMap.{gets}
use Rattle.si_model.specs.Sets.{here}
use Rattle.si_model.specs.declared.replies.Cell.{Cell}
use Rattle.si_model.specs.Machine.{Writes, goes_on, rests, appends}
use Rattle.si_model.specs.Scripts.{bob, joe, WriteSkew, FirstHolder, YoungerFirst}
use Rattle.si_model.proofs.Tools.{each_cons}
use Rattle.si_model.proofs.ScriptSteps.{bob_is, joe_is, bob_not_joe, joe_not_bob, begin_step, reads_both, set_step, first_hold_step, conflict_step, draw_step, commit_step, ended_step, leaves_only, leaves_last, no_marks, other_mark, run_append, newest, skips}
use Rattle.si_model.proofs.Transfers.{fills}

abbrev one : Writes
one = (bob, Some (codes "v")) ∷ []

pub first_holder : FirstHolder
first_holder = (
  _,
  goes_on (begin_step _ 1 (simp gets (lit< tt)) (lit< tt, lit< tt))
      (goes_on (begin_step _ 2 (simp gets (lit< tt)) (lit< tt, lit< tt))
      (goes_on (set_step _ 1 bob (codes "v") [] one bob_is (lit≤ tt) (lit< tt) (simp gets refl) (simp gets refl) appends)
      (goes_on (set_step _ 2 bob (codes "v") [] one bob_is (lit≤ tt) (lit< tt) (simp gets refl) (simp gets refl) appends)
      (goes_on (first_hold_step _ 1 one bob (Some (codes "v")) (simp gets refl) (simp gets refl) refl (lit≤ tt) (no_marks bob) (λ a m. elim m [ ]))
      (goes_on (conflict_step _ 2 one bob (Some (codes "v")) (simp gets refl) (simp gets refl) refl (lit≤ tt) (inl (1, here)))
      (goes_on (ended_step _ 2 (simp gets refl))
      rests)))))),
)

pub younger_first : YoungerFirst
younger_first = (
  _,
  goes_on (begin_step _ 1 (simp gets (lit< tt)) (lit< tt, lit< tt))
      (goes_on (begin_step _ 2 (simp gets (lit< tt)) (lit< tt, lit< tt))
      (goes_on (set_step _ 1 bob (codes "v") [] one bob_is (lit≤ tt) (lit< tt) (simp gets refl) (simp gets refl) appends)
      (goes_on (set_step _ 2 bob (codes "v") [] one bob_is (lit≤ tt) (lit< tt) (simp gets refl) (simp gets refl) appends)
      (goes_on (first_hold_step _ 2 one bob (Some (codes "v")) (simp gets refl) (simp gets refl) refl (lit≤ tt) (no_marks bob) (λ a m. elim m [ ]))
      (goes_on (draw_step _ 2 3 one (simp gets refl) (simp gets refl) (lit≤ tt) (lit< tt, lit< tt))
      (goes_on (commit_step _ 2 3 one bob (Some (codes "v")) [] (simp gets refl) (λ d. elim d [ ]) (simp gets refl) refl (lit≤ tt) (leaves_only (bob, 2)))
      (goes_on (conflict_step _ 1 one bob (Some (codes "v")) (simp gets refl) (simp gets refl) refl (lit≤ tt) (inr (_, here, (Some (codes "v"), (0, refl)), lit< tt)))
      rests))))))),
)

abbrev bob_writes : Writes
bob_writes = (bob, Some (codes "0")) ∷ []

abbrev joe_writes : Writes
joe_writes = (joe, Some (codes "0")) ∷ []

pub write_skew : WriteSkew
write_skew = (
  _,
  run_append (fills (codes "1") (codes "1") (lit≤ tt) (lit≤ tt))
      (goes_on (begin_step _ 3 (simp gets (lit< tt)) (lit< tt, lit< tt))
      (goes_on (begin_step _ 4 (simp gets (lit< tt)) (lit< tt, lit< tt))
      (goes_on (set_step _ 3 bob (codes "0") [] bob_writes bob_is (lit≤ tt) (lit< tt) (simp gets refl) (simp gets refl) appends)
      (goes_on (set_step _ 4 joe (codes "0") [] joe_writes joe_is (lit≤ tt) (lit< tt) (simp gets refl) (simp gets refl) appends)
      (goes_on (first_hold_step _ 3 bob_writes bob (Some (codes "0")) (simp gets refl) (simp gets refl) refl (lit≤ tt) (no_marks bob) (each_cons (λ b. b.stamp ≤ 3) (lit≤ tt) (λ b h. elim h [ ])))
      (goes_on (first_hold_step _ 4 joe_writes joe (Some (codes "0")) (simp gets refl) (simp gets refl) refl (lit≤ tt) (other_mark bob joe 3 bob_not_joe) (each_cons (λ b. b.stamp ≤ 4) (lit≤ tt) (λ b h. elim h [ ])))
      (goes_on (draw_step _ 3 5 bob_writes (simp gets refl) (simp gets refl) (lit≤ tt) (lit< tt, lit< tt))
      (goes_on (draw_step _ 4 6 joe_writes (simp gets refl) (simp gets refl) (lit≤ tt) (lit< tt, lit< tt))
      (goes_on (commit_step _ 3 5 bob_writes bob (Some (codes "0")) ((joe, 4) ∷ []) (simp gets refl) (λ d. elim d [ ]) (simp gets refl) refl (lit≤ tt) (leaves_last (joe, 4) (bob, 3) (λ e. joe_not_bob (ap (λ (m : Cell × ℕ). m.0) e))))
      (goes_on (commit_step _ 4 6 joe_writes joe (Some (codes "0")) [] (simp gets refl) (λ d. elim d [ ]) (simp gets refl) refl (lit≤ tt) (leaves_only (joe, 4)))
      (reads_both _ 7 (Some (codes "0")) (Some (codes "0")) (simp gets (lit< tt)) (lit< tt, lit< tt) no_marks
      (skips _ 4 6 joe (Some (codes "0")) 7 bob _ joe_not_bob (newest _ _ 7 0 bob (Some (codes "0")) refl (lit≤ tt) (each_cons (λ b. b.stamp ≤ 5) (lit≤ tt) (λ b h. elim h [ ]))))
      (newest _ _ 7 0 joe (Some (codes "0")) refl (lit≤ tt) (each_cons (λ b. b.stamp ≤ 6) (lit≤ tt) (each_cons (λ b. b.stamp ≤ 6) (lit≤ tt) (λ b h. elim h [ ]))))))))))))))),
)
