-- A worked script of a cell that is deleted.
use Rattle.std.proofs.Common.{◌≤◌, [], ◌∷◌, Some, None, codes, inl, refl, lit<, lit≤, arith}
use Rattle.std.specs.FinMap.{gets}
use Rattle.si_model.specs.Sets.{here, there}
use Rattle.si_model.specs.Machine.{Writes, Commit, Names, goes_on, rests, appends, accepts, tells, waits}
use Rattle.si_model.specs.Scripts.{bob, DeletedCell}
use Rattle.si_model.proofs.Tools.{each_cons}
use Rattle.si_model.proofs.Acceptable.{get_ok}
use Rattle.si_model.proofs.ScriptSteps.{bob_is, begin_step, set_step, delete_step, get_step, first_hold_step, draw_step, commit_step, leaves_only, no_marks, newest}

abbrev given : Writes
given = (bob, Some (codes "v")) ∷ []

abbrev deleted : Writes
deleted = (bob, None) ∷ []

abbrev old : Commit
old = record { start = 1; stamp = 2; writes = given }

abbrev new : Commit
new = record { start = 3; stamp = 5; writes = deleted }

pub deleted_cell : DeletedCell
deleted_cell = (
  _,
  goes_on (begin_step _ 1 (simp gets (lit< tt)) (lit< tt, lit< tt))
      (goes_on (set_step _ 1 bob (codes "v") [] given bob_is (lit≤ tt) (lit< tt) (simp gets refl) (simp gets refl) appends)
      (goes_on (first_hold_step _ 1 given bob (Some (codes "v")) (simp gets refl) (simp gets refl) refl (lit≤ tt) (no_marks bob) (λ a m. elim m [ ]))
      (goes_on (draw_step _ 1 2 given (simp gets refl) (simp gets refl) (lit≤ tt) (lit< tt, lit< tt))
      (goes_on (commit_step _ 1 2 given bob (Some (codes "v")) [] (simp gets refl) (λ h. elim h [ ]) (simp gets refl) refl (lit≤ tt) (leaves_only (bob, 1)))
      (goes_on (begin_step _ 3 (simp gets (lit< tt)) (lit< tt, lit< tt))
      (goes_on (delete_step _ 3 bob [] deleted bob_is (lit< tt) (simp gets refl) (simp gets refl) appends)
      (goes_on (first_hold_step _ 3 deleted bob None (simp gets refl) (simp gets refl) refl (lit≤ tt) (no_marks bob) (each_cons (λ b. b.stamp ≤ 3) (lit≤ tt) (λ b h. elim h [ ])))
      (goes_on (begin_step _ 4 (simp gets (lit< tt)) (lit< tt, lit< tt))
      (goes_on (accepts (get_ok {s = 4} {x = bob} (simp gets refl) bob_is.row bob_is.family) (tells (waits {t = 3} (simp gets refl) here (lit≤ tt))))
      (goes_on (draw_step _ 3 5 deleted (simp gets refl) (simp gets refl) (lit≤ tt) (lit< tt, lit< tt))
      (goes_on (commit_step _ 3 5 deleted bob None [] (simp gets refl) (λ h. elim h [ ]) (simp gets refl) refl (lit≤ tt) (leaves_only (bob, 3)))
      (goes_on (get_step _ 4 bob (Some (codes "v")) bob_is (simp gets refl) (λ t h. elim h [ ])
      (inl (old, there here, (0, refl), lit≤ tt, each_cons (λ b. Names b.writes bob → b.stamp ≤ 4 → b.stamp ≤ 2) (λ n low. absurd (let late : 5 ≤ 4 = low in omega arith)) (each_cons (λ b. Names b.writes bob → b.stamp ≤ 4 → b.stamp ≤ 2) (λ n low. lit≤ tt) (λ b h. elim h [ ])))))
      (goes_on (begin_step _ 6 (simp gets (lit< tt)) (lit< tt, lit< tt))
      (goes_on (get_step _ 6 bob None bob_is (simp gets refl) (λ t h. elim h [ ]) (newest _ _ 6 0 bob None refl (lit≤ tt) (each_cons (λ b. b.stamp ≤ 5) (lit≤ tt) (λ b h. elim h [ ]))))
      rests)))))))))))))),
)
