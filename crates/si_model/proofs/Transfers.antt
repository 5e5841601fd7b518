-- Worked scripts.
use Rattle.std.proofs.Common.{ℕ, length, ◌≤◌, [], ◌∷◌, Some, codes, refl, lit<, lit≤}
use Rattle.std.specs.FinMap.{gets, insert}
use Rattle.si_model.specs.Machine.{State, Value, IsSnapshot, most_value, Writes, Open, Run, rests, goes_on, appends, new_machine, Begin, Get, Set, Advance, Begun, Answered, SetDone, Held, Drawn, Committed, Finished}
use Rattle.si_model.specs.Scripts.{bob, joe, FirstCell, Transfer}
use Rattle.si_model.proofs.Tools.{each_cons}
use Rattle.si_model.proofs.ScriptSteps.{bob_is, joe_is, bob_not_joe, begin_step, reads_both, read_both, stamped_two, set_step, get_step, first_hold_step, draw_step, commit_step, ended_step, leaves_only, no_marks, run_append, holds_two, finishes_two, written_two, newest}

abbrev one : Writes
one = (bob, Some (codes "v")) ∷ []

pub first_cell : FirstCell
first_cell = (
  _,
  goes_on (begin_step _ 1 (simp gets (lit< tt)) (lit< tt, lit< tt))
      (goes_on (set_step _ 1 bob (codes "v") [] one bob_is (lit≤ tt) (lit< tt) (simp gets refl) (simp gets refl) appends)
      (goes_on (first_hold_step _ 1 one bob (Some (codes "v")) (simp gets refl) (simp gets refl) refl (lit≤ tt) (no_marks bob) (λ a m. elim m [ ]))
      (goes_on (draw_step _ 1 2 one (simp gets refl) (simp gets refl) (lit≤ tt) (lit< tt, lit< tt))
      (goes_on (commit_step _ 1 2 one bob (Some (codes "v")) [] (simp gets refl) (λ h. elim h [ ]) (simp gets refl) refl (lit≤ tt) (leaves_only (bob, 1)))
      (goes_on (begin_step _ 3 (simp gets (lit< tt)) (lit< tt, lit< tt))
      (goes_on (get_step _ 3 bob (Some (codes "v")) bob_is (simp gets refl) (λ t h. elim h [ ]) (newest [] _ 3 0 bob (Some (codes "v")) refl (lit≤ tt) (λ b h. elim h [ ])))
      rests)))))),
)

abbrev new_begun : State
new_begun = record new_machine { top = 1; begun = insert new_machine.begun 1 []; active = insert new_machine.active 1 Open }

-- a session gives v to Bob and w to Joe
abbrev pub filled : Value → Value → State
filled v w = written_two new_begun 1 2 bob joe v w

pub fills : (v w : Value) → length v ≤ most_value → length w ≤ most_value
    → Run new_machine (Begin ∷ Set 1 bob v ∷ Set 1 joe w ∷ Advance 1 ∷ Advance 1 ∷ Advance 1 ∷ Advance 1 ∷ Advance 1 ∷ [])
    (Begun 1 ∷ SetDone ∷ SetDone ∷ Held 1 2 ∷ Held 2 2 ∷ Drawn 2 ∷ Committed 2 ∷ Finished 2 2 ∷ []) (filled v w)
fills v w short short' =
    goes_on (begin_step new_machine 1 (simp gets (lit< tt)) (lit< tt, lit< tt))
    (run_append (holds_two new_begun 1 2 bob joe v w bob_is joe_is bob_not_joe short short' (simp gets refl) (simp gets refl) (λ a m. elim m [ ]) (lit< tt, lit< tt))
    (finishes_two new_begun 1 2 bob joe v w bob_not_joe (λ d. elim d [ ])))

-- Bob has 10 and Joe 2, and session 3 has read both
abbrev pub before : State
before = filled (codes "10") (codes "2")

abbrev pub seen : State
seen = read_both before 3 (Some (codes "10")) (Some (codes "2"))

pub old_bob : (s : ℕ) → 2 ≤ s → IsSnapshot before.commits s bob (Some (codes "10"))
old_bob s late = newest [] _ s 0 bob (Some (codes "10")) refl late (λ b h. elim h [ ])

pub old_joe : (s : ℕ) → 2 ≤ s → IsSnapshot before.commits s joe (Some (codes "2"))
old_joe s late = newest [] _ s 1 joe (Some (codes "2")) refl late (λ b h. elim h [ ])

pub sees : Run before (Begin ∷ Get 3 bob ∷ Get 3 joe ∷ []) (Begun 3 ∷ Answered (Some (codes "10")) ∷ Answered (Some (codes "2")) ∷ []) seen
sees = reads_both before 3 _ _ (simp gets (lit< tt)) (lit< tt, lit< tt) no_marks (old_bob 3 (lit≤ tt)) (old_joe 3 (lit≤ tt))

-- session 3 has its stamp
abbrev pub stamped : State
stamped = stamped_two seen 3 4 bob joe (codes "3") (codes "9")

pub moves : Run seen (Set 3 bob (codes "3") ∷ Set 3 joe (codes "9") ∷ Advance 3 ∷ Advance 3 ∷ Advance 3 ∷ []) (SetDone ∷ SetDone ∷ Held 1 2 ∷ Held 2 2 ∷ Drawn 4 ∷ []) stamped
moves = holds_two seen 3 4 bob joe (codes "3") (codes "9") bob_is joe_is bob_not_joe (lit≤ tt) (lit≤ tt) (simp gets refl) (simp gets refl)
    (each_cons (λ b. b.stamp ≤ 3) (lit≤ tt) (λ b h. elim h [ ])) (lit< tt, lit< tt)

abbrev pub after : State
after = written_two seen 3 4 bob joe (codes "3") (codes "9")

pub transfer : Transfer
transfer = (
  _,
  run_append (fills (codes "10") (codes "2") (lit≤ tt) (lit≤ tt))
      (run_append sees
      (run_append moves
      (run_append (finishes_two seen 3 4 bob joe (codes "3") (codes "9") bob_not_joe (λ d. elim d [ ]))
      (run_append
      (reads_both after 5 (Some (codes "3")) (Some (codes "9")) (simp gets (lit< tt)) (lit< tt, lit< tt) no_marks
      (newest _ _ 5 0 bob (Some (codes "3")) refl (lit≤ tt) (each_cons (λ b. b.stamp ≤ 4) (lit≤ tt) (λ b h. elim h [ ])))
      (newest _ _ 5 1 joe (Some (codes "9")) refl (lit≤ tt) (each_cons (λ b. b.stamp ≤ 4) (lit≤ tt) (λ b h. elim h [ ]))))
      (goes_on (ended_step _ 3 (simp gets refl)) rests))))),
)
