-- A worked script of tablets.
use Rattle.std.proofs.Common.{◌≡◌, ℕ, List, Some, refl, codes, lit<, lit≤, arith}
use Rattle.std.proofs.lemmas.Option.{none-some}
use Rattle.cell_key.specs.Names.{IsRow}
use Rattle.si_model.specs.Sets.{here, there}
use Rattle.si_model.specs.Machine.{Place, IsEnd, new_machine, refuses, accepts, goes_on, rests, splits, moves_tablet, cuts_last, moves, moves_later}
use Rattle.si_model.specs.Scripts.{SplitTablet}
use Rattle.si_model.proofs.Tools.{each_cons}
use Rattle.si_model.proofs.FirstRefusals.{split_end_first}
use Rattle.si_model.proofs.Acceptable.{split_ok, move_ok}

is_row : IsRow (codes "Bob")
is_row = record { some = lit≤ tt; few = lit≤ tt }

no_end : (row : List ℕ) → ¬ IsEnd new_machine row
no_end row (p, m, e) = each_cons (λ (q : Place). q.end ≡ Some row → ⊥) (λ f. none-some row f) (λ q h. elim h [ ]) p m e

pub split_tablet : SplitTablet
split_tablet = (
  _,
  goes_on (accepts (split_ok is_row (no_end (codes "Bob")) (lit< tt)) (splits cuts_last))
      (goes_on (refuses (split_end_first is_row (_, here, refl)))
      (goes_on (accepts (move_ok {k = 2} (_, here, refl) (lit< tt)) (moves_tablet moves))
      (goes_on (accepts (move_ok {k = 1} (_, there here, refl) (lit< tt)) (moves_tablet (moves_later (λ e. absurd (omega (arith, e))) moves)))
      rests))),
)
