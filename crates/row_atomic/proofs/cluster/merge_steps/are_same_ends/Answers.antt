-- Rows that compare as equal are the same.
use Rattle.std.proofs.Common.{◌≡◌, Some, IsTrue, Ordering, Less, Equal, Greater, is_eq, refl, sym, ap, ◌∙◌}
use Rattle.std.specs.FinMap.{nat_cmp-IsAntisymmetric, slice_cmp-IsAntisymmetric}
use Rattle.row_atomic.proofs.cluster.merge_steps.are_same_ends.Goals as goal

equal : (o : Ordering) → IsTrue (is_eq o) → o ≡ Equal
equal Less is = cc
equal Equal is = refl
equal Greater is = cc

pub returns-in-Some-Some : goal.returns-in-Some-Some
returns-in-Some-Some c = λ is.
    c.in-Some-Some.is-0
    ∙ ap Some (slice_cmp-IsAntisymmetric nat_cmp-IsAntisymmetric c.in-Some-Some.row c.in-Some-Some.end (sym c.cmp.ensures ∙ equal c.cmp.result (sym c.is_eq.ensures ∙ is)))
    ∙ sym c.in-Some-Some.is-1
