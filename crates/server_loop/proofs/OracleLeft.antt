-- What a refused call leaves of the oracle.
use Rattle.std.proofs.Common.{◌≡◌, ◌⊎◌, ℕ, Option, inl, inr, ap}
use Rattle.oracle.specs.Marks.{MayHold}
use Rattle.oracle.specs.Ranges.{LeavesNumbers, OracleState, SameNumbers, next_range_end}

module _ {M : Type 0} (mark_of : M → Option ℕ) (old new : OracleState M) (left : (new ≡ old) ⊎ LeavesNumbers mark_of old new) where
  pub left_numbers : SameNumbers old new
  left_numbers = elim left [
    | inl same ↦ record { last = ap (λ (o : OracleState M). o.last) same; range_end = ap (λ (o : OracleState M). o.range_end) same }
    | inr leaves ↦ leaves.numbers
  ]

  pub left_mark : MayHold (next_range_end old.range_end) (mark_of old.marks) (mark_of new.marks)
  left_mark = elim left [
    | inl same ↦ inl (ap (λ (o : OracleState M). mark_of o.marks) same)
    | inr leaves ↦ leaves.mark
  ]
