use Rattle.std.proofs.Common.{◌≡◌, ℕ, List, length, take}
use Rattle.std.specs.Prelude.{All}
use Rattle.sorted_file.specs.Filters.{HasBits}
use Rattle.sorted_file.proofs.filter.set_each.Given as goal

pub record Set (old new numbers : List ℕ) : Type 0 where
  pub each : All (HasBits new) numbers
  pub keeps : (other : ℕ) → HasBits old other → HasBits new other
  pub size : length new ≡ length old

abbrev pub invariant-loop-number : goal.invariant-loop-number
invariant-loop-number l = Set l.initial.words l.words (take l.number-index l.fn.numbers)
