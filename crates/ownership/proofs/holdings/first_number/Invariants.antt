use Rattle.std.proofs.Common.{◌≡◌, ℕ, length}
use Rattle.ownership.specs.Lists.{holds}
use Rattle.ownership.proofs.holdings.first_number.Given as goal

-- what was passed is others'
abbrev pub invariant-list : goal.invariant-list
invariant-list l = (number : ℕ) → holds l.list l.client number ≡ holds l.rest l.client number

abbrev pub decreases-list : goal.decreases-list
decreases-list l = length l.rest
