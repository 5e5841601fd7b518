use Rattle.std.proofs.Common.{◌≡◌, ◌++◌, List, ℕ, length}
use Rattle.cell_key.proofs.text_order.are_same.Given as goal

-- the rests are behind a common front
abbrev pub invariant-words : goal.invariant-words
invariant-words l = (both : List ℕ) × (l.fn.first ≡ both ++ l.left) × (l.fn.second ≡ both ++ l.right)

abbrev pub decreases-words : goal.decreases-words
decreases-words l = length l.left
