use Rattle.std.proofs.Common.{◌≡◌, ◌++◌, List, ℕ, length}
use Rattle.cell_key.specs.Keys.{byte_cmp}
use Rattle.cell_key.proofs.text_order.compare_texts.Given as goal

-- the rests behind a common front decide
abbrev pub invariant-fronts : goal.invariant-fronts
invariant-fronts l =
    (byte_cmp l.left l.right ≡ byte_cmp l.fn.a l.fn.b)
    × ((both : List ℕ) × (l.fn.a ≡ both ++ l.left) × (l.fn.b ≡ both ++ l.right))

abbrev pub decreases-fronts : goal.decreases-fronts
decreases-fronts l = length l.left
