use Rattle.std.proofs.Common.{◌≡◌, ℕ, true, false, not, ◌&&◌, ◌||◌}
use Rattle.std.specs.Prelude.{nat_eq}
use Rattle.ownership.specs.Lists.{held_by, holds}
use Rattle.ownership.proofs.holdings.Holdings.pass.Given as goal

abbrev pub decreases-loop-number : goal.decreases-loop-number
decreases-loop-number l = held_by l.from l.self.list.items

-- what is left is some of what was there; what is gone is the other's
abbrev pub invariant-loop-number : goal.invariant-loop-number
invariant-loop-number l =
    let old = l.fn.self.list.items in
    let new = l.self.list.items in
    ((n : ℕ) → holds new l.from n ≡ true → holds old l.from n ≡ true)
    × ((n : ℕ) → holds new l.to n ≡ (holds old l.to n || (holds old l.from n && not (holds new l.from n))))
    × ((c n : ℕ) → nat_eq l.from c ≡ false → nat_eq l.to c ≡ false → holds new c n ≡ holds old c n)
