use Rattle.std.proofs.Common.{ℕ, ◌<◌, ◌^◌, length}
use Rattle.std.specs.List.{AllByRecursion}
use Rattle.metadata_table.proofs.root.check.all_fit.Given as goal

abbrev pub invariant-numbers : goal.invariant-numbers
invariant-numbers l = AllByRecursion (λ (n : ℕ). n < 2 ^ 64) l.rest → AllByRecursion (λ (n : ℕ). n < 2 ^ 64) l.numbers

abbrev pub decreases-numbers : goal.decreases-numbers
decreases-numbers l = length l.rest
