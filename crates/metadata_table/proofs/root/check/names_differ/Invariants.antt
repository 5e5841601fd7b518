use Rattle.std.proofs.Common.{ℕ, ◌≢◌, length}
use Rattle.std.specs.Prelude.{◌↔◌, AllPairs}
use Rattle.metadata_table.proofs.root.check.names_differ.Given as goal

abbrev pub invariant-names : goal.invariant-names
invariant-names l = AllPairs (λ (m n : ℕ). m ≢ n) l.fn.names ↔ AllPairs (λ (m n : ℕ). m ≢ n) l.rest

abbrev pub decreases-names : goal.decreases-names
decreases-names l = length l.rest
