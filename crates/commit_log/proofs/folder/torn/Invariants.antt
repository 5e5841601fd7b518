use Rattle.std.proofs.Common.{◌≡◌, ◌++◌, ℕ, length}
use Rattle.std.specs.Prelude.{replicate}
use Rattle.commit_log.proofs.folder.torn.Given as goal

-- zeros are behind the remaining bytes
abbrev pub invariant-loop-last : goal.invariant-loop-last
invariant-loop-last l = (zeros : ℕ) × (l.tail ≡ l.rest ++ replicate zeros 0)

abbrev pub decreases-loop-last : goal.decreases-loop-last
decreases-loop-last l = length l.rest
