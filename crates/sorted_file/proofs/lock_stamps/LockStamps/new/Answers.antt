use Rattle.std.proofs.Common.{rules}
use Rattle.std.proofs.lemmas.List.Sorted.{Contains-permutation, IsNonDecreasingBy-from_sort_by_key, IsPermutation-sym}
use Rattle.sorted_file.proofs.LockTimes.{column_of}
use Rattle.sorted_file.proofs.lock_stamps.LockStamps.new.Goals as goal

pub invariant_of-result : goal.invariant_of-result
invariant_of-result c = IsNonDecreasingBy-from_sort_by_key column_of _ c.sort_unstable_by_key.ensures.sorted (λ a r q k. search rules)

pub returns-clause-keeps : goal.returns-clause-keeps
returns-clause-keeps c = λ lock there. Contains-permutation _ _ lock c.sort_unstable_by_key.ensures.permutation there

pub returns-clause-only : goal.returns-clause-only
returns-clause-only c = λ lock there. Contains-permutation _ _ lock (IsPermutation-sym _ _ c.sort_unstable_by_key.ensures.permutation) there
