use Rattle.std.proofs.Common.{List, ℕ, subst}
use Rattle.std.specs.Prelude.{All}
use Rattle.std.proofs.lemmas.List.Sorted.{Contains-permutation, IsNonDecreasingBy-from_sort, IsPermutation-sym}
use Rattle.sorted_file.specs.Filters.{HasBits}
use Rattle.sorted_file.proofs.numbers.Numbers.new.Goals as goal

pub invariant_of-result : goal.invariant_of-result
invariant_of-result c = (
  IsNonDecreasingBy-from_sort (λ n. n) _ c.sort_unstable.ensures.sorted,
  subst (λ (l : List ℕ). All (HasBits c.add_all.new.self.words.items) l) c.deref.ensures.value c.add_all.ensures.each,
)

pub returns-clause-keeps : goal.returns-clause-keeps
returns-clause-keeps c = λ number there. Contains-permutation _ _ number c.sort_unstable.ensures.permutation there

pub returns-clause-only : goal.returns-clause-only
returns-clause-only c = λ number there. Contains-permutation _ _ number (IsPermutation-sym _ _ c.sort_unstable.ensures.permutation) there
