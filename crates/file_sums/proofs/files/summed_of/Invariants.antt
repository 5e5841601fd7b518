use Rattle.std.proofs.Common.{◌≡◌, ◌||◌, ℕ, drop}
use Rattle.std.specs.List.{list_any}
use Rattle.std.specs.BTreeSet.{contains}
use Rattle.std.specs.Ordering.{nat_cmp}
use Rattle.file_sums.specs.Shown.{is_summed_as}
use Rattle.file_sums.proofs.files.summed_of.Given as goal

-- a number is there, or is that of one of the names that are left
abbrev pub invariant-loop-name : goal.invariant-loop-name
invariant-loop-name l = (q : ℕ)
    → (contains nat_cmp l.summed q || list_any (λ name. is_summed_as name q) (drop l.name-index l.names))
    ≡ list_any (λ name. is_summed_as name q) l.names
