use Rattle.std.proofs.Common.{◌≡◌, ◌||◌, ℕ, drop}
use Rattle.std.specs.List.{list_any}
use Rattle.std.specs.BTreeSet.{contains}
use Rattle.std.specs.Ordering.{nat_cmp}
use Rattle.file_sums.specs.Shown.{shows, sums_in}
use Rattle.file_sums.proofs.files.shown_of.Given as goal

-- a number is there, or is shown for one of the names that are left
abbrev pub invariant-loop-name : goal.invariant-loop-name
invariant-loop-name l = (q : ℕ)
    → (contains nat_cmp l.shown q || list_any (λ name. shows (sums_in l.summed) name q) (drop l.name-index l.names))
    ≡ list_any (λ name. shows (sums_in l.summed) name q) l.names
