use Rattle.std.proofs.Common.{◌≡◌}
use Rattle.std.specs.BTreeMap as btree
use Rattle.std.specs.BTreeMap.{is_at}
use Rattle.std.specs.Map.{lookup}
use Rattle.audit.specs.Histories.{name_cmp}
use Rattle.audit.proofs.audit.marks.search.Given as goal

-- the cell's entry is among the ones that are left, if there is one
abbrev pub invariant-loop-name : goal.invariant-loop-name
invariant-loop-name l = lookup (is_at (name_cmp (l.row, l.family))) l.name-iterator ≡ btree.get name_cmp l.holders (l.row, l.family)
