use Rattle.std.proofs.Common.{◌≡◌}
use Rattle.std.specs.BTreeSet.{contains, btree_set_len}
use Rattle.std.specs.Ordering.{nat_cmp}
use Rattle.power_tests.specs.Views.{AgreeBut}
use Rattle.power_tests.proofs.cached_files.copy_all.Given as goal

abbrev pub invariant-loop-name : goal.invariant-loop-name
invariant-loop-name l = AgreeBut (contains nat_cmp l.left) l.to l.from × (l.from ≡ l.initial.from)

abbrev pub decreases-loop-name : goal.decreases-loop-name
decreases-loop-name l = btree_set_len l.left
