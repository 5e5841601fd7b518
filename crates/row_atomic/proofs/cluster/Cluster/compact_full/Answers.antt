-- If no memtable may be full, none is compacted. The bound is right after it was recomputed.
use Rattle.std.proofs.Common.{ap, ◌∙◌}
use Rattle.row_atomic.specs.Memtables.{largest, longest}
use Rattle.row_atomic.proofs.Flushes.{keeps_start}
use Rattle.row_atomic.proofs.Memtables.{fullest_bounds, none_compacted, none_if}
use Rattle.row_atomic.proofs.cluster.Cluster.compact_full.Goals as goal

pub invariant_of-self : goal.invariant_of-self
invariant_of-self g c =
    (c.self.invariant.0, c.self.invariant.1, fullest_bounds c.fullest-self-inside.result c.self.inside.tablets.items (c.fullest-self-inside.ensures.entries ∙ ap longest c.deref.ensures.value) (c.fullest-self-inside.ensures.bytes ∙ ap largest c.deref.ensures.value))

pub returns-then-may_have_full-clause-compacts : goal.returns-then-may_have_full-clause-compacts
returns-then-may_have_full-clause-compacts g c = rw c.self.view_is c.compact_each_full.ensures.compacts

pub returns-then-may_have_full-clause-keeps : goal.returns-then-may_have_full-clause-keeps
returns-then-may_have_full-clause-keeps g c = rw c.self.view_is c.compact_each_full.ensures.keeps

pub returns-else-may_have_full-clause-compacts : goal.returns-else-may_have_full-clause-compacts
returns-else-may_have_full-clause-compacts g c =
    none_compacted g.F.Files.contents g.F.Files.faults c.args.limits c.args.self.now (none_if _ _ c.may_have_full.ensures c.if-may_have_full.false)

pub returns-else-may_have_full-clause-keeps : goal.returns-else-may_have_full-clause-keeps
returns-else-may_have_full-clause-keeps g c = keeps_start g.F.Files.contents g.F.Files.faults c.args.self.now
