use Rattle.std.proofs.Common.{ap, sym, subst, ◌∙◌}
use Rattle.compaction.specs.Merging.{MergeHolds, merge_remaining}
use Rattle.compaction.proofs.Ending.{merge_ends}
use Rattle.compaction.proofs.Fresh.{fresh_remaining, fresh_holds}
use Rattle.compaction.proofs.merge.Merge.new.Goals as goal

pub returns-clause-remaining : goal.returns-clause-remaining
returns-clause-remaining g c = λ m h.
    ap (merge_remaining g.S.Source.lent (g.S.Source.remaining m) c.args.sources.items) c.in_ok-order.ensures.items
    ∙ fresh_remaining g.S.Source.lent (g.S.Source.remaining m) (g.S.Source.holds m) c.args.sources.items h

pub returns-clause-holds : goal.returns-clause-holds
returns-clause-holds g c = λ m h.
    subst (MergeHolds g.S.Source.lent (g.S.Source.remaining m) (g.S.Source.holds m) c.args.sources.items) (sym c.in_ok-order.ensures.items)
    (fresh_holds g.S.Source.lent (g.S.Source.remaining m) (g.S.Source.holds m) c.args.sources.items h)

pub returns-clause-comes : goal.returns-clause-comes
returns-clause-comes g c = λ m h. merge_ends (g.S.Source.steps m) g.S.Source.lent (λ s. s.sources.items) (λ s. s.order.items) _ c.in_ok-order.ensures.items h
