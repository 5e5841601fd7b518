-- One name more is listed.
use Rattle.std.proofs.Common.{List, ℕ, refl, sym, ◌∙◌, subst}
use Rattle.std.proofs.lemmas.List.{take_more, take_all}
use Rattle.metadata_table.specs.Table.{IsListed}
use Rattle.row_atomic.specs.MergeSteps.{AreListed}
use Rattle.row_atomic.proofs.ManyRows.{each_both}
use Rattle.row_atomic.proofs.cluster.Cluster.lists_sources.Goals as goal

pub loop-name-preserved : goal.loop-name-preserved
loop-name-preserved g c =
    subst (λ (names : List ℕ). AreListed names c.self.inside.table) (sym (take_more c.sources-name-items.result.now c.loop-name.name-index 0 c.loop-name-test.true))
    (each_both (λ name. IsListed name c.self.inside.table) _ _ c.loop-name.invariant (c.if-not-listed.ensures.0 refl, tt))

pub returns : goal.returns
returns g c = λ is. rw (← c.self.view_is)
    (subst (λ (names : List ℕ). AreListed names c.self.inside.table) (take_all c.loop-name.name-index c.sources-name-items.result.now c.loop-name-test.false ∙ c.sources-name-items.ensures) c.loop-name.invariant)
