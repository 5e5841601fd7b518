-- The files at the place have the names of the merge's files.
use Rattle.std.proofs.Common.{ℕ, List, refl, sym, ◌∙◌, subst}
use Rattle.tablet.specs.RunMerges.{IsRunAt}
use Rattle.tablet.specs.Views.{files_of}
use Rattle.row_atomic.proofs.RowAnswers.{found_there}
use Rattle.row_atomic.proofs.cluster.Cluster.index_of_merge.Goals as goal

pub returns-in-Some-clause-stands : goal.returns-in-Some-clause-stands
returns-in-Some-clause-stands g c =
    let at = rw (← c.self.view_is) at c.position-index.ensures in
    let t = c.index-tablet.result.now in
    rw (← c.merge.view_is, ← c.self.view_is) (record {
      number = at.number;
      tablet = t;
      there = found_there c.self.inside.tablets.items c.position-index.result at.tablet t at.there c.index-tablet.ensures;
      range = sym c.range.ensures ∙ c.if-not-are_same_ranges.ensures refl;
      at = c.in-Some.field-0;
      run = subst (λ (names : List ℕ). IsRunAt (files_of t) names c.in-Some.field-0) (sym c.merge.invariant.4) c.in-Some.ensures;
    })
