use Rattle.std.proofs.Common.{◌≤◌, ◌<◌, ◌+◌, length, arith, subst, sym, cond, refl, ◌∙◌}
use Rattle.std.specs.Prelude.{Option}
use Rattle.file_store.specs.Store.{Contents}
use Rattle.cell_key.specs.Entries.{Takes}
use Rattle.compaction.proofs.Moves.{broken_here, damaged_here, moving_all, moving_lower, moving_on, moving_past}
use Rattle.compaction.proofs.Turns.{cost_falls, cost_falls_from, first_within}
use Rattle.cell_key.specs.declared.refusals.Refusal.TheVariants.{Device}
use Rattle.cell_key.proofs.Passed.{passed_on}
use Rattle.cell_key.proofs.Reasons.{not_refused as not_err}
use Rattle.compaction.proofs.merge.advance_each.Goals as goal
use Rattle.compaction.proofs.merge.advance_each.Goals.{then-place-sources+in_ok-advance, else-place-sources}

pub loop-place-preserved : goal.loop-place-preserved
loop-place-preserved g c =
    let i = c.loop-place.place-index in
    let ys = c.loop-place.sources in
    let same = c.loop-place.invariant.same in
    let now = g.F.Files.contents c.loop-place.files in
    let l : i < length c.args.places.now = omega arith in
    elim c.if-place-sources.branch [
      | then-place-sources+in_ok-advance w ↦
          let s = w.index-sources-place.result in
          let t = w.advance.new.self in
          let is = w.index-sources-place.is in
          let lower = subst (λ s. g.S.Source.left t + cond w.in_ok-advance.field-0 1 0 ≤ g.S.Source.left s) (sym is) w.in_ok-advance.ensures.lower in
          let step = subst (λ (o : Option Contents). g.S.Source.steps o s t) same (subst (λ s. g.S.Source.steps now s t) (sym is) w.in_ok-advance.ensures.steps) in
          let still = subst (λ (o : Option Contents). g.S.Source.holds o s → g.S.Source.holds o t) same (subst (λ s. g.S.Source.holds now s → g.S.Source.holds now t) (sym is) w.in_ok-advance.ensures.holds) in
          let takes = subst (λ (o : Option Contents). g.S.Source.holds o s → Takes (g.S.Source.lent t) (g.S.Source.remaining o s) (g.S.Source.remaining o t)) same
          (subst (λ s. g.S.Source.holds now s → Takes (g.S.Source.lent t) (g.S.Source.remaining now s) (g.S.Source.remaining now t)) (sym is) w.in_ok-advance.ensures.takes) in
          rw (w.sources-is, w.files-is) (record {
            same = w.advance.ensures.files ∙ same;
            quiet = w.in_ok-advance.ensures.reason.told (not_err _ Device) ∙ c.loop-place.invariant.quiet;
            moving = moving_on c.loop-place.invariant.moving l s t w.if-place-sources.true is
                (first_within _ _ _ (cost_falls (g.S.Source.left t) (g.S.Source.left s) w.in_ok-advance.field-0 (g.S.Source.lent t) (g.S.Source.lent s) w.in_ok-advance.ensures.more lower))
                (λ some. cost_falls_from (g.S.Source.left t) (g.S.Source.left s) w.in_ok-advance.field-0 (g.S.Source.lent t) (g.S.Source.lent s) w.in_ok-advance.ensures.more some lower)
                (record { step = step; still = still; takes = takes });
          })
      | else-place-sources w ↦ rw (w.sources-is, w.files-is) (record {
        same = same;
        quiet = c.loop-place.invariant.quiet;
        moving = moving_past c.loop-place.invariant.moving l (omega (arith, w.if-place-sources.false));
      })
    ]

pub returns-in_err-advance-clause-damaged : goal.returns-in_err-advance-clause-damaged
returns-in_err-advance-clause-damaged g c = λ err distinct.
    damaged_here c.loop-place.invariant.moving c.loop-place-test.true distinct c.if-place-sources.true g.S.Source.holds _ _ c.index-sources-place.result c.loop-place.invariant.same c.index-sources-place.is
    (subst (λ s. ¬ g.S.Source.holds (g.F.Files.contents c.loop-place.files) s) (sym c.index-sources-place.is) (c.in_err-advance.ensures.damaged (passed_on c.from_residual.result _ c.in_err-advance.field-0.0 _ c.from_residual.ensures.1 refl err)))

pub returns-in_err-advance-clause-broken : goal.returns-in_err-advance-clause-broken
returns-in_err-advance-clause-broken g c = λ err distinct.
    broken_here c.loop-place.invariant.moving c.loop-place-test.true distinct c.if-place-sources.true g.S.Source.breaks _ _ c.index-sources-place.result c.loop-place.invariant.same c.index-sources-place.is
    (subst (λ s. g.S.Source.breaks (g.F.Files.contents c.loop-place.files) s) (sym c.index-sources-place.is) (c.in_err-advance.ensures.broken (passed_on c.from_residual.result _ c.in_err-advance.field-0.0 _ c.from_residual.ensures.1 refl err)))

pub returns-clause-cost : goal.returns-clause-cost
returns-clause-cost g c = c.loop-place.invariant.moving.paid

pub returns-clause-lower : goal.returns-clause-lower
returns-clause-lower g c = moving_lower c.args.places.now c.loop-place.invariant.moving c.loop-place-test.false

pub returns-clause-moves : goal.returns-clause-moves
returns-clause-moves g c = moving_all c.args.places.now c.loop-place.invariant.moving c.loop-place-test.false
