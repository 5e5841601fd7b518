use Rattle.std.proofs.Common.{◌≤◌, ◌+◌, ◌<◌, length, arith, subst, sym, cond, refl, ◌∙◌}
use Rattle.cell_key.specs.Entries.{Takes}
use Rattle.std.specs.Prelude.{Option}
use Rattle.file_store.specs.Store.{Contents}
use Rattle.compaction.proofs.Turns.{breaks_among, go_on, front_set, rest_set, cost_falls, moves_whole, not_each, paid_whole, steps_whole}
use Rattle.compaction.specs.MergeLaw.{step_none}
use Rattle.cell_key.specs.declared.refusals.Refusal.TheVariants.{Device}
use Rattle.cell_key.proofs.Passed.{passed_err, passed_none, passed_on, passed_reason, reason_after}
use Rattle.cell_key.proofs.Reasons.{not_refused as not_err, reason_none as quiet_reason}
use Rattle.compaction.proofs.merge.step_all.Goals as goal

pub loop-source-preserved : goal.loop-source-preserved
loop-source-preserved g c =
    let l : c.loop-source.source-index < length c.args.sources.now = omega arith in
    let told = g.F.Files.contents c.args.files.now in
    let now = g.F.Files.contents c.loop-source.files in
    let s = c.source-item.result in
    let t = c.advance.new.self in
    let holds = subst (λ (o : Option Contents). g.S.Source.holds o s → g.S.Source.holds o t) c.loop-source.invariant.same (subst (λ s. g.S.Source.holds now s → g.S.Source.holds now t) (sym c.source-item.is) c.in_ok-advance.ensures.holds) in
    let takes = subst (λ (o : Option Contents). g.S.Source.holds o s → Takes (g.S.Source.lent t) (g.S.Source.remaining o s) (g.S.Source.remaining o t)) c.loop-source.invariant.same
    (subst (λ s. g.S.Source.holds now s → Takes (g.S.Source.lent t) (g.S.Source.remaining now s) (g.S.Source.remaining now t)) (sym c.source-item.is) c.in_ok-advance.ensures.takes) in
    go_on c.loop-source.invariant c.advance.new.files _ s t l c.source-item.is c.advance.ensures.files (c.in_ok-advance.ensures.reason.told (not_err _ Device))
    (front_set c.loop-source.sources c.loop-source.source-index t (omega arith)) (rest_set c.loop-source.sources c.loop-source.source-index t)
    (cost_falls _ _ c.in_ok-advance.field-0 (g.S.Source.lent t) (g.S.Source.lent s) c.in_ok-advance.ensures.more (subst (λ s. g.S.Source.left t + cond c.in_ok-advance.field-0 1 0 ≤ g.S.Source.left s) (sym c.source-item.is) c.in_ok-advance.ensures.lower))
    (λ before. step_none g.S.Source.lent (g.S.Source.remaining told) (g.S.Source.holds told) s t before.1 (holds before.0) (takes before.0))
    (subst (λ (o : Option Contents). g.S.Source.steps o s t) c.loop-source.invariant.same (subst (λ s. g.S.Source.steps now s t) (sym c.source-item.is) c.in_ok-advance.ensures.steps))

pub returns-in_err-advance-clause-reads : goal.returns-in_err-advance-clause-reads
returns-in_err-advance-clause-reads g c = record {
  refusal = passed_err c.from_residual.result c.in_err-advance.field-0.0 _ c.from_residual.ensures.1 c.in_err-advance.ensures.refusal;
  same = c.in_err-advance.ensures.files ∙ c.loop-source.invariant.same;
  reason = reason_after _ _ _ c.loop-source.invariant.quiet (passed_reason c.from_residual.result _ c.in_err-advance.field-0.0 _ _ c.from_residual.ensures.1 refl c.in_err-advance.ensures.reason);
}

pub returns-in_err-advance-clause-cost : goal.returns-in_err-advance-clause-cost
returns-in_err-advance-clause-cost g c = passed_none c.from_residual.result c.in_err-advance.field-0.0 _ c.from_residual.ensures.1

pub returns-in_err-advance-clause-steps : goal.returns-in_err-advance-clause-steps
returns-in_err-advance-clause-steps g c = passed_none c.from_residual.result c.in_err-advance.field-0.0 _ c.from_residual.ensures.1

pub returns-clause-reads : goal.returns-clause-reads
returns-clause-reads g c = record {
  refusal = tt;
  same = c.loop-source.invariant.same;
  reason = reason_after _ _ _ c.loop-source.invariant.quiet (quiet_reason _ _ (not_err _ Device));
}

pub returns-clause-damaged : goal.returns-clause-damaged
returns-clause-damaged g c = λ is. absurd (not_err _ _ is)

pub returns-clause-cost : goal.returns-clause-cost
returns-clause-cost g c = paid_whole c.loop-source.invariant c.loop-source-test.false c.loop-source.auto.sources

pub returns-in_err-advance-clause-damaged : goal.returns-in_err-advance-clause-damaged
returns-in_err-advance-clause-damaged g c = λ is.
    not_each c.loop-source.invariant g.S.Source.holds c.source-item.result c.loop-source-test.true
    (c.in_err-advance.ensures.damaged (passed_on c.from_residual.result _ c.in_err-advance.field-0.0 _ c.from_residual.ensures.1 refl is))

pub returns-clause-steps : goal.returns-clause-steps
returns-clause-steps g c = steps_whole c.loop-source.invariant c.loop-source-test.false c.loop-source.auto.sources

pub returns-in_err-advance-clause-moves : goal.returns-in_err-advance-clause-moves
returns-in_err-advance-clause-moves g c = passed_none c.from_residual.result c.in_err-advance.field-0.0 _ c.from_residual.ensures.1

pub returns-clause-moves : goal.returns-clause-moves
returns-clause-moves g c = moves_whole c.loop-source.invariant c.loop-source-test.false c.loop-source.auto.sources

pub returns-in_err-advance-clause-broken : goal.returns-in_err-advance-clause-broken
returns-in_err-advance-clause-broken g c = λ is.
    breaks_among c.loop-source.invariant g.S.Source.breaks (λ _. Unit {0}) c.source-item.result c.loop-source-test.true
    (c.in_err-advance.ensures.broken (passed_on c.from_residual.result _ c.in_err-advance.field-0.0 _ c.from_residual.ensures.1 refl is)) tt

pub returns-clause-broken : goal.returns-clause-broken
returns-clause-broken g c = λ is. absurd (not_err _ _ is)
