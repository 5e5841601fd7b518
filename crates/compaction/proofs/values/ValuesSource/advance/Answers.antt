use Rattle.std.proofs.Common.{rules, subst, sym, ◌∙◌}
use Rattle.std.specs.Prelude.{Option}
use Rattle.cell_key.specs.Entries.{Takes}
use Rattle.file_store.specs.Store.{Contents}
use Rattle.compaction.specs.Writing.{breaks_here, breaks_past, steps_once, steps_past}
use Rattle.compaction.proofs.Ending.{ended_if, left_if, written_if}
use Rattle.compaction.proofs.Written.{left_out}
use Rattle.compaction.proofs.values.ValuesSource.advance.Goals as goal

pub returns-then-is_at_written-clause-steps : goal.returns-then-is_at_written-clause-steps
returns-then-is_at_written-clause-steps g c =
    let i = c.loop-self.invariant in
    let s = c.loop-self.self.source in
    let t = c.advance.new.self in
    (i.keep, i.steps t (steps_once (subst (λ (o : Option Contents). g.S.Source.steps o s t) i.same c.in_ok-advance.ensures.steps) (written_if _ _ (g.S.Source.lent t) i.keep c.if-is_at_written.ensures)))

pub loop-self-preserved : goal.loop-self-preserved
loop-self-preserved g c =
    let i = c.loop-self.invariant in
    let s = c.loop-self.self.source in
    let t = c.advance.new.self in
    let step = (subst (λ (o : Option Contents). g.S.Source.steps o s t) i.same c.in_ok-advance.ensures.steps) in
    let out = left_if _ _ (g.S.Source.lent t) i.keep (sym c.in_ok-advance.ensures.more ∙ c.if-branch.true) c.if-is_at_written.ensures in
    record {
      same = search rules;
      quiet = search rules;
      keep = search rules;
      lower = search rules;
      steps = λ u h. i.steps u (steps_past step out h);
      breaks = λ h. i.breaks (breaks_past step out h);
      told = λ h.
          let now = i.told h in
          let holds = subst (λ (o : Option Contents). g.S.Source.holds o s → g.S.Source.holds o t) i.same c.in_ok-advance.ensures.holds in
          let takes = subst (λ (o : Option Contents). g.S.Source.holds o s → Takes (g.S.Source.lent t) (g.S.Source.remaining o s) (g.S.Source.remaining o t)) i.same c.in_ok-advance.ensures.takes in
          (holds now.0, left_out _ (g.S.Source.lent t) _ _ (sym c.if-is_at_written.ensures) (sym c.in_ok-advance.ensures.more ∙ c.if-branch.true) (takes now.0) ∙ now.1);
    }

pub returns-clause-steps : goal.returns-clause-steps
returns-clause-steps g c =
    let i = c.loop-self.invariant in
    let s = c.loop-self.self.source in
    let t = c.advance.new.self in
    (i.keep, i.steps t (steps_once (subst (λ (o : Option Contents). g.S.Source.steps o s t) i.same c.in_ok-advance.ensures.steps) (ended_if (g.S.Source.lent t) _ (sym c.in_ok-advance.ensures.more ∙ c.if-branch.false))))

pub returns-in_err-advance-clause-broken : goal.returns-in_err-advance-clause-broken
returns-in_err-advance-clause-broken g c = λ is.
    let i = c.loop-self.invariant in
    i.breaks (breaks_here (subst (λ (o : Option Contents). g.S.Source.breaks o c.loop-self.self.source) i.same (c.in_err-advance.ensures.broken (search rules))))
