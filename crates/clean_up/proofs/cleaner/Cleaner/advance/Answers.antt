use Rattle.std.proofs.Common.{ap, refl}
use Rattle.std.proofs.lemmas.Bool.{OnFalse_at, OnTrue_at}
use Rattle.clean_up.specs.Shows.{is_decided}
use Rattle.clean_up.specs.declared.fates.Fate.TheVariants.{Back, Forward}
use Rattle.clean_up.proofs.CleanerSteps.{back_so, decides_so, forward_so, gone_so}
use Rattle.clean_up.proofs.cleaner.Cleaner.advance.Goals as goal

pub returns-in_ok-self-in-Open-clause-step : goal.returns-in_ok-self-in-Open-clause-step
returns-in_ok-self-in-Open-clause-step g c = λ held.
    decides_so g.R.Rows.seen c.args.rows.now c.decide.new.rows c.args.self.now held c.in_ok-self-in-Open.field-0 c.in-Open.is c.in_ok-self-in-Open.ensures.decided

pub returns-then-branch-clause-step : goal.returns-then-branch-clause-step
returns-then-branch-clause-step g c = λ held.
    rw c.stamp.ensures.stamp (forward_so g.R.Rows.seen c.args.rows.now c.clear.new.rows c.args.self.now held c.in-Forward.commit c.in-Forward.is
    (OnTrue_at c.if-branch.true c.in_ok-clear-in-Forward.ensures.made))

pub returns-else-branch-clause-step : goal.returns-else-branch-clause-step
returns-else-branch-clause-step g c = λ held.
    gone_so g.R.Rows.seen c.args.rows.now c.clear.new.rows c.args.self.now held (Forward c.in-Forward.commit) c.in-Forward.is refl
    (OnFalse_at c.if-branch.false (c.in_ok-clear-in-Forward.ensures.gone (g.R.Rows.seen.each_readable c.args.rows.now held c.args.self.now.cell.row))) (OnFalse_at c.if-branch.false c.in_ok-clear-in-Forward.ensures.left)

pub returns-then-branch-2-clause-step : goal.returns-then-branch-2-clause-step
returns-then-branch-2-clause-step g c = λ held.
    back_so g.R.Rows.seen c.args.rows.now c.clear-in-Back.new.rows c.args.self.now held c.in-Back.is (OnTrue_at c.if-branch-2.true c.in_ok-clear-in-Back.ensures.made)

pub returns-else-branch-2-clause-step : goal.returns-else-branch-2-clause-step
returns-else-branch-2-clause-step g c = λ held.
    gone_so g.R.Rows.seen c.args.rows.now c.clear-in-Back.new.rows c.args.self.now held Back c.in-Back.is refl
    (OnFalse_at c.if-branch-2.false (c.in_ok-clear-in-Back.ensures.gone (g.R.Rows.seen.each_readable c.args.rows.now held c.args.self.now.cell.row))) (OnFalse_at c.if-branch-2.false c.in_ok-clear-in-Back.ensures.left)

pub returns-in_ok-self-in-Open-clause-told : goal.returns-in_ok-self-in-Open-clause-told
returns-in_ok-self-in-Open-clause-told g c = (c.in-Open.is, refl, c.in_ok-self-in-Open.ensures.decided)

pub returns-then-branch-clause-told : goal.returns-then-branch-clause-told
returns-then-branch-clause-told g c = rw c.stamp.ensures.stamp c.in-Forward.is

pub returns-else-branch-clause-told : goal.returns-else-branch-clause-told
returns-else-branch-clause-told g c = (ap is_decided c.in-Forward.is, λ held. OnFalse_at c.if-branch.false (c.in_ok-clear-in-Forward.ensures.gone (g.R.Rows.seen.each_readable c.args.rows.now held c.args.self.now.cell.row)))

pub returns-then-branch-2-clause-told : goal.returns-then-branch-2-clause-told
returns-then-branch-2-clause-told g c = c.in-Back.is

pub returns-else-branch-2-clause-told : goal.returns-else-branch-2-clause-told
returns-else-branch-2-clause-told g c = (ap is_decided c.in-Back.is, λ held. OnFalse_at c.if-branch-2.false (c.in_ok-clear-in-Back.ensures.gone (g.R.Rows.seen.each_readable c.args.rows.now held c.args.self.now.cell.row)))
