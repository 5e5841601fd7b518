use Rattle.std.proofs.Common.{◌≡◌, ◌∙◌, sym, None, true, false, subst, rules}
use Rattle.tablet_audit.specs.Reopenings.{JudgesOpening}
use Rattle.tablet_audit.proofs.Recordings.{badly_marked, not_opened, opened}
use Rattle.tablet_audit.proofs.reopenings.reopen.Goals as goal

pub returns-in_default-clause-judged : goal.returns-in_default-clause-judged
returns-in_default-clause-judged c =
    let none : c.find_behind.result ≡ None = search rules in
    not_opened _ c.args.judge.now (sym c.find_behind.ensures ∙ none)

pub returns-then-not-branch-clause-judged : goal.returns-then-not-branch-clause-judged
returns-then-not-branch-clause-judged c =
    let bad : JudgesOpening c.in-Some.reopening.mark c.args.judge.now.audit c.open_over.new.audit false = search rules in
    badly_marked _ c.in-Some.reopening c.args.judge.now (record { audit = c.open_over.new.audit; owners = c.args.judge.now.owners }) c.open_over.new.audit (sym c.find_behind.ensures ∙ c.in-Some.is) bad

pub returns-clause-judged : goal.returns-clause-judged
returns-clause-judged c =
    let opens : JudgesOpening c.in-Some.reopening.mark c.args.judge.now.audit c.open_over.new.audit true = search rules in
    opened _ c.in-Some.reopening c.args.judge.now _ (sym c.find_behind.ensures ∙ c.in-Some.is) opens c.new.ensures.empty
