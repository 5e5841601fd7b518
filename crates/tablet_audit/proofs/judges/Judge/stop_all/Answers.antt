use Rattle.std.proofs.Common.{◌≡◌, true, false, rules}
use Rattle.si_model.specs.Machine.{Stop, StopDone}
use Rattle.si_model.specs.Transactions.{One, Said}
use Rattle.tablet_audit.specs.Judges.{JudgesTurn}
use Rattle.tablet_audit.proofs.SharedFrames.{never_unstopped, none_stopped, one_stopped}
use Rattle.tablet_audit.proofs.judges.Judge.stop_all.Goals as goal

pub sessions-init : goal.sessions-init
sessions-init c = none_stopped c.args.self.now c.args.client

pub sessions-preserved : goal.sessions-preserved
sessions-preserved c =
    let judges : JudgesTurn c.sessions.self c.stop.new.self c.args.client (One (Stop c.in-Some.start)) (Said StopDone) true = search rules in
    one_stopped c.args.self.now c.sessions.self c.stop.new.self c.args.client c.in-Some.start c.sessions.invariant c.in-Some.ensures.some judges

pub returns-then-not-branch-clause-judged : goal.returns-then-not-branch-clause-judged
returns-then-not-branch-clause-judged c =
    let judges : JudgesTurn c.sessions.self c.stop.new.self c.args.client (One (Stop c.in-Some.start)) (Said StopDone) false = search rules in
    never_unstopped c.args.self.now c.sessions.self c.stop.new.self c.args.client c.in-Some.start c.sessions.invariant c.in-Some.ensures.some judges c.stop.new.self
