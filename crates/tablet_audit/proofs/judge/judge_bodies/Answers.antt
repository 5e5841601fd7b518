use Rattle.std.proofs.Common.{refl}
use Rattle.tablet_audit.proofs.Recordings.{judged_alone, judged_shared}
use Rattle.tablet_audit.proofs.judge.judge_bodies.Goals as goal

pub returns-in-Alone-clause-judged : goal.returns-in-Alone-clause-judged
returns-in-Alone-clause-judged c =
    judged_alone c.args.sharing c.args.judge.now (record { audit = c.judge_alone.new.audit; owners = c.args.judge.now.owners }) c.args.number c.args.request.now c.args.reply.now
    c.judge_alone.result c.in-Alone.is refl c.judge_alone.ensures.judged

pub returns-in-Shared-clause-judged : goal.returns-in-Shared-clause-judged
returns-in-Shared-clause-judged c =
    judged_shared c.args.sharing c.in-Shared.admin c.args.judge.now c.judge_shared.new.judge c.args.number c.args.request.now c.args.reply.now
    c.judge_shared.result c.in-Shared.is c.judge_shared.ensures.judged
