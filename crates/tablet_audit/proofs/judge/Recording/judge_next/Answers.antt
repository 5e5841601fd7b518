use Rattle.std.proofs.Common.{rules}
use Rattle.request_codec.specs.Stream.{longest}
use Rattle.tablet_audit.specs.Frames.{Splits}
use Rattle.tablet_audit.specs.Limits.{longest_replied}
use Rattle.tablet_audit.proofs.Recordings.{stops_if_judged}
use Rattle.tablet_audit.proofs.judge.Recording.judge_next.Goals as goal

pub returns-clause-ended : goal.returns-clause-ended
returns-clause-ended c =
    let asks : Splits longest c.args.self.now.requests.now c.in-Ok.frame.0.now c.in-Ok.frame.1.now = search rules in
    let answers : Splits (longest_replied c.args.sharing) c.args.self.now.replies.now c.in-Ok-first_frame.frame.0.now c.in-Ok-first_frame.frame.1.now = search rules in
    stops_if_judged c.args.sharing c.args.judge.now c.judge_bodies.new.judge c.args.number c.args.self.now.requests.now c.args.self.now.replies.now
    c.in-Ok.frame.0.now c.in-Ok-first_frame.frame.0.now c.in-Ok.frame.1.now c.in-Ok-first_frame.frame.1.now c.judge_bodies.result asks answers c.judge_bodies.ensures.judged
