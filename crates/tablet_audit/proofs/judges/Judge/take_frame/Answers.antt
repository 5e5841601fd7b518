use Rattle.std.proofs.Common.{◌≡◌, true, ap, rules}
use Rattle.request_codec.specs.Answers.{answer_of}
use Rattle.request_codec.specs.Operations.{operation_of}
use Rattle.ownership.specs.Frames.{frame_of}
use Rattle.tablet_audit.proofs.SharedFrames.{asked_so, left_so, malformed_to, nobody_to}
use Rattle.tablet_audit.proofs.judges.Judge.take_frame.Goals as goal

pub returns-else-client-to-clause-judged : goal.returns-else-client-to-clause-judged
returns-else-client-to-clause-judged c =
    let same : c.in-Asks.client ≡ c.args.to = search rules in
    asked_so c.args.admin c.args.self.now c.ask.new.self (frame_of c.args.frame.now) c.in-Asks.client c.args.to (operation_of c.in-Asks.operation) (answer_of c.args.answer.now)
    c.ask.result (ap frame_of c.in-Asks.is) same c.ask.ensures.judged

pub returns-else-not-is_stopped-clause-judged : goal.returns-else-not-is_stopped-clause-judged
returns-else-not-is_stopped-clause-judged c =
    let same : c.in-Leaves.client ≡ c.args.to = search rules in
    let yes : c.is_stopped.result ≡ true = search rules in
    left_so c.args.admin c.args.self.now c.leave.new.self (frame_of c.args.frame.now) c.in-Leaves.client c.args.to (answer_of c.args.answer.now)
    c.leave.result (ap frame_of c.in-Leaves.is) same (c.is_stopped.ensures.0 yes) c.leave.ensures.judged

pub returns-then-client-to-3-clause-judged : goal.returns-then-client-to-3-clause-judged
returns-then-client-to-3-clause-judged c =
    let same : c.in-Malformed.client ≡ c.args.to = search rules in
    malformed_to c.args.admin c.args.self.now (frame_of c.args.frame.now) c.in-Malformed.client c.args.to (answer_of c.args.answer.now) c.is_refused.result
    (ap frame_of c.in-Malformed.is) same c.is_refused.ensures

pub returns-then-to-eq0-clause-judged : goal.returns-then-to-eq0-clause-judged
returns-then-to-eq0-clause-judged c =
    let zero : c.args.to ≡ 0 = search rules in
    nobody_to c.args.admin c.args.self.now (frame_of c.args.frame.now) c.args.to (answer_of c.args.answer.now) c.is_refused-then-to-eq0.result
    (ap frame_of c.in-NoClient.is) zero c.is_refused-then-to-eq0.ensures
