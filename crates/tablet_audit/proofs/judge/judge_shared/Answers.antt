use Rattle.std.proofs.Common.{◌≡◌, Ok, Some, true, rules}
use Rattle.ownership.specs.Frames.{IsBodyOf, frame_of}
use Rattle.request_codec.specs.Answers.{answer_of}
use Rattle.tablet_audit.specs.Judges.{JudgesFrame}
use Rattle.tablet_audit.specs.Runs.{IsAnswerTo}
use Rattle.tablet_audit.proofs.SharedFrames.{passes_shared}
use Rattle.tablet_audit.proofs.judge.judge_shared.Goals as goal

pub returns-then-branch-clause-judged : goal.returns-then-branch-clause-judged
returns-then-branch-clause-judged c =
    let frame = c.in-Ok.frame in
    let to = c.in-Some.to in
    let said = c.in-Some.answer in
    let is : IsBodyOf (frame_of frame) c.args.request.now = search rules in
    let answers : IsAnswerTo to (answer_of said) c.args.reply.now = search rules in
    let judges : JudgesFrame c.args.admin c.args.judge.now c.take_frame.new.self (frame_of frame) to (answer_of said) true = search rules in
    passes_shared c.args.admin c.args.judge.now c.take_frame.new.self c.args.number c.args.request.now c.args.reply.now (frame_of frame) to (answer_of said) is answers judges
