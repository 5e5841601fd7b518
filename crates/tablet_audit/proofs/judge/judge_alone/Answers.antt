use Rattle.std.proofs.Common.{◌≡◌, Ok, true, rules}
use Rattle.request_codec.specs.Answers.{IsAnswerBody, answer_of}
use Rattle.request_codec.specs.Operations.{IsNoOperation, IsOperation, operation_of}
use Rattle.tablet_audit.proofs.Recordings.{passes_malformed, passes_step}
use Rattle.tablet_audit.proofs.judge.judge_alone.Goals as goal

pub returns-then-is_bad_request-clause-judged : goal.returns-then-is_bad_request-clause-judged
returns-then-is_bad_request-clause-judged c =
    let answers : IsAnswerBody (answer_of c.in-Some.answer) c.args.reply.now = search rules in
    let malformed : IsNoOperation c.args.request.now = search rules in
    passes_malformed c.args.audit.now c.args.number c.args.request.now c.args.reply.now (answer_of c.in-Some.answer) answers malformed (c.is_bad_request.ensures.0 c.if-is_bad_request.true)

pub returns-then-branch-clause-judged : goal.returns-then-branch-clause-judged
returns-then-branch-clause-judged c =
    let answers : IsAnswerBody (answer_of c.in-Some.answer) c.args.reply.now = search rules in
    let asks : IsOperation (operation_of c.in-Some-2.operation) c.args.request.now = search rules in
    let yes : c.take_operation.result ≡ Ok true = search rules in
    passes_step c.args.audit.now c.take_operation.new.self c.args.number c.args.request.now c.args.reply.now (operation_of c.in-Some-2.operation) (answer_of c.in-Some.answer)
    c.take_operation.result yes c.take_operation.ensures asks answers
