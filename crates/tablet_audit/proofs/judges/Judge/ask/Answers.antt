use Rattle.std.proofs.Common.{sym, ◌∙◌}
use Rattle.request_codec.specs.Answers.{answer_of}
use Rattle.request_codec.specs.Operations.{operation_of}
use Rattle.ownership.specs.Tables.{table_of}
use Rattle.ownership.proofs.Steps.{differ}
use Rattle.ownership.proofs.Turns.{asked_own}
use Rattle.tablet_audit.proofs.SharedFrames.{asked, lacking, refused}
use Rattle.tablet_audit.proofs.judges.Judge.ask.Goals as goal

pub returns-then-lacks_memory-clause-judged : goal.returns-then-lacks_memory-clause-judged
returns-then-lacks_memory-clause-judged c =
    lacking c.args.admin c.args.self.now c.args.client (operation_of c.args.operation.now) (answer_of c.args.answer.now) (c.lacks_memory.ensures.0 c.if-lacks_memory.true)

pub returns-in-Some-clause-judged : goal.returns-in-Some-clause-judged
returns-in-Some-clause-judged c =
    refused c.args.admin c.args.self.now c.args.client (operation_of c.args.operation.now) (answer_of c.args.answer.now) c.in-Some.refusal c.is_refused.result c.is_refused.ensures
    (sym c.refusal_for.ensures ∙ c.in-Some.is) (λ l. differ (sym (c.lacks_memory.ensures.1 l) ∙ c.if-lacks_memory.false))

pub turn-requires : goal.turn-requires
turn-requires c = record { own = λ name e. asked_own c.args.admin (table_of c.args.self.now.owners) c.args.client (operation_of c.args.operation.now) name (sym c.refusal_for.ensures ∙ c.in_default.is) e }

pub returns-clause-judged : goal.returns-clause-judged
returns-clause-judged c =
    asked c.args.admin c.args.self.now c.turn.new.self c.args.client (operation_of c.args.operation.now) (answer_of c.args.answer.now) c.turn.result
    (sym c.refusal_for.ensures ∙ c.in_default.is) (λ l. differ (sym (c.lacks_memory.ensures.1 l) ∙ c.if-lacks_memory.false)) c.turn.ensures.judged
