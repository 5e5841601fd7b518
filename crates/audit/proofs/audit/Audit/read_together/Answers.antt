use Rattle.std.proofs.Common.{◌≡◌, Ok, subst, sym, rules}
use Rattle.request_codec.specs.Answers.{answer_of}
use Rattle.request_codec.specs.Replies.{replied}
use Rattle.request_codec.specs.declared.answers.Answer.{Answer as Kept}
use Rattle.request_codec.specs.declared.answers.Answer.TheVariants as kept
use Rattle.request_codec.specs.declared.replies.Reply.TheVariants as reply
use Rattle.si_model.specs.Answers.{cells_named}
use Rattle.si_model.specs.Machine.{State}
use Rattle.si_model.specs.Transactions.{Goes, Read}
use Rattle.audit.specs.Audits.{JudgesOperation, KeepsReached}
use Rattle.audit.proofs.JudgedOnly.{no_read_commits, no_read_reply}
use Rattle.audit.proofs.JudgedRefusals.{not_refused}
use Rattle.audit.proofs.KeptMaps.{stays_itself}
use Rattle.audit.proofs.audit.Audit.read_together.Goals as goal

pub returns-in-Refused : goal.returns-in-Refused
returns-in-Refused c =
    let is : c.args.answer.now ≡ kept.Said (reply.Refused c.in-Refused.refusal) = search rules in
    subst (λ (a : Kept). JudgesOperation c.args.self.now c.args.self.now (Read c.args.start (cells_named c.args.cells.now) c.args.stays_open) (answer_of a) (Ok c.refuses_read.result)) (sym is) (c.refuses_read.ensures c.args.stays_open)

pub returns-in_default : goal.returns-in_default
returns-in_default c = (
  subst (λ (a : Kept). (st next : State) → KeepsReached c.args.self.now st → Goes st (Read c.args.start (cells_named c.args.cells.now) c.args.stays_open) (answer_of a) next → ⊥) (sym c.in-Said.is)
      (λ st next k g. no_read_reply (replied c.in-Said.reply) (λ n. not_refused c.in-Said.reply n c.in_default.not-Refused) g),
  stays_itself c.args.self.now,
)

pub returns-in-Commit : goal.returns-in-Commit
returns-in-Commit c = (
  subst (λ (a : Kept). (st next : State) → KeepsReached c.args.self.now st → Goes st (Read c.args.start (cells_named c.args.cells.now) c.args.stays_open) (answer_of a) next → ⊥) (sym c.in-Commit.is)
      (λ st next k g. no_read_commits c.in-Commit.field-0 g),
  stays_itself c.args.self.now,
)

pub returns-in-Read : goal.returns-in-Read
returns-in-Read c =
    subst (λ (a : Kept). JudgesOperation c.args.self.now c.tell_together.new.self (Read c.args.start (cells_named c.args.cells.now) c.args.stays_open) (answer_of a) c.tell_together.result) (sym c.in-Read.is) c.tell_together.ensures
