use Rattle.std.proofs.Common.{◌≡◌, subst, sym, rules}
use Rattle.request_codec.specs.Answers.{answer_of}
use Rattle.request_codec.specs.Replies.{replied}
use Rattle.request_codec.specs.declared.answers.Answer.{Answer as Kept}
use Rattle.request_codec.specs.declared.answers.Answer.TheVariants as kept
use Rattle.request_codec.specs.declared.replies.Reply.TheVariants as reply
use Rattle.si_model.specs.Answers.{writes_named}
use Rattle.si_model.specs.Machine.{State}
use Rattle.si_model.specs.Transactions.{Goes, Commit}
use Rattle.si_model.specs.declared.transactions.CommitReply.TheVariants as commit
use Rattle.audit.specs.Audits.{JudgesOperation, KeepsReached}
use Rattle.audit.proofs.JudgedOnly.{no_commit_reads, no_commit_reply}
use Rattle.audit.proofs.JudgedRefusals.{not_refused}
use Rattle.audit.proofs.KeptMaps.{stays_itself}
use Rattle.audit.proofs.audit.Audit.transact.Goals as goal

pub returns-in-Refused : goal.returns-in-Refused
returns-in-Refused c =
    let is : c.args.answer.now ≡ kept.Said (reply.Refused c.in-Refused.refusal) = search rules in
    subst (λ (a : Kept). JudgesOperation c.args.self.now c.args.self.now (Commit c.args.start (writes_named c.args.asked.now)) (answer_of a) c.refuses_commit.result) (sym is) c.refuses_commit.ensures

pub returns-in_default : goal.returns-in_default
returns-in_default c = (
  subst (λ (a : Kept). (st next : State) → KeepsReached c.args.self.now st → Goes st (Commit c.args.start (writes_named c.args.asked.now)) (answer_of a) next → ⊥) (sym c.in-Said.is)
      (λ st next k g. no_commit_reply (replied c.in-Said.reply) (λ n. not_refused c.in-Said.reply n c.in_default.not-Refused) g),
  stays_itself c.args.self.now,
)

pub returns-in-Committed : goal.returns-in-Committed
returns-in-Committed c =
    let is : c.args.answer.now ≡ kept.Commit (commit.Committed c.in-Committed.session c.in-Committed.stamp) = search rules in
    subst (λ (a : Kept). JudgesOperation c.args.self.now c.commit_together.new.self (Commit c.args.start (writes_named c.args.asked.now)) (answer_of a) c.commit_together.result) (sym is) c.commit_together.ensures

pub returns-in-Conflict : goal.returns-in-Conflict
returns-in-Conflict c =
    let is : c.args.answer.now ≡ kept.Commit (commit.Conflict c.in-Conflict.session c.in-Conflict.place) = search rules in
    subst (λ (a : Kept). JudgesOperation c.args.self.now c.conflict_together.new.self (Commit c.args.start (writes_named c.args.asked.now)) (answer_of a) c.conflict_together.result) (sym is) c.conflict_together.ensures

pub returns-in-Read : goal.returns-in-Read
returns-in-Read c = (
  subst (λ (a : Kept). (st next : State) → KeepsReached c.args.self.now st → Goes st (Commit c.args.start (writes_named c.args.asked.now)) (answer_of a) next → ⊥) (sym c.in-Read.is)
      (λ st next k g. no_commit_reads g),
  stays_itself c.args.self.now,
)
