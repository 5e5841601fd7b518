use Rattle.std.proofs.Common.{List, subst, sym}
use Rattle.request_codec.specs.Answers.{answer_of}
use Rattle.request_codec.specs.Operations.{operation_of}
use Rattle.request_codec.specs.Replies.{replied}
use Rattle.request_codec.specs.Requests.{asked}
use Rattle.request_codec.specs.declared.answers.Answer.{Answer as Kept}
use Rattle.request_codec.specs.declared.operations.Operation.{Operation as Lent}
use Rattle.si_model.specs.Answers.{cells_named, writes_named}
use Rattle.si_model.specs.Transactions.{Commit, One, Read}
use Rattle.si_model.specs.declared.transactions.CellName.{CellName}
use Rattle.si_model.specs.declared.transactions.CellWrite.{CellWrite}
use Rattle.audit.specs.Audits.{JudgesOperation}
use Rattle.audit.proofs.JudgedOnly.{judged_step}
use Rattle.audit.proofs.audit.Audit.take_operation.Goals as goal

pub returns-in-Said : goal.returns-in-Said
returns-in-Said c =
    subst (λ (o : Lent). JudgesOperation c.args.self.now c.take.new.self (operation_of o) (answer_of c.args.answer.now) c.take.result) (sym c.in-One.is)
    (subst (λ (a : Kept). JudgesOperation c.args.self.now c.take.new.self (One (asked c.in-One.request)) (answer_of a) c.take.result) (sym c.in-Said.is)
    (judged_step c.args.self.now c.take.new.self (asked c.in-One.request) (replied c.in-Said.reply) c.take.result c.take.ensures))

pub returns-in-Commit : goal.returns-in-Commit
returns-in-Commit c =
    subst (λ (o : Lent). JudgesOperation c.args.self.now c.transact.new.self (operation_of o) (answer_of c.args.answer.now) c.transact.result) (sym c.in-Commit.is)
    (subst (λ (l : List CellWrite). JudgesOperation c.args.self.now c.transact.new.self (Commit c.in-Commit.start (writes_named l)) (answer_of c.args.answer.now) c.transact.result) c.deref.ensures.value c.transact.ensures)

pub returns-in-Read : goal.returns-in-Read
returns-in-Read c =
    subst (λ (o : Lent). JudgesOperation c.args.self.now c.read_together.new.self (operation_of o) (answer_of c.args.answer.now) c.read_together.result) (sym c.in-Read.is)
    (subst (λ (l : List CellName). JudgesOperation c.args.self.now c.read_together.new.self (Read c.in-Read.start (cells_named l) c.in-Read.stays_open) (answer_of c.args.answer.now) c.read_together.result) c.deref-in-Read.ensures.value c.read_together.ensures)
