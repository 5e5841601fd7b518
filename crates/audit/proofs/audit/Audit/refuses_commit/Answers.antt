use Rattle.si_model.specs.Answers.{writes_named}
use Rattle.si_model.specs.Machine.{IsStorageRefusal}
use Rattle.si_model.specs.Transactions.{Commit, gives_up, transacts}
use Rattle.audit.proofs.JudgedOnly.{found_only, judged_storage}
use Rattle.audit.proofs.audit.Audit.refuses_commit.Goals as goal

pub returns-then-is_storage : goal.returns-then-is_storage
returns-then-is_storage c = judged_storage c.args.self.now (Commit c.args.start (writes_named c.args.asked.now)) c.args.refusal (λ st. transacts (gives_up (c.is_storage.ensures.0 c.if-is_storage.true)))

pub returns-in-Some : goal.returns-in-Some
returns-in-Some c =
    let not : ¬ IsStorageRefusal c.args.refusal = λ s. cc (c.is_storage.ensures.1 s, c.if-is_storage.false) in
    found_only c.args.self.now (Commit c.args.start (writes_named c.args.asked.now)) c.args.refusal c.in-Some.only c.in_ok-only.field-0 c.is_same.result c.in_ok-only.ensures.only c.in-Some.is not c.is_same.ensures
