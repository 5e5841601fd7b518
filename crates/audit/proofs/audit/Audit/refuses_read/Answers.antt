use Rattle.si_model.specs.Answers.{cells_named}
use Rattle.si_model.specs.Machine.{IsStorageRefusal}
use Rattle.si_model.specs.Transactions.{Read, gives_up_reads, reads_together}
use Rattle.audit.proofs.JudgedOnly.{found_only, judged_storage}
use Rattle.audit.proofs.audit.Audit.refuses_read.Goals as goal

pub returns-then-is_storage : goal.returns-then-is_storage
returns-then-is_storage c = λ stays_open. judged_storage c.args.self.now (Read c.args.start (cells_named c.args.cells.now) stays_open) c.args.refusal (λ st. reads_together (gives_up_reads (c.is_storage.ensures.0 c.if-is_storage.true)))

pub returns-in-Some : goal.returns-in-Some
returns-in-Some c = λ stays_open.
    let not : ¬ IsStorageRefusal c.args.refusal = λ s. cc (c.is_storage.ensures.1 s, c.if-is_storage.false) in
    found_only c.args.self.now (Read c.args.start (cells_named c.args.cells.now) stays_open) c.args.refusal c.in-Some.only c.read_refusal.result c.is_same.result (c.read_refusal.ensures stays_open) c.in-Some.is not c.is_same.ensures
