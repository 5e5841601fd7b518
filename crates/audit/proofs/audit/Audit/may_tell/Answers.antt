use Rattle.std.proofs.Common.{◌≡◌, Some, Option, IsTrue, sym, subst, rules}
use Rattle.std.specs.Prelude.{◌↔◌, IfOk}
use Rattle.si_model.specs.Answers.{cell_named, told_item}
use Rattle.si_model.specs.declared.scans.ScanFound.{ScanFound}
use Rattle.si_model.specs.declared.scans.ScanFound.TheVariants as scanned
use Rattle.audit.specs.AuditOperations.{MayTell}
use Rattle.audit.proofs.ToldCells.{a_name, leaves_out, tells_lock, tells_none, tells_value}
use Rattle.audit.proofs.audit.Audit.may_tell.Goals as goal

pub returns-in-None-clause-told : goal.returns-in-None-clause-told
returns-in-None-clause-told c =
    let named = a_name c.name_refusal.result (cell_named c.args.cell.now) (cc) c.name_refusal.ensures in
    subst (λ (r : Option ScanFound). IsTrue c.may_find.result ↔ MayTell c.args.self.now c.args.start c.args.used (cell_named c.args.cell.now) (told_item r)) (sym c.in-None.is)
    (tells_none c.args.self.now c.args.start c.args.used (cell_named c.args.cell.now) named c.may_find.result c.may_find.ensures)

pub returns-then-may_send-clause-told : goal.returns-then-may_send-clause-told
returns-then-may_send-clause-told c =
    let named = a_name c.name_refusal.result (cell_named c.args.cell.now) (cc) c.name_refusal.ensures in
    let is : c.args.said.now ≡ Some (scanned.Value c.in-Some-Value.value) = search rules in
    let few = rw c.deref.ensures.value at (c.may_send.ensures.0 c.if-may_send.true) in
    let found = rw c.as_slice.ensures.value at c.may_find-then-may_send.ensures in
    subst (λ (r : Option ScanFound). IsTrue c.may_find-then-may_send.result ↔ MayTell c.args.self.now c.args.start c.args.used (cell_named c.args.cell.now) (told_item r)) (sym is)
    (tells_value c.args.self.now c.args.start c.args.used (cell_named c.args.cell.now) named c.may_find-then-may_send.result c.in-Some-Value.value.items few found)

pub returns-then-lock-start-clause-told : goal.returns-then-lock-start-clause-told
returns-then-lock-start-clause-told c =
    let named = a_name c.name_refusal.result (cell_named c.args.cell.now) (cc) c.name_refusal.ensures in
    let is : c.args.said.now ≡ Some (scanned.Pending c.in-Some-Pending.lock) = search rules in
    subst (λ (r : Option ScanFound). IsTrue c.is_marked.result ↔ MayTell c.args.self.now c.args.start c.args.used (cell_named c.args.cell.now) (told_item r)) (sym is)
    (tells_lock c.args.self.now c.args.start c.args.used (cell_named c.args.cell.now) named c.is_marked.result c.in-Some-Pending.lock c.if-lock-start.true c.is_marked.ensures)

pub returns-in-Some-Unsent-clause-told : goal.returns-in-Some-Unsent-clause-told
returns-in-Some-Unsent-clause-told c =
    let named = a_name c.name_refusal.result (cell_named c.args.cell.now) (cc) c.name_refusal.ensures in
    let is : c.args.said.now ≡ Some scanned.Unsent = search rules in
    subst (λ (r : Option ScanFound). IfOk c.may_leave_out.result (λ yes. IsTrue yes ↔ MayTell c.args.self.now c.args.start c.args.used (cell_named c.args.cell.now) (told_item r))) (sym is)
    (leaves_out c.args.self.now c.args.start c.args.used (cell_named c.args.cell.now) named c.may_leave_out.result c.may_leave_out.ensures.told)
