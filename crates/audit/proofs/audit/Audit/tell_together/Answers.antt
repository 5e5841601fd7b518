use Rattle.std.proofs.Common.{◌≡◌, Bool, true, false, List, Option, Ok, subst, sym}
use Rattle.std.proofs.lemmas.List.{length-map}
use Rattle.si_model.specs.Answers.{cell_named, cells_named, told_items}
use Rattle.si_model.specs.Transactions.{IsReadCount}
use Rattle.si_model.specs.declared.scans.ScanFound.{ScanFound}
use Rattle.audit.specs.AuditOperations.{MayTellAll}
use Rattle.audit.specs.Audits.{JudgesOpening}
use Rattle.audit.proofs.JudgedReads.{not_opened, not_read, read_ends, read_stays}
use Rattle.audit.proofs.KeptMaps.{stays_itself}
use Rattle.audit.proofs.audit.Audit.tell_together.Goals as goal

pub returns-then-not-is_read_count : goal.returns-then-not-is_read_count
returns-then-not-is_read_count c = (
  not_read c.args.self.now c.args.start (cells_named c.args.cells.now) c.args.stays_open c.args.reply.now.start (told_items c.args.reply.now.found.items)
      (λ h. cc (c.is_read_count.ensures.1 (subst IsReadCount (length-map c.args.cells.now cell_named) h.count), c.if-not-is_read_count.true)),
  stays_itself c.args.self.now,
)

pub returns-then-not-branch : goal.returns-then-not-branch
returns-then-not-branch c = (
  not_read c.args.self.now c.args.start (cells_named c.args.cells.now) c.args.stays_open c.args.reply.now.start (told_items c.args.reply.now.found.items)
      (λ h. cc (c.in_ok-may_tell_all.ensures.told.1 (subst (λ (l : List (Option ScanFound)). MayTellAll c.args.self.now c.args.reply.now.start 0 (cells_named c.args.cells.now) (told_items l)) (sym c.deref.ensures.value) h.told), c.if-not-branch.true)),
  stays_itself c.args.self.now,
)

pub returns-then-not-branch-2 : goal.returns-then-not-branch-2
returns-then-not-branch-2 c =
    let no : c.in_ok-open_session.field-0 ≡ false = cc in
    let judged = subst (λ (b : Bool). JudgesOpening c.args.self.now c.open_session.new.self c.args.start c.args.reply.now.start (Ok b)) no c.in_ok-open_session.ensures in
    (not_opened c.args.self.now c.args.start (cells_named c.args.cells.now) c.args.stays_open c.args.reply.now.start (told_items c.args.reply.now.found.items) judged.0, judged.1)

pub returns-then-not-stays_open : goal.returns-then-not-stays_open
returns-then-not-stays_open c =
    let is_so : c.in_ok-open_session.field-0 ≡ true = cc in
    let opens_to = subst (λ (b : Bool). JudgesOpening c.args.self.now c.open_session.new.self c.args.start c.args.reply.now.start (Ok b)) is_so c.in_ok-open_session.ensures in
    let count = subst IsReadCount (sym (length-map c.args.cells.now cell_named)) (c.is_read_count.ensures.0 (cc)) in
    let tells = subst (λ (l : List (Option ScanFound)). MayTellAll c.args.self.now c.args.reply.now.start 0 (cells_named c.args.cells.now) (told_items l)) c.deref.ensures.value (c.in_ok-may_tell_all.ensures.told.0 (cc)) in
    read_ends c.args.self.now c.args.start (cells_named c.args.cells.now) c.args.stays_open c.args.reply.now.start (told_items c.args.reply.now.found.items) c.open_session.new.self opens_to count tells (cc) c.remove.new.self c.remove.result c.remove.ensures.value c.remove.ensures.updates.0 c.remove.ensures.len

pub returns-else-not-stays_open : goal.returns-else-not-stays_open
returns-else-not-stays_open c =
    let is_so : c.in_ok-open_session.field-0 ≡ true = cc in
    let opens_to = subst (λ (b : Bool). JudgesOpening c.args.self.now c.open_session.new.self c.args.start c.args.reply.now.start (Ok b)) is_so c.in_ok-open_session.ensures in
    let count = subst IsReadCount (sym (length-map c.args.cells.now cell_named)) (c.is_read_count.ensures.0 (cc)) in
    let tells = subst (λ (l : List (Option ScanFound)). MayTellAll c.args.self.now c.args.reply.now.start 0 (cells_named c.args.cells.now) (told_items l)) c.deref.ensures.value (c.in_ok-may_tell_all.ensures.told.0 (cc)) in
    read_stays c.args.self.now c.args.start (cells_named c.args.cells.now) c.args.stays_open c.args.reply.now.start (told_items c.args.reply.now.found.items) c.open_session.new.self opens_to count tells (cc)
