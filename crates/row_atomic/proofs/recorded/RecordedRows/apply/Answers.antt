-- Edits in the journal are made; those of a refused call are removed again.
use Rattle.std.proofs.Common.{◌≡◌, List, Some, refl, sym, ap, subst, ◌∙◌}
use Rattle.std.proofs.lemmas.Result.{on_err_weaker, on_ok_weaker}
use Rattle.std.specs.List.{AllByRecursion}
use Rattle.cell_key.specs.Cells.{IsEditOf}
use Rattle.cell_key.specs.declared.edits.Edit.{Edit}
use Rattle.commit_log.specs.Edits.{IsStoredEdit}
use Rattle.row_atomic.specs.Journals.{with_waiting}
use Rattle.row_atomic.proofs.Following.{applies_plain, applies_recorded, fits_plain, fits_recorded, reads_recorded}
use Rattle.row_atomic.proofs.Journals.{taken_back}
use Rattle.row_atomic.proofs.recorded.RecordedRows.apply.Goals as goal

pub apply-requires : goal.apply-requires
apply-requires g c = c.requires

pub push-requires : goal.push-requires
push-requires g c = subst (λ (edits : List Edit). AllByRecursion (IsEditOf c.args.row.now) edits) (sym c.deref.ensures.value) c.requires

pub apply-done-requires : goal.apply-done-requires
apply-done-requires g c = c.requires

pub returns-in-None-clause-ok : goal.returns-in-None-clause-ok
returns-in-None-clause-ok g c = on_ok_weaker c.apply.result (applies_plain g.F.Files.contents c.root_is_stored.ensures c.args.row.now c.args.edits.items c.args.self.now _ c.in-None.is c.in-None.is) c.apply.ensures.ok

pub returns-in-None-clause-err : goal.returns-in-None-clause-err
returns-in-None-clause-err g c = on_err_weaker c.apply.result (reads_recorded g.F.Files.contents c.root_is_stored.ensures c.args.self.now _ refl) c.apply.ensures.err

pub returns-in-None-clause-fits : goal.returns-in-None-clause-fits
returns-in-None-clause-fits g c = on_ok_weaker c.apply.result (fits_plain g.F.Files.contents c.args.row.now c.args.edits.items c.args.self.now _ c.in-None.is) c.apply.ensures.ok

pub returns-then-is_err-clause-err : goal.returns-then-is_err-clause-err
returns-then-is_err-clause-err g c =
    let pushed : c.push.new.self ≡ with_waiting c.args.edits.items c.in-Some.journal = c.in_ok-push-in-Some.ensures.ok ∙ ap (λ (edits : List Edit). with_waiting edits c.in-Some.journal) c.deref.ensures.value in
    let back = taken_back c.args.edits.items c.in-Some.journal c.push.new.self c.cut.new.self c.len-len.result c.count-count.result c.entry_bytes-entry_bytes.result pushed c.len-len.ensures.len c.count-count.ensures c.entry_bytes-entry_bytes.ensures c.cut.ensures in
    on_err_weaker c.apply-done.result (reads_recorded g.F.Files.contents c.root_is_stored.ensures c.args.self.now _ (ap Some back ∙ sym c.in-Some.is)) c.apply-done.ensures.err

pub returns-else-is_err-clause-ok : goal.returns-else-is_err-clause-ok
returns-else-is_err-clause-ok g c =
    let pushed : c.push.new.self ≡ with_waiting c.args.edits.items c.in-Some.journal = c.in_ok-push-in-Some.ensures.ok ∙ ap (λ (edits : List Edit). with_waiting edits c.in-Some.journal) c.deref.ensures.value in
    on_ok_weaker c.apply-done.result
    (applies_recorded g.F.Files.contents c.root_is_stored.ensures c.replays.ensures c.args.row.now c.args.edits.items (subst (λ (edits : List Edit). AllByRecursion IsStoredEdit edits) c.deref.ensures.value c.in_ok-push-in-Some.ensures.stored) c.args.self.now _ c.in-Some.journal c.in-Some.is (ap Some pushed))
    c.apply-done.ensures.ok

pub returns-else-is_err-clause-fits : goal.returns-else-is_err-clause-fits
returns-else-is_err-clause-fits g c =
    let pushed : c.push.new.self ≡ with_waiting c.args.edits.items c.in-Some.journal = c.in_ok-push-in-Some.ensures.ok ∙ ap (λ (edits : List Edit). with_waiting edits c.in-Some.journal) c.deref.ensures.value in
    on_ok_weaker c.apply-done.result (fits_recorded g.F.Files.contents c.args.row.now c.args.edits.items c.args.self.now _ c.in-Some.journal c.in-Some.is (ap Some pushed)) c.apply-done.ensures.ok
