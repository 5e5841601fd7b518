-- Edits in the journal are made; those of a refused call are removed again.
use Rattle.std.proofs.Common.{◌≡◌, List, Some, IsErrOf, refl, sym, ap, subst, ◌∙◌}
use Rattle.std.proofs.lemmas.Result.{err_from_is_err_and, on_err_weaker, on_ok_weaker}
use Rattle.std.specs.List.{AllByRecursion}
use Rattle.cell_key.specs.declared.refusals.Refusal.TheVariants.{MemtableFull}
use Rattle.commit_log.specs.Edits.{IsStoredEdit}
use Rattle.rows.specs.RowEdits.{AreOfTheirRow, all_edits}
use Rattle.rows.specs.declared.row_edits.RowEdits.{RowEdits}
use Rattle.row_atomic.specs.Journals.{HasRoomFor, with_waiting}
use Rattle.row_atomic.proofs.Following.{all_fits_plain, all_fits_recorded, all_full, all_plain, all_recorded, journal_full, reads_recorded, within_plain, within_recorded}
use Rattle.row_atomic.proofs.Journals.{taken_back}
use Rattle.row_atomic.proofs.recorded.RecordedRows.apply_all.Goals as goal

pub apply_all-requires : goal.apply_all-requires
apply_all-requires g c = c.requires

pub push_all-requires : goal.push_all-requires
push_all-requires g c = subst (λ (changes : List RowEdits). AllByRecursion AreOfTheirRow changes) (sym c.deref.ensures.value) c.requires

pub apply_all-done-requires : goal.apply_all-done-requires
apply_all-done-requires g c = c.requires

pub returns-in-None-clause-ok : goal.returns-in-None-clause-ok
returns-in-None-clause-ok g c = on_ok_weaker c.apply_all.result (all_plain g.F.Files.contents c.root_is_stored.ensures c.args.changes.items c.args.self.now _ c.in-None.is c.in-None.is) c.apply_all.ensures.ok

pub returns-in-None-clause-err : goal.returns-in-None-clause-err
returns-in-None-clause-err g c = on_err_weaker c.apply_all.result (reads_recorded g.F.Files.contents c.root_is_stored.ensures c.args.self.now _ refl) c.apply_all.ensures.err

pub returns-in-None-clause-fits : goal.returns-in-None-clause-fits
returns-in-None-clause-fits g c = on_ok_weaker c.apply_all.result (all_fits_plain g.F.Files.contents c.args.changes.items c.args.self.now _ c.in-None.is) c.apply_all.ensures.ok

pub returns-in-None-clause-full : goal.returns-in-None-clause-full
returns-in-None-clause-full g c = λ full. all_full c.args.changes.items c.args.self.now (c.apply_all.ensures.full full)

pub returns-in-None-clause-within : goal.returns-in-None-clause-within
returns-in-None-clause-within g c = on_ok_weaker c.apply_all.result (within_plain c.args.changes.items c.args.self.now c.in-None.is) c.apply_all.ensures.within

pub returns-in_err-push_all-in-Some-clause-full : goal.returns-in_err-push_all-in-Some-clause-full
returns-in_err-push_all-in-Some-clause-full g c =
    let p = err_from_is_err_and c.from_residual.result c.from_residual.ensures.1 in
    λ full.
    let e : IsErrOf c.push_all.result MemtableFull = cc (p.1, p.2, c.in_err-push_all-in-Some.was, full) in
    journal_full c.args.changes.items c.args.self.now c.in-Some.journal c.in-Some.is c.len-len.ensures.within
    (subst (λ (changes : List RowEdits). ¬ HasRoomFor c.in-Some.journal (all_edits changes)) c.deref.ensures.value (c.push_all.ensures.full e))

pub returns-then-is_err-clause-full : goal.returns-then-is_err-clause-full
returns-then-is_err-clause-full g c = λ full. all_full c.args.changes.items c.args.self.now (c.apply_all-done.ensures.full full)

pub returns-else-is_err-clause-within : goal.returns-else-is_err-clause-within
returns-else-is_err-clause-within g c =
    on_ok_weaker c.apply_all-done.result
    (within_recorded c.args.changes.items c.args.self.now c.in-Some.journal c.in-Some.is (subst (λ (changes : List RowEdits). HasRoomFor c.in-Some.journal (all_edits changes)) c.deref.ensures.value c.in_ok-push_all-in-Some.ensures.within))
    c.apply_all-done.ensures.within

pub returns-then-is_err-clause-err : goal.returns-then-is_err-clause-err
returns-then-is_err-clause-err g c =
    let pushed : c.push_all.new.self ≡ with_waiting (all_edits c.args.changes.items) c.in-Some.journal = c.in_ok-push_all-in-Some.ensures.ok ∙ ap (λ (changes : List RowEdits). with_waiting (all_edits changes) c.in-Some.journal) c.deref.ensures.value in
    let back = taken_back (all_edits c.args.changes.items) c.in-Some.journal c.push_all.new.self c.cut.new.self c.len-len.result c.count-count.result c.entry_bytes-entry_bytes.result pushed c.len-len.ensures.len c.count-count.ensures c.entry_bytes-entry_bytes.ensures c.cut.ensures in
    on_err_weaker c.apply_all-done.result (reads_recorded g.F.Files.contents c.root_is_stored.ensures c.args.self.now _ (ap Some back ∙ sym c.in-Some.is)) c.apply_all-done.ensures.err

pub returns-else-is_err-clause-ok : goal.returns-else-is_err-clause-ok
returns-else-is_err-clause-ok g c =
    let pushed : c.push_all.new.self ≡ with_waiting (all_edits c.args.changes.items) c.in-Some.journal = c.in_ok-push_all-in-Some.ensures.ok ∙ ap (λ (changes : List RowEdits). with_waiting (all_edits changes) c.in-Some.journal) c.deref.ensures.value in
    on_ok_weaker c.apply_all-done.result
    (all_recorded g.F.Files.contents c.root_is_stored.ensures c.replays.ensures c.args.changes.items (subst (λ (changes : List RowEdits). AllByRecursion IsStoredEdit (all_edits changes)) c.deref.ensures.value c.in_ok-push_all-in-Some.ensures.stored) c.args.self.now _ c.in-Some.journal c.in-Some.is (ap Some pushed))
    c.apply_all-done.ensures.ok

pub returns-else-is_err-clause-fits : goal.returns-else-is_err-clause-fits
returns-else-is_err-clause-fits g c =
    let pushed : c.push_all.new.self ≡ with_waiting (all_edits c.args.changes.items) c.in-Some.journal = c.in_ok-push_all-in-Some.ensures.ok ∙ ap (λ (changes : List RowEdits). with_waiting (all_edits changes) c.in-Some.journal) c.deref.ensures.value in
    on_ok_weaker c.apply_all-done.result (all_fits_recorded g.F.Files.contents c.args.changes.items c.args.self.now _ c.in-Some.journal c.in-Some.is (ap Some pushed)) c.apply_all-done.ensures.ok
