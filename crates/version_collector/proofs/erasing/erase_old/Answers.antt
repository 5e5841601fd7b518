use Rattle.std.proofs.Common.{refl, sym, subst}
use Rattle.cell_key.specs.Cells.{Cells}
use Rattle.cell_key.specs.declared.refusals.Refusal.TheVariants.{Damaged, MemtableFull}
use Rattle.rows.proofs.Calls.{applies_after, read_undamaged}
use Rattle.version_collector.specs.Erasing.{IsKnown}
use Rattle.version_collector.specs.Versions.{AreShown, IsTidyFrom}
use Rattle.version_collector.specs.declared.versions.TidyFrom.{TidyFrom}
use Rattle.cell_key.proofs.Passed.{passed as passed_on, same_refusal}
use Rattle.version_collector.proofs.Erasures.{apply_refused, apply_undamaged, empty_list, erases_some, not_full, read_refused, some_list, tidy_where_empty}
use Rattle.version_collector.proofs.erasing.erase_old.Goals as goal

pub returns-then-is_empty-clause-tidy : goal.returns-then-is_empty-clause-tidy
returns-then-is_empty-clause-tidy g c = λ known shown.
    let es = c.in_ok-erasure.erasure.edits in
    tidy_where_empty (IsKnown g.R.Rows.seen c.args.rows.now c.args.cell.now c.args.floor c.args.tidy) (g.R.Rows.seen.cells c.args.rows.now) c.args.cell.now c.args.floor es.items
    (empty_list es.items es.len c.is_empty.result es.ok.0 c.is_empty.ensures c.if-is_empty.true) c.in_ok-erasure.ensures.old known shown

pub returns-clause-erased : goal.returns-clause-erased
returns-clause-erased g c =
    let es = c.in_ok-erasure.erasure.edits in
    record {
      row = c.args.cell.now.row;
      edits = es.items;
      such = (
        refl,
        erases_some (IsKnown g.R.Rows.seen c.args.rows.now c.args.cell.now c.args.floor c.args.tidy) (g.R.Rows.seen.cells c.args.rows.now) c.args.cell.now c.args.floor es.items
            (some_list es.items es.len c.is_empty.result es.ok.0 c.is_empty.ensures c.if-is_empty.false) c.in_ok-erasure.ensures.old,
      );
      applied = applies_after c.in_ok-erasure.ensures.reads c.in_ok-apply.ensures.ok;
    }

pub returns-clause-progress : goal.returns-clause-progress
returns-clause-progress g c = λ known shown.
    let x = c.args.cell.now in
    let made = (applies_after c.in_ok-erasure.ensures.reads c.in_ok-apply.ensures.ok).made known.0 in
    subst (λ (t : TidyFrom). IsTidyFrom (g.R.Rows.seen.cells c.apply.new.self) x c.args.floor t) (sym c.in_ok-progress.ensures.tidy)
    (subst (λ (m : Cells). IsTidyFrom m x c.args.floor c.in_ok-erasure.erasure.tidy) (sym made) (c.in_ok-erasure.ensures.tidy known shown))

pub returns-in_err-erasure-clause-refusal : goal.returns-in_err-erasure-clause-refusal
returns-in_err-erasure-clause-refusal g c =
    read_refused (g.R.Rows.seen.readable c.args.rows.now c.args.cell.now.row × AreShown (g.R.Rows.seen.cells c.args.rows.now)) c.from_residual.result c.in_err-erasure.field-0.0 c.from_residual.ensures.1 c.in_err-erasure.ensures.refusal

pub returns-in_err-erasure-clause-undamaged : goal.returns-in_err-erasure-clause-undamaged
returns-in_err-erasure-clause-undamaged g c = λ held shown is.
    read_undamaged (g.R.Rows.seen.readable c.args.rows.now c.args.cell.now.row × AreShown (g.R.Rows.seen.cells c.args.rows.now)) c.in_err-erasure.field-0.0 c.in_err-erasure.ensures.refusal (held, shown)
    (same_refusal c.from_residual.result c.in_err-erasure.field-0.0 Damaged c.from_residual.ensures.1 is)

pub returns-in_err-erasure-clause-full : goal.returns-in_err-erasure-clause-full
returns-in_err-erasure-clause-full g c = λ is. absurd (
    not_full (g.R.Rows.seen.readable c.args.rows.now c.args.cell.now.row × AreShown (g.R.Rows.seen.cells c.args.rows.now)) c.in_err-erasure.field-0.0 c.in_err-erasure.ensures.refusal
    (same_refusal c.from_residual.result c.in_err-erasure.field-0.0 MemtableFull c.from_residual.ensures.1 is))

pub returns-in_err-apply-clause-refusal : goal.returns-in_err-apply-clause-refusal
returns-in_err-apply-clause-refusal g c = apply_refused c.from_residual-in_err-apply.result c.in_err-apply.field-0.0 c.from_residual-in_err-apply.ensures.1 c.in_err-apply.ensures.refusal

pub returns-in_err-apply-clause-undamaged : goal.returns-in_err-apply-clause-undamaged
returns-in_err-apply-clause-undamaged g c = λ held shown is.
    apply_undamaged c.in_err-apply.field-0.0 c.in_err-apply.ensures.refusal (same_refusal c.from_residual-in_err-apply.result c.in_err-apply.field-0.0 Damaged c.from_residual-in_err-apply.ensures.1 is)

pub returns-in_err-apply-clause-full : goal.returns-in_err-apply-clause-full
returns-in_err-apply-clause-full g c = λ is.
    let es = c.in_ok-erasure.erasure.edits in (
      c.args.cell.now.row,
      es.items,
      (
        refl,
        erases_some (IsKnown g.R.Rows.seen c.args.rows.now c.args.cell.now c.args.floor c.args.tidy) (g.R.Rows.seen.cells c.args.rows.now) c.args.cell.now c.args.floor es.items
            (some_list es.items es.len c.is_empty.result es.ok.0 c.is_empty.ensures c.if-is_empty.false) c.in_ok-erasure.ensures.old,
      ),
      c.in_ok-erasure.ensures.reads.room c.args.cell.now.row es.items (c.in_err-apply.ensures.full (passed_on c.from_residual-in_err-apply.result c.in_err-apply.field-0.0 MemtableFull c.from_residual-in_err-apply.ensures.1 is)),
    )
