use Rattle.std.proofs.Common.{◌≡◌, ℕ, List, Some, sym, subst}
use Rattle.cell_key.specs.Cells.{Cells, IsNewest}
use Rattle.cell_key.specs.declared.keys.Qualifier.TheVariants.{Write}
use Rattle.cell_key.specs.Columns.{NamesStart, NamesWrite}
use Rattle.rows.proofs.Calls.{refused_later}
use Rattle.rows.proofs.Halves.{at_some}
use Rattle.si_model.specs.ShowsCells.{key_of}
use Rattle.version_collector.specs.Versions.{AreNear, AreShown, NamesNext}
use Rattle.version_collector.proofs.PassedRefusals.{refused_damaged, shown_later}
use Rattle.version_collector.proofs.Starts.{deletion_at, near_read, not_damaged}
use Rattle.version_collector.proofs.versions.near_records.Goals as goal

pub returns-in_err-next-clause-refusal : goal.returns-in_err-next-clause-refusal
returns-in_err-next-clause-refusal g c =
    refused_later (g.R.Rows.seen.readable c.args.rows.now c.args.cell.now.row × AreShown (g.R.Rows.seen.cells c.args.rows.now)) (g.R.Rows.seen.readable c.newest.new.self c.args.cell.now.row × AreShown (g.R.Rows.seen.cells c.newest.new.self))
    c.from_residual-in_err-next.result c.in_err-next.field-0.0 (shown_later c.args.cell.now.row c.in_ok-last.ensures.reads) c.from_residual-in_err-next.ensures.1 c.in_err-next.ensures.refusal

pub returns-in_err-start-clause-refusal : goal.returns-in_err-start-clause-refusal
returns-in_err-start-clause-refusal g c =
    let cells = g.R.Rows.seen.cells c.args.rows.now in
    let x = c.args.cell.now in
    let same : c.deref.result.now ≡ c.in-Some.text.items = c.deref.ensures.value in
    refused_damaged (g.R.Rows.seen.readable c.args.rows.now c.args.cell.now.row × AreShown cells) c.from_residual-in_err-start.result c.in_err-start.field-0.0 c.from_residual-in_err-start.ensures.1 c.in_err-start.ensures.refusal
    (λ was. not_damaged cells x c.in-Some.commit c.in-Some.text.items
    (at_some (IsNewest cells (key_of x Write) 0 c.args.floor) c.in_ok-last.last (c.in-Some.commit, c.in-Some.text) c.in-Some.is (c.in_ok-last.ensures.found was.0)).2
    (λ t from to names. c.in_err-start.ensures.damaged t from to (subst (λ (b : List ℕ). NamesStart b t) (sym same) names)) was.1)

pub returns-in_err-next-2-clause-refusal : goal.returns-in_err-next-2-clause-refusal
returns-in_err-next-2-clause-refusal g c =
    refused_later (g.R.Rows.seen.readable c.args.rows.now c.args.cell.now.row × AreShown (g.R.Rows.seen.cells c.args.rows.now)) (g.R.Rows.seen.readable c.newest.new.self c.args.cell.now.row × AreShown (g.R.Rows.seen.cells c.newest.new.self))
    c.from_residual-in_err-next-2.result c.in_err-next-2.field-0.0 (shown_later c.args.cell.now.row c.in_ok-last.ensures.reads) c.from_residual-in_err-next-2.ensures.1 c.in_err-next-2.ensures.refusal

pub returns-clause-named : goal.returns-clause-named
returns-clause-named g c = λ held.
    let cells = g.R.Rows.seen.cells c.args.rows.now in
    let x = c.args.cell.now in
    let reads = c.in_ok-last.ensures.reads in
    subst (λ (t : ℕ). AreNear cells x c.args.floor (record { last = Some t; next = c.in_ok-next-2.next })) (sym c.stamp.ensures.stamp)
    (near_read cells x c.args.floor c.in-Some.commit c.in_ok-start.start c.in-Some.text.items c.in_ok-start.kind c.in_ok-next-2.next
    (at_some (IsNewest cells (key_of x Write) 0 c.args.floor) c.in_ok-last.last (c.in-Some.commit, c.in-Some.text) c.in-Some.is (c.in_ok-last.ensures.found held))
    (subst (λ (b : List ℕ). NamesWrite b c.in_ok-start.start c.in_ok-start.kind) c.deref.ensures.value c.in_ok-start.ensures.named)
    (subst (λ (cs : Cells). NamesNext cs x c.args.floor c.in_ok-next-2.next) reads.kept (c.in_ok-next-2.ensures.named (reads.readable c.args.cell.now.row held))))

pub returns-clause-deletion : goal.returns-clause-deletion
returns-clause-deletion g c = λ held shown.
    let cells = g.R.Rows.seen.cells c.args.rows.now in
    let x = c.args.cell.now in
    deletion_at cells shown x c.args.floor c.new.result c.in_ok-start.start c.in-Some.text.items c.in_ok-start.kind c.deletion_at-deletion.result
    (subst (λ (w : ℕ). IsNewest cells (key_of x Write) 0 c.args.floor (Some (w, c.in-Some.text.items))) (sym c.new.ensures)
    (at_some (IsNewest cells (key_of x Write) 0 c.args.floor) c.in_ok-last.last (c.in-Some.commit, c.in-Some.text) c.in-Some.is (c.in_ok-last.ensures.found held)))
    (subst (λ (b : List ℕ). NamesWrite b c.in_ok-start.start c.in_ok-start.kind) c.deref.ensures.value c.in_ok-start.ensures.named)
    c.deletion_at-deletion.ensures.some c.deletion_at-deletion.ensures.none
