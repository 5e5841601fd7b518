use Rattle.std.proofs.Common.{Option, Some, refl, sym, ap, ◌∙◌, subst}
use Rattle.cell_key.specs.Cells.{Cells}
use Rattle.cell_key.specs.Places.{HasCell, IsNextCell, Place}
use Rattle.cell_key.specs.declared.keys.Qualifier.TheVariants.{Write}
use Rattle.rows.specs.Calls.{AreReadableFrom}
use Rattle.rows.proofs.Calls.{refused_later}
use Rattle.rows.proofs.RowsFrom.{row_after}
use Rattle.si_model.specs.Collection.{place_at}
use Rattle.si_model.specs.ShowsCells.{key_of}
use Rattle.rows.specs.Reads.{HasVersion}
use Rattle.version_collector.specs.Visits.{position_of}
use Rattle.version_collector.proofs.AheadCells.{has_of_version, is_next, same_cell}
use Rattle.version_collector.proofs.ahead.has_key.Goals as goal

pub returns-in_err-has_record-clause-refusal : goal.returns-in_err-has_record-clause-refusal
returns-in_err-has_record-clause-refusal g c =
    let x = c.args.cell.now in
    let after = position_of c.args.after.now in
    refused_later _ (g.R.Rows.seen.readable c.args.rows.now x.row) c.from_residual.result c.in_err-has_record.field-0.0 (λ is. is.0 x.row (row_after after (place_at x) is.1)) c.from_residual.ensures.1 c.in_err-has_record.ensures.refusal

pub returns-then-has_record-clause-has : goal.returns-then-has_record-clause-has
returns-then-has_record-clause-has g c = λ held first.
    let x = c.args.cell.now in
    let cells = g.R.Rows.seen.cells c.args.rows.now in
    let has = c.in_ok-has_record.ensures.found (held x.row (row_after (position_of c.args.after.now) (place_at x) first.behind)) in
    (λ _. has_of_version cells (position_of c.args.after.now) x Write 0 _ (subst (HasVersion cells (key_of x Write) 0 _) c.if-has_record.true has), λ _. refl)

pub returns-in-Some-clause-has : goal.returns-in-Some-clause-has
returns-in-Some-clause-has g c = λ held first.
    let x = c.args.cell.now in
    let y = c.in-Some.next in
    let cells = g.R.Rows.seen.cells c.args.rows.now in
    let after = position_of c.args.after.now in
    let reads = c.in_ok-has_record.ensures.reads in
    let there : AreReadableFrom g.R.Rows.seen c.has_version.new.self after = λ row from. reads.readable row (held row from) in
    let found = c.in_ok-next_cell.ensures.found (subst (λ (o : Option Place). AreReadableFrom g.R.Rows.seen c.has_version.new.self o) (sym c.place_after.ensures) there) in
    let from = subst (λ (o : Option Place). IsNextCell (g.R.Rows.seen.cells c.has_version.new.self) o c.in_ok-next_cell.field-0) c.place_after.ensures found in
    let same = subst (λ (cs : Cells). IsNextCell cs after c.in_ok-next_cell.field-0) reads.kept from in
    let next = subst (IsNextCell cells after) (sym c.cell_at.ensures ∙ ap position_of c.in-Some.is) same in (
      λ is. subst (HasCell cells) (ap place_at (c.is_same.ensures.0 is)) next.1,
      λ has. c.is_same.ensures.1 (same_cell y x (is_next cells after x first c.one_next_cell.ensures (Some (place_at y)) next has)),
    )
