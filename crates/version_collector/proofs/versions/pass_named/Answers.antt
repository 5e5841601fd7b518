use Rattle.std.proofs.Common.{sym, subst}
use Rattle.cell_key.specs.Cells.{Cells}
use Rattle.cell_key.specs.declared.keys.Qualifier.TheVariants.{Data}
use Rattle.rows.proofs.Calls.{refused_later}
use Rattle.rows.proofs.Halves.{at_none, at_some}
use Rattle.version_collector.specs.Versions.{AreNear, AreShown, IsLatestBelow, IsTidyFrom}
use Rattle.version_collector.proofs.PassedRefusals.{shown_later}
use Rattle.version_collector.proofs.Starts.{among_named}
use Rattle.version_collector.proofs.TidyCells.{tidy_named, tidy_none, tidy_older}
use Rattle.version_collector.proofs.versions.pass_named.Goals as goal

pub returns-in_default-clause-tidy : goal.returns-in_default-clause-tidy
returns-in_default-clause-tidy g c = λ held shown tidy.
    let cells = g.R.Rows.seen.cells c.args.rows.now in
    let x = c.args.cell.now in
    subst (IsTidyFrom cells x c.args.floor) (sym c.named_from.ensures)
    (tidy_none cells x c.args.floor c.args.tidy (at_none (IsLatestBelow cells x Data c.args.tidy.start) c.in_ok-found.found c.in_default.is (c.in_ok-found.ensures.found held)) tidy)

pub returns-then-start-tidy-clause-tidy : goal.returns-then-start-tidy-clause-tidy
returns-then-start-tidy-clause-tidy g c = λ held shown tidy.
    let cells = g.R.Rows.seen.cells c.args.rows.now in
    let x = c.args.cell.now in
    subst (IsTidyFrom cells x c.args.floor) (sym c.named_from-then-start-tidy.ensures)
    (tidy_older cells x c.args.floor c.args.tidy c.in-Some.start c.in-Some._value.items (at_some (IsLatestBelow cells x Data c.args.tidy.start) c.in_ok-found.found (c.in-Some.start, c.in-Some._value) c.in-Some.is (c.in_ok-found.ensures.found held)) c.if-start-tidy.true tidy)

pub returns-then-is_among-clause-tidy : goal.returns-then-is_among-clause-tidy
returns-then-is_among-clause-tidy g c = λ held shown tidy.
    let cells = g.R.Rows.seen.cells c.args.rows.now in
    let x = c.args.cell.now in
    let reads = c.in_ok-found.ensures.reads in
    let near = subst (λ (cs : Cells). AreNear cs x c.args.floor c.in_ok-near.near) reads.kept (c.in_ok-near.ensures.named (reads.readable x.row held)) in
    subst (IsTidyFrom cells x c.args.floor) (sym c.named_from-then-is_among.ensures)
    (tidy_named cells x c.args.floor c.args.tidy c.in-Some.start c.in-Some._value.items (at_some (IsLatestBelow cells x Data c.args.tidy.start) c.in_ok-found.found (c.in-Some.start, c.in-Some._value) c.in-Some.is (c.in_ok-found.ensures.found held))
    (among_named cells shown x c.args.floor c.in_ok-near.near c.in-Some.start near (c.is_among.ensures.0 c.if-is_among.true)) tidy)

pub returns-in_err-near-clause-refusal : goal.returns-in_err-near-clause-refusal
returns-in_err-near-clause-refusal g c =
    refused_later (g.R.Rows.seen.readable c.args.rows.now c.args.cell.now.row × AreShown (g.R.Rows.seen.cells c.args.rows.now)) (g.R.Rows.seen.readable c.latest_below.new.rows c.args.cell.now.row × AreShown (g.R.Rows.seen.cells c.latest_below.new.rows))
    c.from_residual-in_err-near.result c.in_err-near.field-0.0 (shown_later c.args.cell.now.row c.in_ok-found.ensures.reads) c.from_residual-in_err-near.ensures.1 c.in_err-near.ensures.refusal
