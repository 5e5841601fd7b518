use Rattle.std.proofs.Common.{◌∙◌, ℕ, List, map, ap, sym, subst, arith}
use Rattle.cell_key.specs.Cells.{Cells, after_edits}
use Rattle.cell_key.specs.declared.edits.Edit.{Edit}
use Rattle.rows.proofs.Calls.{reads_then, refused_later}
use Rattle.version_collector.specs.Erasing.{IsKnown, record_erasures, data_erasures}
use Rattle.version_collector.specs.Versions.{AreNear, AreShown, IsTidyFrom, last_of}
use Rattle.version_collector.proofs.Erasures.{empty_list, erases_data, erases_deletion, erases_records, found_after, last_after, some_list, unnamed_where_none}
use Rattle.version_collector.proofs.PassedRefusals.{shown_later}
use Rattle.version_collector.proofs.TidyCells.{tidy_data, tidy_records}
use Rattle.version_collector.proofs.erasing.old_edits.Goals as goal

pub returns-then-not-is_empty-clause-old : goal.returns-then-not-is_empty-clause-old
returns-then-not-is_empty-clause-old g c =
    let vs = c.in_ok-records.records in
    let x = c.args.cell.now in
    erases_records (IsKnown g.R.Rows.seen c.args.rows.now x c.args.floor c.args.tidy) (g.R.Rows.seen.cells c.args.rows.now) x c.args.floor vs.items c.in_ok-edits.edits.items
    (some_list vs.items vs.len c.is_empty.result vs.ok.0 c.is_empty.ensures c.if-not-is_empty.true) (c.in_ok-edits.ensures.edits ∙ ap (record_erasures x) c.deref.ensures.value) c.in_ok-records.ensures.few
    (λ known shown. c.in_ok-records.ensures.found known.0 shown known.1.old)

pub returns-then-not-is_empty-clause-tidy : goal.returns-then-not-is_empty-clause-tidy
returns-then-not-is_empty-clause-tidy g c = λ known shown.
    let vs = c.in_ok-records.records in
    let x = c.args.cell.now in
    let floor = c.args.floor in
    let cells = g.R.Rows.seen.cells c.args.rows.now in
    let reads = c.in_ok-records.ensures.reads in
    let some = some_list vs.items vs.len c.is_empty.result vs.ok.0 c.is_empty.ensures c.if-not-is_empty.true in
    let last = c.past_records-tidy.ensures.commit ∙ ap (λ (us : List (ℕ × ℕ)). last_of c.in_ok-passed.passed.commit (map (λ v. v.0) us)) c.deref-then-not-is_empty.ensures.value in
    let passed : IsTidyFrom cells x floor c.in_ok-passed.passed = subst (λ (cs : Cells). IsTidyFrom cs x floor c.in_ok-passed.passed) reads.kept
    (c.in_ok-passed.ensures.tidy (reads.readable x.row known.0) (subst AreShown (sym reads.kept) shown) (subst (λ (cs : Cells). IsTidyFrom cs x floor c.args.tidy) (sym reads.kept) known.1)) in
    subst (λ (es : List Edit). IsTidyFrom (after_edits cells es) x floor c.past_records-tidy.result) (sym (c.in_ok-edits.ensures.edits ∙ ap (record_erasures x) c.deref.ensures.value))
    (tidy_records cells x floor vs.items c.in_ok-passed.passed c.past_records-tidy.result some (c.in_ok-records.ensures.found known.0 shown known.1.old) last c.past_records-tidy.ensures.start (omega arith) passed)

pub returns-in_err-passed-clause-refusal : goal.returns-in_err-passed-clause-refusal
returns-in_err-passed-clause-refusal g c =
    refused_later (g.R.Rows.seen.readable c.args.rows.now c.args.cell.now.row × AreShown (g.R.Rows.seen.cells c.args.rows.now)) (g.R.Rows.seen.readable c.old_records.new.rows c.args.cell.now.row × AreShown (g.R.Rows.seen.cells c.old_records.new.rows))
    c.from_residual-in_err-passed.result c.in_err-passed.field-0.0 (shown_later c.args.cell.now.row c.in_ok-records.ensures.reads) c.from_residual-in_err-passed.ensures.1 c.in_err-passed.ensures.refusal

-- the data found, as of the beginning
pub returns-then-not-is_empty-2-clause-old : goal.returns-then-not-is_empty-2-clause-old
returns-then-not-is_empty-2-clause-old g c =
    let vs = c.in_ok-records.records in
    let ts = c.in_ok-starts.starts in
    let x = c.args.cell.now in
    let cells = g.R.Rows.seen.cells c.args.rows.now in
    let reads = c.in_ok-records.ensures.reads in
    let both = reads_then reads c.in_ok-near.ensures.reads in
    let Known = IsKnown g.R.Rows.seen c.args.rows.now x c.args.floor c.args.tidy in
    erases_data Known cells x c.args.floor ts.items c.in_ok-edits-2.edits.items
    (some_list ts.items ts.len c.is_empty-2.result ts.ok.0 c.is_empty-2.ensures c.if-not-is_empty-2.true) (c.in_ok-edits-2.ensures.edits ∙ ap (data_erasures x) c.deref-then-not-is_empty-2.ensures.value) c.in_ok-starts.ensures.few
    (unnamed_where_none Known cells x c.args.floor vs.items ts.items (empty_list vs.items vs.len c.is_empty.result vs.ok.0 c.is_empty.ensures c.if-not-is_empty.false) (λ known shown. c.in_ok-records.ensures.found known.0 shown known.1.old)
    (found_after Known (g.R.Rows.seen.readable c.near_records.new.rows x.row) cells (g.R.Rows.seen.cells c.near_records.new.rows) x c.args.floor c.args.tidy.start c.in_ok-near.near ts.items (λ known. both.readable x.row known.0) both.kept
    (λ known. subst (λ (cs : Cells). AreNear cs x c.args.floor c.in_ok-near.near) reads.kept (c.in_ok-near.ensures.named (reads.readable x.row known.0))) (λ known. known.1.named) c.in_ok-starts.ensures.found))

pub returns-then-not-is_empty-2-clause-tidy : goal.returns-then-not-is_empty-2-clause-tidy
returns-then-not-is_empty-2-clause-tidy g c = λ known shown.
    let vs = c.in_ok-records.records in
    let ts = c.in_ok-starts.starts in
    let x = c.args.cell.now in
    let cells = g.R.Rows.seen.cells c.args.rows.now in
    let reads = c.in_ok-records.ensures.reads in
    let both = reads_then reads c.in_ok-near.ensures.reads in
    let Known = IsKnown g.R.Rows.seen c.args.rows.now x c.args.floor c.args.tidy in
    let some = some_list ts.items ts.len c.is_empty-2.result ts.ok.0 c.is_empty-2.ensures c.if-not-is_empty-2.true in
    let last = c.past_data-tidy.ensures.start ∙ ap (last_of c.args.tidy.start) c.deref-then-not-is_empty-2-2.ensures.value in
    subst (λ (es : List Edit). IsTidyFrom (after_edits cells es) x c.args.floor c.past_data-tidy.result) (sym (c.in_ok-edits-2.ensures.edits ∙ ap (data_erasures x) c.deref-then-not-is_empty-2.ensures.value))
    (tidy_data cells x c.args.floor c.args.tidy.start ts.items c.past_data-tidy.result shown
    (unnamed_where_none Known cells x c.args.floor vs.items ts.items (empty_list vs.items vs.len c.is_empty.result vs.ok.0 c.is_empty.ensures c.if-not-is_empty.false) (λ known shown. c.in_ok-records.ensures.found known.0 shown known.1.old)
    (found_after Known (g.R.Rows.seen.readable c.near_records.new.rows x.row) cells (g.R.Rows.seen.cells c.near_records.new.rows) x c.args.floor c.args.tidy.start c.in_ok-near.near ts.items (λ known. both.readable x.row known.0) both.kept
    (λ known. subst (λ (cs : Cells). AreNear cs x c.args.floor c.in_ok-near.near) reads.kept (c.in_ok-near.ensures.named (reads.readable x.row known.0))) (λ known. known.1.named) c.in_ok-starts.ensures.found) known shown) some last)

pub returns-clause-old : goal.returns-clause-old
returns-clause-old g c =
    let vs = c.in_ok-records.records in
    let ts = c.in_ok-starts.starts in
    let x = c.args.cell.now in
    let cells = g.R.Rows.seen.cells c.args.rows.now in
    let reads = c.in_ok-records.ensures.reads in
    let both = reads_then reads c.in_ok-near.ensures.reads in
    let Known = IsKnown g.R.Rows.seen c.args.rows.now x c.args.floor c.args.tidy in
    erases_deletion Known cells x c.args.floor ts.items c.in_ok-near.deletion c.in_ok-edits-3.edits.items
    (empty_list ts.items ts.len c.is_empty-2.result ts.ok.0 c.is_empty-2.ensures c.if-not-is_empty-2.false) c.in_ok-edits-3.ensures.edits
    (unnamed_where_none Known cells x c.args.floor vs.items ts.items (empty_list vs.items vs.len c.is_empty.result vs.ok.0 c.is_empty.ensures c.if-not-is_empty.false) (λ known shown. c.in_ok-records.ensures.found known.0 shown known.1.old)
    (found_after Known (g.R.Rows.seen.readable c.near_records.new.rows x.row) cells (g.R.Rows.seen.cells c.near_records.new.rows) x c.args.floor c.args.tidy.start c.in_ok-near.near ts.items (λ known. both.readable x.row known.0) both.kept
    (λ known. subst (λ (cs : Cells). AreNear cs x c.args.floor c.in_ok-near.near) reads.kept (c.in_ok-near.ensures.named (reads.readable x.row known.0))) (λ known. known.1.named) c.in_ok-starts.ensures.found))
    (last_after Known (g.R.Rows.seen.readable c.old_records.new.rows x.row) cells (g.R.Rows.seen.cells c.old_records.new.rows) x c.args.floor c.in_ok-near.deletion (λ known. reads.readable x.row known.0) reads.kept c.in_ok-near.ensures.deletion)

pub returns-in_err-near-clause-refusal : goal.returns-in_err-near-clause-refusal
returns-in_err-near-clause-refusal g c =
    refused_later (g.R.Rows.seen.readable c.args.rows.now c.args.cell.now.row × AreShown (g.R.Rows.seen.cells c.args.rows.now)) (g.R.Rows.seen.readable c.old_records.new.rows c.args.cell.now.row × AreShown (g.R.Rows.seen.cells c.old_records.new.rows))
    c.from_residual-in_err-near.result c.in_err-near.field-0.0 (shown_later c.args.cell.now.row c.in_ok-records.ensures.reads) c.from_residual-in_err-near.ensures.1 c.in_err-near.ensures.refusal

pub returns-in_err-starts-clause-refusal : goal.returns-in_err-starts-clause-refusal
returns-in_err-starts-clause-refusal g c =
    refused_later (g.R.Rows.seen.readable c.args.rows.now c.args.cell.now.row × AreShown (g.R.Rows.seen.cells c.args.rows.now)) (g.R.Rows.seen.readable c.near_records.new.rows c.args.cell.now.row)
    c.from_residual-in_err-starts.result c.in_err-starts.field-0.0 (λ was. (reads_then c.in_ok-records.ensures.reads c.in_ok-near.ensures.reads).readable c.args.cell.now.row was.0) c.from_residual-in_err-starts.ensures.1 c.in_err-starts.ensures.refusal

pub returns-clause-tidy : goal.returns-clause-tidy
returns-clause-tidy g c = λ known shown. c.new-tidy.ensures (after_edits (g.R.Rows.seen.cells c.args.rows.now) c.in_ok-edits-3.edits.items) c.args.cell.now
