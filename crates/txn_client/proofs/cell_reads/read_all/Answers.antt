use Rattle.std.proofs.Common.{◌∙◌, ◌+◌, ap}
use Rattle.cell_key.proofs.Passed.{passed_err}
use Rattle.cell_key.proofs.Reasons.{not_refused}
use Rattle.cell_key.specs.declared.refusals.Refusal.TheVariants.{Device}
use Rattle.rows.proofs.Calls.{reads_then}
use Rattle.txn_client.specs.CellReads.{IsRefusedAmong}
use Rattle.txn_client.proofs.CellReads.{named_more, refused_named}
use Rattle.txn_client.proofs.cell_reads.read_all.Goals as goal

pub returns-in_err-read_next-clause-refused : goal.returns-in_err-read_next-clause-refused
returns-in_err-read_next-clause-refused g c = λ whole.
    let cells = g.R.Rows.seen.cells c.args.rows.now in
    let before = c.loop-name.invariant in
    passed_err c.from_residual.result c.in_err-read_next.field-0.0 (IsRefusedAmong cells c.args.start _) c.from_residual.ensures.1
    (refused_named cells c.args.start c.args.names.now c.loop-name.name-index _ _ c.in_err-read_next.field-0.0 c.loop-name-test.true (before.read whole) c.in_err-read_next.ensures.refusal)

pub loop-name-preserved : goal.loop-name-preserved
loop-name-preserved g c =
    let cells = g.R.Rows.seen.cells c.args.rows.now in
    let before = c.loop-name.invariant in
    let now = c.in_ok-read_next.ensures in
    record {
      few = now.few;
      count = now.count ∙ ap (λ n. n + 1) before.count;
      read = λ whole. named_more cells c.args.start c.args.names.now c.loop-name.name-index _ c.loop-name.told.bytes _ _ (now.next (before.reads.readable _ (whole _ tt))).said (g.R.Rows.seen.cells c.loop-name.rows) c.loop-name-test.true
          (before.read whole) before.bytes now.named before.reads.kept (now.next (before.reads.readable _ (whole _ tt))).read (now.next (before.reads.readable _ (whole _ tt))).found;
      bytes = now.sum;
      short = now.short;
      reads = reads_then before.reads now.reads;
      faults = now.reason.told (not_refused _ Device) ∙ before.faults;
    }
