use Rattle.std.proofs.Common.{◌+◌, sym, subst, ap}
use Rattle.std.specs.declared.result.Result.TheVariants.{Err}
use Rattle.cell_key.proofs.Passed.{passed}
use Rattle.cell_key.specs.declared.refusals.Refusal.TheVariants.{Damaged}
use Rattle.si_model.specs.Answers.{told_item}
use Rattle.si_model.specs.declared.replies.Cell.{Cell}
use Rattle.txn_client.specs.CellReads.{IsReadSo}
use Rattle.txn_client.proofs.CellReads.{lengths_now, said_next, short_more}
use Rattle.txn_client.proofs.Table.{undamaged_at}
use Rattle.txn_client.proofs.cell_reads.Told.read_next.Goals as goal

pub returns-in_err-found-clause-undamaged : goal.returns-in_err-found-clause-undamaged
returns-in_err-found-clause-undamaged g c = λ whole st reached shown is.
    let cells = g.R.Rows.seen.cells c.args.rows.now in
    let e = c.in_err-found.field-0.0 in
    let there = subst (λ (x : Cell). g.R.Rows.seen.readable c.args.rows.now x.row) (sym c.in_ok-cell.ensures.ok) whole in
    undamaged_at cells c.in_ok-cell.cell c.args.start (Err e) (c.in_err-found.ensures.damaged there) st reached shown (passed c.from_residual-in_err-found.result e Damaged c.from_residual-in_err-found.ensures.1 is)

pub returns-clause-next : goal.returns-clause-next
returns-clause-next g c = λ whole.
    let cells = g.R.Rows.seen.cells c.args.rows.now in
    let there = subst (λ (x : Cell). g.R.Rows.seen.readable c.args.rows.now x.row) (sym c.in_ok-cell.ensures.ok) whole in
    record {
      said = told_item c.said_after-said.result;
      read = subst (λ (x : Cell). IsReadSo cells c.args.start c.args.self.now.bytes x (told_item c.said_after-said.result)) c.in_ok-cell.ensures.ok
          (record { found = c.in_ok-found.found; is_found = c.in_ok-found.ensures.found there; told = c.said_after-said.ensures.told });
      found = said_next _ _ _ c.in_ok-push.ensures.items;
      bytes = ap (λ n. c.args.self.now.bytes + n) c.told_bytes.ensures;
    }

pub returns-clause-sum : goal.returns-clause-sum
returns-clause-sum g c = lengths_now c.args.self.now.bytes _ _ _ (told_item c.said_after-said.result) c.requires.sum (said_next _ _ _ c.in_ok-push.ensures.items) (ap (λ n. c.args.self.now.bytes + n) c.told_bytes.ensures)

pub returns-clause-short : goal.returns-clause-short
returns-clause-short g c = short_more _ _ c.said_after-said.result c.args.self.now.bytes _ _ c.in_ok-push.ensures.items c.requires.short c.said_after-said.ensures.few (ap (λ n. c.args.self.now.bytes + n) c.told_bytes.ensures)
