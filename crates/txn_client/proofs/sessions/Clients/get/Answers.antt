use Rattle.std.proofs.Common.{◌≡◌, IfErr, IfOk, sym, ap, subst, ◌∙◌}
use Rattle.std.specs.declared.result.Result.TheVariants.{Err}
use Rattle.cell_key.specs.declared.refusals.Refusal.{Refusal}
use Rattle.cell_key.specs.declared.refusals.Refusal.TheVariants.{Damaged}
use Rattle.txn_client.proofs.Exact.{cell_unknown, is_open}
use Rattle.cell_key.specs.Names.{IsRow, IsFamily}
use Rattle.si_model.specs.declared.replies.Cell.{Cell}
use Rattle.si_model.specs.Machine as machine
use Rattle.si_model.specs.Replies.{found_reply, result_reply}
use Rattle.si_model.specs.Reads.{cell_of}
use Rattle.cell_key.proofs.Reasons.{reason_none}
use Rattle.rows.proofs.Calls.{reads_none}
use Rattle.txn_client.specs.Reads.{IsDamaged, IsFound}
use Rattle.txn_client.specs.Shows.{IsCellRefusal, Steps}
use Rattle.txn_client.proofs.Passed.{as_err, passed_err, passed_none, refused_not}
use Rattle.txn_client.proofs.Table.{reads_open_at, undamaged_at, get_refused_at}
use Rattle.txn_client.proofs.sessions.Clients.get.Goals as goal

pub returns-in_err-cell-clause-step : goal.returns-in_err-cell-clause-step
returns-in_err-cell-clause-step g c = λ held last.
    let e = as_err c.from_residual.result c.in_err-cell.field-0.0 c.from_residual.ensures.1 in
    rw e (get_refused_at (g.R.Rows.seen.cells c.args.rows.now) c.args.self.now last c.args.start (cell_of c.args.row.now c.args.family.now) c.in_err-cell.field-0.0 c.in_err-cell.ensures.refusal)

pub returns-clause-step : goal.returns-clause-step
returns-clause-step g c = λ held last.
    let same = c.in_ok-cell.ensures.ok in
    rw c.read_cell.ensures.reads.kept (subst (λ (x : Cell). Steps (g.R.Rows.seen.cells c.args.rows.now) c.args.self.now last (machine.Get c.args.start x) (result_reply found_reply c.read_cell.result) (g.R.Rows.seen.cells c.args.rows.now) c.args.self.now last) same
    (reads_open_at (g.R.Rows.seen.cells c.args.rows.now) c.args.self.now last c.args.start c.in_ok-cell.cell c.read_cell.result c.in_ok-cell.ensures.open
    (subst (λ (x : Cell). IsRow x.row) (sym same) c.in_ok-cell.ensures.row) (subst (λ (x : Cell). IsFamily x.family) (sym same) c.in_ok-cell.ensures.family) (c.read_cell.ensures.found (g.R.Rows.seen.each_readable c.args.rows.now held c.in_ok-cell.cell.row)) c.read_cell.ensures.refusal))

pub returns-clause-undamaged : goal.returns-clause-undamaged
returns-clause-undamaged g c = λ held.
    undamaged_at (g.R.Rows.seen.cells c.args.rows.now) c.in_ok-cell.cell c.args.start c.read_cell.result
    (c.read_cell.ensures.damaged (subst (λ (x : Cell). g.R.Rows.seen.readable c.args.rows.now x.row) (sym c.in_ok-cell.ensures.ok) held))

pub returns-in_err-cell-clause-found : goal.returns-in_err-cell-clause-found
returns-in_err-cell-clause-found g c = λ held. passed_none c.from_residual.result c.in_err-cell.field-0.0 _ c.from_residual.ensures.1

pub returns-in_err-cell-clause-damaged : goal.returns-in_err-cell-clause-damaged
returns-in_err-cell-clause-damaged g c = λ held.
    passed_err c.from_residual.result c.in_err-cell.field-0.0 _ c.from_residual.ensures.1
    (λ is. absurd (subst (IsCellRefusal c.args.self.now c.args.start (cell_of c.args.row.now c.args.family.now)) is c.in_err-cell.ensures.refusal).1)

pub returns-clause-found : goal.returns-clause-found
returns-clause-found g c = λ held.
    subst (λ (x : Cell). IfOk c.read_cell.result (IsFound (g.R.Rows.seen.cells c.args.rows.now) x c.args.start)) c.in_ok-cell.ensures.ok (c.read_cell.ensures.found (subst (λ (x : Cell). g.R.Rows.seen.readable c.args.rows.now x.row) (sym c.in_ok-cell.ensures.ok) held))

pub returns-clause-damaged : goal.returns-clause-damaged
returns-clause-damaged g c = λ held.
    subst (λ (x : Cell). IfErr c.read_cell.result (λ refusal. refusal ≡ Damaged → IsDamaged (g.R.Rows.seen.cells c.args.rows.now) x c.args.start)) c.in_ok-cell.ensures.ok (c.read_cell.ensures.damaged (subst (λ (x : Cell). g.R.Rows.seen.readable c.args.rows.now x.row) (sym c.in_ok-cell.ensures.ok) held))

pub returns-in_err-cell-clause-unknown : goal.returns-in_err-cell-clause-unknown
returns-in_err-cell-clause-unknown g c = λ st shown gone.
    let e = as_err c.from_residual.result c.in_err-cell.field-0.0 c.from_residual.ensures.1 in
    e ∙ ap (λ (r : Refusal). Err r) (cell_unknown c.args.self.now c.args.start st shown _ _ gone c.in_err-cell.ensures.refusal)

pub returns-clause-unknown : goal.returns-clause-unknown
returns-clause-unknown g c = λ st shown gone. absurd (is_open c.args.self.now c.args.start st shown gone c.in_ok-cell.ensures.open)

pub returns-in_err-cell-clause-reads : goal.returns-in_err-cell-clause-reads
returns-in_err-cell-clause-reads g c = reads_none

pub returns-in_err-cell-clause-reason : goal.returns-in_err-cell-clause-reason
returns-in_err-cell-clause-reason g c = reason_none _ _ (refused_not c.from_residual.result c.in_err-cell.field-0.0 _ (IsCellRefusal c.args.self.now c.args.start (cell_of c.args.row.now c.args.family.now)) (λ u. u.1) c.from_residual.ensures.1 c.in_err-cell.ensures.refusal)
