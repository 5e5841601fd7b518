use Rattle.std.proofs.Common.{◌≡◌, ℕ, Bool, IfErr, IfOk, map, sym, ap, subst, ◌∙◌}
use Rattle.std.specs.declared.result.Result.TheVariants.{Err}
use Rattle.cell_key.specs.declared.refusals.Refusal.{Refusal}
use Rattle.cell_key.specs.declared.refusals.Refusal.TheVariants.{Damaged}
use Rattle.cell_key.proofs.Reasons.{reason_none}
use Rattle.rows.proofs.Calls.{reads_none}
use Rattle.si_model.specs.Machine.{Range}
use Rattle.si_model.specs.Replies.{item_of, range_of, reach_of}
use Rattle.si_model.specs.Scans.{HasFamilies, HasRows}
use Rattle.txn_client.specs.Ranges.{range_named}
use Rattle.txn_client.specs.Scans.{IsScanDamaged, IsScanFound, IsScanReadable}
use Rattle.txn_client.specs.Shows.{IsScanCause}
use Rattle.txn_client.proofs.Exact.{is_open}
use Rattle.txn_client.proofs.Passed.{as_err, passed_err, passed_none, refused_not}
use Rattle.txn_client.proofs.ScanSteps.{as_asked, scan_refused_at, scan_undamaged_at, scan_unknown, scans_at}
use Rattle.txn_client.proofs.sessions.Clients.scan.Goals as goal

pub run-requires-clause-rows : goal.run-requires-clause-rows
run-requires-clause-rows g c = subst HasRows (sym c.in_ok-scan.ensures.range) c.in_ok-scan.ensures.rows

pub run-requires-clause-families : goal.run-requires-clause-families
run-requires-clause-families g c = subst HasFamilies (sym c.in_ok-scan.ensures.range) c.in_ok-scan.ensures.families

pub returns-in_err-scan-clause-step : goal.returns-in_err-scan-clause-step
returns-in_err-scan-clause-step g c = λ held last.
    let e = as_err c.from_residual.result c.in_err-scan.field-0.0 c.from_residual.ensures.1 in
    rw e (scan_refused_at (g.R.Rows.seen.cells c.args.rows.now) c.args.self.now last c.args.start (range_of c.args.range) c.args.keys_only c.args.cells c.in_err-scan.field-0.0 c.in_err-scan.ensures.refusal)

pub returns-in_err-scan-clause-found : goal.returns-in_err-scan-clause-found
returns-in_err-scan-clause-found g c = λ held. passed_none c.from_residual.result c.in_err-scan.field-0.0 _ c.from_residual.ensures.1

pub returns-in_err-scan-clause-damaged : goal.returns-in_err-scan-clause-damaged
returns-in_err-scan-clause-damaged g c = λ held.
    passed_err c.from_residual.result c.in_err-scan.field-0.0 _ c.from_residual.ensures.1
    (λ is. absurd (subst (IsScanCause c.args.self.now c.args.start (range_of c.args.range) c.args.cells) is c.in_err-scan.ensures.refusal).1)

pub returns-in_err-scan-clause-unknown : goal.returns-in_err-scan-clause-unknown
returns-in_err-scan-clause-unknown g c = λ st shown gone.
    let e = as_err c.from_residual.result c.in_err-scan.field-0.0 c.from_residual.ensures.1 in
    e ∙ ap (λ (r : Refusal). Err r) (scan_unknown c.args.self.now c.args.start st shown (range_of c.args.range) c.args.cells _ gone c.in_err-scan.ensures.refusal)

pub returns-in_err-scan-clause-reads : goal.returns-in_err-scan-clause-reads
returns-in_err-scan-clause-reads g c = reads_none

pub returns-in_err-scan-clause-reason : goal.returns-in_err-scan-clause-reason
returns-in_err-scan-clause-reason g c =
    reason_none _ _ (refused_not c.from_residual.result c.in_err-scan.field-0.0 _ (IsScanCause c.args.self.now c.args.start (range_of c.args.range) c.args.cells) (λ u. u.1) c.from_residual.ensures.1 c.in_err-scan.ensures.refusal)

pub returns-clause-step : goal.returns-clause-step
returns-clause-step g c = λ held last.
    let cells = g.R.Rows.seen.cells c.args.rows.now in
    let asked = c.in_ok-scan.ensures in
    let scan = c.in_ok-scan.scan in
    let found = as_asked (λ (s : ℕ) (range : Range) (keys_only : Bool). IfOk c.run.result (λ reply. IsScanFound cells s range keys_only c.args.cells (map item_of reply.items.items) (reach_of reply.reach)))
    c.args.start scan.start (range_of c.args.range) (range_named scan.range) c.args.keys_only scan.keys_only asked.start asked.range asked.keys (c.run.ensures.found (λ row from. g.R.Rows.seen.each_readable c.args.rows.now held row)) in
    rw c.run.ensures.reads.kept (scans_at cells c.args.self.now last c.args.start (range_of c.args.range) c.args.keys_only c.args.cells c.run.result asked.open asked.rows asked.families asked.count found c.run.ensures.refusal)

pub returns-clause-found : goal.returns-clause-found
returns-clause-found g c = λ held.
    let asked = c.in_ok-scan.ensures in
    let scan = c.in_ok-scan.scan in
    as_asked (λ (s : ℕ) (range : Range) (keys_only : Bool). IfOk c.run.result (λ reply. IsScanFound (g.R.Rows.seen.cells c.args.rows.now) s range keys_only c.args.cells (map item_of reply.items.items) (reach_of reply.reach)))
    c.args.start scan.start (range_of c.args.range) (range_named scan.range) c.args.keys_only scan.keys_only asked.start asked.range asked.keys (c.run.ensures.found (subst (IsScanReadable g.R.Rows.seen c.args.rows.now) (sym asked.range) held))

pub returns-clause-damaged : goal.returns-clause-damaged
returns-clause-damaged g c = λ held.
    let asked = c.in_ok-scan.ensures in
    let scan = c.in_ok-scan.scan in
    as_asked (λ (s : ℕ) (range : Range) (keys_only : Bool). IfErr c.run.result (λ (e : Refusal). e ≡ Damaged → IsScanDamaged (g.R.Rows.seen.cells c.args.rows.now) range s))
    c.args.start scan.start (range_of c.args.range) (range_named scan.range) c.args.keys_only scan.keys_only asked.start asked.range asked.keys (c.run.ensures.damaged (subst (IsScanReadable g.R.Rows.seen c.args.rows.now) (sym asked.range) held))

pub returns-clause-undamaged : goal.returns-clause-undamaged
returns-clause-undamaged g c = λ held.
    let asked = c.in_ok-scan.ensures in
    let scan = c.in_ok-scan.scan in
    scan_undamaged_at (g.R.Rows.seen.cells c.args.rows.now) (range_of c.args.range) c.args.start c.run.result
    (as_asked (λ (s : ℕ) (range : Range) (keys_only : Bool). IfErr c.run.result (λ (e : Refusal). e ≡ Damaged → IsScanDamaged (g.R.Rows.seen.cells c.args.rows.now) range s))
    c.args.start scan.start (range_of c.args.range) (range_named scan.range) c.args.keys_only scan.keys_only asked.start asked.range asked.keys (c.run.ensures.damaged (subst (IsScanReadable g.R.Rows.seen c.args.rows.now) (sym asked.range) held)))

pub returns-clause-unknown : goal.returns-clause-unknown
returns-clause-unknown g c = λ st shown gone. absurd (is_open c.args.self.now c.args.start st shown gone c.in_ok-scan.ensures.open)
