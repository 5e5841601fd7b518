use Rattle.std.proofs.Common.{refl, sym, subst}
use Rattle.cell_key.proofs.Reasons.{not_refused, reason_kept, reason_none, reason_passed}
use Rattle.rows.specs.Refusals.{IsEditRefusal}
use Rattle.rows.proofs.Calls.{reads_none}
use Rattle.txn_client.proofs.Passed.{passed_on, passed_err, passed_kept, passed_kept_not, no_memory_only, device_not, full_not}
use Rattle.txn_client.proofs.cells.hold.Goals as goal

pub apply-requires : goal.apply-requires
apply-requires g c = c.in_ok-edits.ensures.under

pub returns-in_err-edits : goal.returns-in_err-edits
returns-in_err-edits g c =
    let r = c.from_residual.result in
    let e = c.in_err-edits.field-0.0 in
    let by = c.from_residual.ensures.1 in
    record {
      ok = passed_kept_not r e _ by;
      err = passed_kept r _ reads_none;
      refusal = passed_err r e _ by (subst IsEditRefusal (sym c.in_err-edits.ensures.refusal) tt);
      full = λ is. absurd (no_memory_only r e _ full_not by c.in_err-edits.ensures.refusal is);
      reason = reason_none _ _ (no_memory_only r e _ device_not by c.in_err-edits.ensures.refusal);
    }

pub returns-in_err-apply : goal.returns-in_err-apply
returns-in_err-apply g c =
    let r = c.from_residual-in_err-apply.result in
    let e = c.in_err-apply.field-0.0 in
    let by = c.from_residual-in_err-apply.ensures.1 in
    let at = c.in_err-apply.ensures in
    record {
      ok = passed_kept_not r e _ by;
      err = passed_kept r _ at.err;
      refusal = passed_err r e _ by at.refusal;
      full = λ is. (
        c.args.write.now.cell.row,
        c.in_ok-edits.edits.items,
        (refl, c.in_ok-edits.ensures.holding),
        at.full (passed_on r _ e _ by refl is),
      );
      reason = reason_passed r e _ _ by at.reason;
    }

pub returns : goal.returns
returns g c = record {
  ok = record {
    row = c.args.write.now.cell.row;
    edits = c.in_ok-edits.edits.items;
    such = (refl, c.in_ok-edits.ensures.holding);
    applied = c.in_ok-apply.ensures.ok;
  };
  err = tt;
  refusal = tt;
  full = λ is. absurd (not_refused _ _ is);
  reason = reason_kept _ _ _ _ (not_refused _ _) c.in_ok-apply.ensures.reason;
}
