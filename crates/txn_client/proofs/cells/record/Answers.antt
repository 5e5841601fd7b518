use Rattle.std.proofs.Common.{◌≡◌, ◌∙◌, ℕ, Bool, true, false, List, Option, Some, None, refl, sym, subst, arith}
use Rattle.std.specs.Prelude.{is_some}
use Rattle.cell_key.specs.Cells.{Cells, IsNewest}
use Rattle.cell_key.specs.declared.keys.Qualifier.TheVariants.{Lock}
use Rattle.cell_key.proofs.Reasons.{not_refused, reason_kept, reason_passed, reason_then}
use Rattle.rows.specs.Reads.{HasVersion}
use Rattle.rows.proofs.Calls.{applies_after, reads_then}
use Rattle.si_model.specs.ShowsCells.{IsThere, key_of}
use Rattle.si_model.specs.declared.replies.Cell.{Cell}
use Rattle.si_model.specs.Reads.{IsGone}
use Rattle.txn_client.proofs.Passed.{passed_on, passed_err, passed_none, passed_kept, read_row, edit_row, want_row, read_not_full, no_memory_only, full_not, device_not}
use Rattle.txn_client.proofs.cells.record.Goals as goal

module _ (cells : Cells) (x : Cell) (s t : ℕ) (has : Bool) (same : s ≡ t) where
  stands_there : has ≡ true → HasVersion cells (key_of x Lock) s s has → IsThere cells x Lock t
  stands_there some h = go h.found (sym some ∙ h.is) h.newest
    where
      go : (found : Option (ℕ × List ℕ)) → true ≡ is_some found → IsNewest cells (key_of x Lock) s s found → IsThere cells x Lock t
      go None e none = absurd cc
      go (Some found) e (low, high, is, last) =
          let at : found.0 ≡ t = omega (arith, low, high, same) in
          subst (IsThere cells x Lock) at (found.1, is)

  is_gone : has ≡ false → HasVersion cells (key_of x Lock) s s has → IsGone cells x t
  is_gone none h = go h.found (sym none ∙ h.is) h.newest
    where
      go : (found : Option (ℕ × List ℕ)) → false ≡ is_some found → IsNewest cells (key_of x Lock) s s found → IsGone cells x t
      go None e none = none t (omega (arith, same)) (omega (arith, same))
      go (Some found) e some = absurd cc

pub apply-requires : goal.apply-requires
apply-requires g c = c.in_ok-edits.ensures.under

pub returns-in_err-stands : goal.returns-in_err-stands
returns-in_err-stands g c =
    let r = c.from_residual.result in
    let e = c.in_err-stands.field-0.0 in
    let by = c.from_residual.ensures.1 in
    let at = c.in_err-stands.ensures in
    record {
      made = passed_none r e _ by;
      gone = λ held. passed_none r e _ by;
      left = passed_none r e _ by;
      err = passed_kept r _ at.reads;
      refusal = passed_err r e _ by (read_row _ e at.refusal);
      full = λ is. absurd (read_not_full r e _ by at.refusal is);
      reason = reason_passed r e _ _ by at.reason;
    }

pub returns-then-not-stands : goal.returns-then-not-stands
returns-then-not-stands g c = record {
  made = tt;
  gone = λ held. is_gone (g.R.Rows.seen.cells c.args.rows.now) c.args.cell.now c.stamp-stamp.result c.args.start c.in_ok-stands.stands c.stamp-stamp.ensures.stamp c.if-not-stands.true (c.in_ok-stands.ensures.found (g.R.Rows.seen.each_readable c.args.rows.now held c.args.cell.now.row));
  left = c.in_ok-stands.ensures.reads;
  err = tt;
  refusal = tt;
  full = λ is. absurd (not_refused _ _ is);
  reason = reason_kept _ _ _ _ (not_refused _ _) c.in_ok-stands.ensures.reason;
}

pub returns-in_err-edits : goal.returns-in_err-edits
returns-in_err-edits g c =
    let r = c.from_residual-in_err-edits.result in
    let e = c.in_err-edits.field-0.0 in
    let by = c.from_residual-in_err-edits.ensures.1 in
    let want = c.in_err-edits.ensures.refusal in
    record {
      made = passed_none r e _ by;
      gone = λ held. passed_none r e _ by;
      left = passed_none r e _ by;
      err = passed_kept r _ c.in_ok-stands.ensures.reads;
      refusal = passed_err r e _ by (want_row _ e want);
      full = λ is. absurd (no_memory_only r e _ full_not by want is);
      reason = reason_kept _ r _ _ (no_memory_only r e _ device_not by want) c.in_ok-stands.ensures.reason;
    }

pub returns-in_err-apply : goal.returns-in_err-apply
returns-in_err-apply g c =
    let r = c.from_residual-in_err-apply.result in
    let e = c.in_err-apply.field-0.0 in
    let by = c.from_residual-in_err-apply.ensures.1 in
    let first = c.in_ok-stands.ensures in
    let at = c.in_err-apply.ensures in
    record {
      made = passed_none r e _ by;
      gone = λ held. passed_none r e _ by;
      left = passed_none r e _ by;
      err = passed_kept r _ (reads_then first.reads at.err);
      refusal = passed_err r e _ by (edit_row _ e at.refusal);
      full = λ is. (
        c.args.cell.now.row,
        c.in_ok-edits.edits.items,
        (
          refl,
          λ held. stands_there (g.R.Rows.seen.cells c.args.rows.now) c.args.cell.now c.stamp-stamp.result c.args.start c.in_ok-stands.stands c.stamp-stamp.ensures.stamp c.if-not-stands.false (first.found (g.R.Rows.seen.each_readable c.args.rows.now held c.args.cell.now.row)),
          c.in_ok-edits.ensures.recording,
        ),
        first.reads.room _ _ (at.full (passed_on r _ e _ by refl is)),
      );
      reason = reason_then r _ _ _ _ first.reason (reason_passed r e _ _ by at.reason);
    }

pub returns : goal.returns
returns g c =
    let first = c.in_ok-stands.ensures in
    record {
      made = record {
        row = c.args.cell.now.row;
        edits = c.in_ok-edits.edits.items;
        such = (
          refl,
          λ held. stands_there (g.R.Rows.seen.cells c.args.rows.now) c.args.cell.now c.stamp-stamp.result c.args.start c.in_ok-stands.stands c.stamp-stamp.ensures.stamp c.if-not-stands.false (first.found (g.R.Rows.seen.each_readable c.args.rows.now held c.args.cell.now.row)),
          c.in_ok-edits.ensures.recording,
        );
        applied = applies_after first.reads c.in_ok-apply.ensures.ok;
      };
      gone = λ held. tt;
      left = tt;
      err = tt;
      refusal = tt;
      full = λ is. absurd (not_refused _ _ is);
      reason = reason_then _ _ _ _ _ first.reason (reason_kept _ _ _ _ (not_refused _ _) c.in_ok-apply.ensures.reason);
    }
