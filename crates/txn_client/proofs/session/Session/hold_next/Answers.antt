use Rattle.std.proofs.Common.{◌∙◌, ℕ, refl, ap, subst}
use Rattle.cell_key.specs.Cells.{Cells, after_edits}
use Rattle.cell_key.proofs.Reasons.{not_refused, reason_kept, reason_none, reason_passed, reason_then}
use Rattle.rows.proofs.Calls.{reads_none, reads_then, such_after, such_so}
use Rattle.txn_client.specs.Reads.{IsTaken, IsFree}
use Rattle.txn_client.proofs.SessionSteps.{advance_conflict, advance_held}
use Rattle.txn_client.proofs.Room.{holding_makes}
use Rattle.txn_client.proofs.Passed.{passed_on, passed_err, passed_none, passed_kept, read_row, edit_row, row_step, read_not_full, empty_not_full, empty_no_device, at_most_more, not_past}
use Rattle.txn_client.proofs.session.Session.hold_next.Goals as goal

pub returns-in_default : goal.returns-in_default
returns-in_default g c = record {
  step = λ held. tt;
  draws = tt;
  start = refl;
  writes = refl;
  err = refl;
  does = tt;
  met = tt;
  same = reads_none;
  refusal = c.in_default.ensures.none;
  empty = λ past. refl;
  full = λ is. absurd (empty_not_full is);
  reason = reason_none _ _ empty_no_device;
}

pub returns-in_default-get : goal.returns-in_default-get
returns-in_default-get g c = record {
  step = λ held. tt;
  draws = tt;
  start = refl;
  writes = refl;
  err = refl;
  does = tt;
  met = tt;
  same = reads_none;
  refusal = at_most_more _ _ c.in_default-get.ensures.none;
  empty = λ past. refl;
  full = λ is. absurd (empty_not_full is);
  reason = reason_none _ _ empty_no_device;
}

pub returns-in_err-is_taken : goal.returns-in_err-is_taken
returns-in_err-is_taken g c =
    let r = c.from_residual.result in
    let e = c.in_err-is_taken.field-0.0 in
    let by = c.from_residual.ensures.1 in
    let at = c.in_err-is_taken.ensures in
    record {
      step = λ held. passed_none r e _ by;
      draws = passed_none r e _ by;
      start = refl;
      writes = refl;
      err = passed_kept r _ refl;
      does = passed_none r e _ by;
      met = passed_none r e _ by;
      same = passed_kept r _ at.reads;
      refusal = passed_err r e _ by (row_step _ _ _ e (λ whole. whole c.in-Some.write.now c.in-Some.ensures.found) (read_row _ e at.refusal));
      empty = λ past. absurd (not_past _ _ c.in-Some.ensures.some past);
      full = λ is. absurd (read_not_full r e _ by at.refusal is);
      reason = reason_passed r e _ _ by at.reason;
    }

pub returns-then-branch : goal.returns-then-branch
returns-then-branch g c =
    let write = c.in-Some.write.now in
    let at = c.in_ok-is_taken.ensures in
    record {
      step = λ held last.
          advance_conflict (g.R.Rows.seen.cells c.args.rows.now) c.args.self.now last c.args.k write c.requires c.in-Some.ensures.found
          (subst (λ (n : ℕ). IsTaken (g.R.Rows.seen.cells c.args.rows.now) write.cell n) c.stamp-start.ensures.stamp (rw c.if-branch.true at (at.taken (g.R.Rows.seen.each_readable c.args.rows.now held write.cell.row)))) (g.R.Rows.seen.cells c.is_taken.new.rows) at.reads.kept;
      draws = tt;
      start = refl;
      writes = refl;
      err = tt;
      does = at.reads;
      met = (write, c.in-Some.ensures.found, refl, λ held. subst (λ (n : ℕ). IsTaken (g.R.Rows.seen.cells c.args.rows.now) write.cell n) c.stamp-start.ensures.stamp (rw c.if-branch.true at (at.taken (g.R.Rows.seen.each_readable c.args.rows.now held write.cell.row))));
      same = tt;
      refusal = tt;
      empty = λ past. absurd (not_past _ _ c.in-Some.ensures.some past);
      full = λ is. absurd (not_refused _ _ is);
      reason = reason_kept _ _ _ _ (not_refused _ _) at.reason;
    }

pub returns-in_err-hold : goal.returns-in_err-hold
returns-in_err-hold g c =
    let r = c.from_residual-in_err-hold.result in
    let e = c.in_err-hold.field-0.0 in
    let by = c.from_residual-in_err-hold.ensures.1 in
    let first = c.in_ok-is_taken.ensures in
    let at = c.in_err-hold.ensures in
    let cells = g.R.Rows.seen.cells c.args.rows.now in
    let write = c.in-Some.write.now in
    record {
      step = λ held. passed_none r e _ by;
      draws = passed_none r e _ by;
      start = refl;
      writes = refl;
      err = passed_kept r _ refl;
      does = passed_none r e _ by;
      met = passed_none r e _ by;
      same = passed_kept r _ (reads_then first.reads at.err);
      refusal = passed_err r e _ by (row_step _ _ _ e (λ whole. whole c.in-Some.write.now c.in-Some.ensures.found) (edit_row _ e at.refusal));
      empty = λ past. absurd (not_past _ _ c.in-Some.ensures.some past);
      full = λ is.
          let lack = at.full (passed_on r _ e _ by refl is) in (
            lack.0,
            lack.1,
            (
              write,
              c.in-Some-get.first.now,
              c.in-Some.ensures.found,
              c.in-Some-get.ensures.found,
              (λ held. subst (λ (n : ℕ). IsFree cells write.cell n) c.stamp-start.ensures.stamp (rw c.if-branch.false at (first.free (g.R.Rows.seen.each_readable c.args.rows.now held write.cell.row)))),
              lack.2,
            ),
            first.reads.room _ _ lack.3,
          );
      reason = reason_then r _ _ _ _ first.reason (reason_passed r e _ _ by at.reason);
    }

pub returns : goal.returns
returns g c =
    let first = c.in_ok-is_taken.ensures in
    let made = c.in_ok-hold.ensures.ok in
    let cells = g.R.Rows.seen.cells c.args.rows.now in
    let write = c.in-Some.write.now in
    let head = c.in-Some-get.first.now in
    let start = c.args.self.now.start in
    record {
      step = λ held last.
          advance_held cells c.args.self.now last c.args.k c.len.result write head c.requires c.in-Some.ensures.found c.in-Some-get.ensures.found
          (subst (λ (n : ℕ). IsFree cells write.cell n) c.stamp-start.ensures.stamp (rw c.if-branch.false at (first.free (g.R.Rows.seen.each_readable c.args.rows.now held write.cell.row))))
          c.len.ensures.len (g.R.Rows.seen.cells c.hold.new.rows)
          (made.applied.made (first.reads.readable made.row (g.R.Rows.seen.each_readable c.args.rows.now held made.row)) ∙ (ap (λ (cs : Cells). after_edits cs made.edits) first.reads.kept ∙ holding_makes cells write.cell head.cell start write.value made.edits made.such.1));
      draws = tt;
      start = refl;
      writes = refl;
      err = tt;
      does = such_so (λ row edits such. (
        write,
        head,
        c.in-Some.ensures.found,
        c.in-Some-get.ensures.found,
        (λ held. subst (λ (n : ℕ). IsFree cells write.cell n) c.stamp-start.ensures.stamp (rw c.if-branch.false at (first.free (g.R.Rows.seen.each_readable c.args.rows.now held write.cell.row)))),
        such,
      )) (such_after first.reads made);
      met = tt;
      same = tt;
      refusal = tt;
      empty = λ past. absurd (not_past _ _ c.in-Some.ensures.some past);
      full = λ is. absurd (not_refused _ _ is);
      reason = reason_then _ _ _ _ _ first.reason (reason_kept _ _ _ _ (not_refused _ _) c.in_ok-hold.ensures.reason);
    }
