use Rattle.std.proofs.Common.{◌∙◌, refl, ap}
use Rattle.std.specs.Prelude.{nat_eq}
use Rattle.cell_key.proofs.Reasons.{not_refused, reason_kept, reason_none, reason_passed}
use Rattle.rows.proofs.Calls.{reads_none, such_so}
use Rattle.txn_client.proofs.SessionSteps.{advance_lost, advance_committed}
use Rattle.si_model.specs.ShowsCells.{kind_of_change}
use Rattle.si_model.proofs.EditedCells.{make_cells}
use Rattle.txn_client.proofs.Room.{no_room_so}
use Rattle.txn_client.proofs.Passed.{passed_on, passed_err, passed_none, passed_kept, row_step, empty_not_full, empty_no_device}
use Rattle.txn_client.proofs.session.Session.commit_first.Goals as goal

pub returns-in_default : goal.returns-in_default
returns-in_default g c = record {
  step = λ held. tt;
  draws = tt;
  start = refl;
  writes = refl;
  err = refl;
  does = tt;
  met = tt;
  same = reads_none;
  refusal = c.in_default.ensures.none;
  full = λ is. absurd (empty_not_full is);
  reason = reason_none _ _ empty_no_device;
}

pub returns-in_err-record : goal.returns-in_err-record
returns-in_err-record g c =
    let r = c.from_residual.result in
    let e = c.in_err-record.field-0.0 in
    let by = c.from_residual.ensures.1 in
    let at = c.in_err-record.ensures in
    record {
      step = λ held. passed_none r e _ by;
      draws = passed_none r e _ by;
      start = refl;
      writes = refl;
      err = passed_kept r _ refl;
      does = passed_none r e _ by;
      met = passed_none r e _ by;
      same = passed_kept r _ at.err;
      refusal = passed_err r e _ by (row_step _ _ _ e (λ whole. whole c.in-Some.first.now c.in-Some.ensures.found) at.refusal);
      full = λ is. no_room_so g.R.Rows.seen.overfills c.args.rows.now (λ row edits such. (c.in-Some.first.now, c.in-Some.ensures.found, rw c.kind-kind.ensures at such)) (at.full (passed_on r _ e _ by refl is));
      reason = reason_passed r e _ _ by at.reason;
    }

pub returns-then-not-branch : goal.returns-then-not-branch
returns-then-not-branch g c =
    let at = c.in_ok-record.ensures in
    let left = rw c.if-not-branch.true at at.left in
    record {
      step = λ held last.
          advance_lost (g.R.Rows.seen.cells c.args.rows.now) c.args.self.now last c.in-Some.first.now c.requires c.in-Some.ensures.found
          (rw c.if-not-branch.true at (at.gone held)) (g.R.Rows.seen.cells c.record.new.rows) left.kept;
      draws = tt;
      start = refl;
      writes = refl;
      err = tt;
      does = left;
      met = tt;
      same = tt;
      refusal = tt;
      full = λ is. absurd (not_refused _ _ is);
      reason = reason_kept _ _ _ _ (not_refused _ _) at.reason;
    }

pub returns : goal.returns
returns g c =
    let cells = g.R.Rows.seen.cells c.args.rows.now in
    let first = c.in-Some.first.now in
    let session = c.args.self.now in
    let stood = rw c.kind-kind.ensures at c.in_ok-record.ensures.made in
    let made = rw c.if-not-branch.false at stood in
    record {
      step = λ held last.
          rw c.stamp.ensures.stamp (advance_committed cells session last first (nat_eq 1 c.len.result) c.requires c.in-Some.ensures.found
          (made.such.1 held) (ap (nat_eq 1) c.len.ensures.len) (g.R.Rows.seen.cells c.record.new.rows) (made.applied.made (g.R.Rows.seen.each_readable c.args.rows.now held made.row) ∙ (make_cells cells first.cell session.start made.edits).recorded session.commit (kind_of_change first.value) made.such.2));
      draws = tt;
      start = refl;
      writes = refl;
      err = tt;
      does = such_so (λ row edits such. (first, c.in-Some.ensures.found, such)) made;
      met = tt;
      same = tt;
      refusal = tt;
      full = λ is. absurd (not_refused _ _ is);
      reason = reason_kept _ _ _ _ (not_refused _ _) c.in_ok-record.ensures.reason;
    }
