use Rattle.std.proofs.Common.{◌∙◌, ◌+◌, ◌⊎◌, inl, inr, Bool, true, false, refl, sym, ap}
use Rattle.std.specs.Prelude.{nat_eq}
use Rattle.std.specs.Bool.{OnTrue, OnFalse}
use Rattle.cell_key.proofs.Reasons.{not_refused, reason_kept, reason_none, reason_passed}
use Rattle.rows.proofs.Calls.{reads_none, such_so}
use Rattle.txn_client.proofs.SessionSteps.{advance_finished}
use Rattle.si_model.specs.ShowsCells.{kind_of_change}
use Rattle.si_model.proofs.EditedCells.{make_cells}
use Rattle.txn_client.proofs.Room.{no_room_so}
use Rattle.txn_client.proofs.Passed.{passed_on, passed_err, passed_none, passed_kept, row_step, empty_not_full, empty_no_device}
use Rattle.txn_client.proofs.session.Session.finish_next.Goals as goal

either : {P Q : Type 0} (b : Bool) → OnTrue b P → OnFalse b Q → P ⊎ Q
either true p q = inl p
either false p q = inr q

with_gone : {P Q G : Type 0} (b : Bool) → OnTrue b P → OnFalse b G → OnFalse b Q → P ⊎ (G × Q)
with_gone true p gone q = inl p
with_gone false p gone q = inr (gone, q)

pub returns-in_default : goal.returns-in_default
returns-in_default g c = record {
  step = λ held. tt;
  draws = tt;
  start = refl;
  writes = refl;
  err = refl;
  does = tt;
  met = tt;
  same = reads_none;
  refusal = c.in_default.ensures.none;
  full = λ is. absurd (empty_not_full is);
  reason = reason_none _ _ empty_no_device;
}

pub returns-in_err-_stood : goal.returns-in_err-_stood
returns-in_err-_stood g c =
    let r = c.from_residual.result in
    let e = c.in_err-_stood.field-0.0 in
    let by = c.from_residual.ensures.1 in
    let at = c.in_err-_stood.ensures in
    record {
      step = λ held. passed_none r e _ by;
      draws = passed_none r e _ by;
      start = refl;
      writes = refl;
      err = passed_kept r _ refl;
      does = passed_none r e _ by;
      met = passed_none r e _ by;
      same = passed_kept r _ at.err;
      refusal = passed_err r e _ by (row_step _ _ _ e (λ whole. whole c.in-Some.write.now c.in-Some.ensures.found) at.refusal);
      full = λ is. no_room_so g.R.Rows.seen.overfills c.args.rows.now (λ row edits such. (c.in-Some.write.now, c.in-Some.ensures.found, rw c.kind-kind.ensures at such)) (at.full (passed_on r _ e _ by refl is));
      reason = reason_passed r e _ _ by at.reason;
    }

pub returns : goal.returns
returns g c =
    let at = c.in_ok-_stood.ensures in
    let stood = c.in_ok-_stood._stood in
    let put = rw c.kind-kind.ensures at at.made in
    let cells = g.R.Rows.seen.cells c.args.rows.now in
    let write = c.in-Some.write.now in
    let session = c.args.self.now in
    record {
      step = λ held last.
          advance_finished cells session last c.args.k c.len.result write (nat_eq (c.args.k + 1) c.len-2.result) c.requires
          c.in-Some.ensures.found c.len.ensures.len (ap (nat_eq (c.args.k + 1)) (c.len-2.ensures.len ∙ sym c.len.ensures.len)) (g.R.Rows.seen.cells c.record.new.rows)
          (elim (with_gone stood put (at.gone held) at.left) [
            | inl made ↦ inl (made.such.1 held, made.applied.made (g.R.Rows.seen.each_readable c.args.rows.now held made.row) ∙ (make_cells cells write.cell session.start made.edits).recorded session.commit (kind_of_change write.value) made.such.2)
            | inr left ↦ inr (left.0, left.1.kept)
          ]);
      draws = tt;
      start = refl;
      writes = refl;
      err = tt;
      does = elim (either stood put at.left) [
        | inl made ↦ inl (such_so (λ row edits such. (write, c.in-Some.ensures.found, such)) made)
        | inr left ↦ inr left
      ];
      met = tt;
      same = tt;
      refusal = tt;
      full = λ is. absurd (not_refused _ _ is);
      reason = reason_kept _ _ _ _ (not_refused _ _) at.reason;
    }
