use Rattle.std.proofs.Common.{◌≡◌, ◌∙◌, sym, ap, subst, refl, Option, Some, None, true, cond, inl, ℕ, ◌-◌}
use Rattle.std.specs.Prelude.{is_some, IsSome}
use Rattle.std.specs.Ordering.{nat_cmp, is_eq}
use Rattle.std.specs.BTreeMap as btree
use Rattle.std.specs.Result.{IsErrOf}
use Rattle.std.specs.declared.result.Result.TheVariants.{Err}
use Rattle.cell_key.specs.declared.refusals.Refusal.TheVariants.{UnknownSession, MemtableFull, Exhausted, Device, Damaged}
use Rattle.cell_key.proofs.Reasons.{not_refused, reason_none}
use Rattle.rows.proofs.Calls.{reads_keep, reads_none}
use Rattle.txn_client.specs.Refusals.{IsAdvanceRefusal, IsReadableAt, next_cell}
use Rattle.txn_client.specs.declared.session.Session.{Session}
use Rattle.txn_client.proofs.Room.{changes_shown, does_below, does_make, does_so, does_take, does_touch, draws_shown, edits_touch, met_so, no_room_so, same_touch}
use Rattle.txn_client.proofs.OneReason.{one_reason_kept, one_reason_passed}
use Rattle.txn_client.proofs.Passed.{as_err, at_most_itself, passed_on, passed_err, passed_none, passed_kept, refused_not, advance_step}
use Rattle.txn_client.proofs.Buffered.{buffers_kept, buffers_same, from_none, none_gone}
use Rattle.txn_client.proofs.Exact.{is_kept, is_there, passes, unwritten_none, unwritten_phase}
use Rattle.txn_client.proofs.Table.{entries_each, same_each, takes_at, steps_refused, advance_unknown_at, twice, with_none, touches_at, upd_at, draws_next, never_draws}
use Rattle.txn_client.proofs.sessions.Clients.step.Goals as goal

unknown_undamaged : {A : Type 0} → IsErrOf {T = A} (Err UnknownSession) Damaged → ⊥
unknown_undamaged is = cc

unknown_not_exhausted : {A : Type 0} → IsErrOf {T = A} (Err UnknownSession) Exhausted → ⊥
unknown_not_exhausted is = cc

unknown_not_full : {A : Type 0} → IsErrOf {T = A} (Err UnknownSession) MemtableFull → ⊥
unknown_not_full is = cc

unknown_no_device : {A : Type 0} → IsErrOf {T = A} (Err UnknownSession) Device → ⊥
unknown_no_device is = cc

pub returns-then-outcome-clause-step : goal.returns-then-outcome-clause-step
returns-then-outcome-clause-step g c = λ held.
    let was = sym c.in-Some.ensures.value in
    let there : IsSome (btree.get nat_cmp c.args.self.now.sessions c.args.start) = subst (λ (o : Option Session). IsSome o) c.in-Some.ensures.value refl in
    let w = c.advance.new.self in
    let lent = c.get_mut.follows.holds w in
    let set = lent.3 there in
    let found : is_some c.remove.result ≡ true = ap is_some (c.remove.ensures.value ∙ set.1) in
    takes_at (g.R.Rows.seen.cells c.args.rows.now) (g.R.Rows.seen.cells c.advance.new.rows) c.args.self.now (record c.args.self.now { top = c.top_after_step-self.result; sessions = c.remove.new.self; buffered = c.saturating_sub-self.result }) (g.S.Stamps.source.last c.args.stamps.now) (g.S.Stamps.source.last c.advance.new.stamps)
    c.in-Some.session.now w c.in_ok-outcome.outcome (c.in_ok-outcome.ensures.step held) c.in_ok-outcome.ensures.start c.in_ok-outcome.ensures.writes c.top_after_step-self.ensures
    (rw c.if-outcome.true ((rw found at c.remove.ensures.len) ∙ lent.2)) c.args.start was
    (λ q. rw c.if-outcome.true (c.remove.ensures.updates.0 q ∙ (ap (λ (o : Option Session). cond (is_eq (nat_cmp c.args.start q)) None o) (set.0 q) ∙ twice (is_eq (nat_cmp c.args.start q)) None (Some w) (btree.get nat_cmp c.args.self.now.sessions q))))

pub returns-else-outcome-clause-step : goal.returns-else-outcome-clause-step
returns-else-outcome-clause-step g c = λ held.
    let was = sym c.in-Some.ensures.value in
    let there : IsSome (btree.get nat_cmp c.args.self.now.sessions c.args.start) = subst (λ (o : Option Session). IsSome o) c.in-Some.ensures.value refl in
    let w = c.advance.new.self in
    let lent = c.get_mut.follows.holds w in
    takes_at (g.R.Rows.seen.cells c.args.rows.now) (g.R.Rows.seen.cells c.advance.new.rows) c.args.self.now (record c.args.self.now { top = c.top_after_step-self.result; sessions = c.get_mut.follows.lender w }) (g.S.Stamps.source.last c.args.stamps.now) (g.S.Stamps.source.last c.advance.new.stamps)
    c.in-Some.session.now w c.in_ok-outcome.outcome (c.in_ok-outcome.ensures.step held) c.in_ok-outcome.ensures.start c.in_ok-outcome.ensures.writes c.top_after_step-self.ensures
    (rw c.if-outcome.false (with_none (btree.btree_map_len (c.get_mut.follows.lender w)) (btree.btree_map_len c.args.self.now.sessions) lent.2)) c.args.start was (λ q. rw c.if-outcome.false ((lent.3 there).0 q))

pub returns-in_err-outcome-clause-step : goal.returns-in_err-outcome-clause-step
returns-in_err-outcome-clause-step g c = λ held.
    let was = sym c.in-Some.ensures.value in
    let there : IsSome (btree.get nat_cmp c.args.self.now.sessions c.args.start) = subst (λ (o : Option Session). IsSome o) c.in-Some.ensures.value refl in
    let w = c.advance.new.self in
    let lent = c.get_mut.follows.holds w in
    let e = as_err c.from_residual.result c.in_err-outcome.field-0.0 c.from_residual.ensures.1 in
    rw (e, c.in_err-outcome.ensures.refused.same.kept) (steps_refused _ (g.R.Rows.seen.cells c.args.rows.now) c.args.self.now (record c.args.self.now { sessions = c.get_mut.follows.lender w }) (g.S.Stamps.source.last c.args.stamps.now) (g.S.Stamps.source.last c.advance.new.stamps) c.args.start
    c.in-Some.session.now w c.in_err-outcome.field-0.0 was c.in_err-outcome.ensures.err refl (lent.3 there).0 lent.2 c.in_err-outcome.ensures.refused.rises c.in_err-outcome.ensures.refusal)

pub returns-in_default-clause-step : goal.returns-in_default-clause-step
returns-in_default-clause-step g c = λ held.
    advance_unknown_at (g.R.Rows.seen.cells c.args.rows.now) c.args.self.now (record c.args.self.now { sessions = c.get_mut.follows.lender-at-none }) (g.S.Stamps.source.last c.args.stamps.now) c.args.start refl (sym c.in_default.ensures.value)
    (ap (λ m. m.entries) c.get_mut.follows.holds-at-none)

pub returns-in_err-outcome-clause-err : goal.returns-in_err-outcome-clause-err
returns-in_err-outcome-clause-err g c =
    let was = sym c.in-Some.ensures.value in
    let there : IsSome (btree.get nat_cmp c.args.self.now.sessions c.args.start) = subst (λ (o : Option Session). IsSome o) c.in-Some.ensures.value refl in
    let w = c.advance.new.self in
    let lent = c.get_mut.follows.holds w in
    rw (as_err c.from_residual.result c.in_err-outcome.field-0.0 c.from_residual.ensures.1)
    (record { top = refl; buffered = refl; limit = refl; each = same_each (btree.get nat_cmp c.args.self.now.sessions) (btree.get nat_cmp (c.get_mut.follows.lender w)) c.args.start c.in-Some.session.now w was c.in_err-outcome.ensures.err (lent.3 there).0 })

pub returns-in_default-clause-err : goal.returns-in_default-clause-err
returns-in_default-clause-err g c = record {
  top = refl;
  buffered = refl;
  limit = refl;
  each = entries_each c.args.self.now (record c.args.self.now { sessions = c.get_mut.follows.lender-at-none }) (ap (λ m. m.entries) c.get_mut.follows.holds-at-none);
}

pub returns-then-outcome-clause-refusal : goal.returns-then-outcome-clause-refusal
returns-then-outcome-clause-refusal g c = tt

pub returns-then-outcome-clause-err : goal.returns-then-outcome-clause-err
returns-then-outcome-clause-err g c = tt

pub returns-then-outcome-clause-aside : goal.returns-then-outcome-clause-aside
returns-then-outcome-clause-aside g c = λ st shown other. c.in_ok-outcome.ensures.aside (λ held. other (draws_shown c.args.self.now c.args.start c.in-Some.session.now (sym c.in-Some.ensures.value) held st shown))

pub returns-else-outcome-clause-refusal : goal.returns-else-outcome-clause-refusal
returns-else-outcome-clause-refusal g c = tt

pub returns-else-outcome-clause-err : goal.returns-else-outcome-clause-err
returns-else-outcome-clause-err g c = tt

pub returns-else-outcome-clause-aside : goal.returns-else-outcome-clause-aside
returns-else-outcome-clause-aside g c = λ st shown other. c.in_ok-outcome.ensures.aside (λ held. other (draws_shown c.args.self.now c.args.start c.in-Some.session.now (sym c.in-Some.ensures.value) held st shown))

pub returns-in_err-outcome-clause-refusal : goal.returns-in_err-outcome-clause-refusal
returns-in_err-outcome-clause-refusal g c = passed_err c.from_residual.result c.in_err-outcome.field-0.0 _ c.from_residual.ensures.1 (advance_step _ _ c.in_err-outcome.field-0.0 c.in_err-outcome.ensures.refusal)

pub returns-in_err-outcome-clause-aside : goal.returns-in_err-outcome-clause-aside
returns-in_err-outcome-clause-aside g c = λ st shown other. c.in_err-outcome.ensures.aside (λ held. other (draws_shown c.args.self.now c.args.start c.in-Some.session.now (sym c.in-Some.ensures.value) held st shown))

pub returns-in_default-clause-aside : goal.returns-in_default-clause-aside
returns-in_default-clause-aside g c = λ st shown other. refl

pub returns-in_default-clause-refusal : goal.returns-in_default-clause-refusal
returns-in_default-clause-refusal g c = tt

pub returns-then-outcome-clause-drawn : goal.returns-then-outcome-clause-drawn
returns-then-outcome-clause-drawn g c = λ st shown about. c.in_ok-outcome.ensures.drawn (draws_next c.args.self.now c.args.start c.in-Some.session.now st (sym c.in-Some.ensures.value) shown about)

pub returns-then-outcome-clause-below : goal.returns-then-outcome-clause-below
returns-then-outcome-clause-below g c = does_below g.R.Rows.seen c.args.rows.now c.advance.new.rows _ c.in_ok-outcome.outcome.progress c.in_ok-outcome.ensures.does

pub returns-then-outcome-clause-touched : goal.returns-then-outcome-clause-touched
returns-then-outcome-clause-touched g c = λ held.
    let session = c.in-Some.session.now in
    touches_at c.args.self.now c.args.start session (g.R.Rows.seen.cells c.args.rows.now) (g.R.Rows.seen.cells c.advance.new.rows) (sym c.in-Some.ensures.value)
    (does_touch g.R.Rows.seen c.args.rows.now c.advance.new.rows held _ c.in_ok-outcome.outcome.progress _ (edits_touch (g.R.Rows.seen.holds c.args.rows.now) (g.R.Rows.seen.cells c.args.rows.now) session session.phase (g.R.Rows.seen.cells c.advance.new.rows)) (same_touch (g.R.Rows.seen.holds c.args.rows.now) (g.R.Rows.seen.cells c.args.rows.now) session session.phase (g.R.Rows.seen.cells c.advance.new.rows)) c.in_ok-outcome.ensures.does)

pub returns-then-outcome-clause-undamaged : goal.returns-then-outcome-clause-undamaged
returns-then-outcome-clause-undamaged g c = λ held is. not_refused _ _ is

pub returns-then-outcome-clause-full : goal.returns-then-outcome-clause-full
returns-then-outcome-clause-full g c = λ is. absurd (not_refused _ _ is)

pub returns-then-outcome-clause-reason : goal.returns-then-outcome-clause-reason
returns-then-outcome-clause-reason g c = one_reason_kept _ _ _ _ _ _ c.in_ok-outcome.ensures.reason

pub returns-else-outcome-clause-drawn : goal.returns-else-outcome-clause-drawn
returns-else-outcome-clause-drawn g c = λ st shown about. c.in_ok-outcome.ensures.drawn (draws_next c.args.self.now c.args.start c.in-Some.session.now st (sym c.in-Some.ensures.value) shown about)

pub returns-else-outcome-clause-below : goal.returns-else-outcome-clause-below
returns-else-outcome-clause-below g c = does_below g.R.Rows.seen c.args.rows.now c.advance.new.rows _ c.in_ok-outcome.outcome.progress c.in_ok-outcome.ensures.does

pub returns-else-outcome-clause-touched : goal.returns-else-outcome-clause-touched
returns-else-outcome-clause-touched g c = λ held.
    let session = c.in-Some.session.now in
    touches_at c.args.self.now c.args.start session (g.R.Rows.seen.cells c.args.rows.now) (g.R.Rows.seen.cells c.advance.new.rows) (sym c.in-Some.ensures.value)
    (does_touch g.R.Rows.seen c.args.rows.now c.advance.new.rows held _ c.in_ok-outcome.outcome.progress _ (edits_touch (g.R.Rows.seen.holds c.args.rows.now) (g.R.Rows.seen.cells c.args.rows.now) session session.phase (g.R.Rows.seen.cells c.advance.new.rows)) (same_touch (g.R.Rows.seen.holds c.args.rows.now) (g.R.Rows.seen.cells c.args.rows.now) session session.phase (g.R.Rows.seen.cells c.advance.new.rows)) c.in_ok-outcome.ensures.does)

pub returns-else-outcome-clause-undamaged : goal.returns-else-outcome-clause-undamaged
returns-else-outcome-clause-undamaged g c = λ held is. not_refused _ _ is

pub returns-else-outcome-clause-full : goal.returns-else-outcome-clause-full
returns-else-outcome-clause-full g c = λ is. absurd (not_refused _ _ is)

pub returns-else-outcome-clause-reason : goal.returns-else-outcome-clause-reason
returns-else-outcome-clause-reason g c = one_reason_kept _ _ _ _ _ _ c.in_ok-outcome.ensures.reason

pub returns-in_err-outcome-clause-drawn : goal.returns-in_err-outcome-clause-drawn
returns-in_err-outcome-clause-drawn g c = λ st shown about. c.in_err-outcome.ensures.drawn (draws_next c.args.self.now c.args.start c.in-Some.session.now st (sym c.in-Some.ensures.value) shown about)

pub returns-in_err-outcome-clause-below : goal.returns-in_err-outcome-clause-below
returns-in_err-outcome-clause-below g c = reads_keep c.in_err-outcome.ensures.refused.same

pub returns-in_err-outcome-clause-touched : goal.returns-in_err-outcome-clause-touched
returns-in_err-outcome-clause-touched g c = λ held.
    let session = c.in-Some.session.now in
    touches_at c.args.self.now c.args.start session (g.R.Rows.seen.cells c.args.rows.now) (g.R.Rows.seen.cells c.advance.new.rows) (sym c.in-Some.ensures.value)
    (same_touch (g.R.Rows.seen.holds c.args.rows.now) (g.R.Rows.seen.cells c.args.rows.now) session session.phase (g.R.Rows.seen.cells c.advance.new.rows) c.in_err-outcome.ensures.refused.same.kept)

pub returns-in_err-outcome-clause-undamaged : goal.returns-in_err-outcome-clause-undamaged
returns-in_err-outcome-clause-undamaged g c = λ held is.
    refused_not c.from_residual.result c.in_err-outcome.field-0.0 Damaged (IsAdvanceRefusal (IsReadableAt g.R.Rows.seen c.args.rows.now c.in-Some.session.now (next_cell c.in-Some.session.now.phase)) _) (λ u. u (held c.in-Some.session.now (sym c.in-Some.ensures.value))) c.from_residual.ensures.1 c.in_err-outcome.ensures.refusal is

pub returns-in_err-outcome-clause-full : goal.returns-in_err-outcome-clause-full
returns-in_err-outcome-clause-full g c = λ is.
    let full = c.in_err-outcome.ensures.full (passed_on c.from_residual.result _ c.in_err-outcome.field-0.0 _ c.from_residual.ensures.1 refl is) in
    let was = sym c.in-Some.ensures.value in
    record {
      edits = no_room_so g.R.Rows.seen.overfills c.args.rows.now (λ row edits so. (c.in-Some.session.now, was, so)) full;
      shown = λ held st reached shown kept.
          no_room_so g.R.Rows.seen.overfills c.args.rows.now (λ row edits so. changes_shown (g.R.Rows.seen.holds c.args.rows.now) (g.R.Rows.seen.cells c.args.rows.now) c.args.self.now c.args.start held st reached shown kept row edits (c.in-Some.session.now, was, so)) full;
    }

pub returns-in_err-outcome-clause-reason : goal.returns-in_err-outcome-clause-reason
returns-in_err-outcome-clause-reason g c = one_reason_passed c.from_residual.result c.in_err-outcome.field-0.0 _ _ _ _ c.from_residual.ensures.1 c.in_err-outcome.ensures.reason

pub returns-in_default-clause-drawn : goal.returns-in_default-clause-drawn
returns-in_default-clause-drawn g c = λ st shown about. refl

pub returns-in_default-clause-below : goal.returns-in_default-clause-below
returns-in_default-clause-below g c = record { still = λ held. held; readable = λ row whole. whole; stays = refl }

pub returns-in_default-clause-touched : goal.returns-in_default-clause-touched
returns-in_default-clause-touched g c = λ held st shown. inl refl

pub returns-in_default-clause-undamaged : goal.returns-in_default-clause-undamaged
returns-in_default-clause-undamaged g c = λ held is. unknown_undamaged is

pub returns-in_default-clause-full : goal.returns-in_default-clause-full
returns-in_default-clause-full g c = λ is. absurd (unknown_not_full is)

pub returns-in_default-clause-reason : goal.returns-in_default-clause-reason
returns-in_default-clause-reason g c = inl (reason_none _ _ unknown_no_device, refl)

pub returns-then-outcome-clause-accepted : goal.returns-then-outcome-clause-accepted
returns-then-outcome-clause-accepted g c = record {
  does = does_so g.R.Rows.seen c.args.rows.now c.advance.new.rows c.in_ok-outcome.outcome.progress (λ row edits is. (c.in-Some.session.now, sym c.in-Some.ensures.value, is)) c.in_ok-outcome.ensures.does;
  met = met_so c.in_ok-outcome.outcome.progress (λ place met. (c.in-Some.session.now, sym c.in-Some.ensures.value, met)) c.in_ok-outcome.ensures.met;
  made = λ held st reached shown kept.
      does_make g.R.Rows.seen c.args.rows.now c.advance.new.rows held _ c.in_ok-outcome.outcome.progress
      (does_so g.R.Rows.seen c.args.rows.now c.advance.new.rows c.in_ok-outcome.outcome.progress (λ row edits is. changes_shown (g.R.Rows.seen.holds c.args.rows.now) (g.R.Rows.seen.cells c.args.rows.now) c.args.self.now c.args.start held st reached shown kept row edits (c.in-Some.session.now, sym c.in-Some.ensures.value, is)) c.in_ok-outcome.ensures.does);
  room = λ held st reached shown kept.
      does_take g.R.Rows.seen c.args.rows.now c.advance.new.rows _ c.in_ok-outcome.outcome.progress
      (does_so g.R.Rows.seen c.args.rows.now c.advance.new.rows c.in_ok-outcome.outcome.progress (λ row edits is. changes_shown (g.R.Rows.seen.holds c.args.rows.now) (g.R.Rows.seen.cells c.args.rows.now) c.args.self.now c.args.start held st reached shown kept row edits (c.in-Some.session.now, sym c.in-Some.ensures.value, is)) c.in_ok-outcome.ensures.does);
}

pub returns-then-outcome-clause-refused : goal.returns-then-outcome-clause-refused
returns-then-outcome-clause-refused g c = tt

pub returns-then-outcome-clause-causes : goal.returns-then-outcome-clause-causes
returns-then-outcome-clause-causes g c = λ st shown. record {
  unknown = λ gone. absurd (is_kept c.args.self.now c.args.start st shown gone c.in-Some.session.now (sym c.in-Some.ensures.value));
  empty = λ none.
      let was = sym c.in-Some.ensures.value in
      let e = c.in_ok-outcome.ensures.empty (unwritten_phase c.args.self.now c.args.start st shown none c.in-Some.session.now was) (unwritten_none c.args.self.now c.args.start st shown none c.in-Some.session.now was) in
      absurd (not_refused _ _ e);
  drawing = λ about. tt;
}

pub returns-then-outcome-clause-no_stamp : goal.returns-then-outcome-clause-no_stamp
returns-then-outcome-clause-no_stamp g c = λ is. absurd (not_refused _ _ is)

pub returns-else-outcome-clause-accepted : goal.returns-else-outcome-clause-accepted
returns-else-outcome-clause-accepted g c = record {
  does = does_so g.R.Rows.seen c.args.rows.now c.advance.new.rows c.in_ok-outcome.outcome.progress (λ row edits is. (c.in-Some.session.now, sym c.in-Some.ensures.value, is)) c.in_ok-outcome.ensures.does;
  met = met_so c.in_ok-outcome.outcome.progress (λ place met. (c.in-Some.session.now, sym c.in-Some.ensures.value, met)) c.in_ok-outcome.ensures.met;
  made = λ held st reached shown kept.
      does_make g.R.Rows.seen c.args.rows.now c.advance.new.rows held _ c.in_ok-outcome.outcome.progress
      (does_so g.R.Rows.seen c.args.rows.now c.advance.new.rows c.in_ok-outcome.outcome.progress (λ row edits is. changes_shown (g.R.Rows.seen.holds c.args.rows.now) (g.R.Rows.seen.cells c.args.rows.now) c.args.self.now c.args.start held st reached shown kept row edits (c.in-Some.session.now, sym c.in-Some.ensures.value, is)) c.in_ok-outcome.ensures.does);
  room = λ held st reached shown kept.
      does_take g.R.Rows.seen c.args.rows.now c.advance.new.rows _ c.in_ok-outcome.outcome.progress
      (does_so g.R.Rows.seen c.args.rows.now c.advance.new.rows c.in_ok-outcome.outcome.progress (λ row edits is. changes_shown (g.R.Rows.seen.holds c.args.rows.now) (g.R.Rows.seen.cells c.args.rows.now) c.args.self.now c.args.start held st reached shown kept row edits (c.in-Some.session.now, sym c.in-Some.ensures.value, is)) c.in_ok-outcome.ensures.does);
}

pub returns-else-outcome-clause-refused : goal.returns-else-outcome-clause-refused
returns-else-outcome-clause-refused g c = tt

pub returns-else-outcome-clause-causes : goal.returns-else-outcome-clause-causes
returns-else-outcome-clause-causes g c = λ st shown. record {
  unknown = λ gone. absurd (is_kept c.args.self.now c.args.start st shown gone c.in-Some.session.now (sym c.in-Some.ensures.value));
  empty = λ none.
      let was = sym c.in-Some.ensures.value in
      let e = c.in_ok-outcome.ensures.empty (unwritten_phase c.args.self.now c.args.start st shown none c.in-Some.session.now was) (unwritten_none c.args.self.now c.args.start st shown none c.in-Some.session.now was) in
      absurd (not_refused _ _ e);
  drawing = λ about. tt;
}

pub returns-else-outcome-clause-no_stamp : goal.returns-else-outcome-clause-no_stamp
returns-else-outcome-clause-no_stamp g c = λ is. absurd (not_refused _ _ is)

pub returns-in_err-outcome-clause-accepted : goal.returns-in_err-outcome-clause-accepted
returns-in_err-outcome-clause-accepted g c = passed_none c.from_residual.result c.in_err-outcome.field-0.0 _ c.from_residual.ensures.1

pub returns-in_err-outcome-clause-refused : goal.returns-in_err-outcome-clause-refused
returns-in_err-outcome-clause-refused g c = passed_kept c.from_residual.result _ c.in_err-outcome.ensures.refused

pub returns-in_err-outcome-clause-causes : goal.returns-in_err-outcome-clause-causes
returns-in_err-outcome-clause-causes g c = λ st shown. record {
  unknown = λ gone. absurd (is_kept c.args.self.now c.args.start st shown gone c.in-Some.session.now (sym c.in-Some.ensures.value));
  empty = λ none.
      let was = sym c.in-Some.ensures.value in
      passes c.from_residual.result _ c.in_err-outcome.field-0.0 _ (as_err c.from_residual.result c.in_err-outcome.field-0.0 c.from_residual.ensures.1) refl
      (c.in_err-outcome.ensures.empty (unwritten_phase c.args.self.now c.args.start st shown none c.in-Some.session.now was) (unwritten_none c.args.self.now c.args.start st shown none c.in-Some.session.now was));
  drawing = λ about. passed_err c.from_residual.result c.in_err-outcome.field-0.0 _ c.from_residual.ensures.1 (c.in_err-outcome.ensures.drawing (draws_next c.args.self.now c.args.start c.in-Some.session.now st (sym c.in-Some.ensures.value) shown about));
}

pub returns-in_err-outcome-clause-no_stamp : goal.returns-in_err-outcome-clause-no_stamp
returns-in_err-outcome-clause-no_stamp g c = λ is.
    let none = c.in_err-outcome.ensures.no_stamp (passed_on c.from_residual.result _ c.in_err-outcome.field-0.0 _ c.from_residual.ensures.1 refl is) in
    record {
      exhausted = none.exhausted;
      draw_only = draws_shown c.args.self.now c.args.start c.in-Some.session.now (sym c.in-Some.ensures.value) none.draw_only;
      undrawn = none.undrawn;
    }

pub returns-in_err-outcome-clause-draws : goal.returns-in_err-outcome-clause-draws
returns-in_err-outcome-clause-draws g c = passed_none c.from_residual.result c.in_err-outcome.field-0.0 _ c.from_residual.ensures.1

pub returns-in_default-clause-accepted : goal.returns-in_default-clause-accepted
returns-in_default-clause-accepted g c = tt

pub returns-in_default-clause-refused : goal.returns-in_default-clause-refused
returns-in_default-clause-refused g c = record { same = reads_none; rises = at_most_itself _; left = inl refl }

pub returns-in_default-clause-causes : goal.returns-in_default-clause-causes
returns-in_default-clause-causes g c = λ st shown. record {
  unknown = λ none. refl;
  empty = λ none.
      absurd (is_there c.args.self.now c.args.start st shown none (sym c.in_default.ensures.value));
  drawing = λ about. absurd (never_draws c.args.self.now c.args.start st (sym c.in_default.ensures.value) shown about);
}

pub returns-in_default-clause-no_stamp : goal.returns-in_default-clause-no_stamp
returns-in_default-clause-no_stamp g c = λ is. absurd (unknown_not_exhausted is)

pub returns-then-outcome-clause-buffered : goal.returns-then-outcome-clause-buffered
returns-then-outcome-clause-buffered g c =
    let was = sym c.in-Some.ensures.value in
    let there : IsSome (btree.get nat_cmp c.args.self.now.sessions c.args.start) = subst (λ (o : Option Session). IsSome o) c.in-Some.ensures.value refl in
    let w = c.advance.new.self in
    let lent = c.get_mut.follows.holds w in
    let new = record c.args.self.now { top = c.top_after_step-self.result; sessions = c.remove.new.self; buffered = c.saturating_sub-self.result } in
    from_none c.args.self.now new c.args.start (none_gone c.args.self.now new c.args.start c.in-Some.session.now was
    (upd_at (btree.get nat_cmp (c.get_mut.follows.lender w)) (btree.get nat_cmp c.remove.new.self) c.args.start None c.remove.ensures.updates.0)
    (c.saturating_sub-self.ensures ∙ ap (λ (n : ℕ). c.args.self.now.buffered - n) c.bytes-bytes.ensures) refl)

pub returns-else-outcome-clause-buffered : goal.returns-else-outcome-clause-buffered
returns-else-outcome-clause-buffered g c =
    let was = sym c.in-Some.ensures.value in
    let there : IsSome (btree.get nat_cmp c.args.self.now.sessions c.args.start) = subst (λ (o : Option Session). IsSome o) c.in-Some.ensures.value refl in
    let w = c.advance.new.self in
    let lent = c.get_mut.follows.holds w in
    buffers_kept c.args.self.now (record c.args.self.now { top = c.top_after_step-self.result; sessions = c.get_mut.follows.lender w }) c.args.start c.in-Some.session.now w was (lent.3 there).1 c.in_ok-outcome.ensures.writes refl refl

pub returns-in_err-outcome-clause-buffered : goal.returns-in_err-outcome-clause-buffered
returns-in_err-outcome-clause-buffered g c =
    let was = sym c.in-Some.ensures.value in
    let there : IsSome (btree.get nat_cmp c.args.self.now.sessions c.args.start) = subst (λ (o : Option Session). IsSome o) c.in-Some.ensures.value refl in
    let w = c.advance.new.self in
    let lent = c.get_mut.follows.holds w in
    buffers_kept c.args.self.now (record c.args.self.now { sessions = c.get_mut.follows.lender w }) c.args.start c.in-Some.session.now w was (lent.3 there).1 c.in_err-outcome.ensures.writes refl refl

pub returns-in_default-clause-buffered : goal.returns-in_default-clause-buffered
returns-in_default-clause-buffered g c =
    let new = record c.args.self.now { sessions = c.get_mut.follows.lender-at-none } in
    buffers_same c.args.self.now new c.args.start (record { top = refl; buffered = refl; limit = refl; each = entries_each c.args.self.now new (ap (λ m. m.entries) c.get_mut.follows.holds-at-none) })
