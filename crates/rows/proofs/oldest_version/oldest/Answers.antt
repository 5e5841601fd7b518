use Rattle.std.proofs.Common.{◌≡◌, ◌+◌, ◌-◌, ◌/◌, ℕ, Some, None, Ok, IfSome, subst, ◌∙◌, arith}
use Rattle.cell_key.specs.Cells.{Cells, IsNewest, version}
use Rattle.cell_key.specs.Faults.{HasReason}
use Rattle.cell_key.specs.Versions.{IsVersionIn, stamped}
use Rattle.cell_key.specs.declared.refusals.Refusal.TheVariants.{Device}
use Rattle.cell_key.proofs.Reasons.{not_refused, reason_none, reason_passed}
use Rattle.rows.proofs.Calls.{reads_then, refused_later}
use Rattle.rows.proofs.Halves.{at_none, at_some, half_below, nearer_above, older_is_nearer, oldest_is, rest_above, rest_at_first, rest_with_older}
use Rattle.rows.proofs.oldest_version.oldest.Goals as goal

answered : {A : Type 0} (x : A) (before now : ℕ) → now ≡ before → HasReason before now (Ok x)
answered x before now same = subst (λ (k : ℕ). HasReason k now (Ok x)) same (reason_none (Ok x) now (not_refused x Device))

pub loop-low-init : goal.loop-low-init
loop-low-init g c =
    let at = version c.args.row.now c.args.family.now c.args.qualifier in
    let limits = at_some (λ f. IfSome f (IsVersionIn c.args.lo c.args.hi)) c.in_ok-found.field-0 c.in-Some.found c.in-Some.is c.in_ok-found.ensures.limits in
    record {
      reads = c.in_ok-found.ensures.reads;
      faults = c.in_ok-found.ensures.reason.told (not_refused _ Device);
      limits = limits;
      from = omega arith;
      to = limits.low;
      rest = λ held. rest_at_first (g.R.Rows.seen.cells c.args.rows.now) at c.args.lo c.args.hi (stamped c.in-Some.found)
          (at_some (IsNewest (g.R.Rows.seen.cells c.args.rows.now) at c.args.lo c.args.hi) c.in_ok-found.field-0 c.in-Some.found c.in-Some.is (c.in_ok-found.ensures.found held));
    }

pub returns-in_err-older-clause-reads : goal.returns-in_err-older-clause-reads
returns-in_err-older-clause-reads g c = reads_then c.loop-low.invariant.reads c.in_err-older.ensures.reads

pub returns-in_err-older-clause-refusal : goal.returns-in_err-older-clause-refusal
returns-in_err-older-clause-refusal g c =
    refused_later (g.R.Rows.seen.readable c.args.rows.now c.args.row.now) (g.R.Rows.seen.readable c.loop-low.rows c.args.row.now) c.from_residual-in_err-older.result c.in_err-older.field-0.0
    (c.loop-low.invariant.reads.readable c.args.row.now) c.from_residual-in_err-older.ensures.1 c.in_err-older.ensures.refusal

pub returns-in_err-older-clause-reason : goal.returns-in_err-older-clause-reason
returns-in_err-older-clause-reason g c =
    subst (λ (k : ℕ). HasReason k (g.R.Rows.faults c.newest-in-loop-low.new.self) c.from_residual-in_err-older.result) c.loop-low.invariant.faults
    (reason_passed c.from_residual-in_err-older.result c.in_err-older.field-0.0 (g.R.Rows.faults c.loop-low.rows) (g.R.Rows.faults c.newest-in-loop-low.new.self)
    c.from_residual-in_err-older.ensures.1 c.in_err-older.ensures.reason)

pub loop-low-smaller-in-Some-2 : goal.loop-low-smaller-in-Some-2
loop-low-smaller-in-Some-2 g c =
    let low = c.loop-low.low in
    let middle = low + (c.loop-low.found.0 - low) / 2 in
    let older = at_some (λ f. IfSome f (IsVersionIn low middle)) c.in_ok-older.field-0 c.in-Some-2.older c.in-Some-2.is c.in_ok-older.ensures.limits in
    older_is_nearer low c.loop-low.found.0 c.in-Some-2.older.0 c.loop-low-test.true older.low older.high

pub loop-low-preserved-in-Some-2 : goal.loop-low-preserved-in-Some-2
loop-low-preserved-in-Some-2 g c =
    let low = c.loop-low.low in
    let middle = low + (c.loop-low.found.0 - low) / 2 in
    let at = version c.args.row.now c.args.family.now c.args.qualifier in
    let before = c.loop-low.invariant in
    let older = at_some (λ f. IfSome f (IsVersionIn low middle)) c.in_ok-older.field-0 c.in-Some-2.older c.in-Some-2.is c.in_ok-older.ensures.limits in
    let below = half_below low c.loop-low.found.0 c.loop-low-test.true in
    record {
      reads = reads_then before.reads c.in_ok-older.ensures.reads;
      faults = c.in_ok-older.ensures.reason.told (not_refused _ Device) ∙ before.faults;
      limits = record { low = omega (arith, before.from, older.low); high = omega (arith, older.high, below, before.limits.high); limits = older.limits };
      from = before.from;
      to = older.low;
      rest = λ held.
          let is = at_some (IsNewest (g.R.Rows.seen.cells c.loop-low.rows) at low middle) c.in_ok-older.field-0 c.in-Some-2.older c.in-Some-2.is (c.in_ok-older.ensures.found (before.reads.readable c.args.row.now held)) in
          rest_with_older (g.R.Rows.seen.cells c.args.rows.now) at c.args.lo low middle (stamped c.loop-low.found) (stamped c.in-Some-2.older) (before.rest held)
          (subst (λ (cells : Cells). IsNewest cells at low middle (Some (stamped c.in-Some-2.older))) before.reads.kept is);
    }

pub loop-low-smaller : goal.loop-low-smaller
loop-low-smaller g c = nearer_above c.loop-low.low c.loop-low.found.0 c.loop-low-test.true

pub loop-low-preserved : goal.loop-low-preserved
loop-low-preserved g c =
    let low = c.loop-low.low in
    let middle = low + (c.loop-low.found.0 - low) / 2 in
    let at = version c.args.row.now c.args.family.now c.args.qualifier in
    let before = c.loop-low.invariant in
    let below = half_below low c.loop-low.found.0 c.loop-low-test.true in
    record {
      reads = reads_then before.reads c.in_ok-older.ensures.reads;
      faults = c.in_ok-older.ensures.reason.told (not_refused _ Device) ∙ before.faults;
      limits = before.limits;
      from = omega (arith, before.from);
      to = omega (arith, below);
      rest = λ held.
          let is = at_none (IsNewest (g.R.Rows.seen.cells c.loop-low.rows) at low middle) c.in_ok-older.field-0 c.in-None.is (c.in_ok-older.ensures.found (before.reads.readable c.args.row.now held)) in
          rest_above (g.R.Rows.seen.cells c.args.rows.now) at c.args.lo low middle (stamped c.loop-low.found) (before.rest held)
          (subst (λ (cells : Cells). IsNewest cells at low middle None) before.reads.kept is);
    }

pub returns-clause-found : goal.returns-clause-found
returns-clause-found g c = λ held.
    let last = c.loop-low.invariant in
    oldest_is (g.R.Rows.seen.cells c.args.rows.now) (version c.args.row.now c.args.family.now c.args.qualifier) c.args.lo c.args.hi c.loop-low.low (stamped c.loop-low.found)
    last.from last.to c.loop-low-test.false last.limits.high (last.rest held)

pub returns-clause-reads : goal.returns-clause-reads
returns-clause-reads g c = c.loop-low.invariant.reads

pub returns-clause-limits : goal.returns-clause-limits
returns-clause-limits g c = c.loop-low.invariant.limits

pub returns-clause-reason : goal.returns-clause-reason
returns-clause-reason g c = answered _ (g.R.Rows.faults c.args.rows.now) (g.R.Rows.faults c.loop-low.rows) c.loop-low.invariant.faults
