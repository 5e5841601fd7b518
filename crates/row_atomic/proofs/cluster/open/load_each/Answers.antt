-- The tablets are loaded in the order of their numbers.
use Rattle.std.proofs.Common.{◌≡◌, ◌+◌, List, Option, IfSome, length, refl, sym, ◌∙◌, subst, arith, rules}
use Rattle.cell_key.specs.declared.refusals.Refusal.TheVariants.{Damaged, Device, NoMemory}
use Rattle.file_store.specs.Store.{Contents}
use Rattle.tablet.specs.Views.{Holds as HoldsAt}
use Rattle.tablet.specs.declared.tablet.Tablet.{Tablet}
use Rattle.row_atomic.specs.Open.{LacksFile}
use Rattle.row_atomic.proofs.LoadedTablets.{IsLoading, all_loaded, has_tablet, none_loaded, one_loaded}
use Rattle.row_atomic.proofs.Numbers.{each_number}
use Rattle.row_atomic.proofs.PassedRefusals.{no_fault, not_refused, not_wanted, passed, reason_passed, reason_since}
use Rattle.row_atomic.proofs.cluster.open.load_each.Goals as goal

pub loop-number-init : goal.loop-number-init
loop-number-init g c = record {
  as_many = c.len-number-end.ensures.len;
  table = c.len-number-end.ensures.table;
  within = omega arith;
  same = refl;
  quiet = refl;
  loading = subst (λ (ts : List Tablet). IsLoading (g.F.Files.contents c.args.files.now) c.args.table.now ts 0) (sym c.new-tablets.ensures.items) (none_loaded (g.F.Files.contents c.args.files.now) c.args.table.now);
}

pub position-index-requires : goal.position-index-requires
position-index-requires g c =
    let many = c.loop-number.invariant.as_many in
    has_tablet (c.loop-number.number + 1) c.args.table.now (each_number c.args.table.now c.loop-number.invariant.table (c.loop-number.number + 1) (omega arith) (omega arith))

pub returns-in_err-tablet-clause-damaged : goal.returns-in_err-tablet-clause-damaged
returns-in_err-tablet-clause-damaged g c = λ is.
    subst (λ (o : Option Contents). IfSome o (λ m. LacksFile m c.args.table.now)) c.loop-number.invariant.same
    (c.in_err-tablet.ensures.damaged (passed c.from_residual.result c.in_err-tablet.field-0.0 Damaged c.from_residual.ensures.1 is))

pub returns-in_err-tablet-clause-reads : goal.returns-in_err-tablet-clause-reads
returns-in_err-tablet-clause-reads g c = record {
  refusal = search rules;
  same = c.load_at.ensures.reads.same ∙ c.loop-number.invariant.same;
  reason = reason_since c.from_residual.result _ _ _ c.loop-number.invariant.quiet
      (reason_passed c.from_residual.result c.in_err-tablet.field-0.0 _ _ c.from_residual.ensures.1 c.in_err-tablet.ensures.reads.reason);
}

pub returns-in_err-push-clause-reads : goal.returns-in_err-push-clause-reads
returns-in_err-push-clause-reads g c = record {
  refusal = search rules;
  same = c.load_at.ensures.reads.same ∙ c.loop-number.invariant.same;
  reason = reason_since c.from_residual-in_err-push.result _ _ _ (c.in_ok-tablet.ensures.reads.reason.told (not_refused c.in_ok-tablet.tablet Device) ∙ c.loop-number.invariant.quiet)
      (no_fault c.from_residual-in_err-push.result _ (not_wanted c.from_residual-in_err-push.result NoMemory Device c.from_residual-in_err-push.ensures.1 (λ is. cc)));
}

pub loop-number-preserved : goal.loop-number-preserved
loop-number-preserved g c =
    let many = c.loop-number.invariant.as_many in
    record {
      as_many = c.loop-number.invariant.as_many;
      table = c.loop-number.invariant.table;
      within = omega arith;
      same = c.load_at.ensures.reads.same ∙ c.loop-number.invariant.same;
      quiet = c.in_ok-tablet.ensures.reads.reason.told (not_refused c.in_ok-tablet.tablet Device) ∙ c.loop-number.invariant.quiet;
      loading = subst (λ (ts : List Tablet). IsLoading (g.F.Files.contents c.args.files.now) c.args.table.now ts (c.loop-number.number + 1)) (sym c.in_ok-push.ensures.items)
          (one_loaded (g.F.Files.contents c.args.files.now) c.args.table.now c.loop-number.tablets.items c.loop-number.number c.position-index.result c.in_ok-tablet.tablet c.loop-number.invariant.table c.loop-number.invariant.loading c.position-index.ensures.there c.in_ok-tablet.ensures.fits c.in_ok-tablet.ensures.emptied
          (subst (λ (o : Option Contents). IfSome o (λ m. HoldsAt m c.in_ok-tablet.tablet)) c.loop-number.invariant.same c.in_ok-tablet.ensures.holds));
    }

pub returns-clause-loaded : goal.returns-clause-loaded
returns-clause-loaded g c =
    let many = c.loop-number.invariant.as_many in
    let within = c.loop-number.invariant.within in
    let all : c.loop-number.number ≡ length c.args.table.now = omega arith in
    all_loaded (g.F.Files.contents c.args.files.now) c.args.table.now c.loop-number.tablets.items c.loop-number.number c.loop-number.invariant.table c.loop-number.invariant.loading all

pub returns-clause-holds : goal.returns-clause-holds
returns-clause-holds g c = c.loop-number.invariant.loading.holds

pub returns-clause-reads : goal.returns-clause-reads
returns-clause-reads g c = record {
  refusal = search rules;
  same = c.loop-number.invariant.same;
  reason = reason_since _ _ _ _ c.loop-number.invariant.quiet (no_fault _ _ (not_refused c.loop-number.tablets Device));
}
