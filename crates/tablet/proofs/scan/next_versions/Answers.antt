use Rattle.std.proofs.Common.{◌≡◌, ℕ, ◌+◌, ◌<◌, ◌≤◌, ◌∙◌, Bool, true, false, List, length, refl, sym, subst, arith}
use Rattle.std.specs.Bool.{OnFalse, OnTrue}
use Rattle.std.specs.Prelude.{Option, Some, None, IfSome, if◌then◌else◌}
use Rattle.cell_key.specs.Entries.{Entry, IsEntry, IsEntryList, Takes}
use Rattle.cell_key.specs.declared.refusals.Refusal.TheVariants.{Device}
use Rattle.file_store.specs.Store.{Contents}
use Rattle.sorted_file.specs.Source.{pending}
use Rattle.rows.specs.Batches.{IsFull}
use Rattle.tablet.specs.Gathering.{AreVersionsIn}
use Rattle.rows.specs.declared.batches.BatchLimits.{BatchLimits}
use Rattle.rows.specs.declared.batches.CellVersions.{CellVersions}
use Rattle.tablet.proofs.GatheredCells.{on_false}
use Rattle.tablet.proofs.NextVersions.{gone_all, gone_more, gone_none, gone_stops}
use Rattle.tablet.proofs.ReadPlaces.{rest_of}
use Rattle.tablet.proofs.Passed.{IsHeldRefusal, held_read, held_refusal, not_err, passed_err, passed_kind, passed_on, passed_reason, quiet_reason, reason_after, reason_of_ok}
use Rattle.tablet.proofs.scan.next_versions.Goals as goal

lent_listed : (lent : Option Entry) (es : List Entry) → IsEntryList (pending lent es) → IfSome lent IsEntry
lent_listed None es list = tt
lent_listed (Some entry) es list = list.each.0

one_fewer : (more : Bool) (new old : ℕ) → more ≡ true → new + (if more then 1 else 0) ≤ old → new < old
one_fewer true new old is fewer = omega arith
one_fewer false new old is fewer = absurd (let no : false ≡ true = is in cc)

on_so : {A : Type 0} (b : Bool) → b ≡ true → OnTrue b A → A
on_so true e a = a
on_so false e a = cc

pub loop-gathering-init : goal.loop-gathering-init
loop-gathering-init g c = record { same = refl; quiet = refl; within = c.in_ok-gathering.ensures.within; limits = c.in_ok-gathering.ensures.limits; hi = c.in_ok-gathering.ensures.hi; told = λ h. (h, gone_none _ _ c.in_ok-gathering.ensures.none) }

pub loop-gathering-preserved : goal.loop-gathering-preserved
loop-gathering-preserved g c =
    let i = c.loop-gathering.invariant in
    let s = c.loop-gathering.source in
    let t = c.advance.new.self in
    let disk = g.F.Files.contents c.args.store.now in
    let holds = subst (λ (o : Option Contents). g.S.Source.holds o s → g.S.Source.holds o t) i.same c.in_ok-advance.ensures.holds in
    let takes = subst (λ (o : Option Contents). g.S.Source.holds o s → Takes (g.S.Source.lent t) (g.S.Source.remaining o s) (g.S.Source.remaining o t)) i.same c.in_ok-advance.ensures.takes in
    record {
      same = c.advance.ensures.files ∙ i.same;
      quiet = c.in_ok-advance.ensures.reason.told (not_err _ Device) ∙ i.quiet;
      within = c.in_ok-take_at.ensures.within;
      limits = c.take_at.ensures.limits.limits ∙ i.limits;
      hi = c.take_at.ensures.limits.hi ∙ i.hi;
      told = λ start.
          let before = i.told start in (
            holds before.0,
            gone_more (g.S.Source.remaining disk c.args.source.now) (g.S.Source.lent t) (g.S.Source.remaining disk s) (g.S.Source.remaining disk t) c.loop-gathering.gathering c.take_at.new.gathering
                (rest_of _ _ (g.met.S.Source.list disk c.args.source.now start)) before.1 (takes before.0)
                (λ es list gathers. on_so c.in_ok-take_at.field-0 c.if-not-branch.false (c.in_ok-take_at.ensures.gathers es list gathers)),
          );
    }

pub loop-gathering-smaller : goal.loop-gathering-smaller
loop-gathering-smaller g c = one_fewer c.in_ok-advance.field-0 _ _ c.if-branch.true c.in_ok-advance.ensures.lower

pub take_at-requires : goal.take_at-requires
take_at-requires g c = c.loop-gathering.invariant.within

pub ended-requires : goal.ended-requires
ended-requires g c = c.loop-gathering.invariant.within

pub returns-in_err-advance-clause-damaged : goal.returns-in_err-advance-clause-damaged
returns-in_err-advance-clause-damaged g c = λ is start.
    let i = c.loop-gathering.invariant in
    subst (λ (o : Option Contents). ¬ g.S.Source.holds o c.loop-gathering.source) i.same (c.in_err-advance.ensures.damaged (passed_on c.from_residual-in_err-advance.result _ c.in_err-advance.field-0.0 _ c.from_residual-in_err-advance.ensures.1 refl is)) (i.told start).0

pub returns-in_err-advance-clause-reads : goal.returns-in_err-advance-clause-reads
returns-in_err-advance-clause-reads g c = record {
  refusal = passed_err c.from_residual-in_err-advance.result c.in_err-advance.field-0.0 _ c.from_residual-in_err-advance.ensures.1 c.in_err-advance.ensures.refusal;
  same = c.advance.ensures.files ∙ c.loop-gathering.invariant.same;
  reason = reason_after _ _ _ c.loop-gathering.invariant.quiet (passed_reason c.from_residual-in_err-advance.result _ c.in_err-advance.field-0.0 _ _ c.from_residual-in_err-advance.ensures.1 refl c.in_err-advance.ensures.reason);
}

pub returns-in_err-take_at-clause-damaged : goal.returns-in_err-take_at-clause-damaged
returns-in_err-take_at-clause-damaged g c = λ is start.
    let i = c.loop-gathering.invariant in
    let s = c.loop-gathering.source in
    let t = c.advance.new.self in
    let disk = g.F.Files.contents c.args.store.now in
    let holds = subst (λ (o : Option Contents). g.S.Source.holds o s → g.S.Source.holds o t) i.same c.in_ok-advance.ensures.holds in
    let before = i.told start in
    c.in_err-take_at.ensures.damaged before.1.before before.1.gathers (passed_on c.from_residual-in_err-take_at.result _ c.in_err-take_at.field-0.0 _ c.from_residual-in_err-take_at.ensures.1 refl is)
    (lent_listed _ _ (g.met.S.Source.list disk t (holds before.0)))

pub returns-in_err-take_at-clause-reads : goal.returns-in_err-take_at-clause-reads
returns-in_err-take_at-clause-reads g c = record {
  refusal = passed_err c.from_residual-in_err-take_at.result c.in_err-take_at.field-0.0 _ c.from_residual-in_err-take_at.ensures.1 (held_read c.in_err-take_at.field-0.0 c.in_err-take_at.ensures.refusal);
  same = c.advance.ensures.files ∙ c.loop-gathering.invariant.same;
  reason = reason_after _ _ _ (c.in_ok-advance.ensures.reason.told (not_err _ Device) ∙ c.loop-gathering.invariant.quiet)
      (quiet_reason c.from_residual-in_err-take_at.result _ (λ is. absurd (passed_kind c.from_residual-in_err-take_at.result c.in_err-take_at.field-0.0 Device IsHeldRefusal c.from_residual-in_err-take_at.ensures.1 (held_refusal c.in_err-take_at.field-0.0 c.in_err-take_at.ensures.refusal) is)));
}

pub returns-then-not-branch-clause-found : goal.returns-then-not-branch-clause-found
returns-then-not-branch-clause-found g c = λ start.
    let i = c.loop-gathering.invariant in
    let s = c.loop-gathering.source in
    let t = c.advance.new.self in
    let disk = g.F.Files.contents c.args.store.now in
    let takes = subst (λ (o : Option Contents). g.S.Source.holds o s → Takes (g.S.Source.lent t) (g.S.Source.remaining o s) (g.S.Source.remaining o t)) i.same c.in_ok-advance.ensures.takes in
    let before = i.told start in
    let all = g.S.Source.remaining disk c.args.source.now in
    subst (λ (b : Bool). AreVersionsIn all c.args.hi c.stopped.result.cells.items b) (sym c.stopped.ensures.more)
    (subst (λ (cells : List CellVersions). AreVersionsIn all c.args.hi cells false) (sym c.stopped.ensures.cells)
    (subst (λ (hi : ℕ). AreVersionsIn all hi c.take_at.new.gathering.cells.items false) i.hi
    (gone_stops all (g.S.Source.lent t) (g.S.Source.remaining disk s) (g.S.Source.remaining disk t) c.loop-gathering.gathering c.loop-gathering.gathering.hi c.take_at.new.gathering.cells.items
    (rest_of _ _ (g.met.S.Source.list disk c.args.source.now start)) before.1 (takes before.0)
    (λ es more list gathers. on_false c.in_ok-take_at.field-0 c.if-not-branch.true (c.in_ok-take_at.ensures.stops es more list gathers)))))

pub returns-then-not-branch-clause-full : goal.returns-then-not-branch-clause-full
returns-then-not-branch-clause-full g c =
    subst (λ (b : Bool). OnFalse b (IsFull c.args.limits c.stopped.result.cells.items)) (sym c.stopped.ensures.more)
    (subst (λ (cells : List CellVersions). IsFull c.args.limits cells) (sym c.stopped.ensures.cells)
    (subst (λ (limits : BatchLimits). IsFull limits c.take_at.new.gathering.cells.items) c.loop-gathering.invariant.limits
    (on_false c.in_ok-take_at.field-0 c.if-not-branch.true c.in_ok-take_at.ensures.full)))

pub returns-then-not-branch-clause-few : goal.returns-then-not-branch-clause-few
returns-then-not-branch-clause-few g c =
    subst (λ (cells : List CellVersions). length cells ≤ c.args.limits.cells) (sym c.stopped.ensures.cells)
    (subst (λ (limits : BatchLimits). length c.take_at.new.gathering.cells.items ≤ limits.cells) (c.take_at.ensures.limits.limits ∙ c.loop-gathering.invariant.limits) c.in_ok-take_at.ensures.within.cells)

pub returns-then-not-branch-clause-reads : goal.returns-then-not-branch-clause-reads
returns-then-not-branch-clause-reads g c = record {
  refusal = tt;
  same = c.advance.ensures.files ∙ c.loop-gathering.invariant.same;
  reason = reason_of_ok _ _ _ _ (reason_after _ _ _ c.loop-gathering.invariant.quiet c.in_ok-advance.ensures.reason);
}

pub returns-clause-found : goal.returns-clause-found
returns-clause-found g c = λ start.
    let i = c.loop-gathering.invariant in
    let s = c.loop-gathering.source in
    let t = c.advance.new.self in
    let disk = g.F.Files.contents c.args.store.now in
    let takes = subst (λ (o : Option Contents). g.S.Source.holds o s → Takes (g.S.Source.lent t) (g.S.Source.remaining o s) (g.S.Source.remaining o t)) i.same c.in_ok-advance.ensures.takes in
    let all = g.S.Source.remaining disk c.args.source.now in
    let before = i.told start in
    subst (λ (b : Bool). AreVersionsIn all c.args.hi c.ended.result.cells.items b) (sym c.ended.ensures.last)
    (subst (λ (hi : ℕ). AreVersionsIn all hi c.ended.result.cells.items true) i.hi
    (c.ended.ensures.versions all (rest_of _ _ (g.met.S.Source.list disk c.args.source.now start))
    (gone_all all (g.S.Source.lent t) (g.S.Source.remaining disk s) (g.S.Source.remaining disk t) c.loop-gathering.gathering before.1 (takes before.0) (sym c.if-branch.false ∙ c.in_ok-advance.ensures.more))))

pub returns-clause-few : goal.returns-clause-few
returns-clause-few g c = subst (λ (limits : BatchLimits). length c.ended.result.cells.items ≤ limits.cells) c.loop-gathering.invariant.limits c.ended.ensures.few

pub returns-clause-reads : goal.returns-clause-reads
returns-clause-reads g c = record {
  refusal = tt;
  same = c.advance.ensures.files ∙ c.loop-gathering.invariant.same;
  reason = reason_of_ok _ _ _ _ (reason_after _ _ _ c.loop-gathering.invariant.quiet c.in_ok-advance.ensures.reason);
}
