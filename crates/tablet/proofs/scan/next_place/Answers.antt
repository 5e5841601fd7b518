use Rattle.std.proofs.Common.{◌≡◌, ℕ, ◌+◌, ◌<◌, ◌≤◌, Bool, true, false, List, refl, sym, subst, ◌∙◌, arith}
use Rattle.std.specs.Prelude.{Option, Some, None, IfSome, if◌then◌else◌}
use Rattle.cell_key.specs.Entries.{Entry, IsEntry, IsEntryList, Takes, entries_from}
use Rattle.cell_key.specs.declared.refusals.Refusal.TheVariants.{Device}
use Rattle.file_store.specs.Store.{Contents}
use Rattle.sorted_file.specs.Source.{pending}
use Rattle.std.specs.Option.{option_to_list}
use Rattle.tablet.specs.Reads.{first_value, NamesPlace}
use Rattle.tablet.proofs.ReadPlaces.{found_none, found_some, left_some, passed_more, passed_none, rest_of}
use Rattle.tablet.proofs.Passed.{IsHeldRefusal, held_read, held_refusal, not_err, passed_err, passed_kind, passed_none as passed_nothing, passed_on, passed_reason, quiet_reason, reason_after, reason_of_ok}
use Rattle.tablet.proofs.scan.next_place.Goals as goal

lent_listed : (lent : Option Entry) (es : List Entry) → IsEntryList (pending lent es) → IfSome lent IsEntry
lent_listed None es list = tt
lent_listed (Some entry) es list = list.each.0

one_fewer : (more : Bool) (new old : ℕ) → more ≡ true → new + (if more then 1 else 0) ≤ old → new < old
one_fewer true new old is fewer = omega arith
one_fewer false new old is fewer = absurd (let no : false ≡ true = is in cc)

pub loop-source-init : goal.loop-source-init
loop-source-init g c = record { same = refl; quiet = refl; told = λ h. (h, passed_none _ _) }

pub loop-source-preserved : goal.loop-source-preserved
loop-source-preserved g c =
    let i = c.loop-source.invariant in
    let s = c.loop-source.source in
    let t = c.advance.new.self in
    let told = g.F.Files.contents c.args.store.now in
    let holds = subst (λ (o : Option Contents). g.S.Source.holds o s → g.S.Source.holds o t) i.same c.in_ok-advance.ensures.holds in
    let takes = subst (λ (o : Option Contents). g.S.Source.holds o s → Takes (g.S.Source.lent t) (g.S.Source.remaining o s) (g.S.Source.remaining o t)) i.same c.in_ok-advance.ensures.takes in
    record {
      same = c.advance.ensures.files ∙ i.same;
      quiet = c.in_ok-advance.ensures.reason.told (not_err _ Device) ∙ i.quiet;
      told = λ start. let before = i.told start in (holds before.0, passed_more _ _ _ _ _ before.1 (takes before.0) (subst (NamesPlace (first_value (entries_from c.args.past.now (option_to_list (g.S.Source.lent t))))) c.in_default.is c.in_ok-place.ensures.found));
    }

pub loop-source-smaller : goal.loop-source-smaller
loop-source-smaller g c = one_fewer c.in_ok-advance.field-0 _ _ c.if-branch.true c.in_ok-advance.ensures.lower

pub returns-in_err-advance-clause-found : goal.returns-in_err-advance-clause-found
returns-in_err-advance-clause-found g c = passed_nothing c.from_residual.result c.in_err-advance.field-0.0 _ c.from_residual.ensures.1

pub returns-in_err-advance-clause-rest : goal.returns-in_err-advance-clause-rest
returns-in_err-advance-clause-rest g c = passed_nothing c.from_residual.result c.in_err-advance.field-0.0 _ c.from_residual.ensures.1

pub returns-in_err-advance-clause-damaged : goal.returns-in_err-advance-clause-damaged
returns-in_err-advance-clause-damaged g c = λ is start.
    let i = c.loop-source.invariant in
    subst (λ (o : Option Contents). ¬ g.S.Source.holds o c.loop-source.source) i.same (c.in_err-advance.ensures.damaged (passed_on c.from_residual.result _ c.in_err-advance.field-0.0 _ c.from_residual.ensures.1 refl is)) (i.told start).0

pub returns-in_err-advance-clause-reads : goal.returns-in_err-advance-clause-reads
returns-in_err-advance-clause-reads g c = record {
  refusal = passed_err c.from_residual.result c.in_err-advance.field-0.0 _ c.from_residual.ensures.1 c.in_err-advance.ensures.refusal;
  same = c.advance.ensures.files ∙ c.loop-source.invariant.same;
  reason = reason_after _ _ _ c.loop-source.invariant.quiet (passed_reason c.from_residual.result _ c.in_err-advance.field-0.0 _ _ c.from_residual.ensures.1 refl c.in_err-advance.ensures.reason);
}

pub returns-in_err-place-clause-found : goal.returns-in_err-place-clause-found
returns-in_err-place-clause-found g c = passed_nothing c.from_residual-in_err-place.result c.in_err-place.field-0.0 _ c.from_residual-in_err-place.ensures.1

pub returns-in_err-place-clause-rest : goal.returns-in_err-place-clause-rest
returns-in_err-place-clause-rest g c = passed_nothing c.from_residual-in_err-place.result c.in_err-place.field-0.0 _ c.from_residual-in_err-place.ensures.1

pub returns-in_err-place-clause-damaged : goal.returns-in_err-place-clause-damaged
returns-in_err-place-clause-damaged g c = λ is start.
    let i = c.loop-source.invariant in
    let s = c.loop-source.source in
    let t = c.advance.new.self in
    let told = g.F.Files.contents c.args.store.now in
    let holds = subst (λ (o : Option Contents). g.S.Source.holds o s → g.S.Source.holds o t) i.same c.in_ok-advance.ensures.holds in
    c.in_err-place.ensures.damaged (passed_on c.from_residual-in_err-place.result _ c.in_err-place.field-0.0 _ c.from_residual-in_err-place.ensures.1 refl is) (lent_listed _ _ (g.met.S.Source.list told t (holds (i.told start).0)))

pub returns-in_err-place-clause-reads : goal.returns-in_err-place-clause-reads
returns-in_err-place-clause-reads g c = record {
  refusal = passed_err c.from_residual-in_err-place.result c.in_err-place.field-0.0 _ c.from_residual-in_err-place.ensures.1 (held_read c.in_err-place.field-0.0 c.in_err-place.ensures.refusal);
  same = c.advance.ensures.files ∙ c.loop-source.invariant.same;
  reason = reason_after _ _ _ (c.in_ok-advance.ensures.reason.told (not_err _ Device) ∙ c.loop-source.invariant.quiet)
      (quiet_reason c.from_residual-in_err-place.result _ (λ is. absurd (passed_kind c.from_residual-in_err-place.result c.in_err-place.field-0.0 Device IsHeldRefusal c.from_residual-in_err-place.ensures.1 (held_refusal c.in_err-place.field-0.0 c.in_err-place.ensures.refusal) is)));
}

pub returns-in-Some-clause-found : goal.returns-in-Some-clause-found
returns-in-Some-clause-found g c = λ start.
    let i = c.loop-source.invariant in
    let s = c.loop-source.source in
    let t = c.advance.new.self in
    let told = g.F.Files.contents c.args.store.now in
    let takes = subst (λ (o : Option Contents). g.S.Source.holds o s → Takes (g.S.Source.lent t) (g.S.Source.remaining o s) (g.S.Source.remaining o t)) i.same c.in_ok-advance.ensures.takes in
    let before = i.told start in
    found_some _ _ _ _ _ _ before.1 (takes before.0) (subst (NamesPlace (first_value (entries_from c.args.past.now (option_to_list (g.S.Source.lent t))))) c.in-Some.is c.in_ok-place.ensures.found)

pub returns-in-Some-clause-rest : goal.returns-in-Some-clause-rest
returns-in-Some-clause-rest g c = λ start.
    let i = c.loop-source.invariant in
    let s = c.loop-source.source in
    let t = c.advance.new.self in
    let told = g.F.Files.contents c.args.store.now in
    let takes = subst (λ (o : Option Contents). g.S.Source.holds o s → Takes (g.S.Source.lent t) (g.S.Source.remaining o s) (g.S.Source.remaining o t)) i.same c.in_ok-advance.ensures.takes in
    let before = i.told start in
    left_some _ _ _ _ _ _ before.1 (takes before.0) (subst (NamesPlace (first_value (entries_from c.args.past.now (option_to_list (g.S.Source.lent t))))) c.in-Some.is c.in_ok-place.ensures.found)
    (rest_of _ _ (g.met.S.Source.list told c.args.source.now start))

pub returns-in-Some-clause-holds : goal.returns-in-Some-clause-holds
returns-in-Some-clause-holds g c = λ start.
    let i = c.loop-source.invariant in
    subst (λ (o : Option Contents). g.S.Source.holds o c.loop-source.source → g.S.Source.holds o c.advance.new.self) i.same c.in_ok-advance.ensures.holds (i.told start).0

pub returns-in-Some-clause-damaged : goal.returns-in-Some-clause-damaged
returns-in-Some-clause-damaged g c = λ is. absurd (not_err _ _ is)

pub returns-in-Some-clause-reads : goal.returns-in-Some-clause-reads
returns-in-Some-clause-reads g c = record {
  refusal = tt;
  same = c.advance.ensures.files ∙ c.loop-source.invariant.same;
  reason = reason_of_ok _ _ _ _ (reason_after _ _ _ c.loop-source.invariant.quiet c.in_ok-advance.ensures.reason);
}

pub returns-clause-found : goal.returns-clause-found
returns-clause-found g c = λ start.
    let i = c.loop-source.invariant in
    let s = c.loop-source.source in
    let t = c.advance.new.self in
    let told = g.F.Files.contents c.args.store.now in
    let takes = subst (λ (o : Option Contents). g.S.Source.holds o s → Takes (g.S.Source.lent t) (g.S.Source.remaining o s) (g.S.Source.remaining o t)) i.same c.in_ok-advance.ensures.takes in
    let before = i.told start in
    found_none _ _ _ _ _ before.1 (takes before.0) (sym c.if-branch.false ∙ c.in_ok-advance.ensures.more)

pub returns-clause-holds : goal.returns-clause-holds
returns-clause-holds g c = λ start.
    let i = c.loop-source.invariant in
    subst (λ (o : Option Contents). g.S.Source.holds o c.loop-source.source → g.S.Source.holds o c.advance.new.self) i.same c.in_ok-advance.ensures.holds (i.told start).0

pub returns-clause-rest : goal.returns-clause-rest
returns-clause-rest g c = λ start. tt

pub returns-clause-damaged : goal.returns-clause-damaged
returns-clause-damaged g c = λ is. absurd (not_err _ _ is)

pub returns-clause-reads : goal.returns-clause-reads
returns-clause-reads g c = record {
  refusal = tt;
  same = c.advance.ensures.files ∙ c.loop-source.invariant.same;
  reason = reason_of_ok _ _ _ _ (reason_after _ _ _ c.loop-source.invariant.quiet c.in_ok-advance.ensures.reason);
}
