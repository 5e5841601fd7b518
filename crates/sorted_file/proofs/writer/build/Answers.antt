use Rattle.std.proofs.Common.{rules, ◌++◌, ◌∷◌, [], ℕ, List, Option, inr, refl, sym, ap, subst, ◌∙◌}
use Rattle.std.specs.Prelude.{option_map}
use Rattle.cell_key.specs.Entries.{Entry, Takes, lent_entry}
use Rattle.file_store.specs.Store.{Contents}
use Rattle.sorted_file.specs.Builder.{built}
use Rattle.sorted_file.specs.Grammar.{FitsIn}
use Rattle.sorted_file.specs.Passing.{PassesOver, passes_none}
use Rattle.sorted_file.proofs.Passed.{passed_one, taken, taken_list, takes_some}
use Rattle.sorted_file.proofs.writer.build.Goals as goal

pub entries-init : goal.entries-init
entries-init g c =
    let m = g.F.Files.contents c.args.files.now in
    let none = c.in_ok-builder.ensures.built in
    record {
      contents = refl;
      quiet = refl;
      named = refl;
      ready = c.in_ok-builder.ensures.ready;
      closed = record { front = []; had = c.requires.empty; rest = c.in_ok-builder.ensures.out };
      size = c.in_ok-builder.ensures.size;
      passed = subst (λ (es : List Entry). PassesOver (g.S.Source.steps m) g.S.Source.lent c.args.source.now es c.args.source.now) (sym none) passes_none;
      told = λ hold. (hold, ap (λ (es : List Entry). es ++ g.S.Source.remaining m c.args.source.now) none);
    }

pub entries-preserved-in-Continue-branch-3 : goal.entries-preserved-in-Continue-branch-3
entries-preserved-in-Continue-branch-3 g c =
    let i = c.entries.invariant in
    let m = g.F.Files.contents c.args.files.now in
    let s = c.entries.source in
    let t = c.advance.new.self in
    let e = lent_entry c.in-Some.entry in
    let lent = sym c.current.ensures ∙ ap (option_map lent_entry) c.in-Some.is in
    let more = c.in_ok-push.ensures.built in
    let holds = subst (λ (told : Option Contents). g.S.Source.holds told s → g.S.Source.holds told t) i.contents c.in_ok-advance.ensures.holds in
    let takes = subst (λ (told : Option Contents). g.S.Source.holds told s → Takes (g.S.Source.lent t) (g.S.Source.remaining told s) (g.S.Source.remaining told t)) i.contents c.in_ok-advance.ensures.takes in
    record {
      contents = c.in_ok-push.ensures.pushes.same ∙ c.in_ok-advance.ensures.files ∙ i.contents;
      quiet = c.in_ok-push.ensures.pushes.reason.told (λ e. cc) ∙ c.in_ok-advance.ensures.reason.told (λ e. cc) ∙ i.quiet;
      named = c.in_ok-push.ensures.pushes.named ∙ i.named;
      ready = c.in_ok-push.ensures.ready;
      closed = c.in_ok-push.ensures.closed;
      size = c.in_ok-push.ensures.size ∙ i.size;
      passed = subst (λ (es : List Entry). PassesOver (g.S.Source.steps m) g.S.Source.lent c.args.source.now es t) (sym more)
          (passed_one g.S.Source.steps g.S.Source.lent _ m c.args.source.now s t (built c.entries.builder) e i.contents c.in_ok-advance.ensures.steps lent i.passed);
      told = λ hold.
          let now = i.told hold in
          (holds now.0, ap (λ (es : List Entry). es ++ g.S.Source.remaining m t) more ∙ taken (built c.entries.builder) (g.S.Source.remaining m s) (g.S.Source.remaining m t) _ e (takes_some _ e _ _ lent (takes now.0)) now.1);
    }

pub returns-in_err-push-clause-too_much : goal.returns-in_err-push-clause-too_much
returns-in_err-push-clause-too_much g c = λ err.
    let i = c.entries.invariant in
    let m = g.F.Files.contents c.args.files.now in
    let e = lent_entry c.in-Some.entry in
    let lent = sym c.current.ensures ∙ ap (option_map lent_entry) c.in-Some.is in
    let large = c.in_err-push.ensures.large (search rules) in
    record {
      entries = built c.entries.builder ++ e ∷ [];
      last = c.advance.new.self;
      passes = passed_one g.S.Source.steps g.S.Source.lent _ m c.args.source.now c.entries.source c.advance.new.self (built c.entries.builder) e i.contents c.in_ok-advance.ensures.steps lent i.passed;
      large = subst (λ (limit : ℕ). ¬ FitsIn limit (built c.entries.builder ++ e ∷ [])) i.size (large []);
    }

pub returns-in_err-push-clause-broken : goal.returns-in_err-push-clause-broken
returns-in_err-push-clause-broken g c = λ err.
    let i = c.entries.invariant in
    let m = g.F.Files.contents c.args.files.now in
    let e = lent_entry c.in-Some.entry in
    let lent = sym c.current.ensures ∙ ap (option_map lent_entry) c.in-Some.is in
    inr (record {
      entries = built c.entries.builder ++ e ∷ [];
      last = c.advance.new.self;
      passes = passed_one g.S.Source.steps g.S.Source.lent _ m c.args.source.now c.entries.source c.advance.new.self (built c.entries.builder) e i.contents c.in_ok-advance.ensures.steps lent i.passed;
      none = c.in_err-push.ensures.damaged (search rules);
    })

pub returns-in_err-push-clause-damaged : goal.returns-in_err-push-clause-damaged
returns-in_err-push-clause-damaged g c = λ err hold.
    let i = c.entries.invariant in
    let m = g.F.Files.contents c.args.files.now in
    let s = c.entries.source in
    let t = c.advance.new.self in
    let e = lent_entry c.in-Some.entry in
    let lent = sym c.current.ensures ∙ ap (option_map lent_entry) c.in-Some.is in
    let takes = subst (λ (told : Option Contents). g.S.Source.holds told s → Takes (g.S.Source.lent t) (g.S.Source.remaining told s) (g.S.Source.remaining told t)) i.contents c.in_ok-advance.ensures.takes in
    let now = i.told hold in
    let parts = taken (built c.entries.builder) (g.S.Source.remaining m s) (g.S.Source.remaining m t) _ e (takes_some _ e _ _ lent (takes now.0)) now.1 in
    c.in_err-push.ensures.damaged (search rules) (taken_list _ _ _ _ (g.met.S.Source.list m c.args.source.now hold) parts)
