use Rattle.std.proofs.Common.{rules, ◌≡◌, ◌++◌, ◌∷◌, ◌+◌, [], ℕ, List, Option, refl, sym, ap, subst, ◌∙◌, append-nil, arith}
use Rattle.std.specs.Prelude.{option_map, sum_by}
use Rattle.cell_key.specs.Entries.{Entry, Takes, lent_entry}
use Rattle.file_store.specs.Store.{Contents}
use Rattle.sorted_file.specs.Builder.{built}
use Rattle.sorted_file.specs.Grammar.{FitsIn}
use Rattle.sorted_file.specs.PartialFiles.{entry_size}
use Rattle.sorted_file.specs.Passing.{passes_none}
use Rattle.sorted_file.specs.Written.{only_written}
use Rattle.sorted_file.proofs.Passed.{passed_one, taken, takes_some}
use Rattle.sorted_file.proofs.InSteps.{kept_one, size_one, whole_rest}
use Rattle.sorted_file.proofs.partial_file.pass_some.Goals as goal

pub entries-init : goal.entries-init
entries-init g c = record {
  contents = refl;
  quiet = refl;
  named = refl;
  ready = c.requires.ready;
  closed = c.requires.closed;
  size = refl;
  within = c.requires.some;
  told = ([], passes_none, refl, sym (append-nil (built c.args.builder.now)), λ hold. (hold, refl));
}

pub returns-in_err-push_written-clause-large : goal.returns-in_err-push_written-clause-large
returns-in_err-push_written-clause-large g c = λ err hold.
    let i = c.entries.invariant in
    let m = g.F.Files.contents c.args.files.now in
    let s = c.entries.source in
    let t = c.advance.new.self in
    let e = lent_entry c.in-Some.entry in
    let lent = sym c.current.ensures ∙ ap (option_map lent_entry) c.in-Some.is in
    let takes = subst (λ (told : Option Contents). g.S.Source.holds told s → Takes (g.S.Source.lent t) (g.S.Source.remaining told s) (g.S.Source.remaining told t)) i.contents c.in_ok-advance.ensures.takes in
    let now = i.told.4 hold in
    let rest = g.S.Source.remaining m t in
    let parts = ap (λ (l : List Entry). i.told.0 ++ l) (sym (takes_some _ e _ _ lent (takes now.0))) ∙ now.1 in
    let all = whole_rest c.args.keep_erasures (built c.args.builder.now) (built c.entries.builder) i.told.0 (g.S.Source.remaining m c.args.source.now) rest e i.told.3 parts in
    let large = subst (λ (limit : ℕ). ¬ FitsIn limit (built c.entries.builder ++ only_written c.args.keep_erasures (e ∷ rest))) i.size (c.in_err-push_written.ensures.large (search rules) rest) in
    subst (λ (es : List Entry). ¬ FitsIn c.args.builder.now.opening.size es) all large

pub returns-then-spent-budget-clause-goes : goal.returns-then-spent-budget-clause-goes
returns-then-spent-budget-clause-goes g c =
    let i = c.entries.invariant in
    let m = g.F.Files.contents c.args.files.now in
    let s = c.entries.source in
    let t = c.advance.new.self in
    let e = lent_entry c.in-Some.entry in
    let lent = sym c.current.ensures ∙ ap (option_map lent_entry) c.in-Some.is in
    let takes = subst (λ (told : Option Contents). g.S.Source.holds told s → Takes (g.S.Source.lent t) (g.S.Source.remaining told s) (g.S.Source.remaining told t)) i.contents c.in_ok-advance.ensures.takes in
    let passed = i.told.0 in
    record {
      step = record {
        passed = passed;
        last = e;
        passes = passed_one g.S.Source.steps g.S.Source.lent _ m c.args.source.now s t passed e i.contents c.in_ok-advance.ensures.steps lent i.told.1;
        enough = omega (arith, c.if-spent-budget.true, i.told.2, c.size_of.ensures, size_one passed e);
        within = omega (arith, i.within, i.told.2);
        behind = c.in_ok-text_behind.ensures.behind;
      };
      written = kept_one c.args.keep_erasures _ _ _ passed e i.told.3 c.in_ok-push_written.ensures.built;
      parts = λ hold.
          let now = i.told.4 hold in
          sym (taken passed (g.S.Source.remaining m s) (g.S.Source.remaining m t) _ e (takes_some _ e _ _ lent (takes now.0)) now.1);
    }

pub entries-preserved-else-spent-budget : goal.entries-preserved-else-spent-budget
entries-preserved-else-spent-budget g c =
    let i = c.entries.invariant in
    let m = g.F.Files.contents c.args.files.now in
    let s = c.entries.source in
    let t = c.advance.new.self in
    let e = lent_entry c.in-Some.entry in
    let lent = sym c.current.ensures ∙ ap (option_map lent_entry) c.in-Some.is in
    let holds = subst (λ (told : Option Contents). g.S.Source.holds told s → g.S.Source.holds told t) i.contents c.in_ok-advance.ensures.holds in
    let takes = subst (λ (told : Option Contents). g.S.Source.holds told s → Takes (g.S.Source.lent t) (g.S.Source.remaining told s) (g.S.Source.remaining told t)) i.contents c.in_ok-advance.ensures.takes in
    let passed = i.told.0 in
    record {
      contents = c.in_ok-push_written.ensures.pushes.same ∙ c.in_ok-advance.ensures.files ∙ i.contents;
      quiet = c.in_ok-push_written.ensures.pushes.reason.told (λ e. cc) ∙ c.in_ok-advance.ensures.reason.told (λ e. cc) ∙ i.quiet;
      named = c.in_ok-push_written.ensures.pushes.named ∙ i.named;
      ready = c.in_ok-push_written.ensures.ready;
      closed = c.in_ok-push_written.ensures.closed;
      size = c.in_ok-push_written.ensures.size ∙ i.size;
      within = omega (arith, c.if-spent-budget.false);
      told = (
        passed ++ e ∷ [],
        passed_one g.S.Source.steps g.S.Source.lent _ m c.args.source.now s t passed e i.contents c.in_ok-advance.ensures.steps lent i.told.1,
        omega (arith, i.told.2, c.size_of.ensures, size_one passed e),
        kept_one c.args.keep_erasures _ _ _ passed e i.told.3 c.in_ok-push_written.ensures.built,
        λ hold.
            let now = i.told.4 hold in
            (holds now.0, taken passed (g.S.Source.remaining m s) (g.S.Source.remaining m t) _ e (takes_some _ e _ _ lent (takes now.0)) now.1),
      );
    }
