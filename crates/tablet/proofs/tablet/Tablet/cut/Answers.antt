use Rattle.std.proofs.Common.{refl, sym, ◌∙◌, subst}
use Rattle.std.specs.Prelude.{Option, Some}
use Rattle.file_store.specs.Store.{Contents}
use Rattle.tablet.specs.Views.{Keeps}
use Rattle.tablet.proofs.SplitParts.{keeps_itself, splits}
use Rattle.tablet.proofs.Passed.{passed_kept, passed_on}
use Rattle.tablet.proofs.tablet.Tablet.cut.Goals as goal

pub returns-clause-parts : goal.returns-clause-parts
returns-clause-parts g c = λ next.
    splits c.one_listing.ensures (g.F.Files.contents c.args.files.now) (g.F.Files.contents c.args.files.now) _ next next c.args.self.now c.args.self.now c.in_ok-left.left _ c.args.row.now
    (record {
      range = refl;
      left_range = c.in_ok-left.ensures.range ∙ c.in_ok-range.ensures.range;
      right_range = λ i. record { after = Some (c.in_ok-range.ensures.row i); end = c.args.self.now.range.end };
      left_memory = c.in_ok-left.ensures.memory ∙ sym c.requires.flushed;
      right_memory = refl;
      left_names = c.in_ok-left.ensures.names;
      right_files = refl;
    })
    (keeps_itself (g.F.Files.contents c.args.files.now) next c.args.self.now) c.in_ok-left.ensures.holds c.in_ok-left.ensures.reads.same

pub returns-in_err-left-clause-damaged : goal.returns-in_err-left-clause-damaged
returns-in_err-left-clause-damaged g c = λ err.
    c.in_err-left.ensures.damaged (passed_on c.from_residual-in_err-left.result _ c.in_err-left.field-0.0 _ c.from_residual-in_err-left.ensures.1 refl err)

pub returns-in_err-range-clause-keeps : goal.returns-in_err-range-clause-keeps
returns-in_err-range-clause-keeps g c = passed_kept c.from_residual.result _ (λ next. keeps_itself (g.F.Files.contents c.args.files.now) next c.args.self.now)

pub returns-in_err-left-clause-keeps : goal.returns-in_err-left-clause-keeps
returns-in_err-left-clause-keeps g c = passed_kept c.from_residual-in_err-left.result _ (λ next. subst (λ (o : Option Contents). Keeps (g.F.Files.contents c.args.files.now) next c.args.self.now o next c.args.self.now) (sym c.in_err-left.ensures.reads.same) (keeps_itself (g.F.Files.contents c.args.files.now) next c.args.self.now))
