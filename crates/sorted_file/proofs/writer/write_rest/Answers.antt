use Rattle.std.proofs.Common.{◌≤◌, ℕ, List, length, subst}
use Rattle.cell_key.specs.Entries.{Entry}
use Rattle.sorted_file.specs.Builder.{built}
use Rattle.sorted_file.specs.Grammar.{IsFile}
use Rattle.sorted_file.specs.declared.format.Format.{Format}
use Rattle.sorted_file.specs.declared.format.Format.TheVariants.{Two}
use Rattle.sorted_file.proofs.Passed.{comes_to_end}
use Rattle.sorted_file.proofs.Results.{always_ok, if_ok}
use Rattle.sorted_file.proofs.writer.write_rest.Goals as goal

pub returns-clause-comes : goal.returns-clause-comes
returns-clause-comes g c = always_ok c.of_opening.result _ (comes_to_end g.S.Source.steps g.S.Source.lent (g.F.Files.contents c.args.files.now) c.args.source.now (built c.in_ok-builder.builder) c.in_ok-builder.ensures.all)

pub returns-clause-image : goal.returns-clause-image
returns-clause-image g c = if_ok c.of_opening.result _ _ (λ file opened.
    let h = c.in_ok-opening.ensures.image in
    let image = h.image in
    let form : IsFile Two (built c.in_ok-builder.builder) image =
    subst (λ (f : Format). IsFile f (built c.in_ok-builder.builder) image) c.in_ok-opening.ensures.format (subst (λ (es : List Entry). IsFile c.in_ok-opening.opening.format es image) c.in_ok-opening.ensures.entries h.formed.form) in (
      image,
      (
        h.had,
        subst (λ (n : ℕ). length image ≤ n) c.in_ok-builder.ensures.size h.within,
        λ m there. opened m (record { image = image; there = there; form = h.formed.form; blocks = h.formed.blocks }),
        record { entries = built c.in_ok-builder.builder; all = c.in_ok-builder.ensures.all; form = form },
        λ hold. subst (λ (es : List Entry). IsFile Two es image) (c.in_ok-builder.ensures.rest hold) form,
      ),
    )) c.of_opening.ensures.opened
