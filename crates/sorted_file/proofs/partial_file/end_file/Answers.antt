use Rattle.std.proofs.Common.{List, subst}
use Rattle.cell_key.specs.Entries.{Entry}
use Rattle.sorted_file.specs.Builder.{built}
use Rattle.sorted_file.specs.Grammar.{IsFile}
use Rattle.sorted_file.specs.declared.format.Format.{Format}
use Rattle.sorted_file.specs.declared.format.Format.TheVariants.{Two}
use Rattle.sorted_file.proofs.Results.{if_ok}
use Rattle.sorted_file.proofs.partial_file.end_file.Goals as goal

pub returns-clause-image : goal.returns-clause-image
returns-clause-image g c = if_ok c.of_opening.result _ _ (λ file opened.
    let h = c.in_ok-opening.ensures.image in
    let image = h.image in
    let form : IsFile Two (built c.args.builder) image =
    subst (λ (f : Format). IsFile f (built c.args.builder) image) c.in_ok-opening.ensures.format (subst (λ (es : List Entry). IsFile c.in_ok-opening.opening.format es image) c.in_ok-opening.ensures.entries h.formed.form) in (
      image,
      (
        h.had,
        h.within,
        λ m there. opened m (record { image = image; there = there; form = h.formed.form; blocks = h.formed.blocks }),
        form,
      ),
    )) c.of_opening.ensures.opened
