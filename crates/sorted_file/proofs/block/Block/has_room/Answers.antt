use Rattle.std.proofs.Common.{◌≢◌, [], length, refl, ap, arith}
use Rattle.std.proofs.lemmas.Bool.Decides.{nat_tests}
use Rattle.cell_key.specs.Entries.{lent_entry}
use Rattle.cell_key.proofs.TextPlaces.{clash}
use Rattle.sorted_file.proofs.GrowingBlocks.{fits_alone, fits_in, fits_on}
use Rattle.sorted_file.proofs.block.Block.has_room.Goals as goal

pub returns-then-is_empty : goal.returns-then-is_empty
returns-then-is_empty c = λ es p. (λ t. fits_alone es (lent_entry c.args.entry) ((c.is_empty.ensures es p).0 c.if-is_empty.true), λ f. refl)

pub returns : goal.returns
returns c = λ es p.
    let e = lent_entry c.args.entry in
    let some : es ≢ [] = λ none. clash _ ((c.is_empty.ensures es p).1 none) c.if-is_empty.false in
    let size = ap length p.bytes in (
      λ t. fits_on es e some (grind (arith, nat_tests)),
      λ f. let small = fits_in es e some f in grind (arith, nat_tests),
    )
