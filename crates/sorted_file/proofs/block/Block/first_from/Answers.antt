use Rattle.std.proofs.Common.{ap, sym, ◌∙◌}
use Rattle.std.specs.Prelude.{slice_get}
use Rattle.sorted_file.proofs.Halves.{first_at}
use Rattle.sorted_file.proofs.block.Block.first_from.Goals as goal

pub returns : goal.returns
returns c = λ es p. c.entry.ensures es p ∙ first_at es c.position.result ∙ ap (λ (l : _). slice_get l 0) (sym (c.position.ensures es p))
