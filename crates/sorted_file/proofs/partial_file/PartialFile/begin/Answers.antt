use Rattle.std.proofs.Common.{ℕ, List, sym, ap, ◌∙◌}
use Rattle.sorted_file.specs.PartialFiles.{entries_below}
use Rattle.sorted_file.specs.Written.{only_written}
use Rattle.sorted_file.proofs.InSteps.{below_first}
use Rattle.sorted_file.proofs.partial_file.PartialFile.begin.Goals as goal

pub returns-clause-begun : goal.returns-clause-begun
returns-clause-begun g c = λ whole.
    c.in_ok-builder.ensures.built
    ∙ sym (ap (only_written c.args.keep_erasures) (ap (λ (t : List ℕ). entries_below t whole) c.new-2.ensures.items ∙ below_first whole))
