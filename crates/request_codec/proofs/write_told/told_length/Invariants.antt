use Rattle.std.proofs.Common.{◌≡◌, ◌+◌, length}
use Rattle.si_model.specs.Transactions.{told_lengths}
use Rattle.si_model.specs.Answers.{told_items}
use Rattle.request_codec.proofs.write_told.told_length.Given as goal

abbrev pub invariant-cells : goal.invariant-cells
invariant-cells l = l.sum + told_lengths (told_items l.rest) ≡ told_lengths (told_items l.found)

abbrev pub decreases-cells : goal.decreases-cells
decreases-cells l = length l.rest
