use Rattle.sorted_file.proofs.RowFronts.{IsFrontRead}
use Rattle.sorted_file.proofs.bounds.short_front_in.Given as goal

abbrev pub invariant-loop-at : goal.invariant-loop-at
invariant-loop-at l = IsFrontRead l.fn.bytes l.left l.front l.at
