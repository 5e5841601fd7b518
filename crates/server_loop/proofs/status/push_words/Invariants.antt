use Rattle.std.proofs.Common.{◌≡◌, ◌++◌, length}
use Rattle.server_loop.specs.Reports.{words}
use Rattle.server_loop.proofs.status.push_words.Given as goal

abbrev pub invariant-numbers : goal.invariant-numbers
invariant-numbers l = record {
  made : l.out.items ++ words l.rest ≡ l.initial.out.items ++ words l.fn.numbers;
}

abbrev pub decreases-numbers : goal.decreases-numbers
decreases-numbers l = length l.rest
