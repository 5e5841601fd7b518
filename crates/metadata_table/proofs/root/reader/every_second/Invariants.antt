use Rattle.std.proofs.Common.{◌≡◌, ◌++◌, length}
use Rattle.metadata_table.specs.RootReader.{every_second}
use Rattle.metadata_table.proofs.root.reader.every_second.Given as goal

abbrev pub invariant-numbers : goal.invariant-numbers
invariant-numbers l = l.half.items ++ every_second l.rest ≡ every_second l.numbers

abbrev pub decreases-numbers : goal.decreases-numbers
decreases-numbers l = length l.rest
