use Rattle.std.proofs.Common.{◌≡◌, ◌-◌}
use Rattle.std.specs.Int.{w64}
use Rattle.metadata_table.specs.RootReader.{number_at, numbers_at}
use Rattle.metadata_table.proofs.RootLoops.{with_front}
use Rattle.metadata_table.proofs.root.reader.read_numbers.Given as goal

abbrev pub invariant-loop : goal.invariant-loop
invariant-loop l = with_front (number_at w64) l.numbers.items (numbers_at (l.count - l.counter) l.rest) ≡ numbers_at l.count l.bytes
