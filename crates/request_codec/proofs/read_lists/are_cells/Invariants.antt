use Rattle.std.proofs.Common.{◌-◌, ◌↔◌}
use Rattle.request_codec.specs.Operations.{AreCells}
use Rattle.request_codec.proofs.read_lists.are_cells.Given as goal

abbrev pub invariant-loop : goal.invariant-loop
invariant-loop l = AreCells (l.count - l.counter) l.rest ↔ AreCells l.count l.bytes
