use Rattle.std.proofs.Common.{◌-◌, ◌↔◌}
use Rattle.request_codec.specs.Operations.{AreWrites}
use Rattle.request_codec.proofs.read_lists.are_writes.Given as goal

abbrev pub invariant-loop : goal.invariant-loop
invariant-loop l = AreWrites (l.count - l.counter) l.rest ↔ AreWrites l.count l.bytes
