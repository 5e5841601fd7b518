use Rattle.std.proofs.Common.{◌-◌, ◌↔◌}
use Rattle.request_codec.specs.Scans.{AreItems}
use Rattle.request_codec.proofs.read_items.are_items.Given as goal

abbrev pub invariant-loop : goal.invariant-loop
invariant-loop l = AreItems (l.count - l.counter) l.rest ↔ AreItems l.count l.bytes
