use Rattle.std.proofs.Common.{◌≡◌, ◌-◌, ◌++◌, length}
use Rattle.std.specs.List.{AllByRecursion, flat_map}
use Rattle.si_model.specs.Answers.{writes_named}
use Rattle.request_codec.specs.Operations.{write_fields, WriteFits}
use Rattle.request_codec.specs.Operations.{AreWrites}
use Rattle.request_codec.proofs.read_lists.own_writes.Given as goal

abbrev pub invariant-loop : goal.invariant-loop
invariant-loop l = record {
  left : AreWrites (l.count - l.counter) l.rest;
  whole : l.bytes ≡ flat_map write_fields (writes_named l.writes.items) ++ l.rest;
  many : length l.writes.items ≡ l.counter;
  all_fit : AllByRecursion WriteFits (writes_named l.writes.items);
}
