use Rattle.std.proofs.Common.{◌≡◌, ◌-◌, ◌++◌, length}
use Rattle.std.specs.List.{AllByRecursion, flat_map}
use Rattle.si_model.specs.Answers.{told_items}
use Rattle.request_codec.specs.Answers.{told_fields, ToldFits}
use Rattle.request_codec.specs.Answers.{AreTold}
use Rattle.request_codec.proofs.read_told.own_told.Given as goal

abbrev pub invariant-loop : goal.invariant-loop
invariant-loop l = record {
  left : AreTold (l.count - l.counter) l.rest;
  whole : l.bytes ≡ flat_map told_fields (told_items l.found.items) ++ l.rest;
  many : length l.found.items ≡ l.counter;
  all_fit : AllByRecursion ToldFits (told_items l.found.items);
}
