use Rattle.std.proofs.Common.{◌≡◌, ◌-◌, ◌++◌, map, length}
use Rattle.std.specs.List.{AllByRecursion}
use Rattle.si_model.specs.Replies.{item_of}
use Rattle.request_codec.specs.Scans.{items_fields, ItemFits, AreItems}
use Rattle.request_codec.proofs.read_items.own_items.Given as goal

abbrev pub invariant-loop : goal.invariant-loop
invariant-loop l = record {
  left : AreItems (l.count - l.counter) l.rest;
  whole : l.bytes ≡ items_fields (map item_of l.items.items) ++ l.rest;
  many : length l.items.items ≡ l.counter;
  fit : AllByRecursion ItemFits (map item_of l.items.items);
}
