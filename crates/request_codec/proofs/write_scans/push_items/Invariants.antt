use Rattle.std.proofs.Common.{◌≡◌, ◌≤◌, ◌++◌, map, length, vec_capacity}
use Rattle.si_model.specs.Replies.{item_of}
use Rattle.si_model.specs.Scans.{items_length, most_items}
use Rattle.request_codec.specs.Buffers.{HasRoomFor}
use Rattle.request_codec.specs.Scans.{items_fields}
use Rattle.request_codec.proofs.write_scans.push_items.Given as goal

abbrev pub invariant-items : goal.invariant-items
invariant-items l = record {
  written : l.out.items ++ items_fields (map item_of l.rest) ≡ l.fn.out.items ++ items_fields (map item_of l.items);
  room : HasRoomFor l.out (length (items_fields (map item_of l.rest)));
  few : items_length (map item_of l.rest) ≤ most_items;
  grown : vec_capacity l.fn.out ≤ vec_capacity l.out;
}

abbrev pub decreases-items : goal.decreases-items
decreases-items l = length l.rest
