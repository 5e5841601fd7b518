use Rattle.std.proofs.Common.{◌≡◌, ◌+◌, map, length}
use Rattle.si_model.specs.Replies.{item_of}
use Rattle.si_model.specs.Scans.{items_length}
use Rattle.request_codec.proofs.write_scans.items_length.Given as goal

abbrev pub invariant-items : goal.invariant-items
invariant-items l = l.sum + items_length (map item_of l.rest) ≡ items_length (map item_of l.items)

abbrev pub decreases-items : goal.decreases-items
decreases-items l = length l.rest
