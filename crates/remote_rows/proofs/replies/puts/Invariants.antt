use Rattle.std.proofs.Common.{◌≡◌, ◌++◌, length}
use Rattle.std.specs.List.{AllByRecursion, flat_map}
use Rattle.remote_rows.specs.Replies.{IsPut, version_fields}
use Rattle.remote_rows.specs.Wires.{IsEdit}
use Rattle.remote_rows.proofs.replies.puts.Given as goal

-- the versions so far, and then the bytes that are left
abbrev pub invariant-loop-index : goal.invariant-loop-index
invariant-loop-index l = record {
  limits : AllByRecursion IsEdit l.edits.items;
  puts : AllByRecursion IsPut l.edits.items;
  count : length l.edits.items ≡ l._index;
  told : l.bytes ≡ flat_map version_fields l.edits.items ++ l.left;
}
