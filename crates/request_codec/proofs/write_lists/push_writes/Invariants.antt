use Rattle.std.proofs.Common.{◌≡◌, ◌≤◌, ◌++◌, length, drop, vec_capacity}
use Rattle.std.specs.List.{flat_map}
use Rattle.si_model.specs.Answers.{writes_named}
use Rattle.request_codec.specs.Operations.{write_fields}
use Rattle.request_codec.specs.Buffers.{HasRoomFor}
use Rattle.request_codec.proofs.write_lists.push_writes.Given as goal

abbrev pub invariant-loop-write : goal.invariant-loop-write
invariant-loop-write l = record {
  written : l.out.items ++ flat_map write_fields (writes_named (drop l.write-index l.writes)) ≡ l.fn.out.items ++ flat_map write_fields (writes_named l.writes);
  room : HasRoomFor l.out (length (flat_map write_fields (writes_named (drop l.write-index l.writes))));
  grown : vec_capacity l.fn.out ≤ vec_capacity l.out;
}
