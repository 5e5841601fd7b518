use Rattle.std.proofs.Common.{◌≡◌, ◌+◌, length, drop}
use Rattle.std.specs.List.{flat_map}
use Rattle.si_model.specs.Answers.{writes_named}
use Rattle.request_codec.specs.Operations.{write_fields}
use Rattle.request_codec.proofs.write_lists.writes_length.Given as goal

abbrev pub invariant-loop-write : goal.invariant-loop-write
invariant-loop-write l = l.sum + length (flat_map write_fields (writes_named (drop l.write-index l.writes))) ≡ length (flat_map write_fields (writes_named l.writes))
