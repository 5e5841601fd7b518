use Rattle.std.proofs.Common.{◌≡◌, ◌++◌, length, flat_map}
use Rattle.std.specs.Int.{w64, to_be_bytes}
use Rattle.metadata_table.specs.Roots.{numbers_of}
use Rattle.metadata_table.proofs.root.writer.push_names.Given as goal

abbrev pub invariant-names : goal.invariant-names
invariant-names l = l.out.items ++ flat_map (to_be_bytes w64) (numbers_of l.rest l.left) ≡ l.fn.out.items ++ flat_map (to_be_bytes w64) (numbers_of l.names l.lengths)

abbrev pub decreases-names : goal.decreases-names
decreases-names l = length l.rest
