use Rattle.std.proofs.Common.{◌≡◌, ◌<◌, ◌^◌, ◌++◌, length, flat_map}
use Rattle.std.specs.List.{AllByRecursion}
use Rattle.metadata_table.specs.Places.{views}
use Rattle.metadata_table.specs.Roots.{AreEnds, place_bytes, with_lengths}
use Rattle.metadata_table.proofs.root.writer.push_each.Given as goal

abbrev pub invariant-places : goal.invariant-places
invariant-places l = record {
  written : l.out.items ++ flat_map place_bytes (with_lengths (views l.rest) l.left) ≡ l.fn.out.items ++ flat_map place_bytes (with_lengths (views l.fn.places) l.fn.lengths);
  small : AllByRecursion (λ place. length place.files.items < 2 ^ 32) l.rest;
  ends : AreEnds (views l.rest) → AreEnds (views l.fn.places);
}

abbrev pub decreases-places : goal.decreases-places
decreases-places l = length l.rest
