use Rattle.std.proofs.Common.{◌≡◌, ◌-◌, ℕ, List}
use Rattle.metadata_table.specs.Places.{PlaceView, views}
use Rattle.metadata_table.specs.RootReader.{each_place_at, place_at, placed}
use Rattle.metadata_table.proofs.RootLoops.{with_front}
use Rattle.metadata_table.proofs.root.reader.read_places.Given as goal

abbrev pub invariant-loop : goal.invariant-loop
invariant-loop l = record {
  front : List (PlaceView × List ℕ);
  told : placed front ≡ (views l.places.items, l.lengths.items);
  read : with_front (place_at l.format) front (each_place_at l.format (l.count - l.counter) l.rest) ≡ each_place_at l.format l.count l.bytes;
}
