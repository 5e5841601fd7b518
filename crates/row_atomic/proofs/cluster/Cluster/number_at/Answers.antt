-- The place at an index.
use Rattle.std.proofs.Common.{◌≡◌, ◌<◌, ℕ, length, List, ap, arith}
use Rattle.std.proofs.lemmas.List.{length-map}
use Rattle.metadata_table.specs.Places.{PlaceView, view_of, views}
use Rattle.metadata_table.specs.declared.places.Place.{Place}
use Rattle.row_atomic.proofs.Flushes.{number_there, place_there}
use Rattle.row_atomic.proofs.cluster.Cluster.number_at.Goals as goal

-- the index is within the list
inside : (places : List Place) (table : List PlaceView) (index : ℕ) → views places ≡ table → index < length table → index < length places
inside places table index same within = let as_many = length-map places view_of in let all = ap (λ (ps : List PlaceView). length ps) same in omega arith

pub bounds-places-index : goal.bounds-places-index
bounds-places-index g c = inside c.places.result.now c.self.inside.table c.args.index c.places.ensures.places (rw (← c.self.view_is) at c.requires.within)

pub returns-clause-at : goal.returns-clause-at
returns-clause-at g c =
    let within = inside c.places.result.now c.self.inside.table c.args.index c.places.ensures.places (rw (← c.self.view_is) at c.requires.within) in
    rw (← c.self.view_is) (rw (← c.places.ensures.places) (number_there c.places.result.now c.args.index c.index-places-index.result within))

pub returns-clause-known : goal.returns-clause-known
returns-clause-known g c =
    let within = inside c.places.result.now c.self.inside.table c.args.index c.places.ensures.places (rw (← c.self.view_is) at c.requires.within) in
    rw (← c.self.view_is) (rw (← c.places.ensures.places) (place_there c.places.result.now c.args.index c.index-places-index.result within))
