use Rattle.std.proofs.Common.{◌≡◌, ◌++◌, ◌∷◌, [], ℕ, List, Some, sym, ap, ◌∙◌}
use Rattle.std.proofs.lemmas.Result.{err_from_is_err_and}
use Rattle.std.proofs.lemmas.List.{map_push}
use Rattle.metadata_table.specs.Places.{PlaceView, view_of, views}
use Rattle.metadata_table.specs.RootReader.{each_place_at, place_at, places_at}
use Rattle.metadata_table.proofs.RootLoops.{goes_on, ends, is_done, fails_with, placed_more}
use Rattle.metadata_table.proofs.root.reader.read_places.Goals as goal

pub returns-in_err-place : goal.returns-in_err-place
unfolding places_at
returns-in_err-place c =
    let i = c.loop.invariant in
    let p = err_from_is_err_and c.from_residual.result c.from_residual.ensures.1 in
    rw (p.1, p.2) (fails_with _ _ _ (ends (place_at c.args.format) c.in_err-place.field-0.0 i.front c.args.count c.loop.counter c.loop.rest.now (each_place_at c.args.format c.args.count c.args.bytes.now) c.loop-test.true c.in_err-place.ensures i.read))

pub loop-preserved : goal.loop-preserved
loop-preserved c =
    let i = c.loop.invariant in
    let p = c.in_ok-place.place in
    let own = c.in_ok-place.own.items in
    let e : views c.push.new.self.items ≡ views c.loop.places.items ++ view_of p ∷ [] = rw c.in_ok-push.ensures.items (map_push _ c.loop.places.items p) in
    let l : c.extend_from_slice.new.self.items ≡ c.loop.lengths.items ++ own = c.in_ok-extend_from_slice.ensures.items ∙ ap (λ (x : List ℕ). c.loop.lengths.items ++ x) c.deref.ensures.value in
    record {
      front = i.front ++ (view_of p, own) ∷ [];
      told = placed_more i.front (view_of p) own (views c.loop.places.items) c.loop.lengths.items i.told ∙ (λ k. (sym e k, sym l k));
      read = goes_on (place_at c.args.format) i.front c.args.count c.loop.counter c.loop.rest.now (view_of p, own) c.in_ok-place.after.now (each_place_at c.args.format c.args.count c.args.bytes.now) c.loop-test.true c.in_ok-place.ensures i.read;
    }

pub returns : goal.returns
unfolding places_at
returns c =
    let i = c.loop.invariant in
    let done = is_done (place_at c.args.format) i.front c.args.count c.loop.counter c.loop.rest.now (each_place_at c.args.format c.args.count c.args.bytes.now) c.loop-test.false i.read in
    rw done (ap (λ (x : List PlaceView × List ℕ). Some (x, c.loop.rest.now)) i.told)
