use Rattle.std.proofs.Common.{◌≡◌, ◌++◌, ◌∷◌, [], List, sym, ap, ◌∙◌, arith, append-nil, append_assoc}
use Rattle.metadata_table.specs.Places.{view_of, views}
use Rattle.metadata_table.specs.declared.places.Place.{Place}
use Rattle.row_atomic.specs.RootLengths.{places_length}
use Rattle.row_atomic.specs.Roots.{root_at}
use Rattle.row_atomic.proofs.RootLengths.{none_left, places_length-append, root_len}
use Rattle.row_atomic.proofs.cluster.Cluster.next_root_bytes.Goals as goal

pub places-preserved : goal.places-preserved
places-preserved g c =
    let i = c.places.invariant in
    let p = view_of c.in-Some.place.now in
    record {
      front = i.front ++ p ∷ [];
      parts = append_assoc i.front (p ∷ []) (views c.in-Some.after.now) ∙ ap (λ (l : List Place). i.front ++ views l) (sym c.in-Some.ensures.cases.0) ∙ i.parts;
      bytes = let before = i.bytes in let joined = places_length-append i.front (p ∷ []) in omega (arith, before, joined, c.saturating_add-bytes.ensures, c.place_len.ensures);
    }

pub returns : goal.returns
returns g c = λ top floor lengths measured.
    let i = c.places.invariant in
    let all : i.front ≡ c.args.self.now.places = sym (append-nil i.front) ∙ (ap (λ (l : List Place). i.front ++ views l) (sym (none_left c.places.rest.now c.in_default.ensures.cases)) ∙ i.parts) in
    let len = root_len (root_at top floor c.args.self.now) lengths measured in
    let bytes = i.bytes in
    omega (arith, bytes, len, ap places_length all)
