use Rattle.std.proofs.Common.{◌++◌, ◌∷◌, ◌+◌, [], ℕ, List, length, sym, ap, ◌∙◌, length-append, append_assoc}
use Rattle.std.specs.Prelude.{replicate}
use Rattle.metadata_table.specs.Places.{view_of, views}
use Rattle.metadata_table.specs.Roots.{file_names}
use Rattle.metadata_table.specs.declared.places.Place.{Place}
use Rattle.std.proofs.lemmas.List.{replicate-append-replicate}
use Rattle.row_atomic.proofs.Lengths.{more_names}
use Rattle.row_atomic.proofs.cluster.checkpoint.zero_lengths.Goals as goal

pub places-preserved : goal.places-preserved
places-preserved c =
    let i = c.places.invariant in
    let p = view_of c.in-Some.place.now in
    let items = c.in_ok-extend_from_slice.ensures.items in
    let names = ap length (more_names i.front p) ∙ length-append (file_names i.front) p.files in
    record {
      front = i.front ++ p ∷ [];
      parts = append_assoc i.front (p ∷ []) (views c.in-Some.after.now) ∙ ap (λ (l : List Place). i.front ++ views l) (sym c.in-Some.ensures.cases.0) ∙ i.parts;
      zeros =
          items
          ∙ ap (λ (l : List ℕ). c.places.lengths.items ++ l) (c.deref.ensures.value ∙ c.in_ok-own.ensures.items_if_clones_equal (λ y e. e))
          ∙ ap (λ (l : List ℕ). l ++ replicate {A = ℕ} c.len.result 0) i.zeros
          ∙ replicate-append-replicate (length (file_names i.front)) c.len.result 0
          ∙ ap (λ (n : ℕ). replicate {A = ℕ} n 0) (ap (λ (n : ℕ). length (file_names i.front) + n) (c.len.ensures ∙ c.in-Some.place.now.files.ok.0) ∙ sym names);
    }
