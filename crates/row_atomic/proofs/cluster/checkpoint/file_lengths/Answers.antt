use Rattle.std.proofs.Common.{◌≡◌, ◌++◌, ◌∷◌, [], ℕ, List, Option, IfSome, length, sym, ap, subst, ◌∙◌, arith, length-append, append_assoc}
use Rattle.cell_key.specs.declared.refusals.Refusal.TheVariants.{Device}
use Rattle.file_store.specs.Store.{Contents}
use Rattle.metadata_table.specs.Places.{view_of, views}
use Rattle.metadata_table.specs.Roots.{file_names}
use Rattle.metadata_table.specs.declared.places.Place.{Place}
use Rattle.row_atomic.specs.Roots.{AreMeasured}
use Rattle.row_atomic.proofs.Lengths.{more_names, told_joined}
use Rattle.row_atomic.proofs.PassedRefusals.{not_refused}
use Rattle.row_atomic.proofs.cluster.checkpoint.file_lengths.Goals as goal

pub places-preserved : goal.places-preserved
places-preserved g c =
    let i = c.places.invariant in
    let p = view_of c.in-Some.place.now in
    let own = c.in_ok-own.own.items in
    let told = g.F.Files.contents c.args.files.now in
    let here = subst (λ (o : Option Contents). IfSome o (λ m. AreMeasured m p.files own)) i.same (subst (λ (ns : List ℕ). IfSome (g.F.Files.contents c.places.files) (λ m. AreMeasured m ns own)) c.deref.ensures.value c.in_ok-own.ensures.measured) in
    let items : c.extend_from_slice.new.self.items ≡ c.places.lengths.items ++ own = c.in_ok-extend_from_slice.ensures.items ∙ ap (λ (l : List ℕ). c.places.lengths.items ++ l) c.deref-in-Some.ensures.value in
    let names = more_names i.front p in
    let few : length own ≡ length p.files = c.in_ok-own.ensures.count ∙ ap length c.deref.ensures.value in
    record {
      same = c.in_ok-own.ensures.same ∙ i.same;
      quiet = c.in_ok-own.ensures.reason.told (not_refused c.in_ok-own.own Device) ∙ i.quiet;
      front = i.front ++ p ∷ [];
      parts = append_assoc i.front (p ∷ []) (views c.in-Some.after.now) ∙ ap (λ (l : List Place). i.front ++ views l) (sym c.in-Some.ensures.cases.0) ∙ i.parts;
      count = let count = i.count in omega (arith, ap length items, length-append c.places.lengths.items own, ap length names, length-append (file_names i.front) p.files, count, few);
      measured = subst (λ (l : List ℕ). IfSome told (λ m. AreMeasured m (file_names (i.front ++ p ∷ [])) l)) (sym items)
          (subst (λ (ns : List ℕ). IfSome told (λ m. AreMeasured m ns (c.places.lengths.items ++ own))) (sym names)
          (told_joined told (file_names i.front) p.files c.places.lengths.items own i.count i.measured here));
    }
