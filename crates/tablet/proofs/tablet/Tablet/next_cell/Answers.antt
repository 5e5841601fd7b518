use Rattle.std.proofs.Common.{◌≡◌, ◌<◌, ◌-◌, ℕ, List, [], ◌∷◌, length, Option, Some, None, IsSome, slice_index_or, option_map, refl, sym, subst, arith}
use Rattle.cell_key.specs.Cells.{Cells}
use Rattle.cell_key.specs.Places.{AreNextCells, IsNextCell, Place, place_named}
use Rattle.tablet.specs.Views.{cells_at}
use Rattle.tablet.proofs.Lookups.{if_one}
use Rattle.tablet.proofs.tablet.Tablet.next_cell.Goals as goal

some_long : (o : Option Place) → (IsSome o → 0 < 0) → o ≡ None
some_long None h = refl
some_long (Some p) h = absurd (let less = h refl in omega (arith, less))

-- the last of at most one next cell
one_next : (cells : Cells) (after : Option Place) (places : List Place) (last : Option Place) → AreNextCells cells after 1 places → (IsSome last → 0 < length places) → ((d : Place) → 0 < length places → last ≡ Some (slice_index_or places (length places - 1) d)) → IsNextCell cells after last
one_next cells after [] last next some value = subst (IsNextCell cells after) (sym (some_long last some)) (next (omega arith))
one_next cells after (p ∷ []) last next some value = subst (IsNextCell cells after) (sym (value p (omega arith))) next.1
one_next cells after (p ∷ q ∷ places) last next some value = absurd (let more = next.2.0 in omega (arith, more))

pub returns-clause-found : goal.returns-clause-found
returns-clause-found g c =
    if_one (g.F.Files.contents c.args.files.now) c.in_ok-found.ensures.found (λ m next held.
    let len = c.in_ok-found.found.ok.0 in
    one_next (cells_at m c.args.self.now) (option_map place_named c.args.after) c.in_ok-found.found.items c.pop.result (next held)
    (λ some. subst (λ (n : ℕ). 0 < n) len (c.pop.ensures.variant.0 some))
    (λ d less. subst (λ (n : ℕ). c.pop.result ≡ Some (slice_index_or c.in_ok-found.found.items (n - 1) d)) len (c.pop.ensures.value d (subst (λ (n : ℕ). 0 < n) (sym len) less))))
