use Rattle.std.proofs.Common.{◌≡◌, ◌≤◌, ◌<◌, ◌+◌, ◌-◌, ◌++◌, ◌∷◌, ◌∙◌, [], ℕ, zero, suc, List, Option, add-one, length, take, get_or, option_map, refl, ap, sym, subst, arith}
use Rattle.std.specs.List.{AllByRecursion}
use Rattle.std.proofs.Math.Seq.{take-suc}
use borrow.Author.Tests.{ltb-true}
use Rattle.std.proofs.lemmas.List.{length-map, map-append}
use Rattle.cell_key.specs.Places.{AreNext, AreNextCells, IsNextCell, Place, place_named}
use Rattle.rows.specs.Batches.{HasNewest, place_in, places_in}
use Rattle.rows.specs.Slots.{slot_cells}
use Rattle.rows.proofs.PushedLists.{each_push}
use Rattle.rows.proofs.NextLists.{next_ended}
use Rattle.rows.proofs.slots.next_versions.Goals as goal

one_more : (xs : List Place) (i : ℕ) (x : Place) → i < length xs → x ≡ get_or xs i x → take (i + 1) xs ≡ take i xs ++ x ∷ []
one_more xs i x l is = rw add-one (take-suc xs i x l ∙ ap (λ y. take i xs ++ y ∷ []) (sym is))

take_all : (xs : List Place) (i : ℕ) → length xs ≤ i → take i xs ≡ xs
take_all [] zero few = refl
take_all [] (suc i) few = refl
take_all (x ∷ xs) zero few = absurd (omega (arith, few))
take_all (x ∷ xs) (suc i) few = ap (λ ys. x ∷ ys) (take_all xs i (omega (arith, few)))

so_many : (IsNext : Option Place → Option Place → Type 0) (n most : ℕ) (after : Option Place) (places : List Place) → length places ≡ n → AreNext IsNext after most places → AreNext IsNext after n places
so_many IsNext n most after [] len next = λ wanted. absurd (omega (arith, wanted, len))
so_many IsNext n most after (place ∷ places) len next = (omega (arith, len), next.1, so_many IsNext (n - 1) (most - 1) _ places (omega (arith, len)) next.2)

pub loop-place-preserved : goal.loop-place-preserved
loop-place-preserved c =
    let i = c.loop-place.invariant in
    let cells = c.loop-place.cells.items in
    let one = c.in_ok-versions.versions in
    let places = c.deref-place-items.result.now in
    let at = c.loop-place.place-index in
    let items : c.push.new.self.items ≡ cells ++ one ∷ [] = c.in_ok-push.ensures.items in
    record {
      places =
          ap places_in items
          ∙ map-append place_in cells (one ∷ [])
          ∙ ap (λ (ps : List Place). ps ++ place_in one ∷ []) i.places
          ∙ ap (λ (p : Place). take at places ++ p ∷ []) c.in_ok-versions.ensures.place
          ∙ sym (one_more places at c.place-item.result c.loop-place-test.true c.place-item.is);
      newest = subst (AllByRecursion (HasNewest (slot_cells c.args.slots.now.entries) c.args.hi)) (sym items) (each_push _ cells one i.newest c.in_ok-versions.ensures.newest);
    }

pub returns-clause-found : goal.returns-clause-found
returns-clause-found c =
    let i = c.loop-place.invariant in
    let cells = slot_cells c.args.slots.now.entries in
    let start = option_map place_named c.args.after in
    let found = c.loop-place.cells.items in
    let all = i.places ∙ take_all c.deref-place-items.result.now c.loop-place.place-index c.loop-place-test.false ∙ c.deref-place-items.ensures.value in
    let next = subst (λ (ps : List Place). AreNextCells cells start c.args.limits.cells ps) (sym all) c.in_ok-places.ensures.found in
    let len = length-map found place_in in
    record {
      next = so_many (IsNextCell cells) (length found) c.args.limits.cells start (places_in found) len next;
      newest = i.newest;
      last = λ last. next_ended (IsNextCell cells) c.args.limits.cells start (places_in found) next (let less : c.len.result < c.args.limits.cells = ltb-true _ _ last in omega (arith, less, len, c.len.ensures, c.loop-place.cells.ok.0));
    }
