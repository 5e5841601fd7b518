use Rattle.std.proofs.Common.{◌≡◌, ◌++◌, ◌∷◌, [], List, length, None, Option, Some, option_map, refl, ap, sym, subst, ◌∙◌, arith}
use Rattle.std.proofs.lemmas.List.{length-append}
use Rattle.cell_key.specs.Places.{AreNextCells, IsNextCell, Place, last_or, place_named}
use Rattle.rows.specs.Slots.{slot_cells}
use Rattle.rows.proofs.NextLists.{next_all, next_append, next_one}
use Rattle.rows.proofs.slots.next_cells.Goals as goal

pub returns-in-None-clause-found : goal.returns-in-None-clause-found
returns-in-None-clause-found c =
    let i = c.wanted.invariant in
    let cells = slot_cells c.args.slots.now.entries in
    let after = option_map place_named c.args.after in
    let last = c.last_place.ensures ∙ ap (last_or after) c.deref.ensures.value in
    let none = subst (λ (o : Option Place). IsNextCell cells o None) last (subst (λ (o : Option Place). IsNextCell cells (option_map place_named c.last_place.result) o) c.in-None.is c.in_ok-place.ensures) in
    next_all (IsNextCell cells) (length c.wanted.found.items) c.args.most after c.wanted.found.items refl i.few i.next (λ wanted. none)

pub wanted-preserved : goal.wanted-preserved
wanted-preserved c =
    let i = c.wanted.invariant in
    let cells = slot_cells c.args.slots.now.entries in
    let after = option_map place_named c.args.after in
    let found = c.wanted.found.items in
    let place : Place = c.in-Some.place in
    let last = c.last_place.ensures ∙ ap (last_or after) c.deref.ensures.value in
    let items : c.push.new.self.items ≡ found ++ place ∷ [] = c.in_ok-push-in-Some.ensures.items in
    let grown = ap length items ∙ length-append found (place ∷ []) in
    let some = subst (λ (o : Option Place). IsNextCell cells o (Some place)) last (subst (λ (o : Option Place). IsNextCell cells (option_map place_named c.last_place.result) o) c.in-Some.is c.in_ok-place.ensures) in
    record {
      few = omega (arith, grown, c.wanted-test.true, c.len.ensures);
      next = subst (λ (ps : List Place). AreNextCells cells after (length ps) ps) (sym items)
          (next_append (IsNextCell cells) (length found) 1 (length (found ++ place ∷ [])) after found (place ∷ []) refl (omega (arith, length-append found (place ∷ []))) i.next (next_one (IsNextCell cells) (last_or after found) place some));
    }
