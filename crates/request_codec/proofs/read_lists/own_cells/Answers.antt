use Rattle.std.proofs.Common.{◌≡◌, ◌∷◌, [], ◌++◌, ◌-◌, ◌+◌, ℕ, List, map, length-append, subst, sym, ap, ◌∙◌, arith}
use Rattle.std.specs.List.{AllByRecursion, flat_map}
use Rattle.std.proofs.lemmas.List.{map_push}
use Rattle.si_model.specs.declared.replies.Cell.{Cell}
use Rattle.si_model.specs.Answers.{cell_named}
use Rattle.request_codec.specs.Fields.{cell_fields, FitsCell}
use Rattle.request_codec.proofs.Fields.{same_cell}
use Rattle.request_codec.proofs.Parts.{none_missing, one_less, parts_and, fit_and}
use Rattle.request_codec.proofs.read_lists.own_cells.Goals as goal

pub unreachable-requires : goal.unreachable-requires
unreachable-requires c = none_missing FitsCell cell_fields (c.args.count - c.loop.counter) (c.args.count - (c.loop.counter + 1)) c.loop.rest.now (omega (arith, c.loop-test.true)) c.loop.invariant.left c.in_default.ensures.none

pub loop-preserved : goal.loop-preserved
loop-preserved c =
    let i = c.loop.invariant in
    let found = c.in-Some.ensures in
    let part = cell_named c.in-Some.cell in
    let own = c.in-Some.cell in
    let before = map cell_named c.loop.cells.items in
    let after = c.take_name.new.rest.now in
    let pushed : map cell_named c.push.new.self.items ≡ before ++ cell_named own ∷ [] = rw c.in_ok-push.ensures.items (map_push cell_named c.loop.cells.items own) in
    record {
      left = one_less FitsCell cell_fields same_cell (c.args.count - c.loop.counter) (c.args.count - (c.loop.counter + 1)) part c.loop.rest.now after (omega (arith, c.loop-test.true)) found.fits found.found i.left;
      whole =
          i.whole ∙ ap (λ (t : List ℕ). flat_map cell_fields before ++ t) found.found
          ∙ sym (parts_and cell_fields before (cell_named own) after)
          ∙ ap (λ (xs : List (Cell)). flat_map cell_fields xs ++ after) (sym pushed);
      many = rw c.in_ok-push.ensures.items (omega (arith, i.many, length-append c.loop.cells.items (own ∷ [])));
      all_fit = subst (AllByRecursion FitsCell) (sym pushed) (fit_and FitsCell before (cell_named own) i.all_fit found.fits);
    }
