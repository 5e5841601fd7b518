use Rattle.std.proofs.Common.{◌≡◌, ◌∷◌, [], ◌++◌, ◌-◌, ◌+◌, ℕ, List, map, length-append, subst, sym, ap, ◌∙◌, arith}
use Rattle.std.specs.List.{AllByRecursion}
use Rattle.std.proofs.lemmas.List.{map_push}
use Rattle.si_model.specs.Messages.{Item}
use Rattle.si_model.specs.Replies.{item_of}
use Rattle.si_model.specs.declared.replies.Cell.{Cell}
use Rattle.request_codec.specs.Scans.{item_fields, items_fields, lent_item, ItemFits}
use Rattle.request_codec.proofs.Scans.{none_missing, one_less, items_and, fit_and}
use Rattle.request_codec.proofs.read_items.own_items.Goals as goal

pub unreachable-requires : goal.unreachable-requires
unreachable-requires c = none_missing (c.args.count - c.loop.counter) (c.args.count - (c.loop.counter + 1)) c.loop.rest.now (omega (arith, c.loop-test.true)) c.loop.invariant.left c.in_default.ensures.none

pub loop-preserved : goal.loop-preserved
loop-preserved c =
    let i = c.loop.invariant in
    let found = c.in-Some.ensures in
    let item = lent_item c.in-Some.item in
    let own = c.in_ok-own_item.field-0 in
    let before = map item_of c.loop.items.items in
    let after = c.take_item.new.rest.now in
    let same : item_of own ≡ item = c.in_ok-own_item.ensures.ok in
    let pushed : map item_of c.push.new.self.items ≡ before ++ item_of own ∷ [] = rw c.in_ok-push.ensures.items (map_push item_of c.loop.items.items own) in
    record {
      left = one_less (c.args.count - c.loop.counter) (c.args.count - (c.loop.counter + 1)) item c.loop.rest.now after (omega (arith, c.loop-test.true)) found.fits found.found i.left;
      whole =
          i.whole ∙ ap (λ (t : List ℕ). items_fields before ++ t) (found.found ∙ ap (λ (x : Cell × Item). item_fields x ++ after) (sym same))
          ∙ sym (items_and before (item_of own) after)
          ∙ ap (λ (xs : List (Cell × Item)). items_fields xs ++ after) (sym pushed);
      many = rw c.in_ok-push.ensures.items (omega (arith, i.many, length-append c.loop.items.items (own ∷ [])));
      fit = subst (AllByRecursion ItemFits) (sym pushed) (fit_and before (item_of own) i.fit (subst ItemFits (sym same) found.fits));
    }
