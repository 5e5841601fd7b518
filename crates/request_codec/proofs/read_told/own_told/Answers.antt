use Rattle.std.proofs.Common.{◌≡◌, ◌∷◌, [], ◌++◌, ◌-◌, ◌+◌, ℕ, List, Option, option_map, map, length-append, subst, sym, ap, ◌∙◌, arith}
use Rattle.std.specs.List.{AllByRecursion, flat_map}
use Rattle.std.proofs.lemmas.List.{map_push}
use Rattle.si_model.specs.Messages.{Item}
use Rattle.si_model.specs.Answers.{told_item}
use Rattle.request_codec.specs.Answers.{told_fields, ToldFits}
use Rattle.request_codec.specs.Scans.{lent_said}
use Rattle.request_codec.proofs.Told.{same_told}
use Rattle.request_codec.proofs.Parts.{none_missing, one_less, parts_and, fit_and}
use Rattle.request_codec.proofs.read_told.own_told.Goals as goal

pub unreachable-requires : goal.unreachable-requires
unreachable-requires c = none_missing ToldFits told_fields (c.args.count - c.loop.counter) (c.args.count - (c.loop.counter + 1)) c.loop.rest.now (omega (arith, c.loop-test.true)) c.loop.invariant.left c.in_default.ensures.none

pub loop-preserved : goal.loop-preserved
loop-preserved c =
    let i = c.loop.invariant in
    let found = c.in-Some.ensures in
    let part = option_map lent_said c.in-Some.told in
    let own = c.in_ok-own_said.field-0 in
    let before = map told_item c.loop.found.items in
    let after = c.take_told.new.rest.now in
    let same : told_item own ≡ part = c.in_ok-own_said.ensures.ok in
    let pushed : map told_item c.push.new.self.items ≡ before ++ told_item own ∷ [] = rw c.in_ok-push.ensures.items (map_push told_item c.loop.found.items own) in
    record {
      left = one_less ToldFits told_fields same_told (c.args.count - c.loop.counter) (c.args.count - (c.loop.counter + 1)) part c.loop.rest.now after (omega (arith, c.loop-test.true)) found.fits found.found i.left;
      whole =
          i.whole ∙ ap (λ (t : List ℕ). flat_map told_fields before ++ t) (found.found ∙ ap (λ (x : Option Item). told_fields x ++ after) (sym same))
          ∙ sym (parts_and told_fields before (told_item own) after)
          ∙ ap (λ (xs : List (Option Item)). flat_map told_fields xs ++ after) (sym pushed);
      many = rw c.in_ok-push.ensures.items (omega (arith, i.many, length-append c.loop.found.items (own ∷ [])));
      all_fit = subst (AllByRecursion ToldFits) (sym pushed) (fit_and ToldFits before (told_item own) i.all_fit (subst ToldFits (sym same) found.fits));
    }
