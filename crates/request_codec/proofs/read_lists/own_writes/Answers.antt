use Rattle.std.proofs.Common.{◌≡◌, ◌∷◌, [], ◌++◌, ◌-◌, ◌+◌, ℕ, List, map, length-append, subst, sym, ap, ◌∙◌, arith}
use Rattle.std.specs.List.{AllByRecursion, flat_map}
use Rattle.std.proofs.lemmas.List.{map_push}
use Rattle.si_model.specs.Machine.{Change}
use Rattle.si_model.specs.declared.replies.Cell.{Cell}
use Rattle.si_model.specs.Answers.{write_named}
use Rattle.request_codec.specs.Operations.{write_fields, WriteFits}
use Rattle.request_codec.proofs.OperationParts.{same_write}
use Rattle.request_codec.proofs.Parts.{none_missing, one_less, parts_and, fit_and}
use Rattle.request_codec.proofs.read_lists.own_writes.Goals as goal

pub unreachable-requires : goal.unreachable-requires
unreachable-requires c = none_missing WriteFits write_fields (c.args.count - c.loop.counter) (c.args.count - (c.loop.counter + 1)) c.loop.rest.now (omega (arith, c.loop-test.true)) c.loop.invariant.left c.in_default.ensures.none

pub loop-preserved : goal.loop-preserved
loop-preserved c =
    let i = c.loop.invariant in
    let found = c.in-Some.ensures in
    let part = write_named c.in-Some.write in
    let own = c.in-Some.write in
    let before = map write_named c.loop.writes.items in
    let after = c.take_write.new.rest.now in
    let pushed : map write_named c.push.new.self.items ≡ before ++ write_named own ∷ [] = rw c.in_ok-push.ensures.items (map_push write_named c.loop.writes.items own) in
    record {
      left = one_less WriteFits write_fields same_write (c.args.count - c.loop.counter) (c.args.count - (c.loop.counter + 1)) part c.loop.rest.now after (omega (arith, c.loop-test.true)) found.fits found.found i.left;
      whole =
          i.whole ∙ ap (λ (t : List ℕ). flat_map write_fields before ++ t) found.found
          ∙ sym (parts_and write_fields before (write_named own) after)
          ∙ ap (λ (xs : List (Cell × Change)). flat_map write_fields xs ++ after) (sym pushed);
      many = rw c.in_ok-push.ensures.items (omega (arith, i.many, length-append c.loop.writes.items (own ∷ [])));
      all_fit = subst (AllByRecursion WriteFits) (sym pushed) (fit_and WriteFits before (write_named own) i.all_fit found.fits);
    }
