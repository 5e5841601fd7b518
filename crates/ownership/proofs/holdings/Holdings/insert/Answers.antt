use Rattle.std.proofs.Common.{Bool, List, ◌∙◌, ◌∷◌, ◌++◌, [], ap, length, subst, sym, if◌then◌else◌}
use Rattle.ownership.specs.Lists.{IsInOrder, held_by, holds}
use Rattle.ownership.specs.declared.holdings.Holding.{Holding}
use Rattle.ownership.proofs.Places.{at_end, held_more, holds_more, in_order_more, new_one, none_at_end, ordered, rises}
use Rattle.ownership.proofs.holdings.Holdings.insert.Goals as goal

pub invariant_of-self : goal.invariant_of-self
invariant_of-self c =
    let xs = c.args.self.now.list.items in
    let it = new_one c.args.client c.args.number in
    let place = c.ends_before.ensures c.if-not-ends_before.false in
    let grown = c.push.ensures.items ∙ ap (λ (b : Bool). if b then xs ++ it ∷ [] else xs) (c.push.ensures.succeeds c.requires.room) ∙ sym (at_end it xs) in
    record {
      order = subst (λ (l : List Holding). IsInOrder l) (sym grown)
          (ordered _ (in_order_more c.args.client c.args.number xs (length xs) (rises xs c.args.self.now.order) place (none_at_end c.args.client c.args.number xs (rises xs c.args.self.now.order) place)));
    }

pub returns-clause-held : goal.returns-clause-held
returns-clause-held c = λ a b.
    let xs = c.args.self.now.list.items in
    let it = new_one c.args.client c.args.number in
    let grown = c.push.ensures.items ∙ ap (λ (b : Bool). if b then xs ++ it ∷ [] else xs) (c.push.ensures.succeeds c.requires.room) ∙ sym (at_end it xs) in
    ap (λ (l : List Holding). holds l a b) grown ∙ holds_more c.args.client c.args.number xs (length xs) a b

pub returns-clause-others : goal.returns-clause-others
returns-clause-others c = λ a ne.
    let xs = c.args.self.now.list.items in
    let it = new_one c.args.client c.args.number in
    let grown = c.push.ensures.items ∙ ap (λ (b : Bool). if b then xs ++ it ∷ [] else xs) (c.push.ensures.succeeds c.requires.room) ∙ sym (at_end it xs) in
    ap (held_by a) grown ∙ held_more c.args.client c.args.number a xs (length xs) ne
