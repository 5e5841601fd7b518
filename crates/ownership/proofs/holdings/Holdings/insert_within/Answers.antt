use Rattle.std.proofs.Common.{Bool, List, ◌∙◌, ap, subst, sym, if◌then◌else◌}
use Rattle.std.specs.List.{insert}
use Rattle.ownership.specs.Lists.{IsInOrder, held_by, holds}
use Rattle.ownership.specs.declared.holdings.Holding.{Holding}
use Rattle.ownership.proofs.Places.{held_more, holds_more, in_order_more, ordered, rises}
use Rattle.ownership.proofs.holdings.Holdings.insert_within.Goals as goal

pub invariant_of-self : goal.invariant_of-self
invariant_of-self c =
    let xs = c.args.self.now.list.items in
    let place = c.place-place.result in
    let grown = c.insert.ensures.items ∙ ap (λ (b : Bool). if b then insert xs place (record { client = c.args.client; number = c.args.number }) else xs) (c.insert.ensures.succeeds c.requires.room) in
    record {
      order = subst (λ (l : List Holding). IsInOrder l) (sym grown)
          (ordered _ (in_order_more c.args.client c.args.number xs place (rises xs c.args.self.now.order) c.place-place.ensures (sym c.is_at.ensures ∙ c.if-is_at.false)));
    }

pub returns-clause-held : goal.returns-clause-held
returns-clause-held c = λ a b.
    let xs = c.args.self.now.list.items in
    let place = c.place-place.result in
    let grown = c.insert.ensures.items ∙ ap (λ (b : Bool). if b then insert xs place (record { client = c.args.client; number = c.args.number }) else xs) (c.insert.ensures.succeeds c.requires.room) in
    ap (λ (l : List Holding). holds l a b) grown ∙ holds_more c.args.client c.args.number xs place a b

pub returns-clause-others : goal.returns-clause-others
returns-clause-others c = λ a ne.
    let xs = c.args.self.now.list.items in
    let place = c.place-place.result in
    let grown = c.insert.ensures.items ∙ ap (λ (b : Bool). if b then insert xs place (record { client = c.args.client; number = c.args.number }) else xs) (c.insert.ensures.succeeds c.requires.room) in
    ap (held_by a) grown ∙ held_more c.args.client c.args.number a xs place ne
