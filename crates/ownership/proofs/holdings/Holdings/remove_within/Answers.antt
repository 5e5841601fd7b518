use Rattle.std.proofs.Common.{List, ◌∙◌, ◌<◌, ap, arith, subst, sym}
use Rattle.ownership.specs.Lists.{held_by, holds}
use Rattle.ownership.specs.declared.holdings.Holding.{Holding}
use Rattle.ownership.proofs.Places.{held_less, holds_at, holds_less, is_there, rises}
use Rattle.ownership.proofs.holdings.Holdings.remove_within.Goals as goal

pub remove-requires : goal.remove-requires
remove-requires c =
    let xs = c.args.self.now.list.items in
    let it = holds_at c.args.client c.args.number xs c.place-place.result (rises xs c.args.self.now.order) c.place-place.ensures ∙ (sym c.is_at.ensures ∙ c.if-is_at.true) in
    let less = is_there c.args.client c.args.number xs c.place-place.result it in
    omega (arith, less, c.args.self.now.list.ok.0)

pub returns-then-is_at-clause-held : goal.returns-then-is_at-clause-held
returns-then-is_at-clause-held c = λ a b.
    let xs = c.args.self.now.list.items in
    let it = holds_at c.args.client c.args.number xs c.place-place.result (rises xs c.args.self.now.order) c.place-place.ensures ∙ (sym c.is_at.ensures ∙ c.if-is_at.true) in
    ap (λ (l : List Holding). holds l a b) c.remove.ensures.items
    ∙ holds_less c.args.client c.args.number xs c.place-place.result (rises xs c.args.self.now.order) c.place-place.ensures it a b

pub returns-then-is_at-clause-fewer : goal.returns-then-is_at-clause-fewer
returns-then-is_at-clause-fewer c = λ its.
    let xs = c.args.self.now.list.items in
    let it = holds_at c.args.client c.args.number xs c.place-place.result (rises xs c.args.self.now.order) c.place-place.ensures ∙ its in
    subst (λ (l : List Holding). held_by c.args.client l < held_by c.args.client xs) (sym c.remove.ensures.items)
    (held_less c.args.client c.args.number xs c.place-place.result it)
