use Rattle.std.proofs.Common.{List, ◌∙◌, ◌-◌, ◌<◌, ap, length, subst, sym, take}
use Rattle.ownership.specs.Lists.{held_by, holds}
use Rattle.ownership.specs.declared.holdings.Holding.{Holding}
use Rattle.ownership.proofs.Places.{held_less, holds_at, holds_less, rises, shortened}
use Rattle.ownership.proofs.holdings.Holdings.remove.Goals as goal

pub returns-clause-held : goal.returns-clause-held
returns-clause-held c = λ a b.
    let xs = c.args.self.now.list.items in
    let last = c.ends_with.ensures c.if-not-ends_with.false in
    let it = holds_at c.args.client c.args.number xs (length xs - 1) (rises xs c.args.self.now.order) last.place ∙ last.held in
    let less = c.pop.ensures.rest ∙ (ap (λ n. take (n - 1) xs) c.args.self.now.list.ok.0 ∙ shortened c.args.client c.args.number xs last.held) in
    ap (λ (l : List Holding). holds l a b) less
    ∙ holds_less c.args.client c.args.number xs (length xs - 1) (rises xs c.args.self.now.order) last.place it a b

pub returns-clause-fewer : goal.returns-clause-fewer
returns-clause-fewer c = λ its.
    let xs = c.args.self.now.list.items in
    let last = c.ends_with.ensures c.if-not-ends_with.false in
    let it = holds_at c.args.client c.args.number xs (length xs - 1) (rises xs c.args.self.now.order) last.place ∙ last.held in
    let less = c.pop.ensures.rest ∙ (ap (λ n. take (n - 1) xs) c.args.self.now.list.ok.0 ∙ shortened c.args.client c.args.number xs last.held) in
    subst (λ (l : List Holding). held_by c.args.client l < held_by c.args.client xs) (sym less)
    (held_less c.args.client c.args.number xs (length xs - 1) it)
