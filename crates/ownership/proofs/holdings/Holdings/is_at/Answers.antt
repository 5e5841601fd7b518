use Rattle.std.proofs.Common.{List, ◌∙◌, ap, sym, slice_get}
use Rattle.ownership.specs.declared.holdings.Holding.{Holding}
use Rattle.ownership.proofs.Places.{found_at, holds_at, is_it, none_at, rises}
use Rattle.ownership.proofs.holdings.Holdings.is_at.Goals as goal

pub returns-in-Some : goal.returns-in-Some
returns-in-Some c =
    let xs = c.args.self.now.list.items in
    let read = ap (λ (l : List Holding). slice_get l c.args.place) (sym c.deref.ensures.value) ∙ found_at c.deref.result.now c.args.place c.in-Some.holding.now c.in-Some.ensures.lookup.3.0 c.in-Some.ensures.lookup.1 in
    c.is_number_of.ensures ∙ (ap (is_it c.args.client c.args.number) (sym read) ∙ holds_at c.args.client c.args.number xs c.args.place (rises xs c.args.self.now.order) c.requires)

pub returns-in-None : goal.returns-in-None
returns-in-None c =
    let xs = c.args.self.now.list.items in
    let read = ap (λ (l : List Holding). slice_get l c.args.place) (sym c.deref.ensures.value) ∙ none_at c.deref.result.now c.args.place c.in-None.ensures.lookup.3 in
    ap (is_it c.args.client c.args.number) (sym read) ∙ holds_at c.args.client c.args.number xs c.args.place (rises xs c.args.self.now.order) c.requires
