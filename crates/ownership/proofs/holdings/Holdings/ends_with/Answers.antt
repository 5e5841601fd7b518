use Rattle.std.proofs.Common.{◌∙◌, ◌-◌, List, ap, length, slice_get, sym}
use Rattle.ownership.specs.declared.holdings.Holding.{Holding}
use Rattle.ownership.proofs.Places.{last_is, rises}
use Rattle.ownership.proofs.holdings.Holdings.ends_with.Goals as goal

pub returns-in-Some : goal.returns-in-Some
returns-in-Some c = λ it.
    let xs = c.args.self.now.list.items in
    let read = ap (λ (l : List Holding). slice_get l (length l - 1)) (sym c.deref.ensures.value) ∙ sym c.in-Some.ensures.value in
    last_is c.args.client c.args.number xs c.in-Some.last.now (rises xs c.args.self.now.order) read (sym c.is_number_of.ensures ∙ it)
