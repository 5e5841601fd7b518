use Rattle.std.proofs.Common.{rules, ap, ◌∙◌, ◌≡◌, get_or}
use Rattle.std.proofs.lemmas.Fn.{always_returns_same}
use Rattle.std.proofs.lemmas.List.{get_or_default}
use Rattle.txn_client.specs.CellOrder.{order_at}
use Rattle.txn_client.proofs.OrderedCells.{comparisons_rise, found, nowhere}
use Rattle.txn_client.proofs.cell_order.search.Goals as goal

pub returns-in-Ok-clause-found : goal.returns-in-Ok-clause-found
returns-in-Ok-clause-found c =
    let ws = c.args.writes.now in
    let x = c.args.cell.now in
    let at = c.in-Ok.ensures.position (order_at ws x) (always_returns_same _ _ _ (λ a r f called. search rules)) in
    let read : c.from.result ≡ get_or c.args.order.now c.in-Ok.place c.from.result = c.from.ensures ∙ get_or_default c.args.order.now c.in-Ok.place 0 c.from.result c.in-Ok.ensures.bound in
    found ws c.args.order.now x c.requires.order c.in-Ok.place c.from.result c.requires.few c.in-Ok.ensures.bound read (ap (order_at ws x) read ∙ at c.from.result)

pub returns-in-Err-clause-place : goal.returns-in-Err-clause-place
returns-in-Err-clause-place c =
    let parts = c.in-Err.ensures.position (order_at c.args.writes.now c.args.cell.now) (always_returns_same _ _ _ (λ a r f called. search rules)) in
    record { bound = c.in-Err.ensures.bound; parts = parts (comparisons_rise c.args.writes.now c.args.order.now c.args.cell.now c.requires.order) }

pub returns-in-Err-clause-none : goal.returns-in-Err-clause-none
returns-in-Err-clause-none c = nowhere c.args.writes.now c.args.order.now c.args.cell.now c.requires.order c.in-Err.place c.requires.few (returns-in-Err-clause-place c)
