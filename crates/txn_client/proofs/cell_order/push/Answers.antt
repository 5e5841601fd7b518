use Rattle.std.proofs.Common.{◌≡◌, ◌++◌, ◌∷◌, [], ℕ, List, length, ap, ◌∙◌, arith}
use Rattle.std.specs.List.{insert}
use Rattle.std.specs.Vec.{vec_len}
use Rattle.txn_client.proofs.OrderedCells.{pushed, pushed_first}
use Rattle.txn_client.proofs.cell_order.push.Goals as goal

pub returns-then-count-lt-FEW-clause-order : goal.returns-then-count-lt-FEW-clause-order
returns-then-count-lt-FEW-clause-order c =
    let long : vec_len c.args.writes.now ≡ length c.args.writes.now.items = c.args.writes.now.ok.0 in
    rw c.in_ok-push.ensures.items (pushed_first c.args.writes.now.items c.args.order.now.items c.args.write (omega arith) c.requires.order)

pub returns-clause-order : goal.returns-clause-order
returns-clause-order c =
    let writes : c.push-2.new.self.items ≡ c.args.writes.now.items ++ c.args.write ∷ [] = c.in_ok-push-2.ensures.items in
    let order : c.insert.new.self.items ≡ insert c.args.order.now.items c.args.place (vec_len c.args.writes.now) =
    c.in_ok-insert.ensures.items ∙ ap (λ (l : List ℕ). insert l c.args.place c.len-count.result) c.in_ok-reserve.ensures.items ∙ ap (insert c.args.order.now.items c.args.place) c.len-count.ensures in
    let long : vec_len c.args.writes.now ≡ length c.args.writes.now.items = c.args.writes.now.ok.0 in
    rw (writes, order) (pushed c.args.writes.now.items c.args.order.now.items c.args.write c.args.place (vec_len c.args.writes.now) long (omega arith) c.requires.place c.requires.order)
