use Rattle.std.proofs.Common.{map, length, arith, subst, ap, ◌≡◌, ◌∙◌, List, ℕ}
use Rattle.std.specs.List.Sorted.{IsPermutation}
use Rattle.compaction.proofs.Falls.{back_whole}
use Rattle.compaction.proofs.Orders.{sorted_again}
use Rattle.compaction.proofs.Tied.{none_behind, some_within}
use Rattle.compaction.proofs.merge.step_first.Goals as goal

pub returns-clause-sorted : goal.returns-clause-sorted
returns-clause-sorted g c =
    let items = c.list_places.new.order.items in
    let part = c.put_in_order.new.order in
    let ys = c.step_all.new.sources in
    let lents = map g.S.Source.lent ys in
    let value : c.deref_mut.result.now ≡ items = c.deref_mut.ensures.value in
    let size : length part ≡ length items = c.put_in_order.auto.order ∙ ap length value in
    let all : length items ≡ length ys = c.in_ok-list_places.ensures.length in
    rw (back_whole part items c.list_places.new.order.len size c.list_places.new.order.ok.0)
    (sorted_again lents items part (λ place some. c.in_ok-list_places.ensures.whole place (some_within g.S.Source.lent ys place some)) c.in_ok-list_places.ensures.distinct
    (subst (λ (l : List ℕ). IsPermutation l part) value c.put_in_order.ensures.same) (c.put_in_order.ensures.rises (none_behind lents c.deref_mut.result.now _ (omega (arith, ap length value, all)))))
