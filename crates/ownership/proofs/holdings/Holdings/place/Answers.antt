use Rattle.std.proofs.Common.{List, rules, subst, sym}
use Rattle.std.proofs.lemmas.List.Sorted.{IsPartitionPoint-from_clause}
use Rattle.ownership.specs.Lists.{IsInOrder, IsPlaceOf, is_before}
use Rattle.ownership.specs.declared.holdings.Holding.{Holding}
use Rattle.ownership.proofs.Places.{parted, rises}
use Rattle.ownership.proofs.holdings.Holdings.place.Goals as goal

pub returns : goal.returns
returns c =
    let xs = c.deref.result.now in
    let same = c.deref.ensures.value in
    let order = subst (λ (l : List Holding). IsInOrder l) (sym same) c.args.self.now.order in
    let point = IsPartitionPoint-from_clause (is_before c.args.client c.args.number) xs c.partition_point.result c.partition_point.ensures.partitioned (parted c.args.client c.args.number xs (rises xs order)) (λ a r q k. search rules) in
    subst (λ (l : List Holding). IsPlaceOf c.args.client c.args.number l c.partition_point.result) same
    (record { bound = c.partition_point.ensures.bound; before = point.0; others = point.1 })
