use Rattle.std.proofs.Common.{◌≡◌, ◌∙◌, ◌≤◌, List, drop, length, take, sym, ap, subst, true, false, rules}
use Rattle.std.specs.List.Sorted.{IsNonDecreasingBy, IsPartitionPoint}
use Rattle.std.proofs.lemmas.List.Sorted.{IsPartitionPoint-from_clause}
use Rattle.sorted_file.specs.LockStamps.{IsLatestOf}
use Rattle.sorted_file.specs.declared.lock_stamps.LockStamp.{LockStamp}
use Rattle.sorted_file.proofs.LockTimes.{column_of, is_below, is_up_to, latest_in, parted_below, parted_up_to, sorted_take}
use Rattle.sorted_file.proofs.lock_stamps.LockStamps.latest.Goals as goal

pub returns : goal.returns
returns c =
    let xs = c.args.self.now in
    let to = c.partition_point-to.result in
    let from = c.partition_point-from.result in
    let items : c.deref.result.now ≡ xs = c.deref.ensures.value ∙ c.self.view_is in
    let again : c.deref-2.result.now ≡ xs = c.deref-2.ensures.value ∙ c.self.view_is in
    let sorted : IsNonDecreasingBy column_of xs = subst (IsNonDecreasingBy column_of) c.self.view_is c.self.invariant in
    let fits : to ≤ length xs = subst (λ (l : List LockStamp). to ≤ length l) items c.partition_point-to.ensures.bound in
    let front : c.split_at.result.0.now ≡ take to xs = c.split_at.ensures.front ∙ ap (take to) again in
    let part : c.split_at-2.result.1.now ≡ drop from (take to xs) = c.split_at-2.ensures.back ∙ ap (drop from) front in
    let up = IsPartitionPoint-from_clause (is_up_to c.args.column) c.deref.result.now to c.partition_point-to.ensures.partitioned (parted_up_to c.args.column c.deref.result.now (subst (IsNonDecreasingBy column_of) (sym items) sorted)) (λ a r q k. search rules) in
    let low = IsPartitionPoint-from_clause (is_below c.args.column) c.split_at.result.0.now from c.partition_point-from.ensures.partitioned (parted_below c.args.column c.split_at.result.0.now (subst (IsNonDecreasingBy column_of) (sym front) (sorted_take to xs fits sorted))) (λ a r q k. search rules) in
    let ups = subst (λ (l : List LockStamp). IsPartitionPoint (λ y. is_up_to c.args.column y ≡ true) (λ y. is_up_to c.args.column y ≡ false) l to) items up in
    let lows = subst (λ (l : List LockStamp). IsPartitionPoint (λ y. is_below c.args.column y ≡ true) (λ y. is_below c.args.column y ≡ false) l from) front low in
    latest_in xs c.args.column c.args.lo c.args.hi from to c.latest_of.result fits ups.0 ups.1 lows.0 lows.1
    (subst (λ (l : List LockStamp). IsLatestOf l c.args.lo c.args.hi c.latest_of.result) part c.latest_of.ensures)
