-- The tablet is at the index, and the name is free.
use Rattle.std.proofs.Common.{◌≡◌, ◌≤◌, ◌+◌, List, length, slice_index_or, subst}
use Rattle.tablet.specs.declared.tablet.Tablet.{Tablet}
use Rattle.std.specs.Vec.{vec_capacity}
use Rattle.tablet.specs.Views.{names_of}
use Rattle.row_atomic.proofs.ChangedTablets.{numbered_old}
use Rattle.row_atomic.proofs.RowAnswers.{found_there}
use Rattle.row_atomic.proofs.MergeSteps.{same_tablets}
use Rattle.row_atomic.proofs.cluster.Cluster.room_to_end.Goals as goal

pub returns-clause-can : goal.returns-clause-can
returns-clause-can g c =
    let stands = c.in-Some.ensures.stands in
    let ts = c.args.self.now.tablets in
    let ts_is = same_tablets c.args.self.now c.is_free.new.self _ c.self.view_is c.in_ok-is_free.ensures.rest in
    let index_is = subst (λ (xs : List Tablet). c.index.result.now ≡ slice_index_or xs c.in-Some.index c.index.result.now) ts_is c.index.ensures in
    let there = found_there ts c.in-Some.index stands.tablet c.index.result.now stands.there index_is in
    record {
      stands = stands;
      known = c.in-Some.ensures.known;
      used = rw (← c.merge.view_is) (c.in_ok-is_free.ensures.used c.if-not-branch.false);
      unlisted = rw (← c.merge.view_is) (c.in_ok-is_free.ensures.unlisted c.if-not-branch.false);
      unrooted = rw (← c.merge.view_is) (c.in_ok-is_free.ensures.unrooted c.if-not-branch.false);
      room = numbered_old ts c.in-Some.index c.index.result.now c.index.result.now there (λ t. length (names_of t) + 1 ≤ vec_capacity c.in_ok-names.names) c.args.merge.now.tablet stands.number c.in_ok-names.ensures.room;
    }
