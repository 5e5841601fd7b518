use Rattle.std.proofs.Common.{◌≡◌, ℕ, length, subst, arith}
use Rattle.audit.specs.Histories.{AreAdded}
use Rattle.audit.proofs.KeptLists.{at_item}
use Rattle.audit.proofs.VersionMaps.{added_more, added_none}
use Rattle.audit.proofs.audit.histories.add_all.Goals as goal

pub loop-index-init : goal.loop-index-init
loop-index-init c = added_none c.args.histories.now c.args.writes.now c.args.stamp c.args.place

pub loop-index-preserved : goal.loop-index-preserved
loop-index-preserved c =
    added_more c.args.histories.now c.loop-index.histories c.add.new.histories c.args.writes.now c.args.stamp c.args.place c.loop-index.index c.index-writes-index.result
    (at_item c.args.writes.now c.loop-index.index c.index-writes-index.result c.loop-index-test.true c.index-writes-index.is) c.loop-index.invariant (c.in_ok-add.ensures c.if-not-branch.false)

pub returns : goal.returns
returns c = λ t.
    let all : c.loop-index.index ≡ length c.args.writes.now = let low = c.loop-index.auto.index-end in let high = c.loop-index-test.false in omega (arith, low, high) in
    subst (λ (n : ℕ). AreAdded c.args.histories.now c.loop-index.histories c.args.writes.now c.args.stamp c.args.place n) all c.loop-index.invariant
