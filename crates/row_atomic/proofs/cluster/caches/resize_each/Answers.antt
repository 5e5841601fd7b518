-- Each tablet stays the same.
use Rattle.std.proofs.Common.{◌<◌, length, arith}
use Rattle.row_atomic.proofs.EmptiedCaches.{all_same, same_set}
use Rattle.row_atomic.proofs.cluster.caches.resize_each.Goals as goal

pub loop-tablet-init : goal.loop-tablet-init
loop-tablet-init c = record { same = λ told. all_same told c.args.tablets.now }

pub loop-tablet-preserved : goal.loop-tablet-preserved
loop-tablet-preserved c =
    let below : c.loop-tablet.tablet-index < length c.loop-tablet.tablets = omega arith in
    record { same = λ told. same_set told c.args.tablets.now c.loop-tablet.tablets c.loop-tablet.tablet-index c.tablet-item.result c.resize_caches.new.self below (c.loop-tablet.invariant.same told) (c.resize_caches.ensures.same told) }

pub returns : goal.returns
returns c = c.loop-tablet.invariant.same
