use Rattle.sorted_file.proofs.LockTimes.{latest_more}
use Rattle.sorted_file.proofs.lock_stamps.latest_of.Goals as goal

pub loop-lock-preserved : goal.loop-lock-preserved
loop-lock-preserved c =
    latest_more c.args.locks.now c.loop-lock.lock-index c.args.lo c.args.hi (record { column = 0; stamp = 0 }) c.loop-lock.latest c.later-latest.result c.loop-lock-test.true c.loop-lock.invariant
    c.later-latest.ensures.within c.later-latest.ensures.one c.later-latest.ensures.after
