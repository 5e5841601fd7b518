-- The tablet's number of files decides.
use Rattle.std.proofs.Common.{arith}
use Rattle.row_atomic.proofs.RowAnswers.{found_there}
use Rattle.row_atomic.proofs.ChangedTablets.{not_bad, too_few, too_many}
use Rattle.row_atomic.proofs.cluster.Cluster.check_count.Goals as goal
use Rattle.row_atomic.proofs.cluster.Cluster.check_count.Goals.{then-count-lt2-via-then-count-lt2, then-count-lt2-via-else-count-lt2+then-count-file_count}

pub returns-then-count-lt2-clause-bad : goal.returns-then-count-lt2-clause-bad
returns-then-count-lt2-clause-bad g c =
    let at = rw (← c.self.view_is) at c.position-index.ensures in
    rw (← c.self.view_is) (elim c.then-count-lt2.branch [
      | then-count-lt2-via-then-count-lt2 w ↦ too_few c.self.inside.tablets.items c.args.tablet c.position-index.result c.args.count at.tablet at.number at.there w.if-count-lt2.true
      | then-count-lt2-via-else-count-lt2+then-count-file_count w ↦
          (let there = found_there c.self.inside.tablets.items c.position-index.result at.tablet w.index.result.now at.there w.index.ensures in
          let more = w.if-count-file_count.true in
          let is = w.file_count.ensures in
          too_many c.self.inside.tablets.items c.args.tablet c.position-index.result c.args.count w.index.result.now at.number there (omega arith))
    ])

pub returns-clause-within : goal.returns-clause-within
returns-clause-within g c =
    let at = rw (← c.self.view_is) at c.position-index.ensures in
    let there = found_there c.self.inside.tablets.items c.position-index.result at.tablet c.index.result.now at.there c.index.ensures in
    rw (← c.self.view_is) (not_bad c.self.inside.tablets.items c.args.tablet c.position-index.result c.args.count c.index.result.now at.number there c.if-count-lt2.false (let most = c.if-count-file_count.false in let is = c.file_count.ensures in omega arith))
