-- The tablet gives the count, and has at most 64 files.
use Rattle.std.proofs.Common.{None, arith}
use Rattle.row_atomic.proofs.ChangedTablets.{numbered_at}
use Rattle.row_atomic.proofs.FileNames.{placed_names}
use Rattle.row_atomic.proofs.RowAnswers.{found_there}
use Rattle.row_atomic.proofs.cluster.Cluster.merge_count.Goals as goal

pub overflow_cast-result : goal.overflow_cast-result
overflow_cast-result g c =
    let at = rw (← c.self.view_is) at c.position-index.ensures in
    let there = found_there c.self.inside.tablets.items c.position-index.result at.tablet c.index.result.now at.there c.index.ensures in
    let numbered = numbered_at c.self.inside.tablets.items c.args.tablet c.position-index.result c.index.result.now at.number there in
    let has = rw (← c.self.view_is) at c.requires.known in
    let matched = c.self.invariant.0 in
    let few = (placed_names c.self.inside.next_name c.self.inside.tablets.items c.args.tablet c.index.result.now numbered None c.self.inside.table matched.placed matched.files has).few in
    let within = c.merge_count.ensures.within in
    omega (arith, few, within)

pub returns : goal.returns
returns g c =
    let at = rw (← c.self.view_is) at c.position-index.ensures in
    let there = found_there c.self.inside.tablets.items c.position-index.result at.tablet c.index.result.now at.there c.index.ensures in
    rw (← c.self.view_is) record {
      tablet = c.index.result.now;
      numbered = numbered_at c.self.inside.tablets.items c.args.tablet c.position-index.result c.index.result.now at.number there;
      such = c.merge_count.ensures.count;
    }
