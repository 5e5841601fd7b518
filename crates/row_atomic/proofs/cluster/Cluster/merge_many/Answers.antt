-- The tablets are checked in the order of their ends.
use Rattle.std.proofs.Common.{◌<◌, ◌≤◌, length, arith}
use Rattle.row_atomic.proofs.Tiers.{after_one, at_end, at_start, within_now}
use Rattle.row_atomic.proofs.cluster.Cluster.merge_many.Goals as goal

pub loop-index-init : goal.loop-index-init
loop-index-init g c = record {
  as_many = rw (← c.self.view_is) c.len-index-end.ensures.len;
  reached = at_start g.F.Files.contents g.F.Files.faults c.args.policy c.args.self.now;
}

pub number_at-tablet-requires : goal.number_at-tablet-requires
number_at-tablet-requires g c =
    let less : c.loop-index.index < length c.args.self.now.places = let as_many = c.loop-index.invariant.as_many in omega arith in
    record { within = within_now g.F.Files.contents g.F.Files.faults c.args.policy c.args.self.now c.loop-index.self c.loop-index.index c.loop-index.invariant.reached less }

pub loop-index-preserved : goal.loop-index-preserved
loop-index-preserved g c = record {
  as_many = c.loop-index.invariant.as_many;
  reached = after_one g.F.Files.contents g.F.Files.faults c.args.policy c.args.self.now c.loop-index.self c.loop-index.index c.loop-index.invariant.reached
      c.number_at-tablet.result c.merge_newest.new.self c.number_at-tablet.ensures.at c.merge_newest.ensures.merges c.merge_newest.ensures.keeps;
}

pub returns-clause-merges : goal.returns-clause-merges
returns-clause-merges g c =
    let past : length c.args.self.now.places ≤ c.loop-index.index = let as_many = c.loop-index.invariant.as_many in omega arith in
    at_end g.F.Files.contents g.F.Files.faults c.args.policy c.args.self.now c.loop-index.self c.loop-index.index c.loop-index.invariant.reached past

pub returns-clause-keeps : goal.returns-clause-keeps
returns-clause-keeps g c = c.loop-index.invariant.reached.keeps
