-- The tablets are checked in the order of their ends.
use Rattle.std.proofs.Common.{◌<◌, ◌≤◌, length, sym, ◌∙◌, arith}
use Rattle.row_atomic.proofs.Flushes.{after_none, after_one, at_end, at_start, within_now}
use Rattle.row_atomic.proofs.cluster.Cluster.compact_each_full.Goals as goal
use Rattle.row_atomic.proofs.cluster.Cluster.compact_each_full.Goals.{then-is_full, else-is_full}

pub loop-index-init : goal.loop-index-init
loop-index-init g c = record {
  as_many = rw (← c.self.view_is) c.len-index-end.ensures.len;
  reached = at_start g.F.Files.contents g.F.Files.faults c.args.limits c.args.self.now (rw (← c.self.view_is) c.len-index-end.ensures.table);
}

pub number_at-tablet-requires : goal.number_at-tablet-requires
number_at-tablet-requires g c =
    let less : c.loop-index.index < length c.args.self.now.places = let as_many = c.loop-index.invariant.as_many in omega arith in
    record { within = within_now g.F.Files.contents g.F.Files.faults c.args.limits c.args.self.now c.loop-index.self c.loop-index.index c.loop-index.invariant.reached less }

pub loop-index-preserved : goal.loop-index-preserved
loop-index-preserved g c = record {
  as_many = c.loop-index.invariant.as_many;
  reached =
      elim c.if-is_full.branch [
        | then-is_full w ↦
            rw w.self-is (after_one g.F.Files.contents g.F.Files.faults c.args.limits c.args.self.now c.loop-index.self c.loop-index.index c.loop-index.invariant.reached
            c.number_at-tablet.result c.number_at-tablet.ensures.at w.minor.new.self w.minor.result (sym c.is_full.ensures ∙ w.if-is_full.true) w.minor.ensures)
        | else-is_full w ↦
            rw w.self-is (after_none g.F.Files.contents g.F.Files.faults c.args.limits c.args.self.now c.loop-index.self c.loop-index.index c.loop-index.invariant.reached
            c.number_at-tablet.result c.number_at-tablet.ensures.at (sym c.is_full.ensures ∙ w.if-is_full.false))
      ];
}

pub returns-clause-compacts : goal.returns-clause-compacts
returns-clause-compacts g c =
    let past : length c.args.self.now.places ≤ c.loop-index.index = let as_many = c.loop-index.invariant.as_many in omega arith in
    at_end g.F.Files.contents g.F.Files.faults c.args.limits c.args.self.now c.loop-index.self c.loop-index.index c.loop-index.invariant.reached past

pub returns-clause-keeps : goal.returns-clause-keeps
returns-clause-keeps g c = c.loop-index.invariant.reached.keeps
