-- The tablets are flushed in the order of their ends.
use Rattle.std.proofs.Common.{◌<◌, ◌≤◌, Err, length, refl, arith}
use Rattle.row_atomic.specs.Changes.{IsRefusalOf}
use Rattle.row_atomic.specs.Compactions.{minor}
use Rattle.row_atomic.proofs.Checkpoints.{flushes_tell, known_refusal, passed_on}
use Rattle.row_atomic.proofs.RootFlushes.{after_one, at_end, at_refusal, at_start, within_now}
use Rattle.row_atomic.proofs.cluster.Cluster.flush_each.Goals as goal

pub loop-index-init : goal.loop-index-init
loop-index-init g c = record {
  as_many = rw (← c.self.view_is) c.len-index-end.ensures.len;
  flushing = at_start g.F.Files.contents g.F.Files.faults c.args.self.now;
}

pub number_at-tablet-requires : goal.number_at-tablet-requires
number_at-tablet-requires g c =
    let less : c.loop-index.index < length c.args.self.now.places = let as_many = c.loop-index.invariant.as_many in omega arith in
    record { within = within_now g.F.Files.contents g.F.Files.faults c.args.self.now c.loop-index.self c.loop-index.index c.loop-index.invariant.flushing less }

pub loop-index-preserved : goal.loop-index-preserved
loop-index-preserved g c = record {
  as_many = c.loop-index.invariant.as_many;
  flushing = after_one g.F.Files.contents g.F.Files.faults c.args.self.now c.loop-index.self c.loop-index.index c.loop-index.invariant.flushing c.number_at-tablet.result c.number_at-tablet.ensures.at c.minor.new.self c.in_ok-minor.ensures;
}

pub returns-in_err-minor-clause-refusal : goal.returns-in_err-minor-clause-refusal
returns-in_err-minor-clause-refusal g c =
    let is = c.in_err-minor.ensures in
    passed_on (IsRefusalOf minor) c.from_residual.result c.in_err-minor.field-0.0 c.from_residual.ensures.1 (known_refusal _ is.upholds.0 (λ same. is.cause.due.0.unknown.0 same c.number_at-tablet.ensures.known))

pub returns-in_err-minor-clause-flushes : goal.returns-in_err-minor-clause-flushes
returns-in_err-minor-clause-flushes g c =
    at_refusal g.F.Files.contents g.F.Files.faults c.args.self.now c.loop-index.self c.loop-index.index c.loop-index.invariant.flushing c.number_at-tablet.result c.number_at-tablet.ensures.at c.minor.new.self c.minor.result c.from_residual.result c.in_err-minor.field-0.0 c.from_residual.ensures.1 c.in_err-minor.ensures

pub returns-clause-flushes : goal.returns-clause-flushes
returns-clause-flushes g c =
    let past : length c.args.self.now.places ≤ c.loop-index.index = let as_many = c.loop-index.invariant.as_many in omega arith in
    at_end g.F.Files.contents g.F.Files.faults c.args.self.now c.loop-index.self c.loop-index.index c.loop-index.invariant.flushing past

pub returns-in_err-minor-clause-keeps : goal.returns-in_err-minor-clause-keeps
returns-in_err-minor-clause-keeps g c = (flushes_tell g.F.Files.contents g.F.Files.faults _ _ _ _
    (at_refusal g.F.Files.contents g.F.Files.faults c.args.self.now c.loop-index.self c.loop-index.index c.loop-index.invariant.flushing c.number_at-tablet.result c.number_at-tablet.ensures.at c.minor.new.self c.minor.result (Err c.in_err-minor.field-0.0) c.in_err-minor.field-0.0 refl c.in_err-minor.ensures)).keeps

pub returns-clause-keeps : goal.returns-clause-keeps
returns-clause-keeps g c =
    let past : length c.args.self.now.places ≤ c.loop-index.index = let as_many = c.loop-index.invariant.as_many in omega arith in
    (flushes_tell g.F.Files.contents g.F.Files.faults _ _ _ _ (at_end g.F.Files.contents g.F.Files.faults c.args.self.now c.loop-index.self c.loop-index.index c.loop-index.invariant.flushing past)).keeps
