-- The tablets are flushed, and then the root is put.
use Rattle.std.proofs.Common.{inl}
use Rattle.row_atomic.specs.Changes.{IsRefusalOf}
use Rattle.row_atomic.specs.Commands.{done_of}
use Rattle.row_atomic.specs.Compactions.{minor}
use Rattle.row_atomic.proofs.Checkpoints.{both_tell, done_undamaged, flushes_tell, passed_on, put_tells, refused_tells, when_refused}
use Rattle.row_atomic.proofs.RestedClusters.{are_flushed, flushed_then, on_refused, rests_after, stays_or_rests, when_done, when_refused as if_refused, when_true}
use Rattle.row_atomic.proofs.RootFlushes.{checkpointed, not_flushed}
use Rattle.row_atomic.proofs.cluster.Cluster.checkpoint.Goals as goal

pub returns-in_err-flush_each-clause-steps : goal.returns-in_err-flush_each-clause-steps
returns-in_err-flush_each-clause-steps g c = not_flushed g.F.Files.contents g.F.Files.faults c.args.top c.args.floor c.args.self.now c.flush_each.new.self c.from_residual.result c.in_err-flush_each.field-0.0 c.from_residual.ensures.1 c.in_err-flush_each.ensures.flushes

pub returns-clause-steps : goal.returns-clause-steps
returns-clause-steps g c = checkpointed g.F.Files.contents g.F.Files.faults c.args.top c.args.floor c.args.self.now c.flush_each.new.self c.put_root.new.self (done_of c.put_root.result) c.in_ok-flush_each.ensures.flushes c.put_root.ensures.puts c.put_root.ensures.rest c.put_root.ensures.faults

pub returns-clause-flushed : goal.returns-clause-flushed
returns-clause-flushed g c = when_true c.put_root.result (flushed_then g.F.Files.contents g.F.Files.faults c.args.top c.args.floor c.flush_each.new.self c.put_root.new.self c.put_root.ensures.rest (are_flushed g.F.Files.contents g.F.Files.faults c.args.self.now c.flush_each.new.self c.in_ok-flush_each.ensures.flushes))

pub returns-clause-rests : goal.returns-clause-rests
returns-clause-rests g c =
    when_done c.put_root.result
    (λ rests. rests_after g.F.Files.contents g.F.Files.faults c.args.top c.args.floor c.args.self.now c.flush_each.new.self c.put_root.new.self c.in_ok-flush_each.ensures.flushes
    (rests (are_flushed g.F.Files.contents g.F.Files.faults c.args.self.now c.flush_each.new.self c.in_ok-flush_each.ensures.flushes)))
    c.put_root.ensures.rests

pub returns-in_err-flush_each-clause-keeps : goal.returns-in_err-flush_each-clause-keeps
returns-in_err-flush_each-clause-keeps g c = (flushes_tell g.F.Files.contents g.F.Files.faults _ _ _ _ c.in_err-flush_each.ensures.flushes).keeps

pub returns-in_err-flush_each-clause-faults : goal.returns-in_err-flush_each-clause-faults
returns-in_err-flush_each-clause-faults g c =
    (refused_tells g.F.Files.contents g.F.Files.faults _ _ c.from_residual.result c.in_err-flush_each.field-0.0 c.from_residual.ensures.1 (flushes_tell g.F.Files.contents g.F.Files.faults _ _ _ _ c.in_err-flush_each.ensures.flushes)).telling

pub returns-in_err-flush_each-clause-undamaged : goal.returns-in_err-flush_each-clause-undamaged
returns-in_err-flush_each-clause-undamaged g c =
    done_undamaged g.F.Files.contents g.F.Files.faults _ _ c.from_residual.result
    (refused_tells g.F.Files.contents g.F.Files.faults _ _ c.from_residual.result c.in_err-flush_each.field-0.0 c.from_residual.ensures.1 (flushes_tell g.F.Files.contents g.F.Files.faults _ _ _ _ c.in_err-flush_each.ensures.flushes))

pub returns-in_err-flush_each-clause-refusal : goal.returns-in_err-flush_each-clause-refusal
returns-in_err-flush_each-clause-refusal g c = passed_on (IsRefusalOf minor) c.from_residual.result c.in_err-flush_each.field-0.0 c.from_residual.ensures.1 c.in_err-flush_each.ensures.refusal

pub returns-clause-keeps : goal.returns-clause-keeps
returns-clause-keeps g c =
    (both_tell g.F.Files.contents g.F.Files.faults _ _ _ _ (flushes_tell g.F.Files.contents g.F.Files.faults _ _ _ _ c.in_ok-flush_each.ensures.flushes)
    (put_tells g.F.Files.contents g.F.Files.faults _ _ _ _ _ c.put_root.ensures.puts c.put_root.ensures.keeps c.put_root.ensures.faults)).keeps

pub returns-clause-faults : goal.returns-clause-faults
returns-clause-faults g c =
    (both_tell g.F.Files.contents g.F.Files.faults _ _ _ _ (flushes_tell g.F.Files.contents g.F.Files.faults _ _ _ _ c.in_ok-flush_each.ensures.flushes)
    (put_tells g.F.Files.contents g.F.Files.faults _ _ _ _ _ c.put_root.ensures.puts c.put_root.ensures.keeps c.put_root.ensures.faults)).telling

pub returns-clause-undamaged : goal.returns-clause-undamaged
returns-clause-undamaged g c =
    done_undamaged g.F.Files.contents g.F.Files.faults _ _ c.put_root.result
    (both_tell g.F.Files.contents g.F.Files.faults _ _ _ _ (flushes_tell g.F.Files.contents g.F.Files.faults _ _ _ _ c.in_ok-flush_each.ensures.flushes)
    (put_tells g.F.Files.contents g.F.Files.faults _ _ _ _ _ c.put_root.ensures.puts c.put_root.ensures.keeps c.put_root.ensures.faults))

pub returns-clause-refusal : goal.returns-clause-refusal
returns-clause-refusal g c = when_refused g.F.Files.contents c.args.top c.args.floor c.flush_each.new.self _ c.put_root.result c.put_root.ensures.puts

pub returns-in_err-flush_each-clause-whole : goal.returns-in_err-flush_each-clause-whole
returns-in_err-flush_each-clause-whole g c = λ replaces. on_refused c.from_residual.result c.in_err-flush_each.field-0.0 c.from_residual.ensures.1
    (inl (λ root cells. (c.root_outlasts_flushes.ensures root cells _ _).1 _ _ c.in_err-flush_each.ensures.flushes))

pub returns-clause-whole : goal.returns-clause-whole
returns-clause-whole g c = λ replaces.
    if_refused c.put_root.result
    (stays_or_rests g.F.Files.contents g.F.Files.faults c.root_is_stored.ensures c.root_outlasts_flushes.ensures c.args.top c.args.floor c.args.self.now c.flush_each.new.self c.put_root.new.self
    c.in_ok-flush_each.ensures.flushes c.put_root.ensures.rest)
    (c.put_root.ensures.whole replaces)
