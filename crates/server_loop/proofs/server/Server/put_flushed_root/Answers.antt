-- After a flush a put of the root is a checkpoint.
use Rattle.std.proofs.Common.{Err, Ok, refl}
use Rattle.server_loop.proofs.Checkpoints.{put_acts}
use Rattle.server_loop.proofs.UpkeepSteps.{flush_stores, still_shown}
use Rattle.server_loop.proofs.server.Server.put_flushed_root.Goals as goal

pub returns-in-Ok-clause-checkpoints : goal.returns-in-Ok-clause-checkpoints
returns-in-Ok-clause-checkpoints g c = let o = c.in-Ok.ensures in λ first flushed.
    put_acts g.F.Files g.M.MarkStore c.keeps_following.ensures c.root_is_stored.ensures c.root_outlasts_flushes.ensures first c.args.self.now c.put_root.new.self c.top-top.result c.greatest_floor-floor.result (Ok tt) c.top-top.ensures.top c.greatest_floor-floor.ensures.floor flushed o.puts o.rest o.rests o.whole o.keeps o.faults

pub returns-in-Err-clause-checkpoints : goal.returns-in-Err-clause-checkpoints
returns-in-Err-clause-checkpoints g c = let o = c.in-Err.ensures in λ first flushed.
    put_acts g.F.Files g.M.MarkStore c.keeps_following.ensures c.root_is_stored.ensures c.root_outlasts_flushes.ensures first c.args.self.now c.put_root.new.self c.top-top.result c.greatest_floor-floor.result (Err c.in-Err.refusal) c.top-top.ensures.top c.greatest_floor-floor.ensures.floor flushed o.puts o.rest o.rests o.whole o.keeps o.faults

pub returns-in-Ok-clause-shown : goal.returns-in-Ok-clause-shown
returns-in-Ok-clause-shown g c = λ st shown. let o = c.in-Ok.ensures in still_shown _ _ _ o.keeps.kept (λ held follows. tt) refl refl refl refl st o.keeps.spots shown

pub returns-in-Err-clause-shown : goal.returns-in-Err-clause-shown
returns-in-Err-clause-shown g c = λ st shown. let o = c.in-Err.ensures in still_shown _ _ _ o.keeps.kept (λ held follows. tt) refl refl refl refl st o.keeps.spots shown

pub returns-in-Err-clause-refusal : goal.returns-in-Err-clause-refusal
returns-in-Err-clause-refusal g c = flush_stores c.in-Err.refusal c.in-Err.ensures.refusal

pub returns-in-Ok-clause-spots : goal.returns-in-Ok-clause-spots
returns-in-Ok-clause-spots g c = c.in-Ok.ensures.keeps.spots

pub returns-in-Err-clause-spots : goal.returns-in-Err-clause-spots
returns-in-Err-clause-spots g c = c.in-Err.ensures.keeps.spots
