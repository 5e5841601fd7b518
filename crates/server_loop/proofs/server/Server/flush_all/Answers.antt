-- A flush behind which no root is put is a checkpoint that was refused.
use Rattle.std.proofs.Common.{inl, refl, Err}
use Rattle.cell_key.specs.declared.refusals.Refusal.TheVariants.{NoMemory}
use Rattle.row_atomic.proofs.Checkpoints.{flush_refused, flush_rootless}
use Rattle.server_loop.specs.Server.{cluster_of, floor_of, top_of}
use Rattle.server_loop.proofs.Checkpoints.{acts_as}
use Rattle.server_loop.proofs.UpkeepSteps.{still_shown}
use Rattle.server_loop.proofs.server.Server.flush_all.Goals as goal

pub returns-in-Ok-clause-rootless : goal.returns-in-Ok-clause-rootless
returns-in-Ok-clause-rootless g c = acts_as g.F.Files g.M.MarkStore c.keeps_following.ensures c.args.self.now _ (top_of c.args.self.now) (floor_of c.args.self.now) refl refl refl (Err NoMemory)
    (flush_rootless g.F.Files c.root_outlasts_flushes.ensures (top_of c.args.self.now) (floor_of c.args.self.now) (cluster_of c.args.self.now) c.flush_each.new.self c.in-Ok.ensures.flushes)

pub returns-in-Err-clause-refused : goal.returns-in-Err-clause-refused
returns-in-Err-clause-refused g c = acts_as g.F.Files g.M.MarkStore c.keeps_following.ensures c.args.self.now _ (top_of c.args.self.now) (floor_of c.args.self.now) refl refl refl (Err c.in-Err.refusal)
    (flush_refused g.F.Files c.root_outlasts_flushes.ensures (top_of c.args.self.now) (floor_of c.args.self.now) (cluster_of c.args.self.now) c.flush_each.new.self c.in-Err.refusal c.in-Err.ensures.flushes c.in-Err.ensures.refusal)

pub returns-in-Ok-clause-shown : goal.returns-in-Ok-clause-shown
returns-in-Ok-clause-shown g c = let o = c.in-Ok.ensures in λ st shown.
    still_shown g.F.Files.contents _ _ o.keeps.kept (λ held follows. c.keeps_following.ensures.refused 0 0 _ _ _ (inl (λ root cells. (c.root_outlasts_flushes.ensures root cells _ _).1 _ _ o.flushes)) o.keeps held follows) refl refl refl refl st o.keeps.spots shown

pub returns-in-Err-clause-shown : goal.returns-in-Err-clause-shown
returns-in-Err-clause-shown g c = let o = c.in-Err.ensures in λ st shown.
    still_shown g.F.Files.contents _ _ o.keeps.kept (λ held follows. c.keeps_following.ensures.refused 0 0 _ _ _ (inl (λ root cells. (c.root_outlasts_flushes.ensures root cells _ _).1 _ _ o.flushes)) o.keeps held follows) refl refl refl refl st o.keeps.spots shown
