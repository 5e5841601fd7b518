use Rattle.std.proofs.Common.{◌≡◌, ◌+◌, ◌≤◌, ◌++◌, [], length, vec_capacity}
use Rattle.server_loop.specs.Batches.{Delivers}
use Rattle.server_loop.proofs.frame_loop.serve_piece.Given as goal

-- batches were answered, settled and written
abbrev pub invariant-loop-ended : goal.invariant-loop-ended
invariant-loop-ended g l = record {
  none : l.waiting.items ≡ [];
  grown : vec_capacity l.initial.waiting ≤ vec_capacity l.waiting;
  delivered : Delivers g.H.FrameHandler.answers g.H.FrameHandler.settles g.H.FrameHandler.fails l.initial.server l.server (l.initial.framer ++ l.piece) (l.framer ++ l.rest) [] (g.W.Write.contents l.initial.writer) (g.W.Write.contents l.writer);
}

abbrev pub decreases-loop-ended : goal.decreases-loop-ended
decreases-loop-ended g l = length l.framer + (length l.rest + length l.rest)
