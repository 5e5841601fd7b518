use Rattle.std.proofs.Common.{◌≡◌, ◌+◌, ◌≤◌, ℕ, [], length, vec_capacity}
use Rattle.server_loop.specs.Batches.{Served}
use Rattle.server_loop.proofs.frame_loop.serve_all.Given as goal

-- whole frames were answered, settled and written
abbrev pub invariant-loop-reads_left : goal.invariant-loop-reads_left
invariant-loop-reads_left g l = record {
  size : length l.piece.items ≡ 65536;
  none : l.waiting.items ≡ [];
  room : l.most + 1048584 ≤ vec_capacity l.waiting;
  served : (reads : ℕ) × (reads + l.reads_left ≡ l.fn.most_reads)
      × Served g.H.FrameHandler.answers g.H.FrameHandler.settles g.H.FrameHandler.fails [] l.framer l.fn.server l.server (g.R.Read.remaining l.fn.reader) (g.R.Read.remaining l.reader) (g.W.Write.contents l.fn.writer) (g.W.Write.contents l.writer) reads;
}

abbrev pub decreases-loop-reads_left : goal.decreases-loop-reads_left
decreases-loop-reads_left g l = l.reads_left
