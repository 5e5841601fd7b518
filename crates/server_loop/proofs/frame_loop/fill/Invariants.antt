use Rattle.std.proofs.Common.{◌≡◌, ◌+◌, ◌<◌, ◌≤◌, List, ℕ, ◌++◌, [], length, vec_capacity}
use Rattle.request_codec.specs.Stream.{frames}
use Rattle.server_loop.specs.Batches.{Answered, IsBatch}
use Rattle.server_loop.proofs.frame_loop.fill.Given as goal

-- whole frames were answered, and few bytes of replies wait
abbrev pub invariant-loop-waiting : goal.invariant-loop-waiting
invariant-loop-waiting g l = record {
  few : length l.waiting.items < l.most;
  grown : vec_capacity l.initial.waiting ≤ vec_capacity l.waiting;
  left : length l.framer + (length l.rest + length l.rest) ≤ length l.initial.framer + (length l.piece + length l.piece);
  answered : (replies : List (List ℕ)) × IsBatch l.most replies × (l.waiting.items ≡ frames replies)
      × Answered g.H.FrameHandler.answers l.initial.server l.server (l.initial.framer ++ l.piece) (l.framer ++ l.rest) [] replies;
}

abbrev pub decreases-loop-waiting : goal.decreases-loop-waiting
decreases-loop-waiting g l = length l.framer + (length l.rest + length l.rest)
