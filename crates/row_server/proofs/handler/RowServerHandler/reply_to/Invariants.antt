use Rattle.std.proofs.Common.{◌≡◌, ◌<◌, ◌+◌, ℕ}
use Rattle.row_server.specs.Answers.{FailedAttempts}
use Rattle.row_server.proofs.handler.RowServerHandler.reply_to.Given as goal

abbrev pub decreases-loop-reply : goal.decreases-loop-reply
decreases-loop-reply g l = l.left

-- each attempt so far has failed
abbrev pub invariant-loop-reply : goal.invariant-loop-reply
invariant-loop-reply g l = record {
  some : 0 < l.left;
  failed : (count : ℕ) × (count + l.left ≡ 1000) × FailedAttempts g.R.Rows g.R.SharedRows.forgot g.R.SharedRows.raced g.S.Stamps g.S.SharedStamps.allows l.request count l.initial.self l.self;
}
