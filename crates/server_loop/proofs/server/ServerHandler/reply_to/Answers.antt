use Rattle.std.proofs.Common.{ℕ, subst}
use Rattle.oracle.specs.Marks.{IsWithinMark}
use Rattle.server_loop.specs.Server.{marks_of}
use Rattle.server_loop.proofs.Rested.{keeps_resting}
use Rattle.server_loop.proofs.server.ServerHandler.reply_to.Goals as goal

pub returns-clause-says : goal.returns-clause-says
returns-clause-says g c = record {
  plain = c.take-reply.ensures;
  resting = keeps_resting g.F.Files g.M.MarkStore c.shows_reopened.ensures c.root_is_stored.ensures c.root_stays.ensures _ _
      (subst (λ (n : ℕ). IsWithinMark n (g.M.MarkStore.mark (marks_of c.take-reply.new.self))) c.last-last.ensures.last c.last-last.ensures.below_mark) _ _ c.take-reply.ensures;
}

pub returns-clause-step : goal.returns-clause-step
returns-clause-step g c = c.take-reply.ensures.step.step

pub returns-clause-limits : goal.returns-clause-limits
returns-clause-limits g c = c.take-reply.ensures.step.limits
