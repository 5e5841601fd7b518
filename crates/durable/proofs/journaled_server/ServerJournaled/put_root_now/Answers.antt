use Rattle.durable.proofs.Stored.{acts_so}
use Rattle.durable.proofs.journaled_server.ServerJournaled.put_root_now.Goals as goal

pub returns-clause-checkpoints : goal.returns-clause-checkpoints
returns-clause-checkpoints g c = λ first flushed. acts_so g.F.Files g.M.MarkStore c.shows_reopened.ensures g.met.F.AtomicPut.whole first c.put_flushed_root.new.self c.put_flushed_root.result (c.put_flushed_root.ensures.checkpoints first flushed)
