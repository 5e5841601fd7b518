use Rattle.std.proofs.Common.{Err}
use Rattle.cell_key.specs.declared.refusals.Refusal.TheVariants.{NoMemory}
use Rattle.durable.proofs.Stored.{acts_so, flush_stays}
use Rattle.durable.proofs.journaled_server.ServerJournaled.flush_now.Goals as goal

pub returns-in-Ok-clause-rootless : goal.returns-in-Ok-clause-rootless
returns-in-Ok-clause-rootless g c = acts_so g.F.Files g.M.MarkStore c.shows_reopened.ensures g.met.F.AtomicPut.whole c.args.self.now c.flush_all.new.self (Err NoMemory) c.in-Ok.ensures.rootless

pub returns-in-Err-clause-refused : goal.returns-in-Err-clause-refused
returns-in-Err-clause-refused g c = acts_so g.F.Files g.M.MarkStore c.shows_reopened.ensures g.met.F.AtomicPut.whole c.args.self.now c.flush_all.new.self (Err c.in-Err.refusal) c.in-Err.ensures.refused

pub returns-in-Err-clause-refusal : goal.returns-in-Err-clause-refusal
returns-in-Err-clause-refusal g c = c.in-Err.ensures.refused.refusal

pub returns-in-Ok-clause-keeps : goal.returns-in-Ok-clause-keeps
returns-in-Ok-clause-keeps g c = (acts_so g.F.Files g.M.MarkStore c.shows_reopened.ensures g.met.F.AtomicPut.whole c.args.self.now c.flush_all.new.self (Err NoMemory) c.in-Ok.ensures.rootless).keeps

pub returns-in-Err-clause-keeps : goal.returns-in-Err-clause-keeps
returns-in-Err-clause-keeps g c = (acts_so g.F.Files g.M.MarkStore c.shows_reopened.ensures g.met.F.AtomicPut.whole c.args.self.now c.flush_all.new.self (Err c.in-Err.refusal) c.in-Err.ensures.refused).keeps

pub returns-in-Ok-clause-stays : goal.returns-in-Ok-clause-stays
returns-in-Ok-clause-stays g c = flush_stays g.F.Files g.M.MarkStore c.shows_reopened.ensures g.met.F.AtomicPut.whole c.args.self.now c.flush_all.new.self c.root_outlasts_flushes.ensures (Err NoMemory) _ c.in-Ok.ensures.rootless c.in-Ok.ensures.flushes

pub returns-in-Err-clause-stays : goal.returns-in-Err-clause-stays
returns-in-Err-clause-stays g c = flush_stays g.F.Files g.M.MarkStore c.shows_reopened.ensures g.met.F.AtomicPut.whole c.args.self.now c.flush_all.new.self c.root_outlasts_flushes.ensures (Err c.in-Err.refusal) _ c.in-Err.ensures.refused c.in-Err.ensures.flushes
