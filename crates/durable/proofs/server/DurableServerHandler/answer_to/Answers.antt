use Rattle.durable.specs.Answers.{shown_by}
use Rattle.server_loop.proofs.SessionSteps.{goes_one}
use Rattle.durable.proofs.server.DurableServerHandler.answer_to.Goals as goal

pub returns-in-One-clause-goes : goal.returns-in-One-clause-goes
returns-in-One-clause-goes g c = rw c.in-One.is (goes_one (shown_by g.S.Handler.shows) c.args.self.now c.reply_to.new.self _ _ c.reply_to.ensures.step)

pub returns-in-One-clause-says : goal.returns-in-One-clause-says
returns-in-One-clause-says g c = rw c.in-One.is c.reply_to.ensures.says

pub returns-in-Commit-clause-goes : goal.returns-in-Commit-clause-goes
returns-in-Commit-clause-goes g c = λ before reached shown. let on = c.answer_at_once.ensures.says.goes_on before reached shown in (on.next, on.goes, on.shown, on.whole)
