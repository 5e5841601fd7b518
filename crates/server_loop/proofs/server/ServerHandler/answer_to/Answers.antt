use Rattle.server_loop.specs.Server.{Shows}
use Rattle.server_loop.proofs.SessionSteps.{goes_one}
use Rattle.server_loop.proofs.server.ServerHandler.answer_to.Goals as goal

pub returns-in-One-clause-goes : goal.returns-in-One-clause-goes
returns-in-One-clause-goes g c = rw c.in-One.is (goes_one (Shows g.F.Files.contents) c.args.self.now c.reply_to.new.self _ _ c.reply_to.ensures.step)

pub returns-in-One-clause-says : goal.returns-in-One-clause-says
returns-in-One-clause-says g c = rw c.in-One.is c.reply_to.ensures.says

pub returns-in-One-clause-limits : goal.returns-in-One-clause-limits
returns-in-One-clause-limits g c = c.reply_to.ensures.limits

pub returns-in-Commit-clause-goes : goal.returns-in-Commit-clause-goes
returns-in-Commit-clause-goes g c = rw c.in-Commit.is (rw c.deref.ensures.value at c.commit.ensures.plain.at_once.goes)

pub returns-in-Commit-clause-says : goal.returns-in-Commit-clause-says
returns-in-Commit-clause-says g c = rw c.in-Commit.is (rw c.deref.ensures.value at c.commit.ensures)

pub returns-in-Commit-clause-limits : goal.returns-in-Commit-clause-limits
returns-in-Commit-clause-limits g c = c.commit.ensures.plain.at_once.limits

pub returns-in-Read-clause-goes : goal.returns-in-Read-clause-goes
returns-in-Read-clause-goes g c = rw c.in-Read.is (rw c.deref-in-Read.ensures.value at c.read.ensures.plain.at_once.goes)

pub returns-in-Read-clause-says : goal.returns-in-Read-clause-says
returns-in-Read-clause-says g c = rw c.in-Read.is (rw c.deref-in-Read.ensures.value at c.read.ensures)

pub returns-in-Read-clause-limits : goal.returns-in-Read-clause-limits
returns-in-Read-clause-limits g c = c.read.ensures.plain.at_once.limits
