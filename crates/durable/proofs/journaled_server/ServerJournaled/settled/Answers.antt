use Rattle.std.proofs.Common.{refl}
use Rattle.durable.proofs.Stored.{logged_shows, same_rows}
use Rattle.durable.proofs.journaled_server.ServerJournaled.settled.Goals as goal

pub returns-clause-shown : goal.returns-clause-shown
returns-clause-shown g c = λ st shown. logged_shows g.F.Files.contents c.logs_edits.ensures c.args.self.now c.settled.new.self st c.settled.ensures shown

pub returns-clause-stays : goal.returns-clause-stays
returns-clause-stays g c = same_rows g.F.Files.contents c.args.self.now c.settled.new.self _ c.settled.ensures refl
