use Rattle.std.proofs.Common.{refl}
use Rattle.durable.proofs.Stored.{same_rows}
use Rattle.durable.proofs.journaled_server.ServerJournaled.emptied.Goals as goal

pub returns-clause-stays : goal.returns-clause-stays
returns-clause-stays g c = same_rows g.F.Files.contents c.args.self.now c.emptied.new.self _ c.emptied.ensures refl
