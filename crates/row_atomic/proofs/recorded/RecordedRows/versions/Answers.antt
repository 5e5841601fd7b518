use Rattle.std.proofs.Common.{refl}
use Rattle.row_atomic.proofs.Following.{reads_recorded}
use Rattle.row_atomic.proofs.recorded.RecordedRows.versions.Goals as goal

pub returns-clause-reads : goal.returns-clause-reads
returns-clause-reads g c = reads_recorded g.F.Files.contents c.root_is_stored.ensures c.args.self.now (record { cluster = c.versions.new.self; journal = c.args.self.now.journal }) refl c.versions.ensures.reads
