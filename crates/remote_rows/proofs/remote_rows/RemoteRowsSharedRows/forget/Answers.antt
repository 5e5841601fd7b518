use Rattle.std.proofs.Common.{refl}
use Rattle.remote_rows.proofs.Reading.{reads_none}
use Rattle.remote_rows.proofs.remote_rows.RemoteRowsSharedRows.forget.Goals as goal

pub returns-clause-reads : goal.returns-clause-reads
returns-clause-reads g c =
    reads_none g.W.RowWire.seen (λ rows. rows.wire) (λ rows. rows.held) c.args.self.now _ c.begin.ensures.kept refl
