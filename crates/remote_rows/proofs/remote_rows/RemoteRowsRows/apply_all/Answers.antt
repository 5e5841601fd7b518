use Rattle.remote_rows.proofs.Reading.{keeps_same, reads_apart}
use Rattle.remote_rows.proofs.Told.{on_err}
use Rattle.remote_rows.proofs.remote_rows.RemoteRowsRows.apply_all.Goals as goal

pub returns-clause-err : goal.returns-clause-err
returns-clause-err g c =
    on_err c.fail.result _ (reads_apart g.W.RowWire.seen (λ rows. rows.wire) (λ rows. rows.held) c.args.self.now c.fail.new.self (keeps_same g.W.RowWire.seen c.args.self.now.wire c.fail.new.self.wire c.fail.ensures.wire) c.fail.ensures.kept)
