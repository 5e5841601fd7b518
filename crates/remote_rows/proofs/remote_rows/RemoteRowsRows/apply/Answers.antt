use Rattle.std.proofs.Common.{sym, subst, ◌∙◌}
use Rattle.remote_rows.specs.Wires.{IsDone, KeepsRows, Makes}
use Rattle.remote_rows.specs.declared.wire.Swap.{Swap}
use Rattle.remote_rows.proofs.Reading.{applies, keeps_same, keeps_then, reads_none}
use Rattle.remote_rows.proofs.Told.{of_err, of_ok, on_err}
use Rattle.remote_rows.proofs.remote_rows.RemoteRowsRows.apply.Goals as goal

pub returns-in_err-held-clause-err : goal.returns-in_err-held-clause-err
returns-in_err-held-clause-err g c =
    on_err c.from_residual.result _ (reads_none g.W.RowWire.seen (λ rows. rows.wire) (λ rows. rows.held) c.args.self.now c.take.new.self c.take.ensures.wire c.take.ensures.none)

pub returns-in_err-count-clause-err : goal.returns-in_err-count-clause-err
returns-in_err-count-clause-err g c =
    let seen = g.W.RowWire.seen in
    let kept = of_err c.swap-answer.result c.in_err-count.field-0.0 (KeepsRows seen c.take.new.self.wire c.swap-answer.new.self) (sym c.count.ensures.same ∙ c.in_err-count.was) c.swap-answer.ensures.err in
    on_err c.from_residual-in_err-count.result _ (reads_none seen (λ rows. rows.wire) (λ rows. rows.held) c.args.self.now _ (keeps_then seen c.args.self.now.wire c.take.new.self.wire c.swap-answer.new.self c.take.ensures.wire kept) c.take.ensures.none)

pub returns-in-Done-clause-ok : goal.returns-in-Done-clause-ok
returns-in-Done-clause-ok g c =
    let seen = g.W.RowWire.seen in
    let makes = of_ok c.swap-answer.result c.in_ok-count.field-0 (λ (swap : Swap). IsDone swap → Makes seen c.args.row.now c.in_ok-held.held.guard c.args.edits.items c.take.new.self.wire c.swap-answer.new.self) (sym c.count.ensures.same ∙ c.in_ok-count.was) c.swap-answer.ensures.done in
    applies seen (λ rows. rows.wire) (λ rows. rows.held) c.args.row.now c.args.edits.items c.in_ok-held.held c.args.self.now _ c.take.new.self.wire c.take.ensures.wire c.in_ok-held.ensures.row c.in_ok-held.ensures.held
    (makes (subst (λ (swap : Swap). IsDone swap) (sym c.in-Done.is) tt)) c.take.ensures.none

pub returns-clause-err : goal.returns-clause-err
returns-clause-err g c =
    let seen = g.W.RowWire.seen in
    let raced = of_ok c.swap-answer.result c.in_ok-count.field-0 (λ (swap : Swap). ¬ IsDone swap → KeepsRows seen c.take.new.self.wire c.swap-answer.new.self) (sym c.count.ensures.same ∙ c.in_ok-count.was) c.swap-answer.ensures.raced in
    let kept = raced (λ done. subst (λ (swap : Swap). IsDone swap) c.in-Raced.is done) in
    on_err c.fail.result _ (reads_none seen (λ rows. rows.wire) (λ rows. rows.held) c.args.self.now c.fail.new.self
    (keeps_then seen c.args.self.now.wire c.take.new.self.wire c.fail.new.self.wire c.take.ensures.wire (keeps_then seen c.take.new.self.wire c.swap-answer.new.self c.fail.new.self.wire kept (keeps_same seen c.swap-answer.new.self c.fail.new.self.wire c.fail.ensures.wire)))
    (c.fail.ensures.kept ∙ c.take.ensures.none))
