use Rattle.cell_key.proofs.Passed.{passed_err}
use Rattle.si_model.specs.Takings.{IsRefusedWrite}
use Rattle.si_model.proofs.TakenWrites.{taken_more, write_refused}
use Rattle.txn_client.proofs.takings.take_all.Goals as goal

pub returns-in_err-take_write-clause-refusal : goal.returns-in_err-take_write-clause-refusal
returns-in_err-take_write-clause-refusal c =
    passed_err c.from_residual.result c.in_err-take_write.field-0.0 (IsRefusedWrite _ _) c.from_residual.ensures.1
    (write_refused c.args.asked.now c.loop-write.write-index _ _ _ c.in_err-take_write.field-0.0 c.loop-write-test.true c.loop-write.invariant c.in_err-take_write.ensures.refusal)

pub loop-write-preserved : goal.loop-write-preserved
loop-write-preserved c = taken_more c.args.asked.now c.loop-write.write-index _ _ _ _ c.loop-write-test.true c.loop-write.invariant c.in_ok-take_write.ensures.takes
