use Rattle.server_loop.proofs.server.Server.take.Goals as goal

pub returns-in-Begin : goal.returns-in-Begin
returns-in-Begin g c = rw c.in-Begin.is c.begin.ensures

pub returns-in-Get : goal.returns-in-Get
returns-in-Get g c = rw c.in-Get.is c.get.ensures

pub returns-in-Set : goal.returns-in-Set
returns-in-Set g c = rw c.in-Set.is c.set.ensures

pub returns-in-Delete : goal.returns-in-Delete
returns-in-Delete g c = rw c.in-Delete.is c.delete.ensures

pub returns-in-Scan : goal.returns-in-Scan
returns-in-Scan g c = rw c.in-Scan.is c.scan.ensures

pub returns-in-Step : goal.returns-in-Step
returns-in-Step g c = rw c.in-Step.is c.step.ensures

pub returns-in-Stop : goal.returns-in-Stop
returns-in-Stop g c = rw c.in-Stop.is c.stop.ensures

pub returns-in-CleanBegin : goal.returns-in-CleanBegin
returns-in-CleanBegin g c = rw c.in-CleanBegin.is c.clean_begin.ensures

pub returns-in-CleanStep : goal.returns-in-CleanStep
returns-in-CleanStep g c = rw c.in-CleanStep.is c.clean_step.ensures

pub returns-in-CollectBegin : goal.returns-in-CollectBegin
returns-in-CollectBegin g c = rw c.in-CollectBegin.is c.collect_begin.ensures

pub returns-in-CollectStep : goal.returns-in-CollectStep
returns-in-CollectStep g c = rw c.in-CollectStep.is c.collect_step.ensures

pub returns-in-Minor : goal.returns-in-Minor
returns-in-Minor g c = rw c.in-Minor.is c.minor.ensures

pub returns-in-Merge : goal.returns-in-Merge
returns-in-Merge g c = rw c.in-Merge.is c.merge.ensures

pub returns-in-Major : goal.returns-in-Major
returns-in-Major g c = rw c.in-Major.is c.major.ensures

pub returns-in-Split : goal.returns-in-Split
returns-in-Split g c = rw c.in-Split.is c.split.ensures

pub returns-in-Move : goal.returns-in-Move
returns-in-Move g c = rw c.in-Move.is c.move_to.ensures

pub returns-in-Sweep : goal.returns-in-Sweep
returns-in-Sweep g c = rw c.in-Sweep.is c.sweep.ensures

pub returns-in-OracleRestart : goal.returns-in-OracleRestart
returns-in-OracleRestart g c = rw c.in-OracleRestart.is c.restart.ensures

pub returns-in-Raw : goal.returns-in-Raw
returns-in-Raw g c = rw c.in-Raw.is c.raw.ensures

pub returns-in-Status : goal.returns-in-Status
returns-in-Status g c = rw c.in-Status.is c.status.ensures

pub returns-in-Checkpoint : goal.returns-in-Checkpoint
returns-in-Checkpoint g c = rw c.in-Checkpoint.is c.checkpoint.ensures
