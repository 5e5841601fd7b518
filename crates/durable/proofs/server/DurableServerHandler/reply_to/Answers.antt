use Rattle.durable.proofs.Rooted.{step_of}
use Rattle.durable.proofs.server.DurableServerHandler.reply_to.Goals as goal

pub returns-in-Checkpoint-clause-step : goal.returns-in-Checkpoint-clause-step
returns-in-Checkpoint-clause-step g c = rw c.in-Checkpoint.is (λ before reached shown. step_of (c.checkpoint.ensures.says.goes_on before reached shown))

pub returns-in-Sweep-clause-step : goal.returns-in-Sweep-clause-step
returns-in-Sweep-clause-step g c = rw c.in-Sweep.is (λ before reached shown. step_of (c.sweep.ensures.says.goes_on before reached shown))

pub returns-in-Split-clause-step : goal.returns-in-Split-clause-step
returns-in-Split-clause-step g c = λ before reached shown. step_of (c.rearrange.ensures.says.goes_on before reached shown)

pub returns-in-Begin-clause-step : goal.returns-in-Begin-clause-step
returns-in-Begin-clause-step g c = λ before reached shown. step_of (c.answer_with_room.ensures.says.goes_on before reached shown)

pub returns-in_default : goal.returns-in_default
returns-in_default g c = record {
  step = λ before reached shown. step_of (c.answer_plainly.ensures.says.goes_on before reached shown);
  says = c.answer_plainly.ensures.says;
  limits = c.answer_plainly.ensures.limits;
}

pub returns-in-CollectStep-clause-step : goal.returns-in-CollectStep-clause-step
returns-in-CollectStep-clause-step g c = rw c.in-CollectStep.is (λ before reached shown. step_of (c.collect_step.ensures.says.goes_on before reached shown))
