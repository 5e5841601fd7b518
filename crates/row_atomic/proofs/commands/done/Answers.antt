-- The call's result gives the outcome.
use Rattle.std.proofs.Common.{refl}
use Rattle.row_atomic.proofs.commands.done.Goals as goal

pub returns-in-Ok : goal.returns-in-Ok
returns-in-Ok c = rw (c.in-Ok.is) refl

pub returns-in-Err : goal.returns-in-Err
returns-in-Err c = rw (c.in-Err.is) refl
