use Rattle.si_model.proofs.AtOnce.{reached_puts_at_once}
use Rattle.si_model.proofs.laws.puts_at_once.Goals as goal

pub returns : goal.returns
returns c = reached_puts_at_once
