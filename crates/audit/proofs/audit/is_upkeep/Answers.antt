use Rattle.std.proofs.Common.{refl}
use Rattle.audit.proofs.audit.is_upkeep.Goals as goal

pub returns-in-Status-matches : goal.returns-in-Status-matches
returns-in-Status-matches c = rw (c.in-Status.is, c.in-Status-matches.is) (λ is. (c.in-Status-matches.field-0, refl), λ fits. refl)
