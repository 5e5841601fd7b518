-- Without a cell, or if the place has no end, no row comes before.
use Rattle.std.proofs.lemmas.Bool.{false≢true}
use Rattle.row_atomic.proofs.cluster.row_calls.precedes.Goals as goal

pub returns-in_default : goal.returns-in_default
returns-in_default c = rw (c.in_default.is-0, c.in_default.is-1) ((λ is. absurd (false≢true is)), (λ ends. absurd ends))

pub returns-in_default-2 : goal.returns-in_default-2
returns-in_default-2 c = rw (c.in_default.is-0) ((λ is. absurd (false≢true is)), (λ ends. absurd ends))
