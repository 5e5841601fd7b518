use Rattle.std.proofs.Common.{refl}
use Rattle.servers_model.proofs.Changed.{unchanged_if}
use Rattle.servers_model.proofs.served.serve_get.Goals as goal

pub returns : goal.returns
returns g c = record { serves = λ holds last. record { kind = refl; steps = c.get.ensures.step holds last; changed = λ st reached store shown. unchanged_if _ _ st c.get.ensures.reads.kept } }
