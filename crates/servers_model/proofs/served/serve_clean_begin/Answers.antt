use Rattle.std.proofs.Common.{refl}
use Rattle.servers_model.proofs.Changed.{unchanged_if}
use Rattle.servers_model.proofs.served.serve_clean_begin.Goals as goal

pub returns : goal.returns
returns g c = record { serves = λ holds. record { kind = refl; steps = c.begin.ensures.step holds; changed = λ st reached store shown. unchanged_if _ _ st c.begin.ensures.reads.kept } }
