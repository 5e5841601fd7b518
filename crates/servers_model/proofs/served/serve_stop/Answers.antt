use Rattle.std.proofs.Common.{refl}
use Rattle.si_model.specs.Collection.{unchanged}
use Rattle.servers_model.proofs.served.serve_stop.Goals as goal

pub returns : goal.returns
returns c = record { serves = λ cells last. record { kind = refl; steps = c.stop.ensures.step cells last; changed = λ st reached store shown. unchanged } }
