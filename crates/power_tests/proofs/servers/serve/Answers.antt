use Rattle.std.proofs.Common.{refl}
use Rattle.power_tests.proofs.Kept.{with_log}
use Rattle.power_tests.proofs.servers.serve.Goals as goal

pub returns : goal.returns
returns g c = record {
  last = c.serve-ended.new.self;
  served = c.serve-ended.ensures;
  kept = λ st lasts.
      rw c.into_file-log.ensures (with_log (λ records held. held.kept) st (c.into_devices-files.ensures.lasts st lasts refl));
}
