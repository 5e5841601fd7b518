use Rattle.std.proofs.Common.{ap, refl, sym, ◌∙◌}
use Rattle.std.specs.Prelude.{Some}
use Rattle.power_tests.proofs.Mixed.{all_lasting}
use Rattle.power_tests.proofs.cached_files.CachedFiles.without_power.Goals as goal

pub returns : goal.returns
returns g c =
    rw (← c.self.view_is) (λ lasts. ap Some (all_lasting lasts c.self.inside.read c.self.inside.lasting c.copy_all.new.to c.copy_all.new.from
    (c.if-not-copy_all.ensures.copied refl ∙ sym c.copy_all.ensures.same) c.copy_all.ensures.same))
