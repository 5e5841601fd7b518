use Rattle.power_tests.proofs.Grown.{reread}
use Rattle.power_tests.proofs.cached_mark.CachedMark.reopen.Goals as goal

pub returns-clause-err : goal.returns-clause-err
returns-clause-err g c =
    rw (← c.self.view_is) (λ lasts. reread lasts c.lasts-lasts.result c.self.inside.read c.self.inside.lasting _ c.replaced-self-inside.ensures)
