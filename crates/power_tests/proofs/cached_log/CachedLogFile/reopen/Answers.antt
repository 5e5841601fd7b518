use Rattle.std.proofs.Common.{ap, cond, ◌∙◌}
use Rattle.power_tests.proofs.Grown.{reread}
use Rattle.power_tests.proofs.cached_log.CachedLogFile.reopen.Goals as goal

pub returns-clause-err : goal.returns-clause-err
returns-clause-err g c =
    rw (← c.self.view_is) (λ lasts. reread lasts c.replace_if-lasts.result c.self.inside.read.items c.self.inside.lasting.items _
    (c.replace_if-lasts.ensures ∙ ap (λ xs. cond c.replace_if-lasts.result xs c.self.inside.lasting.items) c.deref.ensures.value))
