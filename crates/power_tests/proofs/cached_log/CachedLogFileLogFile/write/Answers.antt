use Rattle.std.proofs.Common.{ap, ◌∙◌, take, ◌++◌}
use Rattle.power_tests.proofs.Grown.{grown}
use Rattle.power_tests.proofs.cached_log.CachedLogFileLogFile.write.Goals as goal

pub returns-clause-err : goal.returns-clause-err
returns-clause-err g c =
    let read = c.append_part-is_read.ensures.part in
    let lasting = c.append_part-lasts.ensures.part in
    grown g.V.Choice.meant.of_log c.args.self.now.read c.args.self.now.lasting _ _ c.args.more.now
    (read.0, read.1 ∙ ap (λ v. v.read ++ take read.0 c.args.more.now) c.self.view_is)
    (lasting.0, lasting.1 ∙ ap (λ v. v.lasting ++ take lasting.0 c.args.more.now) c.self.view_is)
