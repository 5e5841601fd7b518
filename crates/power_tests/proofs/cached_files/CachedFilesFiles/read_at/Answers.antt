use Rattle.std.proofs.Common.{sym, ◌∙◌}
use Rattle.power_tests.proofs.Mixed.{get-mixed-sure}
use Rattle.power_tests.proofs.cached_files.CachedFilesFiles.read_at.Goals as goal

pub returns-clause-ok : goal.returns-clause-ok
returns-clause-ok g c =
    rw (← c.self.view_is, get-mixed-sure g.V.Choice.meant.of_file c.self.inside.read c.self.inside.lasting c.args.name (c.self.invariant c.args.name (sym c.contains.ensures ∙ c.if-contains.false)))
    c.read_at.ensures.read
