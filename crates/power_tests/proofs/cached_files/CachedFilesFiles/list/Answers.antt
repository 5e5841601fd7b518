use Rattle.std.proofs.Common.{refl, sym, subst, ◌≡◌, ◌++◌}
use Rattle.std.specs.Prelude.{OnOk}
use Rattle.std.specs.FinMap as map
use Rattle.power_tests.proofs.Mixed.{mixed-same, none}
use Rattle.power_tests.proofs.cached_files.CachedFilesFiles.list.Goals as goal

pub returns-clause-ok : goal.returns-clause-ok
returns-clause-ok g c =
    rw (← c.self.view_is)
    (subst (λ m. OnOk c.list.result (c.list.new.names.items ≡ c.args.names.now.items ++ map.keys m))
    (sym (mixed-same g.V.Choice.meant.of_file c.self.inside.read c.self.inside.lasting (λ q. c.self.invariant q (none _ c.self.inside.doubts.keys (c.if-not-is_empty.ensures.0 refl)))))
    c.list.ensures.ok)
