-- A root file without a valid root is damaged.
use Rattle.std.proofs.Common.{subst}
use Rattle.metadata_table.specs.Roots.{IsNoRoot}
use Rattle.row_atomic.proofs.OpenedRoots.{no_root_told}
use Rattle.row_atomic.proofs.cluster.open.read_root.Goals as goal

pub returns-in-Ok-Some-clause-damaged : goal.returns-in-Ok-Some-clause-damaged
returns-in-Ok-Some-clause-damaged g c =
    let none = rw c.in-None.is at c.in_ok-root-in-Ok-Some.ensures.none in
    λ is. no_root_told (g.F.Files.contents c.args.files.now) c.in-Ok-Some.image.items (rw c.in-Ok-Some.field-0-is at c.in-Ok-Some.ensures.ok) (subst IsNoRoot c.deref.ensures.value none)
