-- The tablet is the same, as its files are.
use Rattle.std.proofs.Common.{refl}
use Rattle.tablet.proofs.SameFiles.{same_tablet}
use Rattle.tablet.proofs.tablet.Tablet.resize_caches.Goals as goal

pub returns-clause-same : goal.returns-clause-same
returns-clause-same c = λ told. same_tablet told c.args.self.now _ refl refl (c.resize_caches.ensures told)
