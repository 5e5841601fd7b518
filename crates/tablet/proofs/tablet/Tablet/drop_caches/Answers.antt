-- The tablet is the same, as its files are.
use Rattle.std.proofs.Common.{refl}
use Rattle.tablet.proofs.SameFiles.{same_tablet}
use Rattle.tablet.proofs.tablet.Tablet.drop_caches.Goals as goal

pub returns : goal.returns
returns c = λ told. same_tablet told c.args.self.now _ refl refl (c.drop_caches.ensures told)
