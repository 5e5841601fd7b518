use Rattle.std.proofs.Common.{None}
use Rattle.tablet.proofs.OpenFiles.{covered_after, indexed_after}
use Rattle.tablet.proofs.open_files.OpenFiles.drop_caches.Goals as goal

pub invariant_of-self : goal.invariant_of-self
invariant_of-self c = (
  covered_after c.stays_covered.ensures None c.self.inside.filter c.self.inside.files c.deref_mut.result.now c.drop_each.new.files c.deref_mut.ensures.value c.drop_each.auto.files (c.drop_each.ensures None) c.self.invariant.0,
  indexed_after c.stays_indexed.ensures None c.self.inside.locks c.self.inside.files c.deref_mut.result.now c.drop_each.new.files c.deref_mut.ensures.value c.drop_each.auto.files (c.drop_each.ensures None) c.self.invariant.1,
)
