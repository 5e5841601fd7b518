use Rattle.std.specs.FinMap.{insert}
use Rattle.std.specs.BTreeSet.{contains}
use Rattle.std.specs.Ordering.{nat_cmp}
use Rattle.std.proofs.Common.{ap}
use Rattle.std.specs.Prelude.{Some}
use Rattle.power_tests.proofs.Mixed.{agree_done, agree_still, changed_well, may_change, others_stay, puts}
use Rattle.power_tests.proofs.cached_files.CachedFiles.place.Goals as goal

pub invariant_of-self-then-is_done : goal.invariant_of-self-then-is_done
invariant_of-self-then-is_done g c =
    agree_done (λ m. insert m c.args.name c.args.bytes.now) (Some c.args.bytes.now) c.args.name (puts c.args.name c.args.bytes.now)
    c.self.inside.read c.self.inside.lasting _ _ c.put_if-is_read.result c.put_if-lasts.result c.put_if-is_read.ensures.put c.put_if-lasts.ensures.put
    (contains nat_cmp c.self.inside.doubts) (contains nat_cmp c.insert.new.self) (contains nat_cmp c.remove.new.self)
    (c.is_done.ensures.read c.if-is_done.true) (c.is_done.ensures.lasts c.if-is_done.true) c.in_ok-insert.ensures.updates.0 c.remove.ensures.updates.0 c.self.invariant

pub invariant_of-self-2 : goal.invariant_of-self-2
invariant_of-self-2 g c =
    agree_still (λ m. insert m c.args.name c.args.bytes.now) (Some c.args.bytes.now) c.args.name (puts c.args.name c.args.bytes.now)
    c.self.inside.read c.self.inside.lasting _ _ c.put_if-is_read.result c.put_if-lasts.result c.put_if-is_read.ensures.put c.put_if-lasts.ensures.put
    (contains nat_cmp c.self.inside.doubts) (contains nat_cmp c.insert.new.self) c.in_ok-insert.ensures.updates.0 c.self.invariant

pub returns-then-is_done-clause-ok : goal.returns-then-is_done-clause-ok
returns-then-is_done-clause-ok g c =
    rw (← c.self.view_is) (ap Some (changed_well (λ m. insert m c.args.name c.args.bytes.now) (Some c.args.bytes.now) c.args.name (puts c.args.name c.args.bytes.now)
    c.self.inside.read c.self.inside.lasting _ _ c.put_if-is_read.result c.put_if-lasts.result c.put_if-is_read.ensures.put c.put_if-lasts.ensures.put
    g.V.Choice.meant.of_file (c.is_done.ensures.read c.if-is_done.true) (c.is_done.ensures.lasts c.if-is_done.true)))

pub returns-then-is_done-clause-others : goal.returns-then-is_done-clause-others
returns-then-is_done-clause-others g c =
    rw (← c.self.view_is) (others_stay (λ m. insert m c.args.name c.args.bytes.now) (Some c.args.bytes.now) c.args.name (puts c.args.name c.args.bytes.now)
    c.self.inside.read c.self.inside.lasting _ _ c.put_if-is_read.result c.put_if-lasts.result c.put_if-is_read.ensures.put c.put_if-lasts.ensures.put g.V.Choice.meant.of_file)

pub returns-clause-others : goal.returns-clause-others
returns-clause-others g c =
    rw (← c.self.view_is) (others_stay (λ m. insert m c.args.name c.args.bytes.now) (Some c.args.bytes.now) c.args.name (puts c.args.name c.args.bytes.now)
    c.self.inside.read c.self.inside.lasting _ _ c.put_if-is_read.result c.put_if-lasts.result c.put_if-is_read.ensures.put c.put_if-lasts.ensures.put g.V.Choice.meant.of_file)

pub returns-clause-whole : goal.returns-clause-whole
returns-clause-whole g c =
    rw (← c.self.view_is) (may_change (λ m. insert m c.args.name c.args.bytes.now) (Some c.args.bytes.now) c.args.name (puts c.args.name c.args.bytes.now)
    c.self.inside.read c.self.inside.lasting _ _ c.put_if-is_read.result c.put_if-lasts.result c.put_if-is_read.ensures.put c.put_if-lasts.ensures.put g.V.Choice.meant.of_file)
