-- No row is cached, and each tablet is the same.
use Rattle.std.proofs.Common.{List, length, sym, ap, subst, ◌∙◌}
use Rattle.std.specs.List.{AllZip}
use Rattle.std.proofs.lemmas.List.{with_items_is}
use Rattle.tablet.specs.Views.{IsSameTablet}
use Rattle.tablet.specs.declared.tablet.Tablet.{Tablet}
use Rattle.row_atomic.proofs.PlaceCaches.{none_held}
use Rattle.row_atomic.proofs.EmptiedCaches.{matched_still, uncached}
use Rattle.row_atomic.proofs.Memtables.{each_same}
use Rattle.row_atomic.proofs.cluster.Cluster.drop_caches.Goals as goal

pub invariant_of-self : goal.invariant_of-self
invariant_of-self g c =
    let told = g.F.Files.contents c.self.inside.files in
    let items = with_items_is c.self.inside.tablets c.drop_each.new.tablets (c.drop_each.auto.tablets ∙ ap length c.deref_mut.ensures.value ∙ sym c.self.inside.tablets.ok.0) in
    let all = subst (λ (ts : List Tablet). AllZip (IsSameTablet told) ts c.drop_each.new.tablets) c.deref_mut.ensures.value (c.drop_each.ensures told) in
    let same = subst (λ (ts : List Tablet). AllZip (IsSameTablet told) c.self.inside.tablets.items ts) (sym items) all in
    (matched_still told c.self.inside.file_limit c.self.inside.next_name c.self.inside.table c.self.inside.tablets.items _ same c.self.invariant.0, none_held c.self.inside.table c.clear.new.self.numbers.entries c.clear.ensures.none, each_same told c.self.inside.most c.self.inside.tablets.items _ same c.self.invariant.2)

pub returns : goal.returns
returns g c =
    let told = g.F.Files.contents c.self.inside.files in
    let items = with_items_is c.self.inside.tablets c.drop_each.new.tablets (c.drop_each.auto.tablets ∙ ap length c.deref_mut.ensures.value ∙ sym c.self.inside.tablets.ok.0) in
    let all = subst (λ (ts : List Tablet). AllZip (IsSameTablet told) ts c.drop_each.new.tablets) c.deref_mut.ensures.value (c.drop_each.ensures told) in
    let same = subst (λ (ts : List Tablet). AllZip (IsSameTablet told) c.self.inside.tablets.items ts) (sym items) all in
    rw (← c.self.view_is) (uncached g.F.Files.contents g.F.Files.faults _ _ same)
