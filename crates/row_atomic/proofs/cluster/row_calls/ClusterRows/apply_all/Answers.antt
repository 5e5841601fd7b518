-- The edits are made in the tablets of their rows.
use Rattle.std.proofs.Common.{List, None, OnOk, length, sym, ap, subst, ◌∙◌}
use Rattle.std.proofs.lemmas.List.{with_items_is}
use Rattle.tablet.specs.declared.tablet.Tablet.{Tablet}
use Rattle.row_atomic.specs.Clusters.{ArePlaced}
use Rattle.row_atomic.specs.ManyRows.{OverfillsOwner}
use Rattle.row_atomic.specs.Memtables.{HaveAtMost}
use Rattle.row_atomic.proofs.EditedClusters.{full_answer, made_answer, made_so, matched_either, same_answer, same_so, within_answer}
use Rattle.row_atomic.proofs.cluster.row_calls.ClusterRows.apply_all.Goals as goal

pub apply_to-requires-clause-placed : goal.apply_to-requires-clause-placed
apply_to-requires-clause-placed g c = subst (λ (ts : List Tablet). ArePlaced ts None c.self.inside.table) (sym c.deref_mut.ensures.value) c.self.invariant.0.placed

pub apply_to-requires-clause-as_many : goal.apply_to-requires-clause-as_many
apply_to-requires-clause-as_many g c = ap length c.deref_mut.ensures.value ∙ c.self.invariant.0.as_many

pub apply_to-requires-clause-most : goal.apply_to-requires-clause-most
apply_to-requires-clause-most g c = subst (λ (ts : List Tablet). HaveAtMost c.self.inside.most ts) (sym c.deref_mut.ensures.value) c.self.invariant.2

pub invariant_of-self : goal.invariant_of-self
invariant_of-self g c =
    let items = with_items_is c.self.inside.tablets c.apply_to.new.tablets (c.apply_to.auto.tablets ∙ ap length c.deref_mut.ensures.value ∙ sym c.self.inside.tablets.ok.0) in
    let made = made_so c.apply_to.result c.args.changes.items _ c.apply_to.new.tablets c.self.inside.tablets.items _ items c.deref_mut.ensures.value c.apply_to.ensures.ok in
    let same = same_so c.apply_to.result _ c.apply_to.new.tablets c.self.inside.tablets.items _ items c.deref_mut.ensures.value c.apply_to.ensures.err in (
      matched_either c.apply_to.result c.args.changes.items c.self.inside.file_limit c.self.inside.next_name c.self.inside.table c.self.inside.tablets.items _ made same c.self.invariant.0,
      c.apply_to.ensures.held,
      subst (λ (ts : List Tablet). HaveAtMost c.apply_to.new.most ts) (sym items) c.apply_to.ensures.most,
    )

pub returns-clause-ok : goal.returns-clause-ok
returns-clause-ok g c =
    let items = with_items_is c.self.inside.tablets c.apply_to.new.tablets (c.apply_to.auto.tablets ∙ ap length c.deref_mut.ensures.value ∙ sym c.self.inside.tablets.ok.0) in
    let made = made_so c.apply_to.result c.args.changes.items _ c.apply_to.new.tablets c.self.inside.tablets.items _ items c.deref_mut.ensures.value c.apply_to.ensures.ok in
    rw (← c.self.view_is) (made_answer g.F.Files.contents _ c.args.changes.items c.apply_to.ensures.table c.self.invariant.0.placed c.self.invariant.0.as_many c.apply_to.result _ c.requires c.edits_show.ensures made c.apply_to.ensures.keys)

pub returns-clause-err : goal.returns-clause-err
returns-clause-err g c =
    let items = with_items_is c.self.inside.tablets c.apply_to.new.tablets (c.apply_to.auto.tablets ∙ ap length c.deref_mut.ensures.value ∙ sym c.self.inside.tablets.ok.0) in
    let same = same_so c.apply_to.result _ c.apply_to.new.tablets c.self.inside.tablets.items _ items c.deref_mut.ensures.value c.apply_to.ensures.err in
    rw (← c.self.view_is) (same_answer g.F.Files.contents _ c.args.changes.items c.apply_to.ensures.table c.self.invariant.0.placed c.self.invariant.0.as_many c.apply_to.result _ same)

pub returns-clause-full : goal.returns-clause-full
returns-clause-full g c = rw (← c.self.view_is) (λ full. full_answer g.F.Files.contents _ c.args.changes.items c.apply_to.ensures.table c.self.invariant.0.placed c.self.invariant.0.as_many (subst (λ (ts : List Tablet). OverfillsOwner c.args.changes.items ts) c.deref_mut.ensures.value (c.apply_to.ensures.full full)))

pub returns-clause-within : goal.returns-clause-within
returns-clause-within g c = rw (← c.self.view_is) (within_answer g.F.Files.contents _ c.args.changes.items c.apply_to.ensures.table c.self.invariant.0.placed c.self.invariant.0.as_many c.apply_to.result (subst (λ (ts : List Tablet). OnOk c.apply_to.result (¬ OverfillsOwner c.args.changes.items ts)) c.deref_mut.ensures.value c.apply_to.ensures.within))
