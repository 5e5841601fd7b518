use Rattle.std.proofs.Common.{refl, subst, sym, ap, ◌∙◌}
use Rattle.metadata_table.specs.Places.{PlaceView}
use Rattle.metadata_table.specs.Table.{IsTable, HasTablet, with_files}
use Rattle.metadata_table.proofs.Splits.{tablet_there}
use Rattle.metadata_table.proofs.Tables.{filed_table, changed_at}
use Rattle.metadata_table.proofs.table.MetadataTable.set_files.Goals as goal

pub invariant_of-self : goal.invariant_of-self
invariant_of-self c =
    let xs = c.self.inside.places.items in
    let names = c.args.names.items in
    let at = rw c.deref.ensures.value at c.in_ok-position.ensures.cases in
    let made = changed_at c.args.tablet (λ (p : PlaceView). record p { files = names }) xs c.in_ok-position.position c.index_mut.result.now _ c.self.invariant.distinct at c.index_mut.ensures.value refl in
    subst IsTable (sym made) (filed_table c.args.tablet names _ c.self.invariant)

pub returns-clause-ok : goal.returns-clause-ok
returns-clause-ok c =
    let xs = c.self.inside.places.items in
    let names = c.args.names.items in
    let at = rw c.deref.ensures.value at c.in_ok-position.ensures.cases in
    changed_at c.args.tablet (λ (p : PlaceView). record p { files = names }) xs c.in_ok-position.position c.index_mut.result.now _ c.self.invariant.distinct at c.index_mut.ensures.value refl
    ∙ ap (with_files c.args.tablet names) c.self.view_is

pub returns-clause-known : goal.returns-clause-known
returns-clause-known c =
    let at = rw c.deref.ensures.value at c.in_ok-position.ensures.cases in
    subst (HasTablet c.args.tablet) c.self.view_is (tablet_there c.args.tablet c.self.inside.places.items c.in_ok-position.position at)
