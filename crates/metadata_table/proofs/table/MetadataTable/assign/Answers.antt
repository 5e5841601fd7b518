use Rattle.std.proofs.Common.{refl, subst, sym, ap, ◌∙◌}
use Rattle.metadata_table.specs.Places.{PlaceView, views}
use Rattle.metadata_table.specs.Table.{IsTable, HasTablet, moved}
use Rattle.metadata_table.proofs.Splits.{tablet_there}
use Rattle.metadata_table.proofs.Tables.{moved_table, changed_at}
use Rattle.metadata_table.proofs.table.MetadataTable.assign.Goals as goal

pub returns-then-server-ge-SERVERS-clause-unknown : goal.returns-then-server-ge-SERVERS-clause-unknown
returns-then-server-ge-SERVERS-clause-unknown c =
    let at = rw c.deref.ensures.value at c.in_ok-position.ensures.cases in
    let there = subst (HasTablet c.args.tablet) c.self.view_is (tablet_there c.args.tablet c.self.inside.places.items c.in_ok-position.position at) in
    (λ e. cc, λ n. absurd (n there))

pub returns-then-server-ge-SERVERS-clause-server : goal.returns-then-server-ge-SERVERS-clause-server
returns-then-server-ge-SERVERS-clause-server c =
    let at = rw c.deref.ensures.value at c.in_ok-position.ensures.cases in
    let there = subst (HasTablet c.args.tablet) c.self.view_is (tablet_there c.args.tablet c.self.inside.places.items c.in_ok-position.position at) in
    (λ e. (there, c.if-server-ge-SERVERS.true), λ h. refl)

pub invariant_of-self : goal.invariant_of-self
invariant_of-self c =
    let xs = c.self.inside.places.items in
    let server = c.args.server in
    let at = rw c.deref.ensures.value at c.in_ok-position.ensures.cases in
    let made = changed_at c.args.tablet (λ (p : PlaceView). record p { server = server }) xs c.in_ok-position.position c.index_mut.result.now (record c.index_mut.result.now { server = server }) c.self.invariant.distinct at c.index_mut.ensures.value refl in
    subst IsTable (sym made) (moved_table c.args.tablet server c.if-server-ge-SERVERS.false (views xs) c.self.invariant)

pub returns-clause-ok : goal.returns-clause-ok
returns-clause-ok c =
    let xs = c.self.inside.places.items in
    let server = c.args.server in
    let at = rw c.deref.ensures.value at c.in_ok-position.ensures.cases in
    changed_at c.args.tablet (λ (p : PlaceView). record p { server = server }) xs c.in_ok-position.position c.index_mut.result.now (record c.index_mut.result.now { server = server }) c.self.invariant.distinct at c.index_mut.ensures.value refl
    ∙ ap (moved c.args.tablet server) c.self.view_is

pub returns-clause-known : goal.returns-clause-known
returns-clause-known c =
    let at = rw c.deref.ensures.value at c.in_ok-position.ensures.cases in
    (subst (HasTablet c.args.tablet) c.self.view_is (tablet_there c.args.tablet c.self.inside.places.items c.in_ok-position.position at), c.if-server-ge-SERVERS.false)

pub returns-clause-unknown : goal.returns-clause-unknown
returns-clause-unknown c =
    let at = rw c.deref.ensures.value at c.in_ok-position.ensures.cases in
    let there = subst (HasTablet c.args.tablet) c.self.view_is (tablet_there c.args.tablet c.self.inside.places.items c.in_ok-position.position at) in
    (λ e. cc, λ n. absurd (n there))
