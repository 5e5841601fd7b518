-- The root that was read, and the names of all files, determine the removed ones. No tablet is changed.
use Rattle.std.proofs.Common.{◌∙◌, Option, IfSome, List, ℕ, option_map, refl, sym, ap, subst, ◌≡◌}
use Rattle.std.specs.FinMap.{keys}
use Rattle.file_store.specs.Store.{Contents}
use Rattle.row_atomic.specs.Sweeps.{MayLackUnkept, is_kept, is_kept_beside, unkept, without_files}
use Rattle.row_atomic.proofs.GivenUp.{given_beside}
use Rattle.row_atomic.proofs.MergeStates.{beside, given_none, swept_still}
use Rattle.row_atomic.proofs.PassedRefusals.{reason_after}
use Rattle.row_atomic.proofs.RootSweeps.{Names, fault_reads, names_so, sweeps_so}
use Rattle.row_atomic.proofs.Sweeps.{beside_kept, counted, lacks_fewer, on_ok, swept_is, swept_order}
use Rattle.row_atomic.proofs.cluster.Cluster.sweep_beside_root.Goals as goal

pub returns : goal.returns
returns g c =
    let places = c.self.inside.table in
    let told = g.F.Files.contents c.self.inside.files in
    let now = g.F.Files.contents c.remove_unkept.new.files in
    let given = option_map (λ places. places.now) c.places_of.result in
    let names = c.in_ok-names.names.items in
    let same = c.names_of.ensures.same ∙ c.read_root.ensures.reads.same in
    let lacks = subst (λ (o : Option Contents). MayLackUnkept (is_kept_beside given places) o now) same c.remove_unkept.ensures.lacks in
    let keyed = subst (λ (o : Option Contents). IfSome o (λ m. names ≡ keys m)) c.read_root.ensures.reads.same c.in_ok-names.ensures.names in
    let refusal = fault_reads c.remove_unkept.result c.remove_unkept.ensures.refusal in
    let listed = rw (← c.self.view_is) at c.give_up_unlisted.ensures.listed in
    given_beside g.F.Files.contents g.F.Files.faults c.args.self.now c.give_up_unlisted.new.self _ c.give_up_unlisted.ensures.rest c.give_up_unlisted.ensures.merge c.give_up_unlisted.ensures.same c.give_up_unlisted.ensures.told c.remove_unkept.result
    (rw (← c.self.view_is) (sweeps_so g.F.Files.contents g.F.Files.faults _ _
    (λ holds.
    let fewer = lacks_fewer (is_kept_beside given places) (is_kept places) (beside_kept given places) told now lacks in
    let kept = swept_order places c.self.inside.tablets.items c.len.ensures.table c.self.invariant.0.placed c.self.invariant.0.as_many c.unnamed_may_go.ensures told now c.self.inside.next_name fewer holds.0 in
    beside (swept_still c.stays_open.ensures places told now c.self.inside.file_limit c.self.inside.next_name c.self.inside.merge fewer listed holds.1) (kept.order, kept.same))
    refl (given_none c.self.inside.merge) given c.remove_unkept.result
    (subst (Names told) (sym c.places_of.ensures) (names_so c.one_root.ensures told c.in_ok-root.root c.in_ok-root.ensures.finds))
    (on_ok c.remove_unkept.result (λ e. e ∙ ap (without_files (unkept (is_kept_beside given places) names)) same ∙ swept_is (is_kept_beside given places) told names keyed) c.remove_unkept.ensures.removed)
    (counted (is_kept_beside given places) told names c.remove_unkept.result keyed c.remove_unkept.ensures.count) lacks refusal.0 refusal.1
    (reason_after c.remove_unkept.result c.in_ok-root.root _ _ _ c.in_ok-root.ensures.reads.reason
    (reason_after c.remove_unkept.result c.in_ok-names.names _ _ _ c.in_ok-names.ensures.reason c.remove_unkept.ensures.reason))))
