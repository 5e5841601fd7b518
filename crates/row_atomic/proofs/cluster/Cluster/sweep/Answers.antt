-- The names of all files determine the removed ones, and no tablet is changed.
use Rattle.std.proofs.Common.{◌∙◌, Option, Err, refl, sym, ap, subst}
use Rattle.file_store.specs.Store.{Contents}
use Rattle.row_atomic.specs.Sweeps.{MayLackUnkept, is_kept, unkept, without_files}
use Rattle.row_atomic.proofs.RowAnswers.{same_cells_in, still_in_order}
use Rattle.row_atomic.proofs.GivenUp.{given_swept}
use Rattle.row_atomic.proofs.MergeStates.{beside, given_none, swept_still, told_still}
use Rattle.row_atomic.proofs.Outcomes.{err_reason, refused_sweep, swept_so}
use Rattle.row_atomic.proofs.PassedRefusals.{reason_after}
use Rattle.row_atomic.proofs.Sweeps.{counted, lacks_none, on_ok, swept_is, swept_order}
use Rattle.row_atomic.proofs.cluster.Cluster.sweep.Goals as goal

pub invariant_of-self : goal.invariant_of-self
invariant_of-self g c = c.self.invariant

pub returns-in_err-names : goal.returns-in_err-names
returns-in_err-names g c =
    let told = g.F.Files.contents c.self.inside.files in
    let now = g.F.Files.contents c.names_of.new.files in
    let e = c.in_err-names.field-0.0 in
    given_swept g.F.Files.contents g.F.Files.faults c.args.self.now c.give_up_unlisted.new.self _ c.give_up_unlisted.ensures.rest c.give_up_unlisted.ensures.merge c.give_up_unlisted.ensures.same c.give_up_unlisted.ensures.told c.from_residual.result
    (rw (← c.self.view_is) (refused_sweep g.F.Files.contents g.F.Files.faults _ c.from_residual.result e e _ _ c.from_residual.ensures.1 refl
    (swept_so g.F.Files.contents g.F.Files.faults _ _
    (λ holds. beside (told_still told now c.self.inside.file_limit c.self.inside.next_name c.self.inside.merge c.names_of.ensures.same holds.1)
    (still_in_order told now c.self.inside.next_name c.self.inside.tablets.items c.names_of.ensures.same holds.0, same_cells_in told now c.self.inside.tablets.items c.names_of.ensures.same))
    refl (given_none c.self.inside.merge) (Err e) tt tt (subst (λ (o : Option Contents). MayLackUnkept (is_kept c.self.inside.table) told o) (sym c.names_of.ensures.same) (lacks_none (is_kept c.self.inside.table) told)) c.in_err-names.ensures.refusal (err_reason e _ _ c.in_err-names.ensures.reason))))

pub returns : goal.returns
returns g c =
    let places = c.self.inside.table in
    let names = c.in_ok-names.names.items in
    let lacks = subst (λ (o : Option Contents). MayLackUnkept (is_kept places) o (g.F.Files.contents c.remove_unkept.new.files)) c.names_of.ensures.same c.remove_unkept.ensures.lacks in
    let listed = rw (← c.self.view_is) at c.give_up_unlisted.ensures.listed in
    given_swept g.F.Files.contents g.F.Files.faults c.args.self.now c.give_up_unlisted.new.self _ c.give_up_unlisted.ensures.rest c.give_up_unlisted.ensures.merge c.give_up_unlisted.ensures.same c.give_up_unlisted.ensures.told c.remove_unkept.result
    (rw (← c.self.view_is) (swept_so g.F.Files.contents g.F.Files.faults _ _
    (λ holds. let kept = swept_order places c.self.inside.tablets.items c.len.ensures.table c.self.invariant.0.placed c.self.invariant.0.as_many c.unnamed_may_go.ensures (g.F.Files.contents c.self.inside.files) (g.F.Files.contents c.remove_unkept.new.files) c.self.inside.next_name lacks holds.0 in
    beside (swept_still c.stays_open.ensures places (g.F.Files.contents c.self.inside.files) (g.F.Files.contents c.remove_unkept.new.files) c.self.inside.file_limit c.self.inside.next_name c.self.inside.merge lacks listed holds.1) (kept.order, kept.same))
    refl (given_none c.self.inside.merge) c.remove_unkept.result
    (on_ok c.remove_unkept.result (λ e. e ∙ ap (without_files (unkept (is_kept places) names)) c.names_of.ensures.same ∙ swept_is (is_kept places) (g.F.Files.contents c.self.inside.files) names c.in_ok-names.ensures.names) c.remove_unkept.ensures.removed)
    (counted (is_kept places) (g.F.Files.contents c.self.inside.files) names c.remove_unkept.result c.in_ok-names.ensures.names c.remove_unkept.ensures.count) lacks c.remove_unkept.ensures.refusal (reason_after c.remove_unkept.result c.in_ok-names.names _ _ _ c.in_ok-names.ensures.reason c.remove_unkept.ensures.reason)))
