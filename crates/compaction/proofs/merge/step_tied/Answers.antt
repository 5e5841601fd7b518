use Rattle.std.proofs.Common.{map, take, subst, sym, refl}
use Rattle.std.specs.Prelude.{IsSome, Option}
use Rattle.cell_key.specs.Entries.{Entry}
use Rattle.compaction.specs.Merging.{Advances, first_lent}
use Rattle.compaction.proofs.Orders.{sorted_again}
use Rattle.compaction.proofs.Tied.{distinct_take, first_take, rest_rises, still_whole, tied_breaks, tied_moved}
use Rattle.cell_key.proofs.Passed.{passed_on}
use Rattle.compaction.proofs.merge.step_tied.Goals as goal

pub returns-clause-cost : goal.returns-clause-cost
returns-clause-cost g c =
    c.in_ok-advance_each.ensures.lower
    (subst (λ (o : Option Entry). IsSome o) (sym (first_take (map g.S.Source.lent c.args.sources.now) c.args.order.now c.count_tied-tied.result c.count_tied-tied.ensures.some)) c.requires)

pub returns-clause-past : goal.returns-clause-past
returns-clause-past g c = λ o.
    let told = g.F.Files.contents c.args.files.now in
    tied_moved (Advances (g.S.Source.steps told) g.S.Source.lent (g.S.Source.remaining told) (g.S.Source.holds told)) g.S.Source.lent c.args.sources.now c.advance_each.new.sources c.args.order.now c.count_tied-tied.result
    c.advance_each.auto.sources c.requires o c.count_tied-tied.ensures.some c.count_tied-tied.ensures.tied c.count_tied-tied.ensures.last
    (c.in_ok-advance_each.ensures.moves (distinct_take c.args.order.now c.count_tied-tied.result o.sorted.distinct))

pub returns-clause-sorted : goal.returns-clause-sorted
returns-clause-sorted g c = λ o.
    let told = g.F.Files.contents c.args.files.now in
    let lents = map g.S.Source.lent c.advance_each.new.sources in
    let moved = c.in_ok-advance_each.ensures.moves (distinct_take c.args.order.now c.count_tied-tied.result o.sorted.distinct) in
    sorted_again lents c.args.order.now c.put_in_order.new.order (still_whole (Advances (g.S.Source.steps told) g.S.Source.lent (g.S.Source.remaining told) (g.S.Source.holds told)) g.S.Source.lent c.args.sources.now c.advance_each.new.sources c.args.order.now c.count_tied-tied.result c.advance_each.auto.sources o moved) o.sorted.distinct c.put_in_order.ensures.same
    (c.put_in_order.ensures.rises (rest_rises (Advances (g.S.Source.steps told) g.S.Source.lent (g.S.Source.remaining told) (g.S.Source.holds told)) g.S.Source.lent c.args.sources.now c.advance_each.new.sources c.args.order.now c.count_tied-tied.result c.advance_each.auto.sources o moved))

pub returns-in_err-advance_each-clause-damaged : goal.returns-in_err-advance_each-clause-damaged
returns-in_err-advance_each-clause-damaged g c = λ err o.
    c.in_err-advance_each.ensures.damaged (passed_on c.from_residual.result _ c.in_err-advance_each.field-0.0 _ c.from_residual.ensures.1 refl err) (distinct_take c.args.order.now c.count_tied-tied.result o.sorted.distinct)

pub returns-in_err-advance_each-clause-broken : goal.returns-in_err-advance_each-clause-broken
returns-in_err-advance_each-clause-broken g c = λ err o.
    tied_breaks (g.S.Source.breaks (g.F.Files.contents c.args.files.now)) g.S.Source.lent c.args.sources.now (first_lent g.S.Source.lent c.args.sources.now c.args.order.now) (take c.count_tied-tied.result c.args.order.now) c.count_tied-tied.ensures.tied
    (c.in_err-advance_each.ensures.broken (passed_on c.from_residual.result _ c.in_err-advance_each.field-0.0 _ c.from_residual.ensures.1 refl err) (distinct_take c.args.order.now c.count_tied-tied.result o.sorted.distinct))
