use Rattle.std.proofs.Common.{arith, ◌∷◌, List, sym, subst}
use Rattle.std.proofs.lemmas.List.{nil_from_length}
use Rattle.std.specs.List.{AllByRecursion}
use Rattle.std.specs.Vec.Iter.{into_iter_items}
use Rattle.cell_key.specs.declared.edits.Edit.{Edit}
use Rattle.remote_rows.specs.Wires.{IsEdit}
use Rattle.remote_rows.proofs.Spans.{begins, ends, goes_on}
use Rattle.remote_rows.proofs.span.cells_before.Goals as goal

pub loop-edit-init : goal.loop-edit-init
loop-edit-init c =
    let all = c.into_iter-edit-iterator.ensures.into_iter_gives.0 in
    record {
      way = begins c.args.end.now c.args.edits.items (into_iter_items c.into_iter-edit-iterator.result) c.new-rows.result c.new-rows.ensures all;
      edits = subst (λ (edits : List Edit). AllByRecursion IsEdit edits) (sym all) c.requires;
    }

pub make_before-requires : goal.make_before-requires
make_before-requires c =
    let all : AllByRecursion IsEdit (c.in-Some.edit ∷ into_iter_items c.next.new.self) = subst (λ (edits : List Edit). AllByRecursion IsEdit edits) c.in-Some.ensures.steps.0 c.loop-edit.invariant.edits in
    all.0

pub loop-edit-preserved : goal.loop-edit-preserved
loop-edit-preserved c =
    let rest = into_iter_items c.next.new.self in
    let first = c.in-Some.ensures.steps.0 in
    let all : AllByRecursion IsEdit (c.in-Some.edit ∷ rest) = subst (λ (edits : List Edit). AllByRecursion IsEdit edits) first c.loop-edit.invariant.edits in
    record {
      way = goes_on c.args.end.now c.args.edits.items (into_iter_items c.loop-edit.edit-iterator) rest c.in-Some.edit c.loop-edit.rows c.make_before.new.rows first c.in_ok-make_before.ensures.ok c.loop-edit.invariant.way;
      edits = all.1;
    }

pub returns-clause-ok : goal.returns-clause-ok
returns-clause-ok c = record {
  same = ends c.args.end.now c.args.edits.items (into_iter_items c.loop-edit.edit-iterator) c.loop-edit.rows (nil_from_length (into_iter_items c.loop-edit.edit-iterator) (grind arith)) c.loop-edit.invariant.way;
  none = c.loop-edit.invariant.way.none;
}
