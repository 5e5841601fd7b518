use Rattle.std.proofs.Common.{◌+◌, List, drop, refl, ap, sym, ◌∙◌}
use Rattle.std.specs.FinMap.{empty, get}
use Rattle.cell_key.specs.Cells.{after_edits}
use Rattle.cell_key.specs.declared.edits.Edit.{Edit}
use Rattle.remote_rows.proofs.CopyLoops.{copied_none_of, copied_one_of, next_edit, none_left}
use Rattle.remote_rows.proofs.memory_wire.copies_of.Goals as goal

pub loop-edit-init : goal.loop-edit-init
loop-edit-init c = copied_none_of c.args.row.now c.args.edits.now c.args.edits.now c.new-found.result.items c.new-found.ensures.items refl c.requires

pub loop-edit-preserved : goal.loop-edit-preserved
loop-edit-preserved c =
    let i = c.loop-edit.edit-index in
    let next = next_edit c.args.edits.now i c.edit-item.result c.loop-edit-test.true c.edit-item.is in
    copied_one_of c.args.row.now c.args.edits.now (drop i c.args.edits.now) (drop (i + 1) c.args.edits.now) c.loop-edit.found.items c.push_if_of.new.found.items c.edit-item.result next c.in_ok-push_if_of.ensures.ok c.loop-edit.invariant

pub returns-clause-same : goal.returns-clause-same
returns-clause-same c key under =
    let none = none_left c.args.edits.now c.loop-edit.edit-index c.loop-edit-test.false in
    ap (λ (left : List Edit). get (after_edits (after_edits empty c.loop-edit.found.items) left) key) (sym none) ∙ c.loop-edit.invariant.made key under

pub returns-clause-each : goal.returns-clause-each
returns-clause-each c = c.loop-edit.invariant.each
