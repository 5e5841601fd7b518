use Rattle.std.proofs.Common.{◌≢◌, List, ap, subst, ◌∙◌, map}
use Rattle.std.proofs.lemmas.Result.{IfOk-from_err}
use Rattle.std.specs.List.{All}
use Rattle.cell_key.specs.Cells.{edited_key}
use Rattle.cell_key.specs.declared.keys.CellKey.{CellKey}
use Rattle.rows.specs.Slots.{HasSlot, EmptiesNone}
use Rattle.rows.proofs.SlotLemmas.{ready, but_written}
use Rattle.rows.proofs.slots.apply.Goals as goal

pub write_all-requires : goal.write_all-requires
write_all-requires c =
    let made = c.make_slots.new.slots.entries in
    let keys = c.in_ok-keys.ensures ∙ ap (map edited_key) c.deref.ensures.value in
    ready made c.in_ok-keys.keys.items c.args.edits.items keys
    (subst (λ (ks : List CellKey). All (HasSlot made) ks) c.deref-2.ensures.value c.in-Ok.ensures.slots)

pub drop_empties-requires : goal.drop_empties-requires
drop_empties-requires c =
    let old = c.args.slots.now.entries in
    let made = c.make_slots.new.slots.entries in
    let keys = c.in_ok-keys.ensures ∙ ap (map edited_key) c.deref.ensures.value in
    but_written old made c.in_ok-keys.keys.items c.write_all.new.slots.entries c.args.edits.items keys c.requires
    (subst (λ (ks : List CellKey). EmptiesNone (λ q. All (λ key. key ≢ q) ks) old made) c.deref-2.ensures.value c.in-Ok.ensures.empties)
    c.write_all.ensures.empties

pub returns-in_err-keys-clause-ok : goal.returns-in_err-keys-clause-ok
returns-in_err-keys-clause-ok c = IfOk-from_err c.from_residual.result _ c.from_residual.ensures.0

pub returns-in_err-keys-clause-full : goal.returns-in_err-keys-clause-full
returns-in_err-keys-clause-full c = c.requires

pub returns-in-Ok-clause-err : goal.returns-in-Ok-clause-err
returns-in-Ok-clause-err c = tt

pub returns-in-Err-clause-ok : goal.returns-in-Err-clause-ok
returns-in-Err-clause-ok c = tt
