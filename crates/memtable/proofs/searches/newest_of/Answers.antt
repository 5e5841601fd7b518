use Rattle.std.proofs.Common.{ℕ, List, Some, option_map, sym, ap, subst, ◌∙◌, arith}
use Rattle.cell_key.specs.Cells.{IsNewest, version}
use Rattle.cell_key.specs.Versions.{IsVersion}
use Rattle.cell_key.specs.Entries.{cells_of, entries_from}
use Rattle.memtable.specs.Slots.{lent_version, slot_entry, first_value}
use Rattle.memtable.specs.Blocks.{block_entries}
use Rattle.memtable.proofs.Newest.{by_below, by_erased, by_limits, by_none, by_other, by_value}
use Rattle.memtable.proofs.searches.newest_of.Goals as goal

pub returns-in_err-slot-clause-found : goal.returns-in_err-slot-clause-found
returns-in_err-slot-clause-found c =
    let es = block_entries c.args.blocks.now in
    let at = version c.args.sought.row.now c.args.sought.family.now c.args.sought.qualifier in
    let list = c.requires.list in
    let first = c.in_err-slot.ensures ∙ ap (λ (name : List ℕ). first_value (entries_from name es)) c.requires.own in
    subst (λ (o : _). IsNewest (cells_of es) at c.args.lo c.args.sought.stamp (option_map lent_version o)) (sym c.from_residual.ensures)
    (by_none c.args.sought.row.now c.args.sought.family.now c.args.sought.qualifier c.as_bytes-row.ensures.valid c.as_bytes-family.ensures.valid es list c.args.sought.stamp (omega arith) first c.args.lo)

pub returns-in_err-stamp-clause-found : goal.returns-in_err-stamp-clause-found
returns-in_err-stamp-clause-found c =
    let es = block_entries c.args.blocks.now in
    let at = version c.args.sought.row.now c.args.sought.family.now c.args.sought.qualifier in
    let list = c.requires.list in
    let first = c.in_ok-slot.ensures ∙ ap (λ (name : List ℕ). first_value (entries_from name es)) c.requires.own in
    subst (λ (o : _). IsNewest (cells_of es) at c.args.lo c.args.sought.stamp (option_map lent_version o)) (sym c.from_residual-in_err-stamp.ensures)
    (by_other c.args.sought.row.now c.args.sought.family.now c.args.sought.qualifier c.as_bytes-row.ensures.valid c.as_bytes-family.ensures.valid es list c.args.sought.stamp (omega arith) (slot_entry c.in_ok-slot.slot.now) first c.args.lo
    (λ s small e. c.in_err-stamp.ensures.none s small (c.as_slice.ensures ∙ e)))

pub returns-then-stamp-lo-clause-found : goal.returns-then-stamp-lo-clause-found
returns-then-stamp-lo-clause-found c =
    let es = block_entries c.args.blocks.now in
    let at = version c.args.sought.row.now c.args.sought.family.now c.args.sought.qualifier in
    let list = c.requires.list in
    let first = c.in_ok-slot.ensures ∙ ap (λ (name : List ℕ). first_value (entries_from name es)) c.requires.own in
    by_below c.args.sought.row.now c.args.sought.family.now c.args.sought.qualifier c.as_bytes-row.ensures.valid c.as_bytes-family.ensures.valid es list c.args.sought.stamp (omega arith) (slot_entry c.in_ok-slot.slot.now) first c.in_ok-stamp.stamp c.in_ok-stamp.ensures.small
    (sym c.as_slice.ensures ∙ c.in_ok-stamp.ensures.some) c.args.lo c.if-stamp-lo.true

pub returns-in-Some-clause-found : goal.returns-in-Some-clause-found
returns-in-Some-clause-found c =
    let es = block_entries c.args.blocks.now in
    let at = version c.args.sought.row.now c.args.sought.family.now c.args.sought.qualifier in
    let list = c.requires.list in
    let name = c.in_ok-slot.slot.now.text in
    let first = ap (λ (o : _). Some (name, option_map (λ (v : _). v.items) o)) (sym c.in-Some.is) ∙ c.in_ok-slot.ensures ∙ ap (λ (name : List ℕ). first_value (entries_from name es)) c.requires.own in
    subst (λ (bytes : List ℕ). IsNewest (cells_of es) at c.args.lo c.args.sought.stamp (Some (c.in_ok-stamp.stamp, bytes))) (sym c.as_slice-in-Some.ensures.value)
    (by_value c.args.sought.row.now c.args.sought.family.now c.args.sought.qualifier c.as_bytes-row.ensures.valid c.as_bytes-family.ensures.valid es list c.args.sought.stamp (omega arith) name c.in-Some.value.items first c.in_ok-stamp.stamp c.in_ok-stamp.ensures.small
    (sym c.as_slice.ensures ∙ c.in_ok-stamp.ensures.some) c.args.lo (let not = c.if-stamp-lo.false in omega (arith, not)))

pub returns-in-Some-clause-limits : goal.returns-in-Some-clause-limits
returns-in-Some-clause-limits c =
    let es = block_entries c.args.blocks.now in
    let at = version c.args.sought.row.now c.args.sought.family.now c.args.sought.qualifier in
    let list = c.requires.list in
    let name = c.in_ok-slot.slot.now.text in
    let first = ap (λ (o : _). Some (name, option_map (λ (v : _). v.items) o)) (sym c.in-Some.is) ∙ c.in_ok-slot.ensures ∙ ap (λ (name : List ℕ). first_value (entries_from name es)) c.requires.own in
    subst (λ (bytes : List ℕ). IsVersion c.in_ok-stamp.stamp bytes) (sym c.as_slice-in-Some.ensures.value)
    (by_limits c.args.sought.row.now c.args.sought.family.now c.args.sought.qualifier c.as_bytes-row.ensures.valid c.as_bytes-family.ensures.valid es list c.args.sought.stamp (omega arith) name c.in-Some.value.items first c.in_ok-stamp.stamp c.in_ok-stamp.ensures.small
    (sym c.as_slice.ensures ∙ c.in_ok-stamp.ensures.some))

pub returns-in-None-clause-found : goal.returns-in-None-clause-found
returns-in-None-clause-found c =
    let es = block_entries c.args.blocks.now in
    let at = version c.args.sought.row.now c.args.sought.family.now c.args.sought.qualifier in
    let list = c.requires.list in
    let name = c.in_ok-slot.slot.now.text in
    let first = ap (λ (o : _). Some (name, option_map (λ (v : _). v.items) o)) (sym c.in-None.is) ∙ c.in_ok-slot.ensures ∙ ap (λ (name : List ℕ). first_value (entries_from name es)) c.requires.own in
    absurd (by_erased c.args.sought.row.now c.args.sought.family.now c.args.sought.qualifier c.as_bytes-row.ensures.valid c.as_bytes-family.ensures.valid es list c.args.sought.stamp (omega arith) name first)
