use Rattle.std.proofs.Common.{◌≡◌, ℕ, Bool, List, Option, Some, None, option_map, arith}
use Rattle.std.specs.Prelude.{is_some}
use Rattle.std.specs.Borrow.{Bor}
use Rattle.std.specs.declared.ops.Bound.TheVariants.{Included}
use Rattle.std.specs.declared.vec.Vec.{Vec}
use Rattle.cell_key.specs.Cells.{Cells, version}
use Rattle.cell_key.specs.declared.keys.CellKey.{CellKey}
use Rattle.cell_key.specs.declared.keys.Qualifier.{Qualifier}
use Rattle.rows.specs.Reads.{HasVersion}
use Rattle.rows.specs.Slots.{slot_cells, keyed, IsFirstKey}
use Rattle.rows.proofs.BetweenStamps.{at_ends, versions_fall, newest_none, newest_some}
use Rattle.rows.proofs.slots.has_version.Goals as goal

first_there : {Z : Type 0} (row family : List ℕ) (q : Qualifier) (lo hi : ℕ) (cells : Cells) (first : Option (Bor CellKey × Bor (Vec ℕ Z))) (has : Bool) → has ≡ is_some first
    → IsFirstKey cells (Included (version row family q hi)) (Included (version row family q lo)) (option_map keyed first) → HasVersion cells (version row family q) lo hi has
first_there row family q lo hi cells None has is first = record { found = None; newest = newest_none row family q lo hi cells first; is = is }
first_there row family q lo hi cells (Some found) has is first =
    let there = keyed found in
    record { found = Some (there.0.stamp, there.1); newest = newest_some row family q lo hi cells there.0 there.1 first; is = is }

pub first-requires-clause-forward : goal.first-requires-clause-forward
first-requires-clause-forward c =
    rw (c.in_ok-from.ensures.key, c.in_ok-to.ensures.key) (versions_fall c.args.row.now c.args.family.now c.args.qualifier c.args.lo c.args.hi (omega arith))

pub returns : goal.returns
returns c =
    let at = version c.args.row.now c.args.family.now c.args.qualifier in
    let cells = slot_cells c.args.slots.now.entries in
    first_there c.args.row.now c.args.family.now c.args.qualifier c.args.lo c.args.hi cells c.first.result c.is_some.result c.is_some.ensures
    (at_ends cells c.in_ok-from.from c.in_ok-to.to (at c.args.hi) (at c.args.lo) (option_map keyed c.first.result) c.in_ok-from.ensures.key c.in_ok-to.ensures.key c.first.ensures)
