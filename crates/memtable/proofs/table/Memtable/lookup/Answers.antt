use Rattle.std.proofs.Common.{◌<◌, ◌^◌, sym, rules, ◌∙◌, ap}
use Rattle.cell_key.specs.Entries.{entry_of_key}
use Rattle.cell_key.specs.Keys.{text, IsKey}
use Rattle.memtable.specs.Blocks.{block_entries}
use Rattle.memtable.proofs.StampRanges.{none_outside}
use Rattle.memtable.proofs.table.Memtable.lookup.Goals as goal

pub returns-then-misses-clause-found : goal.returns-then-misses-clause-found
returns-then-misses-clause-found c =
    let es = block_entries c.self.inside.blocks.filled.items in
    let small : c.args.key.now.stamp < 2 ^ 64 = search rules in
    let is : IsKey c.args.key.now = record { row = c.as_bytes-row.ensures.valid; family = c.as_bytes-family.ensures.valid; stamp = small } in
    let none = none_outside c.self.inside.stamps c.args.key.now is (c.misses.ensures.0 c.if-misses.true) es c.self.invariant.list.each c.self.invariant.stamps in
    sym none ∙ ap (λ (xs : _). entry_of_key xs (text c.args.key.now)) c.self.view_is
