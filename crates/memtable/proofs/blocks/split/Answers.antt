use Rattle.std.proofs.Common.{◌≡◌, ◌+◌, ℕ, suc, set, ap, ◌∙◌, arith}
use Rattle.std.specs.List.{insert}
use Rattle.memtable.specs.Blocks.{list_of, block_entries}
use Rattle.memtable.proofs.BlockLists.{cut_in_two}
use Rattle.memtable.proofs.blocks.split.Goals as goal

pub returns-clause-same : goal.returns-clause-same
returns-clause-same c =
    let xs = c.args.blocks.now.filled.items in
    let items = rw c.unwrap.ensures at c.insert.ensures.items in
    let next : c.args.at + 1 ≡ suc c.args.at = omega arith in
    ap block_entries items ∙ ap (λ (k : ℕ). block_entries (insert (set xs c.args.at c.cut-upper.new.block) k c.cut-upper.result)) next
    ∙ cut_in_two list_of xs c.args.at c.index_mut.result.now c.cut-upper.new.block c.cut-upper.result c.requires.full.within c.index_mut.ensures.value c.cut-upper.ensures.entries
