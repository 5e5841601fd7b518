use Rattle.std.proofs.Common.{◌≡◌, ◌++◌, length}
use Rattle.cell_key.specs.Texts.{escaped}
use Rattle.memtable.proofs.stack_text.push_escaped.Given as goal

-- the bytes written and the rest are the whole text
abbrev pub invariant-chunks : goal.invariant-chunks
invariant-chunks g l = l.out.items ++ escaped l.left ≡ l.fn.out.items ++ escaped l.row

abbrev pub decreases-chunks : goal.decreases-chunks
decreases-chunks g l = length l.left
