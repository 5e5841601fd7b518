use Rattle.std.proofs.Common.{◌≡◌, ◌++◌, drop}
use Rattle.cell_key.specs.Texts.{escaped}
use Rattle.memtable.proofs.stack_text.push_each.Given as goal

-- the bytes written and the rest are the whole text
abbrev pub invariant-loop-byte : goal.invariant-loop-byte
invariant-loop-byte g l = l.out.items ++ escaped (drop l.byte-index l.bytes) ≡ l.fn.out.items ++ escaped l.bytes
