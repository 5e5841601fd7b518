use Rattle.std.proofs.Common.{◌≡◌, ◌≤◌, ◌-◌, List, length, drop}
use Rattle.cell_key.specs.Entries.{Entry, entries_from}
use Rattle.sorted_file.specs.Block.{IsParsed}
use Rattle.sorted_file.proofs.block.Block.position.Given as goal

-- no entry before the first index is at or above the text, and all from the second on are
abbrev pub invariant-halves : goal.invariant-halves
invariant-halves l = record {
  ordered : l.low ≤ l.high;
  within : l.high ≤ length l.fn.self.starts.items;
  low : (es : List Entry) → IsParsed es l.fn.self → entries_from l.fn.text es ≡ entries_from l.fn.text (drop l.low es);
  high : (es : List Entry) → IsParsed es l.fn.self → entries_from l.fn.text (drop l.high es) ≡ drop l.high es;
}

abbrev pub decreases-halves : goal.decreases-halves
decreases-halves l = l.high - l.low
