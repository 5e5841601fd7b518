use Rattle.std.proofs.Common.{◌≡◌, ◌≤◌, List, length}
use Rattle.cell_key.specs.Entries.{Entry, IsRising}
use Rattle.sorted_file.specs.Grammar.{block_bytes}
use Rattle.sorted_file.specs.Block.{IsBehind}
use Rattle.sorted_file.proofs.Searched.{IsPast}
use Rattle.sorted_file.proofs.block.bytes_from.Given as goal

abbrev pub invariant-below : goal.invariant-below
invariant-below l = record {
  past : (es : List Entry) → IsRising es → l.fn.bytes ≡ block_bytes es → IsPast l.fn.text l.rest es;
  behind : IsBehind l.fn.text l.fn.bytes l.rest;
  shorter : length l.rest ≤ length l.fn.bytes;
}

abbrev pub decreases-below : goal.decreases-below
decreases-below l = length l.rest
