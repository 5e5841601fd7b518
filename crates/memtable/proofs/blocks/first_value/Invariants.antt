use Rattle.std.proofs.Common.{◌≡◌, length}
use Rattle.std.specs.List.{AllByRecursion}
use Rattle.memtable.specs.Slots.{first_value}
use Rattle.memtable.specs.Blocks.{block_entries, IsEntryBlock}
use Rattle.memtable.proofs.blocks.first_value.Given as goal

-- the blocks passed have no value
abbrev pub invariant-each : goal.invariant-each
invariant-each l =
    record {
      blocks : AllByRecursion IsEntryBlock l.rest;
      first : first_value (block_entries l.rest) ≡ first_value (block_entries l.fn.blocks);
    }

abbrev pub decreases-each : goal.decreases-each
decreases-each l = length l.rest
