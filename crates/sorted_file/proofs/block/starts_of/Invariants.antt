use Rattle.std.proofs.Common.{length}
use Rattle.std.specs.Prelude.{IfSome}
use Rattle.cell_key.specs.LentKeys.{IsLentKey}
use Rattle.sorted_file.specs.Block.{last_text}
use Rattle.sorted_file.proofs.Starts.{IsDone}
use Rattle.sorted_file.proofs.block.starts_of.Given as goal

abbrev pub invariant-entries : goal.invariant-entries
invariant-entries l = record {
  done : IsDone l.fn.bytes l.rest (last_text l.last) l.starts.items;
  key : IfSome l.last IsLentKey;
}

abbrev pub decreases-entries : goal.decreases-entries
decreases-entries l = length l.rest
