use Rattle.sorted_file.proofs.GrowingBlocks.{empty_block}
use Rattle.sorted_file.proofs.gathering.GatheredBlock.with_room.Goals as goal

pub returns-clause-none : goal.returns-clause-none
returns-clause-none c = empty_block _ c.in_ok-bytes.ensures.items c.in_ok-starts.ensures.none
