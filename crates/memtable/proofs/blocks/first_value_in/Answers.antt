use Rattle.std.proofs.Common.{sym, ◌∙◌}
use Rattle.memtable.specs.Blocks.{list_of}
use Rattle.memtable.proofs.Values.{no_first_value}
use Rattle.memtable.proofs.blocks.first_value_in.Goals as goal

pub returns-then-block-eq0 : goal.returns-then-block-eq0
returns-then-block-eq0 c = sym (no_first_value (list_of c.args.block.now) (sym c.requires ∙ c.if-block-eq0.true))
