use Rattle.std.proofs.Common.{ap, sym, ◌∙◌}
use Rattle.compaction.specs.Inputs.{input_lent}
use Rattle.compaction.proofs.input.InputSource.current.Goals as goal

pub returns-in-Memtable : goal.returns-in-Memtable
returns-in-Memtable g c = c.current.ensures ∙ ap input_lent (sym c.in-Memtable.is)
