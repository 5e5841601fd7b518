use Rattle.std.specs.Option.{option_copied}
use Rattle.tablet.proofs.SourceLists.{AreGathered}
use Rattle.tablet.proofs.sources.sources.Given as goal

abbrev pub invariant-loop-file : goal.invariant-loop-file
invariant-loop-file g l = AreGathered l.from (option_copied l.end) (option_copied l.memtable) l.files l.file-index l.sources.items
