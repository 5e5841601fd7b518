use Rattle.std.proofs.Common.{drop}
use Rattle.remote_rows.proofs.CopyLoops.{AreCopied}
use Rattle.remote_rows.proofs.memory_wire.copies.Given as goal

abbrev pub invariant-loop-edit : goal.invariant-loop-edit
invariant-loop-edit l = AreCopied l.edits (drop l.edit-index l.edits) l.found.items
