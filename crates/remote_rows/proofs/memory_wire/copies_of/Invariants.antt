use Rattle.std.proofs.Common.{drop}
use Rattle.remote_rows.proofs.CopyLoops.{AreCopiedOf}
use Rattle.remote_rows.proofs.memory_wire.copies_of.Given as goal

abbrev pub invariant-loop-edit : goal.invariant-loop-edit
invariant-loop-edit l = AreCopiedOf l.row l.edits (drop l.edit-index l.edits) l.found.items
