use Rattle.std.proofs.Common.{◌≡◌, ◌++◌, ◌+◌, ◌≤◌, length}
use Rattle.std.specs.Prelude.{vec_len, vec_capacity}
use Rattle.file_store.proofs.memory.MemFilesFiles.list.Given as goal

abbrev pub invariant-loop-name : goal.invariant-loop-name
invariant-loop-name l =
    (l.names.items ++ l.name-iterator ≡ l.initial.names.items ++ l.initial.name-iterator)
    × (vec_len l.names + length l.name-iterator ≤ vec_capacity l.names)
