use Rattle.std.proofs.Common.{◌≡◌, ◌++◌, ◌+◌, ◌≤◌, length}
use Rattle.std.specs.Prelude.{vec_len, vec_capacity}
use Rattle.file_sums.proofs.files.append_all.Given as goal

abbrev pub invariant-loop-number : goal.invariant-loop-number
invariant-loop-number l =
    (l.names.items ++ l.number-iterator ≡ l.initial.names.items ++ l.initial.number-iterator)
    × (vec_len l.names + length l.number-iterator ≤ vec_capacity l.names)
