use Rattle.std.proofs.Common.{length, take, ◌-◌, ◌≤◌, ◌≡◌}
use Rattle.std.specs.Io.KnownBytes.{Consumes}
use Rattle.disk.proofs.reading.fill.Given as goal

-- the buffer keeps its length, the bytes read fit into it, and they are its prefix
abbrev pub invariant-loop-at : goal.invariant-loop-at
invariant-loop-at g l =
    (l.at ≤ length l.out) × (length l.out ≡ length l.initial.out)
    × Consumes (g.S.Read.remaining l.initial.file) (g.S.Read.remaining l.file) (take l.at l.out)

abbrev pub decreases-loop-at : goal.decreases-loop-at
decreases-loop-at g l = length l.initial.out - l.at
