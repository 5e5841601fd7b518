-- Answers to the remaining commands complete the answers to all, and there is room for the outcomes.
use Rattle.std.proofs.Common.{◌≤◌, ◌+◌, length}
use Rattle.std.specs.Prelude.{vec_len, vec_capacity}
use Rattle.std.specs.List.{AllByRecursion}
use Rattle.std.specs.Vec.Iter.{into_iter_items}
use Rattle.row_atomic.specs.Changes.{Holds}
use Rattle.row_atomic.specs.Commands.{IsUnderRow}
use Rattle.row_atomic.proofs.CommandSteps.{Completes}
use Rattle.row_atomic.proofs.cluster.Cluster.run.Given as goal

abbrev pub invariant-loop-command : goal.invariant-loop-command
invariant-loop-command g l = record {
  room : vec_len l.outcomes + length (into_iter_items l.command-iterator) ≤ vec_capacity l.outcomes;
  under : AllByRecursion IsUnderRow (into_iter_items l.command-iterator);
  still : Holds g.F.Files.contents l.initial.self → Holds g.F.Files.contents l.self;
  answers : Completes g.F.Files.contents g.F.Files.faults l.initial.self l.fn.commands.items l.outcomes.items l.self (into_iter_items l.command-iterator);
}
