use Rattle.std.proofs.Common.{map, take}
use Rattle.si_model.specs.Answers.{write_named}
use Rattle.si_model.specs.Takings.{TakesAll}
use Rattle.txn_client.specs.Writes.{write_of}
use Rattle.txn_client.proofs.takings.take_all.Given as goal

-- the writes so far are taken
abbrev pub invariant-loop-write : goal.invariant-loop-write
invariant-loop-write l = TakesAll (map write_of l.initial.taken) (map write_named (take l.write-index l.asked)) (map write_of l.taken)
