use Rattle.std.proofs.Common.{◌-◌, ◌↔◌}
use Rattle.request_codec.specs.Answers.{AreTold}
use Rattle.request_codec.proofs.read_told.are_told.Given as goal

abbrev pub invariant-loop : goal.invariant-loop
invariant-loop l = AreTold (l.count - l.counter) l.rest ↔ AreTold l.count l.bytes
