use Rattle.std.proofs.Common.{◌+◌, ◌*◌, ◌≤◌, drop}
use Rattle.std.specs.Prelude.{◌↔◌}
use Rattle.si_model.specs.Answers.{cells_named, told_items}
use Rattle.audit.specs.AuditOperations.{MayTellAll}
use Rattle.audit.proofs.audit.Audit.may_tell_all.Given as goal

-- what may be told of the other cells is what may be told of all
abbrev pub invariant-loop-index : goal.invariant-loop-index
invariant-loop-index l = record {
  rest : MayTellAll l.self l.start l.used (cells_named (drop l.index l.cells)) (told_items (drop l.index l.found)) ↔ MayTellAll l.self l.start 0 (cells_named l.cells) (told_items l.found);
  few : l.used ≤ 1046268 + 9 * l.index;
}
