use Rattle.std.proofs.Common.{drop, Option}
use Rattle.cell_key.specs.declared.refusals.Refusal.{Refusal}
use Rattle.si_model.specs.Answers.{cells_named}
use Rattle.audit.specs.AuditOperations.{RefusesFirstName}
use Rattle.audit.proofs.audit.reads.first_name_refusal.Given as goal

-- the refusal among the other cells is the refusal among all
abbrev pub invariant-loop-cell : goal.invariant-loop-cell
invariant-loop-cell l = (found : Option Refusal) → RefusesFirstName (cells_named (drop l.cell-index l.cells)) found → RefusesFirstName (cells_named l.cells) found
