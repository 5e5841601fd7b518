use Rattle.std.proofs.Common.{List, Some, ap, ◌∙◌}
use Rattle.std.specs.FinMap.{empty}
use Rattle.cell_key.specs.Cells.{Cells, after_edits}
use Rattle.cell_key.specs.declared.edits.Edit.{Edit}
use Rattle.remote_rows.proofs.EditsAt.{joined}
use Rattle.remote_rows.proofs.memory_wire.MemoryWireRowWire.swap.Goals as goal

pub returns-clause-done : goal.returns-clause-done
returns-clause-done c = λ _ guard.
    ap (λ (cells : Cells). Some cells)
    (ap (λ (edits : List Edit). after_edits empty edits) c.in_ok-append.ensures.items ∙ joined empty c.args.self.now.edits.items c.args.edits.items)
