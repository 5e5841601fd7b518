use Rattle.std.proofs.Common.{◌≡◌, ◌↔◌, ℕ, List, Some, subst}
use Rattle.si_model.specs.Reads.{cell_of}
use Rattle.si_model.specs.Sets.{◌∈◌}
use Rattle.si_model.specs.declared.replies.Cell.{Cell}
use Rattle.audit.proofs.HeldCells.{held_so}
use Rattle.audit.proofs.audit.marks.Marks.start_of.Goals as goal

pub returns : goal.returns
returns c = λ t.
    let x = cell_of c.args.row.now c.args.family.now in
    subst (λ (marks : List (Cell × ℕ)). ((x, t) ∈ marks) ↔ (c.holder_of.result ≡ Some t)) c.self.view_is (held_so c.self.inside.holders c.self.invariant x c.holder_of.result c.holder_of.ensures t)
