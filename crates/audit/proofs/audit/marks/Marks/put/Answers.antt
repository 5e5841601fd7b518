use Rattle.std.proofs.Common.{◌∷◌, ℕ, List, subst}
use Rattle.si_model.specs.Sets.{◌∈◌}
use Rattle.si_model.specs.declared.replies.Cell.{Cell}
use Rattle.audit.specs.Audits.{SameMembers}
use Rattle.audit.proofs.HeldCells.{marks_of, put_in}
use Rattle.audit.proofs.audit.marks.Marks.put.Goals as goal

pub returns-clause-ok : goal.returns-clause-ok
returns-clause-ok c =
    subst (λ (marks : List (Cell × ℕ)). SameMembers (marks_of c.insert.new.self) ((c.args.cell, c.args.start) ∷ marks)) c.self.view_is
    (put_in c.self.inside.holders c.insert.new.self c.self.invariant c.in_ok-insert.ensures.ordered c.args.cell c.args.start c.in_ok-insert.ensures.updates.0
    (λ u m. c.requires u (subst (λ (marks : List (Cell × ℕ)). (c.args.cell, u) ∈ marks) c.self.view_is m)))
