use Rattle.std.proofs.Common.{ℕ, subst}
use Rattle.oracle.specs.Marks.{IsWithinMark}
use Rattle.server_loop.specs.Server.{marks_of}
use Rattle.server_loop.proofs.Rested.{read_stays}
use Rattle.server_loop.proofs.server.Server.read.Goals as goal

pub returns : goal.returns
returns g c = read_stays g.F.Files g.M.MarkStore _ _
    (subst (λ (n : ℕ). IsWithinMark n (g.M.MarkStore.mark (marks_of c.take_read-answer.new.self))) c.last-last.ensures.last c.last-last.ensures.below_mark)
    c.root_is_stored.ensures _ _ _ _ c.take_read-answer.ensures
