use Rattle.std.proofs.Common.{ℕ, List, Option, subst}
use Rattle.std.specs.Prelude.{IfSome}
use Rattle.audit.specs.Dead.{IsSetOf, StartSet}
use Rattle.audit.proofs.audit.dead.Dead.has.Goals as goal

pub returns-in-Some : goal.returns-in-Some
returns-in-Some c =
    let all : IsSetOf c.args.self.now c.in-Some.set = subst (λ (l : List ℕ). IsSetOf l c.in-Some.set) c.self.view_is (subst (λ (o : Option StartSet). IfSome o (IsSetOf c.self.inside.list.items)) c.in-Some.is c.self.invariant) in
    let is = all c.args.start in
    (λ t. is.0 (c.is_in.ensures.0 t), λ m. c.is_in.ensures.1 (is.1 m))
