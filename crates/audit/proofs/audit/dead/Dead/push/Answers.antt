use Rattle.std.proofs.Common.{◌≡◌, ◌++◌, ◌∷◌, [], ◌∙◌, ℕ, List, Option, Some, subst, sym}
use Rattle.std.specs.Prelude.{IfSome}
use Rattle.audit.specs.Dead.{IsPut, IsSetOf, StartSet}
use Rattle.audit.proofs.DeadSets.{set_more}
use Rattle.audit.proofs.Versions.{if_some_weaker}
use Rattle.audit.proofs.audit.dead.Dead.push.Goals as goal

pub invariant_of-self-2 : goal.invariant_of-self-2
invariant_of-self-2 c =
    let old = c.self.inside.list.items in
    subst (λ (l : List ℕ). IfSome c.with_start.result (IsSetOf l)) (sym c.in_ok-push.ensures.items)
    (if_some_weaker (λ (after : StartSet). (before : StartSet) × (c.take.result ≡ Some before) × IsPut before after c.args.start) (IsSetOf (old ++ c.args.start ∷ []))
    (λ after r. set_more old r.0 after c.args.start (subst (λ (o : Option StartSet). IfSome o (IsSetOf old)) (sym c.take.ensures.value ∙ r.1) c.self.invariant) r.2)
    c.with_start.result c.with_start.ensures)
