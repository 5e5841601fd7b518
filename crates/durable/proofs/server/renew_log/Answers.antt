use Rattle.std.proofs.Common.{◌∷◌, [], ℕ, List, inl, inr, subst, ap}
use Rattle.std.specs.Prelude.{Err}
use Rattle.durable.proofs.Logged.{named_so}
use Rattle.durable.proofs.server.renew_log.Goals as goal

pub returns-in-Ok-renew-clause-ok : goal.returns-in-Ok-renew-clause-ok
returns-in-Ok-renew-clause-ok g c = λ records held.
    let name = named_so (g.S.Journaled.view.next_root c.args.server.now) _ _ _ c.in-Ok.ensures.name.0 c.in-Ok.ensures.name.1 c.root_sum_bytes.ensures in
    subst (λ (one : List ℕ). g.L.Log.holds c.renew.new.self (one ∷ [])) name (c.in-Ok-renew.ensures.ok records held)

pub returns-in-Err-Memory-clause-err : goal.returns-in-Err-Memory-clause-err
returns-in-Err-Memory-clause-err g c = λ records held. inl (c.in-Err-Memory.ensures.unchanged (inl (ap Err c.in-Err-Memory.field-0-is)) records held)

pub returns-in-Err-Memory-clause-unchanged : goal.returns-in-Err-Memory-clause-unchanged
returns-in-Err-Memory-clause-unchanged g c = λ _. c.in-Err-Memory.ensures.unchanged (inl (ap Err c.in-Err-Memory.field-0-is))

pub returns-in-Err-renew-clause-err : goal.returns-in-Err-renew-clause-err
returns-in-Err-renew-clause-err g c = λ records held.
    let name = named_so (g.S.Journaled.view.next_root c.args.server.now) _ _ _ c.in-Ok.ensures.name.0 c.in-Ok.ensures.name.1 c.root_sum_bytes.ensures in
    elim (c.in-Err-renew.ensures.err records held) [ inl same ↦ inl same | inr one ↦ inr (subst (λ (r : List ℕ). g.L.Log.holds c.renew.new.self (r ∷ [])) name one) ]
