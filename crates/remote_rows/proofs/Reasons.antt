-- Reasons of refusals, from one call to the next.
use Rattle.std.proofs.Common.{◌≡◌, ℕ, Result, Ok, Err, sym, ap, ◌∙◌}
use Rattle.std.specs.Result.{IsErrAnd}
use Rattle.cell_key.specs.Faults.{HasReason}
use Rattle.cell_key.specs.declared.refusals.Refusal.{Refusal}
use Rattle.cell_key.specs.declared.refusals.Refusal.TheVariants as refused

-- a refusal that is handed on has the same reason
pub reason_on : {A B : Type 0} (before now : ℕ) (a : Result A Refusal) (b : Result B Refusal) (e : Refusal) → a ≡ Err e → IsErrAnd b (λ f. f ≡ e) → HasReason before now a → HasReason before now b
reason_on before now a (Ok y) e is same reason = absurd same
reason_on before now a (Err f) e is same reason = record {
  later = reason.later;
  device = λ device. reason.device (let at : f ≡ refused.Device = cc in is ∙ ap Err (sym same ∙ at));
  told = λ other. reason.told (λ device. other (let at : e ≡ refused.Device = cc in ap Err (same ∙ at)));
}
