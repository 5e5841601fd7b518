-- The reasons of refusals by two counts of faults, of which one may rise.
use Rattle.std.proofs.Common.{◌≡◌, ◌∙◌, ℕ, inl, inr, Result, Ok, Err}
use Rattle.std.specs.Result.{IsErrAnd}
use Rattle.cell_key.specs.Faults.{HasReason}
use Rattle.cell_key.specs.declared.refusals.Refusal.{Refusal}
use Rattle.cell_key.specs.declared.refusals.Refusal.TheVariants.{Device}
use Rattle.cell_key.proofs.Reasons.{not_refused, reason_kept, reason_passed, reason_then}
use Rattle.txn_client.specs.Refusals.{HasOneReason}

-- another answer that is no refusal
pub one_reason_kept : {A B : Type 0} (x : A) (y : B) (before now before' now' : ℕ) → HasOneReason before now before' now' (Ok x) → HasOneReason before now before' now' (Ok y)
one_reason_kept x y before now before' now' (inl (reason, same)) = inl (reason_kept x (Ok y) _ _ (not_refused y Device) reason, same)
one_reason_kept x y before now before' now' (inr (reason, same)) = inr (reason_kept x (Ok y) _ _ (not_refused y Device) reason, same)

-- an error that is passed on
pub one_reason_passed : {A B : Type 0} (r : Result B Refusal) (e : Refusal) (before now before' now' : ℕ) → IsErrAnd r (λ f. f ≡ e) → HasOneReason {T = A} before now before' now' (Err e) → HasOneReason before now before' now' r
one_reason_passed r e before now before' now' by (inl (reason, same)) = inl (reason_passed r e _ _ by reason, same)
one_reason_passed r e before now before' now' by (inr (reason, same)) = inr (reason_passed r e _ _ by reason, same)

-- after a call that was answered, by which the first count didn't rise
pub one_reason_then : {A B : Type 0} (r : Result B Refusal) (x : A) (before mid now before' now' : ℕ) → HasReason before mid (Ok x) → HasOneReason mid now before' now' r → HasOneReason before now before' now' r
one_reason_then r x before mid now before' now' first (inl (reason, same)) = inl (reason_then r x before mid now first reason, same)
one_reason_then r x before mid now before' now' first (inr (reason, same)) = inr (reason, same ∙ first.told (not_refused x Device))
