-- The reasons of refusals, in a call that makes others.
use Rattle.std.proofs.Common.{◌≡◌, ◌≤◌, ◌∙◌, ℕ, Result, Ok, Err, IsErrOf, refl, sym, ap, subst, arith}
use Rattle.std.specs.Result.{IsErrAnd}
use Rattle.cell_key.specs.Faults.{HasReason}
use Rattle.cell_key.specs.declared.refusals.Refusal.{Refusal}
use Rattle.cell_key.specs.declared.refusals.Refusal.TheVariants.{Device}

-- a result that is Ok is no refusal
pub not_refused : {A : Type 0} (x : A) (n : Refusal) → ¬ IsErrOf (Ok x) n
not_refused x n is = cc

at_most_itself : (n : ℕ) → n ≤ n
at_most_itself n = omega arith

-- no fault was counted, and the answer is no device's fault
pub reason_none : {B : Type 0} (r : Result B Refusal) (count : ℕ) → ¬ IsErrOf r Device → HasReason count count r
reason_none r count none = record { later = at_most_itself count; device = λ is. absurd (none is); told = λ other. refl }

-- an error that is passed on has the same reason
pub reason_passed : {A B : Type 0} (r : Result B Refusal) (e : Refusal) (before now : ℕ) → IsErrAnd r (λ f. f ≡ e) → HasReason {T = A} before now (Err e) → HasReason before now r
reason_passed (Ok x) e before now by had = absurd by
reason_passed {A} (Err f) e before now by had = record {
  later = had.later;
  device = λ is. had.device (let same : f ≡ Device = cc in ap (λ (d : Refusal). Err d) (sym by ∙ same));
  told = λ other. had.told (λ is. other (let same : e ≡ Device = cc in ap (λ (d : Refusal). Err d) (by ∙ same)));
}

-- the first of two calls succeeded
pub reason_then : {A B : Type 0} (r : Result B Refusal) (x : A) (before mid now : ℕ) → HasReason before mid (Ok x) → HasReason mid now r → HasReason before now r
reason_then r x before mid now first second = subst (λ (k : ℕ). HasReason k now r) (first.told (not_refused x Device)) second

-- an answer's reason holds for another answer, or for a refusal that is no device's fault
pub reason_kept : {A B : Type 0} (x : A) (r : Result B Refusal) (before now : ℕ) → ¬ IsErrOf r Device → HasReason before now (Ok x) → HasReason before now r
reason_kept x r before now none had = record { later = had.later; device = λ is. absurd (none is); told = λ other. had.told (not_refused x Device) }
