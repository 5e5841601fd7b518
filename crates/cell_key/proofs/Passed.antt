-- An error that is passed on by a call that makes others.
use Rattle.std.proofs.Common.{◌≡◌, ℕ, refl, sym, subst, ap, ◌∙◌}
use Rattle.std.specs.Result.{IfErr, IfOk, IsErrAnd, IsErrOf, OnErr}
use Rattle.std.specs.declared.result.Result.{Result}
use Rattle.std.specs.declared.result.Result.TheVariants.{Ok, Err}
use Rattle.cell_key.specs.declared.refusals.Refusal.{Refusal}
use Rattle.cell_key.specs.declared.refusals.Refusal.TheVariants.{Device}
use Rattle.cell_key.specs.Faults.{HasReason}
use Rattle.cell_key.proofs.Reasons.{not_refused}

-- the `?` passes on the error of its call
pub as_err : {T E : Type 0} (r : Result T E) (e : E) → IsErrAnd r (λ f. f ≡ e) → r ≡ Err e
as_err (Ok x) e by = absurd by
as_err (Err f) e by = ap Err by

pub same_refusal : {B : Type 0} (r : Result B Refusal) (e n : Refusal) → IsErrAnd r (λ f. f ≡ e) → IsErrOf r n → e ≡ n
same_refusal (Ok x) e n by is = absurd by
same_refusal (Err f) e n by is = let same : f ≡ n = cc in sym by ∙ same

pub passed_on : {A B : Type 0} (r : Result B Refusal) (s : Result A Refusal) (e n : Refusal) → IsErrAnd r (λ f. f ≡ e) → s ≡ Err e → IsErrOf r n → IsErrOf s n
passed_on r s e n by was is = was ∙ ap (λ x. Err x) (same_refusal r e n by is)

pub passed : {A B : Type 0} (r : Result B Refusal) (e n : Refusal) → IsErrAnd r (λ f. f ≡ e) → IsErrOf r n → IsErrOf {T = A} (Err e) n
passed r e n by is = passed_on r (Err e) e n by refl is

passed_back : {A B : Type 0} (r : Result B Refusal) (s : Result A Refusal) (e n : Refusal) → IsErrAnd r (λ f. f ≡ e) → s ≡ Err e → IsErrOf s n → IsErrOf r n
passed_back (Ok x) s e n by was is = absurd by
passed_back (Err f) s e n by was is = let same : e ≡ n = cc in ap (λ x. Err x) (by ∙ same)

-- properties of a result whose error is passed on
pub passed_err : {B : Type 0} (r : Result B Refusal) (e : Refusal) (P : Refusal → Type 0) → IsErrAnd r (λ f. f ≡ e) → P e → IfErr r P
passed_err (Ok x) e P by h = tt
passed_err (Err f) e P by h = subst P (sym by) h

pub passed_none : {B : Type 0} (r : Result B Refusal) (e : Refusal) (P : B → Type 0) → IsErrAnd r (λ f. f ≡ e) → IfOk r P
passed_none (Ok x) e P by = absurd by
passed_none (Err f) e P by = tt

pub passed_kept : {B : Type 0} (r : Result B Refusal) (P : Type 0) → P → OnErr r P
passed_kept (Ok x) P h = tt
passed_kept (Err f) P h = h

-- it is the same kind of error
pub passed_kind : {B : Type 0} (r : Result B Refusal) (e n : Refusal) (P : Refusal → Type 0) → IsErrAnd r (λ f. f ≡ e) → P e → IsErrOf r n → P n
passed_kind r e n P by h is = subst P (same_refusal r e n by is) h

-- and has the same reason
pub passed_reason : {A B : Type 0} (r : Result B Refusal) (s : Result A Refusal) (e : Refusal) (before now : ℕ) → IsErrAnd r (λ f. f ≡ e) → s ≡ Err e → HasReason before now s → HasReason before now r
passed_reason r s e before now by was h = record {
  later = h.later;
  device = λ is. h.device (passed_on r s e Device by was is);
  told = λ other. h.told (λ is. other (passed_back r s e Device by was is));
}

pub reason_after : {A : Type 0} {s : Result A Refusal} (before mid now : ℕ) → mid ≡ before → HasReason mid now s → HasReason before now s
reason_after {s = s} before mid now quiet h = subst (λ (n : ℕ). HasReason n now s) quiet h

pub reason_of_ok : {A B : Type 0} (x : A) (y : B) (before now : ℕ) → HasReason before now (Ok x) → HasReason before now (Ok y)
reason_of_ok x y before now h = record {
  later = h.later;
  device = λ is. absurd (not_refused y Device is);
  told = λ _. h.told (not_refused x Device);
}
