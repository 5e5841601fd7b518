-- Properties of a result carry over to the results derived from it.
use Rattle.std.proofs.Common.{◌≡◌, ◌∙◌, sym, ap, subst}
use Rattle.std.specs.Prelude.{Option, Some, None, IfNone, IfSome, Result, Ok, Err, OnErr, OnOk, IsErrAnd, IsErrOf}

pub of_none : {A : Type 0} (o : Option A) (P : Type 0) → o ≡ None → IfNone o P → P
of_none o P e h = subst (λ (q : Option _). IfNone q P) e h

pub of_some : {A : Type 0} (o : Option A) (P : A → Type 0) (x : A) → o ≡ Some x → IfSome o P → P x
of_some o P x e h = subst (λ (q : Option _). IfSome q P) e h

pub as_none : {A : Type 0} (o : Option A) {P : Type 0} → P → IfNone o P
as_none None p = p
as_none (Some a) p = tt

pub ok_through : {T E : Type 0} (r : Result T E) (P Q : Type 0) → (P → Q) → OnOk r P → OnOk r Q
ok_through (Ok x) P Q f p = f p
ok_through (Err e) P Q f p = tt

pub on_ok : {T E : Type 0} (r : Result T E) (P : Type 0) → P → OnOk r P
on_ok (Ok x) P p = p
on_ok (Err e) P p = tt

pub on_err : {T E : Type 0} (r : Result T E) (P : Type 0) → P → OnErr r P
on_err (Ok x) P p = tt
on_err (Err e) P p = p

abbrev pub err_of : {E : Type 0} (T : Type 0) → E → Result T E
err_of T e = Err e

-- a refusal that is passed on
pub passed : {T U E : Type 0} (r : Result T E) (e f : E) → IsErrAnd r (λ g. g ≡ e) → r ≡ Err f → IsErrOf (err_of U e) f
passed (Ok x) e f by is = absurd by
passed (Err g) e f by is = let s : g ≡ f = cc in ap Err (sym by ∙ s)
