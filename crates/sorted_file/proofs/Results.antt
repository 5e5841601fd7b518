-- Results: consequences of a property of a result.
use Rattle.std.proofs.Common.{◌≡◌, refl, subst}
use Rattle.std.specs.Prelude.{Result, Ok, Err, IfOk, OnOk, Option, Some, None, IfSome, IfNone}

pub if_ok : {A E : Type 0} (r : Result A E) (P Q : A → Type 0) → ((a : A) → P a → Q a) → IfOk r P → IfOk r Q
if_ok (Ok a) P Q f h = f a h
if_ok (Err e) P Q f h = h

-- a property that holds for any result
pub always_ok : {A E : Type 0} (r : Result A E) (P : Type 0) → P → OnOk r P
always_ok (Ok x) P p = p
always_ok (Err e) P p = tt

pub on_ok : {A E : Type 0} (r : Result A E) (P Q : Type 0) → (P → Q) → OnOk r P → OnOk r Q
on_ok (Ok a) P Q f h = f h
on_ok (Err e) P Q f h = h

pub if_some : {A : Type 0} (o : Option A) (P Q : A → Type 0) → ((a : A) → P a → Q a) → IfSome o P → IfSome o Q
if_some (Some a) P Q f h = f a h
if_some None P Q f h = h

pub if_both : {A E : Type 0} (r : Result A E) (P Q : A → Type 0) → IfOk r P → IfOk r Q → IfOk r (λ a. P a × Q a)
if_both (Ok a) P Q p q = (p, q)
if_both (Err e) P Q p q = p

pub of_none : {A : Type 0} (o : Option A) (P : Type 0) → o ≡ None → IfNone o P → P
of_none o P e h = subst (λ (q : Option _). IfNone q P) e h

pub as_none : {A : Type 0} (o : Option A) {P : Type 0} → P → IfNone o P
as_none None p = p
as_none (Some a) p = tt

pub as_some : {A : Type 0} (o : Option A) (P : A → Type 0) → ((a : A) → P a) → IfSome o P
as_some None P f = tt
as_some (Some a) P f = f a

pub of_some : {A : Type 0} (o : Option A) (a : A) (P : A → Type 0) → o ≡ Some a → IfSome o P → P a
of_some o a P e h = subst (λ (q : Option _). IfSome q P) e h

pub as_told : {A : Type 0} (o : Option A) (P : A → Type 0) → ((a : A) → o ≡ Some a → P a) → IfSome o P
as_told None P f = tt
as_told (Some a) P f = f a refl

pub of_told : {A : Type 0} (o : Option A) (a : A) (P : A → Type 0) → o ≡ Some a → IfSome o P → P a
of_told o a P e h = subst (λ (q : Option _). IfSome q P) e h

pub on_both : {A E : Type 0} (r : Result A E) (P Q : Type 0) → OnOk r P → OnOk r Q → OnOk r (P × Q)
on_both (Ok a) P Q p q = (p, q)
on_both (Err e) P Q p q = p

pub some_both : {A : Type 0} (o : Option A) (P Q : A → Type 0) → IfSome o P → IfSome o Q → IfSome o (λ a. P a × Q a)
some_both (Some a) P Q p q = (p, q)
some_both None P Q p q = p

pub if_none : {A : Type 0} (o : Option A) (P Q : Type 0) → (P → Q) → IfNone o P → IfNone o Q
if_none None P Q f h = f h
if_none (Some a) P Q f h = h
