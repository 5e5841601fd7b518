-- Facts of an optional value or a result, one from another.
use Rattle.std.proofs.Common.{◌≡◌, Option, Some, None, IfSome, IfOk, OnErr, Result, Ok, Err, subst}

pub if_some_then : {A : Type 0} (o : Option A) (P Q : A → Type 0) → IfSome o P → ((x : A) → P x → Q x) → IfSome o Q
if_some_then None P Q is so = tt
if_some_then (Some x) P Q is so = so x is

-- what holds if there is a value holds of the value
pub of_some : {A : Type 0} (o : Option A) (x : A) (P : A → Type 0) → o ≡ Some x → IfSome o P → P x
of_some {A} o x P is holds = let at : IfSome (Some x) P = subst (λ (p : Option A). IfSome p P) is holds in at

pub of_ok : {A E : Type 0} (r : Result A E) (x : A) (P : A → Type 0) → r ≡ Ok x → IfOk r P → P x
of_ok {A} {E} r x P is holds = let at : IfOk {E = E} (Ok x) P = subst (λ (s : Result A E). IfOk s P) is holds in at

pub of_err : {A E : Type 0} (r : Result A E) (e : E) (P : Type 0) → r ≡ Err e → OnErr r P → P
of_err {A} {E} r e P is holds = let at : OnErr {T = A} (Err e) P = subst (λ (s : Result A E). OnErr s P) is holds in at

pub on_err : {A E : Type 0} (r : Result A E) (P : Type 0) → P → OnErr r P
on_err (Ok x) P is = tt
on_err (Err e) P is = is

-- a fact of the cells that are told and of a value in an answer
pub of_page : {A C E : Type 0} (o : Option C) (cells : C) (answer : Result (Option A) E) (found : Option A) (x : A) (P : C → A → Type 0) → o ≡ Some cells → answer ≡ Ok found → found ≡ Some x → IfSome o (λ cells. IfOk answer (λ found. IfSome found (P cells))) → P cells x
of_page {A} o cells answer found x P told was is holds =
    of_some found x (P cells) is (of_ok answer found (λ (found : Option A). IfSome found (P cells)) was (of_some o cells (λ c. IfOk answer (λ found. IfSome found (P c))) told holds))
