-- Answers of rows in memory.
use Rattle.std.proofs.Common.{◌≡◌, Result, Ok, Err, IfOk, sym, subst}
use Rattle.std.specs.Prelude.{MatchResult}
use Rattle.cell_key.specs.declared.refusals.Refusal.{Refusal}
use Rattle.cell_key.specs.declared.refusals.Refusal.TheVariants.{NoMemory}

-- what was handed on is the answer itself
pub from_memory : {A : Type 0} (answer told : Result A Refusal) (x : A) (P : A → Type 0) → MatchResult answer (λ value. told ≡ Ok value) (λ _. told ≡ Err NoMemory) → told ≡ Ok x → IfOk answer P → P x
from_memory (Ok y) told x P same is holds = let one : y ≡ x = cc in subst P one holds
from_memory (Err e) told x P same is holds = let never : ⊥ = cc in absurd never

-- a fact of the answer, of what was handed on
pub if_from_memory : {A : Type 0} (answer told : Result A Refusal) (P Q : A → Type 0) → MatchResult answer (λ value. told ≡ Ok value) (λ _. told ≡ Err NoMemory) → IfOk answer P → ((x : A) → P x → Q x) → IfOk told Q
if_from_memory {A} (Ok y) told P Q same holds so = subst (λ (r : Result A Refusal). IfOk r Q) (sym same) (so y holds)
if_from_memory {A} (Err e) told P Q same holds so = subst (λ (r : Result A Refusal). IfOk r Q) (sym same) tt
