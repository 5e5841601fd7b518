-- The answers of a call that ends with another call, by whether that one was refused.
use Rattle.std.proofs.Common.{◌≡◌, ◌<◌, ◌≤◌, ℕ, List, sym, subst, ap, ◌∙◌, arith}
use Rattle.std.proofs.lemmas.Option.{none-some}
use Rattle.std.specs.FinMap.{get}
use Rattle.std.specs.Result.{IsErrAnd, IsErrOf, OnOk}
use Rattle.std.specs.declared.result.Result.{Result}
use Rattle.std.specs.declared.result.Result.TheVariants.{Ok, Err}
use Rattle.cell_key.specs.Cells.{Cells}
use Rattle.cell_key.specs.declared.keys.CellKey.{CellKey}
use Rattle.cell_key.specs.declared.refusals.Refusal.{Refusal}
use Rattle.cell_key.specs.declared.refusals.Refusal.TheVariants.{EmptyCommit, MemtableFull, Exhausted, Device, NoMemory, Damaged}
pub use Rattle.cell_key.proofs.Passed.{as_err, passed_err, passed_kept, passed_none, passed_on}
use Rattle.rows.specs.Refusals.{IsEditRefusal, IsRefusalOfRead}
use Rattle.si_model.specs.ShowsCells.{Touches}
use Rattle.txn_client.specs.Refusals.{IsAdvanceRefusal, IsCellStepRefusal, IsRowRefusal, IsStepRefusal}

pub passed_kept_not : {B : Type 0} (r : Result B Refusal) (e : Refusal) (P : Type 0) → IsErrAnd r (λ f. f ≡ e) → OnOk r P
passed_kept_not (Ok x) e P by = absurd by
passed_kept_not (Err f) e P by = tt

pub at_most_itself : (n : ℕ) → n ≤ n
at_most_itself n = omega arith

pub at_most_more : (n k : ℕ) → n ≤ 0 → n ≤ k
at_most_more n k none = omega arith

pub not_past : (n k : ℕ) → k < n → n ≤ k → ⊥
not_past n k there past = omega arith

-- a refusal that is passed on is one of the call's refusals
pub refused_not : {B : Type 0} (r : Result B Refusal) (e n : Refusal) (P : Refusal → Type 0) → (P n → ⊥) → IsErrAnd r (λ f. f ≡ e) → P e → IsErrOf r n → ⊥
refused_not (Ok x) e n P none by h is = absurd by
refused_not (Err f) e n P none by h is = let same : e ≡ n = cc in none (subst P same h)

pub no_memory_only : {B : Type 0} (r : Result B Refusal) (e n : Refusal) → (n ≡ NoMemory → ⊥) → IsErrAnd r (λ f. f ≡ e) → e ≡ NoMemory → IsErrOf r n → ⊥
no_memory_only r e n = refused_not r e n (λ f. f ≡ NoMemory)

-- MemtableFull is not NoMemory
pub full_not : MemtableFull ≡ NoMemory → ⊥
full_not is = cc

pub device_not : Device ≡ NoMemory → ⊥
device_not is = cc

-- a read is never refused MemtableFull
pub read_not_full : {B : Type 0} (r : Result B Refusal) (e : Refusal) (Holds : Type 0) → IsErrAnd r (λ f. f ≡ e) → IsRefusalOfRead Holds e → IsErrOf r MemtableFull → ⊥
read_not_full r e H = refused_not r e MemtableFull (IsRefusalOfRead H) (λ u. u)

-- the refusals of a row transaction
pub read_row : (Holds : Type 0) (e : Refusal) → IsRefusalOfRead Holds e → IsRowRefusal Holds e
read_row H Device u = tt
read_row H NoMemory u = tt
read_row H Damaged u = u
read_row H _ u = absurd u

pub edit_row : (Holds : Type 0) (e : Refusal) → IsEditRefusal e → IsRowRefusal Holds e
edit_row H MemtableFull u = tt
edit_row H Device u = tt
edit_row H NoMemory u = tt
edit_row H _ u = absurd u

pub want_row : (Holds : Type 0) (e : Refusal) → e ≡ NoMemory → IsRowRefusal Holds e
want_row H e is = subst (IsRowRefusal H) (sym is) tt

-- they are refusals of a step on a cell
pub row_step : (Row At None : Type 0) (e : Refusal) → (At → Row) → IsRowRefusal Row e → IsCellStepRefusal At None e
row_step R A P MemtableFull so u = tt
row_step R A P Device so u = tt
row_step R A P NoMemory so u = tt
row_step R A P Damaged so u = λ whole. u (so whole)
row_step R A P _ so u = absurd u

pub advance_step : (Holds None : Type 0) (e : Refusal) → IsAdvanceRefusal Holds None e → IsStepRefusal e
advance_step H P EmptyCommit u = tt
advance_step H P MemtableFull u = tt
advance_step H P Exhausted u = tt
advance_step H P Device u = tt
advance_step H P NoMemory u = tt
advance_step H P Damaged u = tt
advance_step H P _ u = absurd u

-- an empty commit is refused with EmptyCommit alone
pub empty_not_full : {A : Type 0} → IsErrOf {T = A} (Err EmptyCommit) MemtableFull → ⊥
empty_not_full is = cc

pub empty_no_device : {A : Type 0} → IsErrOf {T = A} (Err EmptyCommit) Device → ⊥
empty_no_device is = cc

pub damaged_no_device : {A : Type 0} → IsErrOf {T = A} (Err Damaged) Device → ⊥
damaged_no_device is = cc

-- unchanged cells are touched by nothing
pub touches_kept : (cells cells' : Cells) (row : List ℕ) (s c : ℕ) → cells' ≡ cells → Touches cells cells' row s c
touches_kept cells cells' row s c same =
    let at : (q : CellKey) → get cells' q ≡ get cells q = λ q. ap (λ (cs : Cells). get cs q) same in
    record {
      others = λ q other. at q;
      joins = λ q b none some. absurd (none-some b (sym none ∙ (sym (at q) ∙ some)));
      goes = λ q b some none. absurd (none-some b (sym none ∙ (at q ∙ some)));
    }
