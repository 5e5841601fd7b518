-- Refusals of the store: of rows, of the source of stamps, and for lack of memory.
use Rattle.std.proofs.Common.{◌≡◌, ◌⊎◌, inl, inr, refl}
use Rattle.cell_key.specs.declared.refusals.Refusal.{Refusal}
use Rattle.cell_key.specs.declared.refusals.Refusal.TheVariants.{EmptyCommit, MemtableFull, Exhausted, Device, NoMemory, Damaged}
use Rattle.rows.specs.Refusals.{IsReadRefusal}
use Rattle.rows.specs.Sources.{IsDrawRefusal}
use Rattle.si_model.specs.Machine.{State, Request, Refused, Step, refuses, IsStorageRefusal}
use Rattle.si_model.specs.Refusing.Refuses.{gives_up}
use Rattle.txn_client.specs.Puts.{IsPutRefusal}
use Rattle.txn_client.specs.Refusals.{IsAdvanceRefusal, IsBeginRefusal, IsStartRefusal}

pub refused_storage : {st : State} {q : Request} {n : Refusal} → IsStorageRefusal n → Step st q (Refused n) st
refused_storage s = refuses (gives_up s)

pub read_storage : (e : Refusal) → IsReadRefusal e → IsStorageRefusal e
read_storage Device u = tt
read_storage NoMemory u = tt
read_storage Damaged u = tt
read_storage _ u = absurd u

pub draw_storage : (e : Refusal) → IsDrawRefusal e → IsStorageRefusal e
draw_storage Exhausted u = tt
draw_storage Device u = tt
draw_storage _ u = absurd u

pub draw_start : (e : Refusal) → IsDrawRefusal e → IsStartRefusal e
draw_start Exhausted u = tt
draw_start Device u = tt
draw_start _ u = absurd u

pub start_begin : (e : Refusal) → IsStartRefusal e → IsBeginRefusal e
start_begin Exhausted u = tt
start_begin Device u = tt
start_begin NoMemory u = tt
start_begin _ u = absurd u

pub advance_storage : (Holds P : Type 0) (e : Refusal) → IsAdvanceRefusal Holds P e → (P × (e ≡ EmptyCommit)) ⊎ IsStorageRefusal e
advance_storage H P EmptyCommit u = inl (u, refl)
advance_storage H P MemtableFull u = inr tt
advance_storage H P Exhausted u = inr tt
advance_storage H P Device u = inr tt
advance_storage H P NoMemory u = inr tt
advance_storage H P Damaged u = inr tt
advance_storage H P _ u = absurd u

pub put_storage : (e : Refusal) → IsPutRefusal e → IsStorageRefusal e
put_storage MemtableFull u = tt
put_storage Exhausted u = tt
put_storage Device u = tt
put_storage NoMemory u = tt
put_storage _ u = absurd u
