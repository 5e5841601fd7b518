-- If a refusal is the first that applies, the reply is that refusal or one of the store, and the state is unchanged.
use Rattle.std.proofs.Common.{◌≡◌, ◌⊎◌, inl, inr, refl, sym, arith}
use Rattle.cell_key.specs.declared.refusals.Refusal.{Refusal}
use Rattle.si_model.specs.Machine.{State, Request, Reply, Refused, IsFirstRefusal, IsStorageRefusal, Refuses, Step, refuses, accepts}
use Rattle.si_model.specs.Refusing.Refuses.{applies_first, gives_up, merges_too_many}

-- only one refusal is the first
pub one_first : {st : State} {q : Request} {n m : Refusal} → IsFirstRefusal st q n → IsFirstRefusal st q m → m ≡ n
one_first {n = n} {m = m} f g = elim (f.first m g.applies) [
  | inl e ↦ e
  | inr later ↦ elim (g.first n f.applies) [ inl e ↦ sym e | inr earlier ↦ absurd (omega arith) ]
]

refused_so : {st : State} {q : Request} {n m : Refusal} → IsFirstRefusal st q n → Refuses st q m → (m ≡ n) ⊎ IsStorageRefusal m
refused_so f (applies_first g) = inl (one_first f g)
refused_so f (gives_up s) = inr s
refused_so f (merges_too_many ok) = absurd (ok _ f.applies)

pub first_refusal : {st next : State} {q : Request} {r : Reply} {n : Refusal} → IsFirstRefusal st q n → Step st q r next
    → (m : Refusal) × (r ≡ Refused m) × ((m ≡ n) ⊎ IsStorageRefusal m) × (next ≡ st)
first_refusal f (refuses {n = m} c) = (m, refl, refused_so f c, refl)
first_refusal {n = n} f (accepts ok a) = absurd (ok n f.applies)
