-- Writes that a session takes one after the other.
use Rattle.std.proofs.Common.{◌≡◌, ℕ, ◌<◌, ◌≤◌, ◌⊎◌, inl, inr, length, sym, subst, ap, arith}
use Rattle.std.specs.Prelude.{IfErr, IsErrOf, OnOk, Result, Ok, Err}
use Rattle.cell_key.specs.declared.refusals.Refusal.{Refusal}
use Rattle.cell_key.specs.declared.refusals.Refusal.TheVariants.{TooManyWrites, NoMemory}
use Rattle.si_model.specs.Machine.{Change, Writes, Names, Sets}
use Rattle.si_model.specs.declared.replies.Cell.{Cell}
use Rattle.si_model.specs.Takings.{HasShortValue, IsNamed, IsWriteRefusal, TakesWrite}

pub takes_at : {A : Type 0} (r : Result A Refusal) (before after : Writes) (x y : Cell) (v w : Change) (n : ℕ) → n ≡ length before → OnOk r (Sets x v before after) → OnOk r (Names before x ⊎ (n < 256)) → x ≡ y → v ≡ w → IsNamed y → HasShortValue w
    → OnOk r (TakesWrite before (y, w) after)
takes_at (Err e) before after x y v w n len sets room same value named short = tt
takes_at (Ok u) before after x y v w n len sets room same value named short = record {
  named = named;
  short = short;
  room = subst (λ (z : Cell). Names before z ⊎ (length before < 256)) same (elim room [ inl h ↦ inl h | inr few ↦ inr (omega (arith, len, few)) ]);
  sets = subst (λ (p : Cell × Change). Sets p.0 p.1 before after) (λ j. (same j, value j)) sets;
}

pub refused_at : {A : Type 0} (r : Result A Refusal) (before : Writes) (x y : Cell) (w : Change) (n : ℕ) → n ≡ length before → (IsErrOf r TooManyWrites → (256 ≤ n) × (¬ Names before x)) → IfErr r (λ e. (e ≡ TooManyWrites) ⊎ (e ≡ NoMemory)) → x ≡ y → IsNamed y
    → HasShortValue w → IfErr r (IsWriteRefusal before (y, w))
refused_at (Ok u) before x y w n len full which same named short = tt
refused_at (Err e) before x y w n len full which same named short = elim which [
  | inl is ↦
      let f = full (ap Err is) in
      let many = f.0 in
      subst (IsWriteRefusal before (y, w)) (sym is) (named, short, λ h. f.1 (subst (λ (z : Cell). Names before z) (sym same) h), omega (arith, len, many))
  | inr is ↦ subst (IsWriteRefusal before (y, w)) (sym is) tt
]
