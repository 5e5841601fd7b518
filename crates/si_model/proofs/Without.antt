-- The rest of a set of marks without one of them.
use Rattle.std.proofs.Common.{◌≡◌, ◌≢◌, ℕ, List, [], ◌∷◌, ◌⊎◌, inl, inr, ap}
use Rattle.std.proofs.lemmas.Bool.{cases_eq, cases_Bool}
use Rattle.std.proofs.lemmas.Slice.Eq.{bytes_eq-Decides}
use Rattle.si_model.specs.Sets.{◌∈◌, here, there, IsWithout}
use Rattle.si_model.specs.Machine.{}
use Rattle.si_model.specs.declared.replies.Cell.{Cell}
use Rattle.si_model.proofs.Tools.{each_cons}

pub cases_bytes : (xs ys : List ℕ) → (xs ≡ ys) ⊎ (xs ≢ ys)
cases_bytes xs ys = elim (cases_Bool _) [
  | inl e ↦ inl ((bytes_eq-Decides xs ys).0 e)
  | inr f ↦ inr (λ e. cc ((bytes_eq-Decides xs ys).1 e))
]

pub cases_mark : (m n : Cell × ℕ) → (m ≡ n) ⊎ (m ≢ n)
cases_mark m n = elim (cases_bytes m.0.row n.0.row) [
  | inr ne ↦ inr (λ e. ne (ap (λ q. q.0.row) e))
  | inl e ↦ elim (cases_bytes m.0.family n.0.family) [
    | inr ne ↦ inr (λ e. ne (ap (λ q. q.0.family) e))
    | inl f ↦ elim (cases_eq m.1 n.1) [
      | inr ne ↦ inr (λ e. ne (ap (λ q. q.1) e))
      | inl g ↦ inl (λ i. (record { row = e i; family = f i }, g i))
    ]
  ]
]

abbrev Without : List (Cell × ℕ) → Cell × ℕ → Type 0
Without ms m = (new : List (Cell × ℕ)) × IsWithout ms m new

without_more : (k : Cell × ℕ) (ms : List (Cell × ℕ)) (m : Cell × ℕ) → Without ms m → Without (k ∷ ms) m
without_more k ms m rest = elim (cases_mark k m) [
  | inl e ↦ (
    rest.0,
    record {
      same = λ n. (
        λ h. let old = (rest.1.same n).0 h in (there old.0, old.1),
        λ p. each_cons (λ n. n ≢ m → n ∈ rest.0) (λ ne. absurd (ne e)) (λ n h ne. (rest.1.same n).1 (h, ne)) n p.0 p.1,
      );
    },
  )
  | inr ne ↦ (
    k ∷ rest.0,
    record {
      same = λ n. (
        λ h. each_cons (λ n. (n ∈ (k ∷ ms)) × (n ≢ m)) (here, ne) (λ n h. let old = (rest.1.same n).0 h in (there old.0, old.1)) n h,
        λ p. each_cons (λ n. n ≢ m → n ∈ (k ∷ rest.0)) (λ ne. here) (λ n h ne. there ((rest.1.same n).1 (h, ne))) n p.0 p.1,
      );
    },
  )
]

-- the rest of the marks without m
pub without : (ms : List (Cell × ℕ)) (m : Cell × ℕ) → (new : List (Cell × ℕ)) × IsWithout ms m new
without [] m = ([], record { same = λ n. (λ h. elim h [ ], λ p. elim p.0 [ ]) })
without (k ∷ ms) m = without_more k ms m (without ms m)
