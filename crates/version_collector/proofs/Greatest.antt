-- The greatest numbers with a property, as a search from above finds them.
use Rattle.std.proofs.Common.{◌≡◌, ℕ, zero, suc, ◌+◌, ◌<◌, ◌≤◌, ◌⊎◌, inl, inr, List, [], ◌∷◌, ◌++◌, length, Some, refl, sym, ap, subst, arith}
use Rattle.std.specs.Prelude.{slice_get}
use Rattle.std.proofs.lemmas.Bool.{cases_lt}
use Rattle.std.proofs.lemmas.Option.{none-some, same_Some, slice_get_within}
use Rattle.si_model.specs.Sets.{◌∈◌, here, there}
use Rattle.version_collector.specs.Versions.{AreGreatest}

-- all numbers from low on with a property, in descending order
pub record AreAll (IsSo : ℕ → Type 0) (low : ℕ) (found : List ℕ) : Type 0 where
  pub falling : (i j a b : ℕ) → i < j → slice_get found i ≡ Some a → slice_get found j ≡ Some b → b < a
  pub each : (s : ℕ) → s ∈ found → IsSo s × (low ≤ s)
  pub rest : (s : ℕ) → IsSo s → low ≤ s → s ∈ found

at_in : (xs : List ℕ) (i a : ℕ) → slice_get xs i ≡ Some a → a ∈ xs
at_in [] i a h = absurd (none-some a h)
at_in (x ∷ xs) zero a h = subst (λ (b : ℕ). b ∈ (x ∷ xs)) (same_Some x a h) here
at_in (x ∷ xs) (suc i) a h = there (at_in xs i a h)

last_or_before : (xs : List ℕ) (s i a : ℕ) → slice_get (xs ++ s ∷ []) i ≡ Some a → (slice_get xs i ≡ Some a) ⊎ ((i ≡ length xs) × (a ≡ s))
last_or_before [] s zero a h = inr (refl, sym (same_Some s a h))
last_or_before [] s (suc i) a h = absurd (none-some a h)
last_or_before (x ∷ xs) s zero a h = inl h
last_or_before (x ∷ xs) s (suc i) a h = elim (last_or_before xs s i a h) [
  | inl before ↦ inl before
  | inr last ↦ inr (ap suc last.0, last.1)
]

pub in_last : {A : Type 0} (xs : List A) (s u : A) → u ∈ (xs ++ s ∷ []) → (u ∈ xs) ⊎ (u ≡ s)
in_last [] s u here = inr refl
in_last [] s u (there i) = elim i [ ]
in_last (x ∷ xs) s u here = inl here
in_last (x ∷ xs) s u (there i) = elim (in_last xs s u i) [ inl before ↦ inl (there before) | inr last ↦ inr last ]

in_before : (xs ys : List ℕ) (u : ℕ) → u ∈ xs → u ∈ (xs ++ ys)
in_before [] ys u i = elim i [ ]
in_before (x ∷ xs) ys u here = here
in_before (x ∷ xs) ys u (there i) = there (in_before xs ys u i)

is_last : (xs : List ℕ) (s : ℕ) → s ∈ (xs ++ s ∷ [])
is_last [] s = here
is_last (x ∷ xs) s = there (is_last xs s)

pub length-last : {A : Type 0} (xs : List A) (x : A) → length (xs ++ x ∷ []) ≡ length xs + 1
length-last [] x = refl
length-last (y ∷ xs) x = let rest = length-last xs x in omega arith

pub all_none : (IsSo : ℕ → Type 0) (low : ℕ) → ((s : ℕ) → IsSo s → s < low) → AreAll IsSo low []
all_none IsSo low below = record {
  falling = λ i j a b less first second. absurd (none-some a first);
  each = λ s i. elim i [ ];
  rest = λ s so from. absurd (let less = below s so in omega arith);
}

-- the next one below is found
pub all_more : (IsSo : ℕ → Type 0) (low s : ℕ) (found : List ℕ) → AreAll IsSo low found → s < low → IsSo s → ((u : ℕ) → s < u → u < low → ¬ IsSo u) → AreAll IsSo s (found ++ s ∷ [])
all_more IsSo low s found all below so none = record {
  falling = falling;
  each = λ u i. elim (in_last found s u i) [
    | inl before ↦ let e = all.each u before in (e.0, omega arith)
    | inr last ↦ (subst IsSo (sym last) so, omega arith)
  ];
  rest = λ u is from. elim (cases_lt u low) [
    | inl less ↦ elim (cases_lt s u) [
      | inl more ↦ absurd (none u more less is)
      | inr most ↦ let same : s ≡ u = omega arith in subst (λ (v : ℕ). v ∈ (found ++ s ∷ [])) same (is_last found s)
    ]
    | inr high ↦ in_before found (s ∷ []) u (all.rest u is high)
  ];
}
  where
    falling : (i j a b : ℕ) → i < j → slice_get (found ++ s ∷ []) i ≡ Some a → slice_get (found ++ s ∷ []) j ≡ Some b → b < a
    falling i j a b less first second = elim (last_or_before found s j b second) [
      | inl here_b ↦ elim (last_or_before found s i a first) [
        | inl here_a ↦ all.falling i j a b less here_a here_b
        | inr last_a ↦ absurd (let w = slice_get_within found j b here_b in let e = last_a.0 in omega arith)
      ]
      | inr last_b ↦ elim (last_or_before found s i a first) [
        | inl here_a ↦ let from = (all.each a (at_in found i a here_a)).1 in let e = last_b.1 in omega arith
        | inr last_a ↦ absurd (let e = last_a.0 in let f = last_b.0 in omega arith)
      ]
    ]

-- none is found from here on
pub all_past : (IsSo : ℕ → Type 0) (low s : ℕ) (found : List ℕ) → AreAll IsSo low found → s < low → ((u : ℕ) → s ≤ u → u < low → ¬ IsSo u) → AreAll IsSo s found
all_past IsSo low s found all below none = record {
  falling = all.falling;
  each = λ u i. let e = all.each u i in (e.0, omega arith);
  rest = λ u is from. elim (cases_lt u low) [
    | inl less ↦ absurd (none u from less is)
    | inr high ↦ all.rest u is high
  ];
}

-- the search ends when none is left
pub greatest_all : (n : ℕ) (IsSo : ℕ → Type 0) (low : ℕ) (found : List ℕ) → AreAll IsSo low found → length found ≤ n → ((u : ℕ) → u < low → ¬ IsSo u) → AreGreatest n IsSo found
greatest_all n IsSo low found all few none = record {
  falling = all.falling;
  each = λ s i. (all.each s i).0;
  few = few;
  rest = λ s is. elim (cases_lt s low) [
    | inl less ↦ absurd (none s less is)
    | inr high ↦ inl (all.rest s is high)
  ];
}

-- or with enough of them
pub greatest_full : (n : ℕ) (IsSo : ℕ → Type 0) (low : ℕ) (found : List ℕ) → AreAll IsSo low found → length found ≡ n → AreGreatest n IsSo found
greatest_full n IsSo low found all full = record {
  falling = all.falling;
  each = λ s i. (all.each s i).0;
  few = omega arith;
  rest = λ s is. elim (cases_lt s low) [
    | inl less ↦ inr (full, λ t i. let e = (all.each t i).1 in omega arith)
    | inr high ↦ inl (all.rest s is high)
  ];
}
