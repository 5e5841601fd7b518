-- The set of the starts that were rolled back, after one more is.
use Rattle.std.proofs.Common.{◌≡◌, ◌≢◌, inl, inr, ℕ, Bool, cond, List, [], ◌∷◌, ◌++◌, Option, Some, refl, sym, ap, subst, ◌∙◌}
use Rattle.std.specs.Prelude.{IsSome}
use Rattle.std.specs.BTreeMap as btree
use Rattle.std.specs.Ordering.{nat_cmp}
use Rattle.std.proofs.lemmas.Bool.{cases_eq}
use Rattle.si_model.proofs.Tools.{eq_test, ne_test}
use Rattle.si_model.specs.Sets.{◌∈◌, here, there}
use Rattle.audit.specs.Dead.{IsPut, IsSetOf, StartSet}
use Rattle.audit.proofs.SearchesBack.{front_or_back, in_back, in_front}

module _ (starts : List ℕ) (old new : StartSet) (t : ℕ) (h : IsSetOf starts old) (put : IsPut old new t) where
  here_is : (q : ℕ) → t ≡ q → btree.get nat_cmp new q ≡ Some t
  here_is q e = put q ∙ ap (λ (b : Bool). cond b (Some t) (btree.get nat_cmp old q)) (eq_test t q e)

  others : (q : ℕ) → t ≢ q → btree.get nat_cmp new q ≡ btree.get nat_cmp old q
  others q ne = put q ∙ ap (λ (b : Bool). cond b (Some t) (btree.get nat_cmp old q)) (ne_test t q ne)

  only : (v u : ℕ) → v ∈ (u ∷ []) → u ≡ v
  only _ u here = refl
  only v u (there k) = elim k [ ]

  pub set_more : IsSetOf (starts ++ t ∷ []) new
  set_more q = elim (cases_eq t q) [
    | inl e ↦ (
      λ some. in_back starts (t ∷ []) q (subst (λ (n : ℕ). n ∈ (t ∷ [])) e here),
      λ m. subst (λ (o : Option ℕ). IsSome o) (sym (here_is q e)) refl,
    )
    | inr ne ↦ (
      λ some. in_front starts (t ∷ []) q ((h q).0 (subst (λ (o : Option ℕ). IsSome o) (others q ne) some)),
      λ m. elim (front_or_back starts (t ∷ []) q m) [
        | inl k ↦ subst (λ (o : Option ℕ). IsSome o) (sym (others q ne)) ((h q).1 k)
        | inr k ↦ absurd (ne (only q t k))
      ],
    )
  ]
