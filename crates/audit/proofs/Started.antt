-- The starts of the commits, after a commit is added.
use Rattle.std.proofs.Common.{◌≡◌, ◌≢◌, ◌⊎◌, ◌↔◌, inl, inr, ℕ, Bool, cond, List, [], ◌∷◌, ◌++◌, map, Option, Some, None, refl, sym, ap, subst, ◌∙◌}
use Rattle.std.specs.Prelude.{IsSome}
use Rattle.std.specs.BTreeMap as btree
use Rattle.std.specs.Ordering.{nat_cmp}
use Rattle.std.proofs.lemmas.Bool.{cases_eq}
use Rattle.std.proofs.lemmas.Option.{none-some, same_Some}
use Rattle.si_model.proofs.Tools.{eq_test, ne_test}
use Rattle.si_model.specs.Machine as machine
use Rattle.si_model.specs.Sets.{◌∈◌, here, there}
use Rattle.audit.specs.Audits.{HasCommit, commit_of}
use Rattle.audit.specs.Histories.{AreStarts, IsStarted, Starts}
use Rattle.audit.specs.declared.audit.parts.Commit.{Commit}
use Rattle.audit.proofs.SearchesBack.{front_or_back, in_back, in_front, mapped, unmapped}

-- a commit of the list has this start and this stamp
abbrev pub IsThere : List Commit → ℕ → ℕ → Type 0
IsThere commits t c = (commit : Commit) × (commit ∈ commits) × (commit.start ≡ t) × (commit.stamp ≡ c)

module _ (commits : List Commit) (d : Commit) (old new : Starts) (h : AreStarts commits old) (added : IsStarted old new d.start d.stamp) where
  here_is : (t : ℕ) → d.start ≡ t → btree.get nat_cmp new t ≡ Some d.stamp
  here_is t e = added.at t ∙ ap (λ (b : Bool). cond b (Some d.stamp) (btree.get nat_cmp old t)) (eq_test d.start t e)

  others : (t : ℕ) → d.start ≢ t → btree.get nat_cmp new t ≡ btree.get nat_cmp old t
  others t ne = added.at t ∙ ap (λ (b : Bool). cond b (Some d.stamp) (btree.get nat_cmp old t)) (ne_test d.start t ne)

  only : (v u : Commit) → v ∈ (u ∷ []) → u ≡ v
  only _ u here = refl
  only v u (there k) = elim k [ ]

  there_cases : (t c : ℕ) → IsThere (commits ++ d ∷ []) t c → IsThere commits t c ⊎ ((d.start ≡ t) × (d.stamp ≡ c))
  there_cases t c (commit, m, is, at) = elim (front_or_back commits (d ∷ []) commit m) [
    | inl k ↦ inl (commit, k, is, at)
    | inr k ↦ inr (ap (λ (e : Commit). e.start) (only commit d k) ∙ is, ap (λ (e : Commit). e.stamp) (only commit d k) ∙ at)
  ]

  pub starts_more : AreStarts (commits ++ d ∷ []) new
  starts_more t c = elim (cases_eq d.start t) [
    | inl e ↦ (
      λ at. (d, in_back commits (d ∷ []) d here, e, same_Some d.stamp c (sym (here_is t e) ∙ at)),
      λ has. elim (there_cases t c has) [
        | inl was ↦ absurd (none-some c (sym added.fresh ∙ (ap (btree.get nat_cmp old) e ∙ (h t c).1 was)))
        | inr is ↦ here_is t e ∙ ap (λ (n : ℕ). Some n) is.1
      ],
    )
    | inr ne ↦ (
      λ at. let was = (h t c).0 (sym (others t ne) ∙ at) in (was.0, in_front commits (d ∷ []) was.0 was.1, was.2, was.3),
      λ has. elim (there_cases t c has) [
        | inl was ↦ others t ne ∙ (h t c).1 was
        | inr is ↦ absurd (ne is.0)
      ],
    )
  ]

-- ---- the machine's commits

module _ (commits : List Commit) (starts : Starts) (h : AreStarts commits starts) (t : ℕ) where
  pub kept_commit : (c : ℕ) → btree.get nat_cmp starts t ≡ Some c → HasCommit (map commit_of commits) t c
  kept_commit c at =
      let r = (h t c).0 at in (
        (commit_of r.0).writes,
        subst (λ (y : machine.Commit). y ∈ map commit_of commits) (λ i. record { start = r.2 i; stamp = r.3 i; writes = (commit_of r.0).writes }) (mapped commit_of commits r.0 r.1),
      )

  pub commit_kept : (c : ℕ) → HasCommit (map commit_of commits) t c → btree.get nat_cmp starts t ≡ Some c
  commit_kept c (ws, m) =
      let r = unmapped commit_of commits (record { start = t; stamp = c; writes = ws }) m in
      (h t c).1 (r.0, r.1, ap (λ (y : machine.Commit). y.start) r.2, ap (λ (y : machine.Commit). y.stamp) r.2)

  pub has_some : IsSome (btree.get nat_cmp starts t) ↔ ((c : ℕ) × HasCommit (map commit_of commits) t c)
  has_some = (by (btree.get nat_cmp starts t) refl, λ has. subst (λ (o : Option ℕ). IsSome o) (sym (commit_kept has.0 has.1)) refl)
    where
      by : (o : Option ℕ) → btree.get nat_cmp starts t ≡ o → IsSome (btree.get nat_cmp starts t) → (c : ℕ) × HasCommit (map commit_of commits) t c
      by None e some = absurd (cc)
      by (Some c) e some = (c, kept_commit c e)
