-- The answers about files and a mark that were opened.
use Rattle.std.proofs.Common.{◌≡◌, ◌≤◌, ◌<◌, ℕ, List, Option, None, Some, IfSome, refl, ap, subst, arith}
use Rattle.std.specs.Prelude.{IsSomeAnd}
use Rattle.std.specs.FinMap.{get}
use Rattle.file_store.specs.Store.{Contents}
use Rattle.metadata_table.specs.Roots.{OneRoot, RootView}
use Rattle.row_atomic.specs.Clusters.{ClusterState}
use Rattle.row_atomic.specs.Roots.{root_at, root_name}
use Rattle.row_atomic.specs.Open.{IsDamaged, IsNewStore, IsStore}
use Rattle.server_loop.specs.Opening.{IsLost, LacksRoot, below, damaged}

-- the mark from which an oracle continued
abbrev pub GoesOnFrom : Option ℕ → ℕ → Type 0
GoesOnFrom mark last = IfSome mark (λ m. last ≡ m)

pub not_below : (mark : Option ℕ) (top last : ℕ) → IsSomeAnd mark (λ m. top ≤ m) → GoesOnFrom mark last → top ≤ last
not_below None top last low is = absurd low
not_below (Some m) top last low is = omega (arith, low, is)

module _ {F : Type 0} (told : Option Contents) (mark : Option ℕ) (top floor last : ℕ) (state : ClusterState F) where
  abbrev pub IsToldStore : Type 0
  IsToldStore = IfSome told (λ m. IsStore m (get m root_name) top floor state)

  pub whole_told : OneRoot → IfSome told (λ m. ¬ IsDamaged m) → IsToldStore → GoesOnFrom mark last → top ≤ last → IfSome told (λ m. IfSome mark (λ n. ¬ IsLost m n))
  whole_told one whole store goes low = by told mark whole store goes
    where
      lost : (m : Contents) (n : ℕ) → ¬ IsDamaged m → IsStore m (get m root_name) top floor state → last ≡ n → ¬ IsLost m n
      lost m n whole store goes (damaged d) = whole d
      lost m n whole store goes (below image root there form less) =
          let opened = subst (λ (o : Option (List ℕ)). IsStore m o top floor state) there store in
          let same : root.top ≡ top = ap (λ (r : RootView). r.top) (one root (root_at top floor state) image form opened.form) in
          absurd (omega (arith, less, same, goes, low))

      by : (told : Option Contents) (mark : Option ℕ) → IfSome told (λ m. ¬ IsDamaged m) → IfSome told (λ m. IsStore m (get m root_name) top floor state) → GoesOnFrom mark last → IfSome told (λ m. IfSome mark (λ n. ¬ IsLost m n))
      by None mark whole store goes = tt
      by (Some m) None whole store goes = tt
      by (Some m) (Some n) whole store goes = lost m n whole store goes

  pub below_told : IsToldStore → GoesOnFrom mark last → last < top → IfSome told (λ m. IfSome mark (IsLost m))
  below_told store goes less = by told mark store goes
    where
      at : (m : Contents) (n : ℕ) (o : Option (List ℕ)) → get m root_name ≡ o → IsStore m o top floor state → last ≡ n → IsLost m n
      at m n None there store goes = absurd (omega (arith, store.no_top, less))
      at m n (Some image) there store goes = below image (root_at top floor state) there store.form (omega (arith, goes, less))

      by : (told : Option Contents) (mark : Option ℕ) → IfSome told (λ m. IsStore m (get m root_name) top floor state) → GoesOnFrom mark last → IfSome told (λ m. IfSome mark (IsLost m))
      by None mark store goes = tt
      by (Some m) None store goes = tt
      by (Some m) (Some n) store goes = at m n (get m root_name) refl store goes

  pub new_store : LacksRoot told → IsToldStore → IsNewStore top floor state
  new_store lacks store = by told lacks store
    where
      by : (told : Option Contents) → LacksRoot told → IfSome told (λ m. IsStore m (get m root_name) top floor state) → IsNewStore top floor state
      by None lacks store = absurd lacks
      by (Some m) lacks store = subst (λ (o : Option (List ℕ)). IsStore m o top floor state) lacks store

pub damage_told : (told : Option Contents) (mark : Option ℕ) → IfSome told IsDamaged → IfSome told (λ m. IfSome mark (IsLost m))
damage_told None mark is = tt
damage_told (Some m) None is = tt
damage_told (Some m) (Some n) is = damaged is

pub where_told : (told : Option Contents) (P : Type 0) → LacksRoot told → IfSome told (λ _. P) → P
where_told None P lacks is = absurd lacks
where_told (Some m) P lacks is = is
