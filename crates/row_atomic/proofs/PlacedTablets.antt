-- Tablets stay placed if one is replaced by another with the same rows.
use Rattle.std.proofs.Common.{◌≡◌, ◌≢◌, ℕ, zero, suc, Bool, true, false, cond, nat_eq, List, [], ◌∷◌, set, Option, Some, slice_get, refl, sym, ap, ◌∙◌}
use Rattle.std.proofs.lemmas.Option.{same_Some}
use Rattle.std.specs.List.{AllByRecursion}
use borrow.Author.Tests.{eqb-true, eqb-false}
use Rattle.metadata_table.specs.Places.{PlaceView}
use Rattle.metadata_table.specs.Table.{moved, with_files}
use Rattle.tablet.specs.Views.{range_of, names_of}
use Rattle.tablet.specs.declared.tablet.Tablet.{Tablet}
use Rattle.row_atomic.specs.Clusters.{tablet_numbered, IsPlaced, ArePlaced}
use Rattle.row_atomic.proofs.Shares.{set_there, set_elsewhere}

not_same : (j i : ℕ) → suc j ≢ suc i → j ≢ i
not_same j i other e = other (ap suc e)

-- replacing an element by itself changes nothing
pub set_same : {A : Type 0} (xs : List A) (i : ℕ) (x : A) → slice_get xs i ≡ Some x → set xs i x ≡ xs
set_same [] i x e = refl
set_same (y ∷ xs) zero x e = ap (λ z. z ∷ xs) (sym (same_Some y x e))
set_same (y ∷ xs) (suc i) x e = ap (λ zs. y ∷ zs) (set_same xs i x e)

module _ (ts : List Tablet) (i : ℕ) (t u : Tablet) (there : slice_get ts i ≡ Some t) (same_range : range_of u ≡ range_of t) where
  -- if its files have the same names
  record IsAlike (n : ℕ) (v : Tablet) : Type 0 where
    tablet : Tablet
    numbered : tablet_numbered n (set ts i u) ≡ Some tablet
    range : range_of tablet ≡ range_of v
    names : names_of tablet ≡ names_of v

  alike : names_of u ≡ names_of t → (n : ℕ) (v : Tablet) → tablet_numbered n ts ≡ Some v → IsAlike n v
  alike same_names zero v e = cc
  alike same_names (suc j) v e = go (nat_eq j i) refl
    where
      go : (b : Bool) → nat_eq j i ≡ b → IsAlike (suc j) v
      go true f =
          let j_i = eqb-true j i f in
          let t_v : t ≡ v = same_Some t v (sym there ∙ ap (slice_get ts) (sym j_i) ∙ e) in
          record { tablet = u; numbered = ap (slice_get (set ts i u)) j_i ∙ set_there ts i t u there; range = same_range ∙ ap range_of t_v; names = same_names ∙ ap names_of t_v }
      go false f = record { tablet = v; numbered = set_elsewhere ts i j u (eqb-false j i f) ∙ e; range = refl; names = refl }

  -- A tablet is replaced by one with the same range and the same names of files.
  pub placed_set : names_of u ≡ names_of t → (before : Option (List ℕ)) (ps : List PlaceView) → ArePlaced ts before ps → ArePlaced (set ts i u) before ps
  placed_set same_names before [] placed = tt
  placed_set same_names before (p ∷ ps) placed =
      let other = alike same_names p.tablet placed.0.tablet placed.0.numbered in (
        record { tablet = other.tablet; numbered = other.numbered; range = other.range ∙ placed.0.range; names = other.names ∙ placed.0.names },
        placed_set same_names p.end ps placed.1,
      )

  other_number : (n : ℕ) (v : Tablet) → n ≢ suc i → tablet_numbered n ts ≡ Some v → tablet_numbered n (set ts i u) ≡ Some v
  other_number zero v other e = cc
  other_number (suc j) v other e = set_elsewhere ts i j u (not_same j i other) ∙ e

  this_tablet : (n : ℕ) (v : Tablet) → n ≡ suc i → tablet_numbered n ts ≡ Some v → t ≡ v
  this_tablet n v n_i e = same_Some t v (sym there ∙ ap (λ (k : ℕ). tablet_numbered k ts) (sym n_i) ∙ e)

  this_number : (n : ℕ) → n ≡ suc i → tablet_numbered n (set ts i u) ≡ Some u
  this_number n n_i = ap (λ (k : ℕ). tablet_numbered k (set ts i u)) n_i ∙ set_there ts i t u there

  -- A tablet is replaced by one with the same range, and its place gets the new one's names.
  pub placed_files : (before : Option (List ℕ)) (ps : List PlaceView) → ArePlaced ts before ps → ArePlaced (set ts i u) before (with_files (suc i) (names_of u) ps)
  placed_files before [] placed = tt
  placed_files before (p ∷ ps) placed = go (nat_eq p.tablet (suc i)) refl (placed_files p.end ps placed.1)
    where
      go : (b : Bool) → nat_eq p.tablet (suc i) ≡ b → ArePlaced (set ts i u) p.end (with_files (suc i) (names_of u) ps)
          → ArePlaced (set ts i u) before (cond b (record p { files = names_of u }) p ∷ with_files (suc i) (names_of u) ps)
      go true e rest =
          let n_i = eqb-true p.tablet (suc i) e in
          let t_v = this_tablet p.tablet placed.0.tablet n_i placed.0.numbered in
          (record { tablet = u; numbered = this_number p.tablet n_i; range = same_range ∙ ap range_of t_v ∙ placed.0.range; names = refl }, rest)
      go false e rest =
          (record { tablet = placed.0.tablet; numbered = other_number p.tablet placed.0.tablet (eqb-false p.tablet (suc i) e) placed.0.numbered; range = placed.0.range; names = placed.0.names }, rest)

-- moving a place to another server keeps it placed
pub placed_moved : (ts : List Tablet) (n to : ℕ) (before : Option (List ℕ)) (ps : List PlaceView) → ArePlaced ts before ps → ArePlaced ts before (moved n to ps)
placed_moved ts n to before [] placed = tt
placed_moved ts n to before (p ∷ ps) placed = go (nat_eq p.tablet n) (placed_moved ts n to p.end ps placed.1)
  where
    go : (b : Bool) → ArePlaced ts p.end (moved n to ps) → ArePlaced ts before (cond b (record p { server = to }) p ∷ moved n to ps)
    go true rest = (record { tablet = placed.0.tablet; numbered = placed.0.numbered; range = placed.0.range; names = placed.0.names }, rest)
    go false rest = (placed.0, rest)

-- a property of every placed place holds for each place
pub is_placed : (P : PlaceView → Type 0) → (ts : List Tablet) → ((before : Option (List ℕ)) (p : PlaceView) → IsPlaced ts before p → P p) → (before : Option (List ℕ)) (ps : List PlaceView) → ArePlaced ts before ps → AllByRecursion P ps
is_placed P ts h before [] placed = tt
is_placed P ts h before (p ∷ ps) placed = (h before p placed.0, is_placed P ts h p.end ps placed.1)
