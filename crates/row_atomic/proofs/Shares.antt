-- The cells of a cluster at a row are those of its owner, with consequences for calls that change one tablet.
use Rattle.std.proofs.Common.{◌≡◌, ◌≢◌, ◌-◌, ℕ, zero, suc, false, List, [], ◌∷◌, map, set, Option, Some, None, IfSome, slice_get, refl, sym, ap, ◌∙◌, subst}
use Rattle.std.proofs.lemmas.Option.{same_Some}
use Rattle.std.specs.FinMap.{get, same_map}
use Rattle.std.specs.List.{AllByRecursion}
use Rattle.std.specs.declared.cmp.Ordering.{Ordering}
use Rattle.std.specs.declared.cmp.Ordering.TheVariants.{Less, Equal, Greater}
use Rattle.cell_key.specs.Keys.{byte_cmp, key_cmp_total}
use Rattle.cell_key.specs.Cells.{Cells, IsEditOf, IsNewest, after_edits, version}
use Rattle.cell_key.specs.declared.keys.CellKey.{CellKey}
use Rattle.cell_key.specs.declared.keys.Qualifier.{Qualifier}
use Rattle.cell_key.specs.declared.edits.Edit.{Edit}
use Rattle.cell_key.proofs.KeyLaws.{exact_keys}
use Rattle.file_store.specs.Store.{Contents}
use Rattle.tablet.specs.Ranges.{has_row}
use Rattle.rows.specs.Reads.{AreNewestFirst}
use Rattle.tablet.specs.Views.{Holds, IsBelow, UsesName, Keeps, cells_at, range_of}
use Rattle.tablet.specs.Laws.{OthersStay}
use Rattle.tablet.specs.declared.tablet.Tablet.{Tablet}
use Rattle.row_atomic.specs.Clusters.{joined, cells_in, InOrder}
use Rattle.row_atomic.proofs.OutsideRange.{outside_none}
use Rattle.row_atomic.proofs.Owners.{OwnsRow}
use Rattle.row_atomic.proofs.Joined.{joined_at, joined_set, edits_elsewhere, edits_agree, same_row, row_itself, newest_there}

-- ---- lists with one element replaced

module _ {A : Type 0} where
  pub each_at : (P : A → Type 0) (xs : List A) → AllByRecursion P xs → (j : ℕ) (x : A) → slice_get xs j ≡ Some x → P x
  each_at P [] all j x e = cc
  each_at P (y ∷ xs) all zero x e = subst P (same_Some y x e) all.0
  each_at P (y ∷ xs) all (suc j) x e = each_at P xs all.1 j x e

  pub each_map : (P Q : A → Type 0) → ((x : A) → P x → Q x) → (xs : List A) → AllByRecursion P xs → AllByRecursion Q xs
  each_map P Q h [] all = tt
  each_map P Q h (x ∷ xs) all = (h x all.0, each_map P Q h xs all.1)

  pub each_set : (P : A → Type 0) (xs : List A) (i : ℕ) (x : A) → AllByRecursion P xs → P x → AllByRecursion P (set xs i x)
  each_set P [] i x all h = tt
  each_set P (y ∷ xs) zero x all h = (h, all.1)
  each_set P (y ∷ xs) (suc i) x all h = (all.0, each_set P xs i x all.1 h)

  pub set_there : (xs : List A) (i : ℕ) (x y : A) → slice_get xs i ≡ Some x → slice_get (set xs i y) i ≡ Some y
  set_there [] i x y e = cc
  set_there (z ∷ xs) zero x y e = refl
  set_there (z ∷ xs) (suc i) x y e = set_there xs i x y e

  pub set_elsewhere : (xs : List A) (i j : ℕ) (y : A) → j ≢ i → slice_get (set xs i y) j ≡ slice_get xs j
  set_elsewhere [] i j y other = refl
  set_elsewhere (z ∷ xs) zero zero y other = absurd (other refl)
  set_elsewhere (z ∷ xs) zero (suc j) y other = refl
  set_elsewhere (z ∷ xs) (suc i) zero y other = refl
  set_elsewhere (z ∷ xs) (suc i) (suc j) y other = set_elsewhere xs i j y (λ e. other (ap suc e))

  -- mapping a list with one element replaced by one that maps to the same
  pub map_set : {B : Type 0} (f g : A → B) (xs : List A) (i : ℕ) (x y : A) → slice_get xs i ≡ Some x → AllByRecursion (λ z. f z ≡ g z) xs → f y ≡ g x → map f (set xs i y) ≡ map g xs
  map_set f g [] i x y e all h = refl
  map_set f g (z ∷ xs) zero x y e all h = ap (λ b. b ∷ map f xs) (h ∙ ap g (sym (same_Some z x e))) ∙ ap (λ bs. g z ∷ bs) (map_same xs all.1)
    where
      map_same : (zs : List A) → AllByRecursion (λ z. f z ≡ g z) zs → map f zs ≡ map g zs
      map_same [] all = refl
      map_same (w ∷ zs) all = ap (λ b. b ∷ map f zs) all.0 ∙ ap (λ bs. g w ∷ bs) (map_same zs all.1)
  map_set f g (z ∷ xs) (suc i) x y e all h = ap (λ b. b ∷ map f (set xs i y)) all.0 ∙ ap (λ bs. g z ∷ bs) (map_set f g xs i x y e all.1 h)

-- ---- the core law

-- a fact about any known contents holds for these
pub at_told : (P : Contents → Type 0) (o : Option Contents) (m : Contents) → o ≡ Some m → IfSome o P → P m
at_told P None m e h = cc
at_told P (Some n) m e h = subst P (same_Some n m e) h

pub cells_told : (o : Option Contents) (m : Contents) (ts : List Tablet) → o ≡ Some m → cells_in o ts ≡ cells_in (Some m) ts
cells_told o m ts e = ap (λ (p : Option Contents). cells_in p ts) e

-- For the keys of a row the cells are its owner's.
pub cells_of_row : (m : Contents) (ts : List Tablet) (row : List ℕ) (i : ℕ) (t : Tablet) → OwnsRow ts row i t → (q : CellKey) → q.row ≡ row → get (cells_in (Some m) ts) q ≡ get (cells_at m t) q
cells_of_row m ts row i t owns q e = joined_at (cells_at m) q ts i t owns.there none
  where
    none : (j : ℕ) (u : Tablet) → j ≢ i → slice_get ts j ≡ Some u → get (cells_at m u) q ≡ None
    none j u other there = outside_none m u q (subst (λ (r : List ℕ). has_row (range_of u) r ≡ false) (sym e) (owns.others j u other there))

-- The newest version in the row's tablet is the cluster's.
pub newest_of_row : (m : Contents) (ts : List Tablet) (row family : List ℕ) (qualifier : Qualifier) (lo hi : ℕ) (found : Option (ℕ × List ℕ)) (i : ℕ) (t : Tablet) → OwnsRow ts row i t → IsNewest (cells_at m t) (version row family qualifier) lo hi found → IsNewest (cells_in (Some m) ts) (version row family qualifier) lo hi found
newest_of_row m ts row family qualifier lo hi found i t owns newest =
    newest_there (cells_at m t) (cells_in (Some m) ts) (version row family qualifier) lo hi found (λ s. cells_of_row m ts row i t owns (version row family qualifier s) refl) newest

-- The same for several newest versions.
pub newest_list_of_row : (m : Contents) (ts : List Tablet) (row family : List ℕ) (qualifier : Qualifier) (hi most : ℕ) (vs : List (ℕ × List ℕ)) (i : ℕ) (t : Tablet) → OwnsRow ts row i t → AreNewestFirst (cells_at m t) (version row family qualifier) hi most vs → AreNewestFirst (cells_in (Some m) ts) (version row family qualifier) hi most vs
newest_list_of_row m ts row family qualifier hi most [] i t owns newest = λ wanted. newest_of_row m ts row family qualifier 0 hi None i t owns (newest wanted)
newest_list_of_row m ts row family qualifier hi most (v ∷ vs) i t owns (some, newest, one, rest) = (
  some,
  newest_of_row m ts row family qualifier 0 hi (Some v) i t owns newest,
  one,
  newest_list_of_row m ts row family qualifier (v.0 - 1) (most - 1) vs i t owns rest,
)

-- ---- one tablet is replaced

-- a tablet with the same range owns the rows of the one that it replaces
pub owns_set : (ts : List Tablet) (row : List ℕ) (i : ℕ) (t u : Tablet) → range_of u ≡ range_of t → OwnsRow ts row i t → OwnsRow (set ts i u) row i u
owns_set ts row i t u e owns = record {
  there = set_there ts i t u owns.there;
  has = ap (λ range. has_row range row) e ∙ owns.has;
  others = λ j v other there. owns.others j v other (sym (set_elsewhere ts i j u other) ∙ there);
}

not_both : (o r : Ordering) → r ≡ o → r ≡ Equal → (o ≡ Equal → ⊥) → ⊥
not_both o r e f h = h (sym e ∙ f)

-- Edits of a row in its tablet are edits of the cluster's cells.
pub applied : (m : Contents) (ts : List Tablet) (row : List ℕ) (i : ℕ) (t u : Tablet) (edits : List Edit) → OwnsRow ts row i t → range_of u ≡ range_of t → AllByRecursion (IsEditOf row) edits → cells_at m u ≡ after_edits (cells_at m t) edits → cells_in (Some m) (set ts i u) ≡ after_edits (cells_in (Some m) ts) edits
applied m ts row i t u edits owns same_range under made = same_map key_cmp_total exact_keys (cells_in (Some m) (set ts i u)) (after_edits (cells_in (Some m) ts) edits) at_key
  where
    of_row : (q : CellKey) → q.row ≡ row → get (cells_in (Some m) (set ts i u)) q ≡ get (after_edits (cells_in (Some m) ts) edits) q
    of_row q e =
        cells_of_row m (set ts i u) row i u (owns_set ts row i t u same_range owns) q e
        ∙ ap (λ (c : Cells). get c q) made
        ∙ edits_agree (cells_at m t) (cells_in (Some m) ts) edits q (sym (cells_of_row m ts row i t owns q e))

    of_another : (q : CellKey) → q.row ≢ row → get (cells_in (Some m) (set ts i u)) q ≡ get (after_edits (cells_in (Some m) ts) edits) q
    of_another q other =
        joined_set (cells_at m) q ts i t u owns.there (ap (λ (c : Cells). get c q) made ∙ edits_elsewhere row (cells_at m t) edits q under other)
        ∙ sym (edits_elsewhere row (cells_in (Some m) ts) edits q under other)

    at_order : (q : CellKey) (o : Ordering) → byte_cmp q.row row ≡ o → get (cells_in (Some m) (set ts i u)) q ≡ get (after_edits (cells_in (Some m) ts) edits) q
    at_order q Less e = of_another q (λ same. not_both Less (byte_cmp q.row row) e (row_itself q.row row same) (λ k. cc))
    at_order q Equal e = of_row q (same_row q.row row e)
    at_order q Greater e = of_another q (λ same. not_both Greater (byte_cmp q.row row) e (row_itself q.row row same) (λ k. cc))

    at_key : (q : CellKey) → get (cells_in (Some m) (set ts i u)) q ≡ get (after_edits (cells_in (Some m) ts) edits) q
    at_key q = at_order q (byte_cmp q.row row) refl

-- all tablets are in order, and the cells are unchanged
pub record KeepsCells (old : Option Contents) (ts : List Tablet) (new : Option Contents) (next : ℕ) (us : List Tablet) : Type 0 where
  pub in_order : InOrder new next us
  pub same : cells_in new us ≡ cells_in old ts

-- If a call on one tablet keeps its cells, and writes at most a file under the next name, the cluster keeps its cells.
pub compacted : OthersStay → (m n : Contents) (before after : ℕ) (ts : List Tablet) (i : ℕ) (t u : Tablet) → AllByRecursion (Holds m) ts → AllByRecursion (IsBelow before) ts → slice_get ts i ≡ Some t → UsesName (Some m) before (Some n) after → Holds n u → IsBelow after u → cells_at n u ≡ cells_at m t → KeepsCells (Some m) ts (Some n) after (set ts i u)
compacted law m n before after ts i t u holds below there uses open_u below_u same_u = record {
  in_order = record {
    contents = n;
    on_disk = refl;
    each_open = each_set (Holds n) ts i u (stay_open ts holds below) open_u;
    each_below = each_set (IsBelow after) ts i u (stay_below ts holds below) below_u;
  };
  same = ap joined (map_set (cells_at n) (cells_at m) ts i t u there (stay_same ts holds below) same_u);
}
  where
    stay_open : (xs : List Tablet) → AllByRecursion (Holds m) xs → AllByRecursion (IsBelow before) xs → AllByRecursion (Holds n) xs
    stay_open [] hs bs = tt
    stay_open (x ∷ xs) hs bs = ((law m n before after x uses hs.0 bs.0).0, stay_open xs hs.1 bs.1)

    stay_below : (xs : List Tablet) → AllByRecursion (Holds m) xs → AllByRecursion (IsBelow before) xs → AllByRecursion (IsBelow after) xs
    stay_below [] hs bs = tt
    stay_below (x ∷ xs) hs bs = ((law m n before after x uses hs.0 bs.0).1, stay_below xs hs.1 bs.1)

    stay_same : (xs : List Tablet) → AllByRecursion (Holds m) xs → AllByRecursion (IsBelow before) xs → AllByRecursion (λ x. cells_at n x ≡ cells_at m x) xs
    stay_same [] hs bs = tt
    stay_same (x ∷ xs) hs bs = ((law m n before after x uses hs.0 bs.0).2, stay_same xs hs.1 bs.1)

-- The same if the files' contents may be unknown.
pub keeps_cells : OthersStay → (old new : Option Contents) (before after : ℕ) (ts : List Tablet) (i : ℕ) (t u : Tablet) → slice_get ts i ≡ Some t → UsesName old before new after → Keeps old before t new after u → InOrder old before ts → KeepsCells old ts new after (set ts i u)
keeps_cells law None new before after ts i t u there uses keeps order = absurd (told_not order.contents order.on_disk)
  where
    told_not : (m : Contents) → None ≡ Some m → ⊥
    told_not m e = cc
keeps_cells law (Some m) None before after ts i t u there uses keeps order =
    let holds = subst (λ (o : Contents). AllByRecursion (Holds o) ts) (sym (same_Some m order.contents order.on_disk)) order.each_open in
    absurd (keeps (each_at (Holds m) ts holds i t there) (each_at (IsBelow before) ts order.each_below i t there))
keeps_cells law (Some m) (Some n) before after ts i t u there uses keeps order =
    let holds = subst (λ (o : Contents). AllByRecursion (Holds o) ts) (sym (same_Some m order.contents order.on_disk)) order.each_open in
    let kept = keeps (each_at (Holds m) ts holds i t there) (each_at (IsBelow before) ts order.each_below i t there) in
    compacted law m n before after ts i t u holds order.each_below there uses kept.0 kept.1 kept.2
