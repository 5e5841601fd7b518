-- Joined cell maps at a key.
use Rattle.std.proofs.Common.{◌≡◌, ◌≢◌, ℕ, zero, suc, Bool, true, false, cond, List, [], ◌∷◌, ◌++◌, map, set, flat_map, Option, Some, None, IsSome, slice_get, refl, sym, ap, ◌∙◌, subst, arith}
use Rattle.std.specs.Ordering.{eq_by_cmp}
use Rattle.std.specs.FinMap.{entries, get, get-entries, get-empty, get-from_entries, get-insert, get-remove}
use Rattle.std.specs.FinMap.Entries.{find}
use Rattle.std.specs.List.{AllByRecursion}
use Rattle.std.specs.Cmp.{tied_itself}
use Rattle.std.specs.Cmp.Lexicographic.{nat_list_cmp_total}
use Rattle.std.specs.declared.cmp.Ordering.TheVariants.{Equal}
use Rattle.std.specs.FinMap.{slice_cmp-IsAntisymmetric, nat_cmp-IsAntisymmetric}
use Rattle.cell_key.specs.Keys.{byte_cmp, key_cmp, key_cmp_total}
use Rattle.cell_key.specs.Cells.{Cells, IsEditOf, IsNewest, after_edit, after_edits}
use Rattle.cell_key.specs.Entries.{or_else}
use Rattle.cell_key.specs.declared.keys.CellKey.{CellKey}
use Rattle.cell_key.specs.declared.edits.Edit.{Edit}
use Rattle.cell_key.specs.declared.edits.Edit.TheVariants.{Put, Erase}
use Rattle.row_atomic.specs.Clusters.{joined}
use Rattle.rows.proofs.SlotLemmas.{same_at}

cond_or : {A : Type 0} (b : Bool) (v : A) (x y : Option A) → cond b (Some v) (or_else x y) ≡ or_else (cond b (Some v) x) y
cond_or true v x y = refl
cond_or false v x y = refl

find-++ : (q : CellKey) (xs ys : List (CellKey × List ℕ)) → find key_cmp q (xs ++ ys) ≡ or_else (find key_cmp q xs) (find key_cmp q ys)
find-++ q [] ys = refl
find-++ q (x ∷ xs) ys = ap (cond (eq_by_cmp key_cmp q x.0) (Some x.1)) (find-++ q xs ys) ∙ cond_or (eq_by_cmp key_cmp q x.0) x.1 (find key_cmp q xs) (find key_cmp q ys)

-- the first map that has the key decides
pub get_joined : (c : Cells) (cs : List Cells) (q : CellKey) → get (joined (c ∷ cs)) q ≡ or_else (get c q) (get (joined cs) q)
get_joined c cs q =
    get-from_entries key_cmp_total (entries c ++ flat_map entries cs) q
    ∙ find-++ q (entries c) (flat_map entries cs)
    ∙ ap (λ (o : Option (List ℕ)). or_else o (find key_cmp q (flat_map entries cs))) (sym (get-entries c q))
    ∙ ap (or_else (get c q)) (sym (get-from_entries key_cmp_total (flat_map entries cs) q))

pub get_joined_none : (q : CellKey) → get (joined []) q ≡ None
get_joined_none q = get-empty key_cmp q

or_none : {A : Type 0} (o : Option A) → or_else o None ≡ o
or_none None = refl
or_none (Some x) = refl

or_some : {A : Type 0} (o p : Option A) → IsSome o → IsSome (or_else o p)
or_some None p h = cc
or_some (Some x) p h = refl

or_later : {A : Type 0} (o p : Option A) → IsSome p → IsSome (or_else o p)
or_later None p h = h
or_later (Some x) p h = refl

some_or : {A : Type 0} (o p : Option A) → IsSome (or_else o p) → o ≡ None → IsSome p
some_or None p h e = h
some_or (Some x) p h e = cc

at_zero : {A : Type 0} (t u : A) → Some t ≡ Some u → t ≡ u
at_zero t u e = cc

suc_not_zero : (j : ℕ) → suc j ≢ zero
suc_not_zero j e = absurd (omega (arith, e))

suc_same : (j i : ℕ) → suc j ≡ suc i → j ≡ i
suc_same j i e = omega arith

none_some : {A : Type 0} (o : Option A) → o ≡ None → IsSome o → ⊥
none_some None e h = cc
none_some (Some x) e h = cc

module _ {A : Type 0} (f : A → Cells) (q : CellKey) where
  -- if no map has the key, the joined one does not either
  pub joined_nowhere : (ts : List A) → ((j : ℕ) (u : A) → slice_get ts j ≡ Some u → get (f u) q ≡ None) → get (joined (map f ts)) q ≡ None
  joined_nowhere [] h = get_joined_none q
  joined_nowhere (t ∷ ts) h =
      get_joined (f t) (map f ts) q
      ∙ ap (λ (o : Option (List ℕ)). or_else o (get (joined (map f ts)) q)) (h zero t refl)
      ∙ joined_nowhere ts (λ j u e. h (suc j) u e)

  -- if only one map has the key, the joined one has its value
  pub joined_at : (ts : List A) (i : ℕ) (t : A) → slice_get ts i ≡ Some t → ((j : ℕ) (u : A) → j ≢ i → slice_get ts j ≡ Some u → get (f u) q ≡ None) → get (joined (map f ts)) q ≡ get (f t) q
  joined_at [] i t e h = cc
  joined_at (s ∷ ts) zero t e h =
      get_joined (f s) (map f ts) q
      ∙ ap (or_else (get (f s) q)) (joined_nowhere ts (λ j u there. h (suc j) u (λ same. suc_not_zero j same) there))
      ∙ or_none (get (f s) q)
      ∙ ap (λ (x : A). get (f x) q) (at_zero s t e)
  joined_at (s ∷ ts) (suc i) t e h =
      get_joined (f s) (map f ts) q
      ∙ ap (λ (o : Option (List ℕ)). or_else o (get (joined (map f ts)) q)) (h zero s (λ same. suc_not_zero i (sym same)) refl)
      ∙ joined_at ts i t e (λ j u other there. h (suc j) u (λ same. other (suc_same j i same)) there)

  -- the joined map has every key of each map
  pub joined_some : (ts : List A) (i : ℕ) (t : A) → slice_get ts i ≡ Some t → IsSome (get (f t) q) → IsSome (get (joined (map f ts)) q)
  joined_some [] i t e h = cc
  joined_some (s ∷ ts) zero t e h =
      subst (λ (o : Option (List ℕ)). IsSome o) (sym (get_joined (f s) (map f ts) q))
      (or_some (get (f s) q) (get (joined (map f ts)) q) (subst (λ (x : A). IsSome (get (f x) q)) (sym (at_zero s t e)) h))
  joined_some (s ∷ ts) (suc i) t e h =
      subst (λ (o : Option (List ℕ)). IsSome o) (sym (get_joined (f s) (map f ts) q))
      (or_later (get (f s) q) (get (joined (map f ts)) q) (joined_some ts i t e h))

  -- and no other key
  pub joined_from : (ts : List A) → IsSome (get (joined (map f ts)) q) → (i : ℕ) × ((t : A) × ((slice_get ts i ≡ Some t) × IsSome (get (f t) q)))
  joined_from [] h = absurd (none_some (get (joined []) q) (get_joined_none q) h)
  joined_from (s ∷ ts) h = go (get (f s) q) refl (λ some. joined_from ts some)
    where
      go : (o : Option (List ℕ)) → get (f s) q ≡ o → (IsSome (get (joined (map f ts)) q) → (i : ℕ) × ((t : A) × ((slice_get ts i ≡ Some t) × IsSome (get (f t) q)))) → (i : ℕ) × ((t : A) × ((slice_get (s ∷ ts) i ≡ Some t) × IsSome (get (f t) q)))
      go None e rest =
          let whole = subst (λ (o : Option (List ℕ)). IsSome o) (get_joined (f s) (map f ts) q) h in
          let later = rest (some_or (get (f s) q) (get (joined (map f ts)) q) whole e) in
          (suc later.0, later.1)
      go (Some value) e rest = (zero, (s, (refl, subst (λ (o : Option (List ℕ)). IsSome o) (sym e) refl)))

  -- replacing one map by another with the same value at the key
  pub joined_set : (ts : List A) (i : ℕ) (t u : A) → slice_get ts i ≡ Some t → get (f u) q ≡ get (f t) q → get (joined (map f (set ts i u))) q ≡ get (joined (map f ts)) q
  joined_set [] i t u e h = cc
  joined_set (s ∷ ts) zero t u e h =
      get_joined (f u) (map f ts) q
      ∙ ap (λ (o : Option (List ℕ)). or_else o (get (joined (map f ts)) q)) (h ∙ ap (λ (x : A). get (f x) q) (sym (at_zero s t e)))
      ∙ sym (get_joined (f s) (map f ts) q)
  joined_set (s ∷ ts) (suc i) t u e h =
      get_joined (f s) (map f (set ts i u)) q
      ∙ ap (or_else (get (f s) q)) (joined_set ts i t u e h)
      ∙ sym (get_joined (f s) (map f ts) q)

-- ---- edits of a row

-- an edit of a row changes no key of another row
edit_elsewhere : (row : List ℕ) (cells : Cells) (edit : Edit) (q : CellKey) → IsEditOf row edit → q.row ≢ row → get (after_edit cells edit) q ≡ get cells q
edit_elsewhere row cells (Put key value) q one other = get-insert key_cmp_total cells key value.items q ∙ go (eq_by_cmp key_cmp q key) refl
  where
    go : (b : Bool) → eq_by_cmp key_cmp q key ≡ b → cond b (Some value.items) (get cells q) ≡ get cells q
    go true e = absurd (other (ap (λ (k : CellKey). k.row) (same_at q key e) ∙ one.under))
    go false e = refl
edit_elsewhere row cells (Erase key) q one other = get-remove key_cmp_total cells key q ∙ go (eq_by_cmp key_cmp q key) refl
  where
    go : (b : Bool) → eq_by_cmp key_cmp q key ≡ b → cond b None (get cells q) ≡ get cells q
    go true e = absurd (other (ap (λ (k : CellKey). k.row) (same_at q key e) ∙ one.under))
    go false e = refl

pub edits_elsewhere : (row : List ℕ) (cells : Cells) (edits : List Edit) (q : CellKey) → AllByRecursion (IsEditOf row) edits → q.row ≢ row → get (after_edits cells edits) q ≡ get cells q
edits_elsewhere row cells [] q all other = refl
edits_elsewhere row cells (edit ∷ edits) q all other = edits_elsewhere row (after_edit cells edit) edits q all.1 other ∙ edit_elsewhere row cells edit q all.0 other

-- an edit's effect on a key depends only on that key's value
edit_agrees : (c d : Cells) (edit : Edit) (q : CellKey) → get c q ≡ get d q → get (after_edit c edit) q ≡ get (after_edit d edit) q
edit_agrees c d (Put key value) q h =
    get-insert key_cmp_total c key value.items q ∙ ap (cond (eq_by_cmp key_cmp q key) (Some value.items)) h ∙ sym (get-insert key_cmp_total d key value.items q)
edit_agrees c d (Erase key) q h =
    get-remove key_cmp_total c key q ∙ ap (cond (eq_by_cmp key_cmp q key) None) h ∙ sym (get-remove key_cmp_total d key q)

pub edits_agree : (c d : Cells) (edits : List Edit) (q : CellKey) → get c q ≡ get d q → get (after_edits c edits) q ≡ get (after_edits d edits) q
edits_agree c d [] q h = h
edits_agree c d (edit ∷ edits) q h = edits_agree (after_edit c edit) (after_edit d edit) edits q (edit_agrees c d edit q h)

-- rows that compare equal are equal
pub same_row : (a b : List ℕ) → byte_cmp a b ≡ Equal → a ≡ b
same_row a b e = slice_cmp-IsAntisymmetric nat_cmp-IsAntisymmetric a b e

pub row_itself : (a b : List ℕ) → a ≡ b → byte_cmp a b ≡ Equal
row_itself a b e = subst (λ (x : List ℕ). byte_cmp a x ≡ Equal) e (tied_itself nat_list_cmp_total a)

-- A newest version in one cell map is one in every map with the same values at the column's keys.
pub newest_there : (c d : Cells) (at : ℕ → CellKey) (lo hi : ℕ) (found : Option (ℕ × List ℕ)) → ((s : ℕ) → get d (at s) ≡ get c (at s)) → IsNewest c at lo hi found → IsNewest d at lo hi found
newest_there c d at lo hi None same h = λ s low high. same s ∙ h s low high
newest_there c d at lo hi (Some found) same h = (h.0, h.1, same found.0 ∙ h.2, λ s low high. same s ∙ h.3 s low high)
