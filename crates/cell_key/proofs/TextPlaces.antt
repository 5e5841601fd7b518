-- The place of a text in a list of entries in ascending order.
use Rattle.std.proofs.Common.{◌≡◌, ◌≢◌, ◌<◌, ◌≤◌, ℕ, zero, suc, Bool, true, false, cond, T, List, [], ◌∷◌, length, map, get_or, drop, Some, None, refl, sym, ap, subst, ◌∙◌, arith, ◌&&◌}
use Rattle.std.specs.declared.cmp.Ordering.{Ordering}
use Rattle.std.specs.declared.cmp.Ordering.TheVariants.{Less, Equal, Greater}
use Rattle.std.specs.Ordering.{is_gt, is_eq, is_lt, ordering_reverse, eq_by_cmp}
use Rattle.std.specs.Cmp.Lexicographic.{nat_list_cmp_total}
use Rattle.std.specs.FinMap.{slice_cmp-IsAntisymmetric, nat_cmp-IsAntisymmetric}
use Rattle.std.specs.FinMap.Entries.{find, below_all}
use Rattle.cell_key.specs.Keys.{byte_cmp}
use Rattle.cell_key.specs.Entries.{Entry, IsPlace, IsRising, entry_of_key, entries_from}

pub first : (a b : Bool) → T (a && b) → T a
first true b p = tt
first false b p = p

pub second : (a b : Bool) → T (a && b) → T b
second true b p = p
second false b p = absurd p

pub less : (o : Ordering) → T (is_lt o) → o ≡ Less
less Less p = refl
less Equal p = absurd p
less Greater p = absurd p

greater : (o : Ordering) → is_gt o ≡ true → o ≡ Greater
greater Less e = cc
greater Equal e = cc
greater Greater e = refl

pub equal : (o : Ordering) → is_eq o ≡ true → o ≡ Equal
equal Less e = cc
equal Equal e = refl
equal Greater e = cc

less_or : (o : Ordering) → o ≡ Less → o ≡ Greater → ⊥
less_or o p q = cc

pub clash : (b : Bool) → b ≡ true → b ≡ false → ⊥
clash b e f = cc

-- texts that compare as equal are equal
pub one_text : (x y : List ℕ) → byte_cmp x y ≡ Equal → x ≡ y
one_text = slice_cmp-IsAntisymmetric nat_cmp-IsAntisymmetric

pub below_less : (x y : List ℕ) (es : List Entry) → byte_cmp x y ≡ Less → T (below_all byte_cmp y es) → T (below_all byte_cmp x es)
below_less x y [] p h = tt
below_less x y (e ∷ es) p h =
    let lower : byte_cmp x e.0 ≡ Less = nat_list_cmp_total.trans x y e.0 p (less _ (first _ _ h)) in
    subst (λ (o : Ordering). T (is_lt o && below_all byte_cmp x es)) (sym lower) (below_less x y es p (second _ _ h))

-- a text below all of a list isn't found in it
pub find_below : (q : List ℕ) (es : List Entry) → T (below_all byte_cmp q es) → entry_of_key es q ≡ None
find_below q [] h = refl
find_below q (e ∷ es) h = ap (λ (o : Ordering). cond (is_eq o) (Some e.1) (find byte_cmp q es)) (less _ (first _ _ h)) ∙ find_below q es (second _ _ h)

-- nor is a text below the first of a list in ascending order
pub find_lower : (q : List ℕ) (e : Entry) (es : List Entry) → IsRising (e ∷ es) → byte_cmp q e.0 ≡ Less → entry_of_key (e ∷ es) q ≡ None
find_lower q e es r p = ap (λ (o : Ordering). cond (is_eq o) (Some e.1) (find byte_cmp q es)) p ∙ find_below q es (below_less q e.0 es p (first _ _ r))

module _ {X : Type 0} (f : X → Entry) (name : List ℕ) where
  abbrev pub is_below : X → Bool
  is_below x = is_gt (byte_cmp name (f x).0)

  below_at : (low : List ℕ) (xs : List X) (j : ℕ) (d : X) → T (below_all byte_cmp low (map f xs)) → j < length xs → byte_cmp low (f (get_or xs j d)).0 ≡ Less
  below_at low [] j d h lt = absurd (omega arith)
  below_at low (x ∷ xs) zero d h lt = less _ (first _ _ h)
  below_at low (x ∷ xs) (suc j) d h lt = below_at low xs j d (second _ _ h) (omega arith)

  above_first : (x y : X) → byte_cmp (f x).0 (f y).0 ≡ Less → is_below y ≡ true → is_below x ≡ true
  above_first x y p t =
      let up : byte_cmp (f y).0 name ≡ Less = nat_list_cmp_total.antisymm (f y).0 name ∙ ap ordering_reverse (greater _ t) in
      let lower : byte_cmp (f x).0 name ≡ Less = nat_list_cmp_total.trans (f x).0 (f y).0 name p up in
      ap is_gt (nat_list_cmp_total.antisymm name (f x).0 ∙ ap ordering_reverse lower)

  -- no entry below the text comes after one that isn't
  pub parted : (xs : List X) → IsRising (map f xs) → (i j : ℕ) (d : X) → i ≤ j → j < length xs → is_below (get_or xs j d) ≡ true → is_below (get_or xs i d) ≡ true
  parted [] r i j d le lt t = absurd (omega arith)
  parted (x ∷ xs) r zero zero d le lt t = t
  parted (x ∷ xs) r zero (suc j) d le lt t = above_first x (get_or xs j d) (below_at (f x).0 xs j d (first _ _ r) (omega arith)) t
  parted (x ∷ xs) r (suc i) zero d le lt t = absurd (omega arith)
  parted (x ∷ xs) r (suc i) (suc j) d le lt t = parted xs (second _ _ r) i j d (omega arith) (omega arith) t

  pub at_point : (xs : List X) (i : ℕ) → i ≤ length xs → ((k : ℕ) (d : X) → 0 ≤ k → k < i → is_below (get_or xs k d) ≡ true) → ((k : ℕ) (d : X) → i ≤ k → k < length xs → is_below (get_or xs k d) ≡ false) → IsPlace name (map f xs) i
  at_point [] zero le p q = tt
  at_point [] (suc i) le p q = absurd (omega arith)
  at_point (x ∷ xs) zero le p q = λ e. clash (is_below x) (ap is_gt e) (q 0 x (omega arith) (omega arith))
  at_point (x ∷ xs) (suc i) le p q = (
    greater _ (p 0 x (omega arith) (omega arith)),
    at_point xs i (omega arith) (λ k d a b. p (suc k) d (omega (arith, a)) (omega (arith, b))) (λ k d a b. q (suc k) d (omega (arith, a)) (omega (arith, b))),
  )

  -- the entry at the place is the one found
  pub found_at : (xs : List X) (i : ℕ) (x : X) → IsPlace name (map f xs) i → i < length xs → x ≡ get_or xs i x → is_eq (byte_cmp name (f x).0) ≡ true → entry_of_key (map f xs) name ≡ Some (f x).1
  found_at [] i x p lt g e = absurd (omega arith)
  found_at (y ∷ xs) zero x p lt g e =
      subst (λ (z : X). cond (eq_by_cmp byte_cmp name (f z).0) (Some (f z).1) (find byte_cmp name (map f xs)) ≡ Some (f x).1) g
      (ap (λ (b : Bool). cond b (Some (f x).1) (find byte_cmp name (map f xs))) e)
  found_at (y ∷ xs) (suc i) x p lt g e = ap (λ (o : Ordering). cond (is_eq o) (Some (f y).1) (find byte_cmp name (map f xs))) p.0 ∙ found_at xs i x p.1 (omega arith) g e

  -- if the entry at the place has another text, there is none with the text
  pub missed_at : (xs : List X) (i : ℕ) (x : X) → IsRising (map f xs) → IsPlace name (map f xs) i → i < length xs → x ≡ get_or xs i x → is_eq (byte_cmp name (f x).0) ≡ false → entry_of_key (map f xs) name ≡ None
  missed_at [] i x r p lt g n = absurd (omega arith)
  missed_at (y ∷ xs) zero x r p lt g n = go (byte_cmp name (f y).0) refl
    where
      go : (o : Ordering) → byte_cmp name (f y).0 ≡ o → entry_of_key (map f (y ∷ xs)) name ≡ None
      go Less e = find_lower name (f y) (map f xs) r e
      go Equal e = absurd (clash _ (ap is_eq (ap (λ (z : X). byte_cmp name (f z).0) g ∙ e)) n)
      go Greater e = absurd (p e)
  missed_at (y ∷ xs) (suc i) x r p lt g n = ap (λ (o : Ordering). cond (is_eq o) (Some (f y).1) (find byte_cmp name (map f xs))) p.0 ∙ missed_at xs i x (second _ _ r) p.1 (omega arith) g n

  -- nor is it if all texts are below it
  pub missed_end : (xs : List X) (i : ℕ) → IsPlace name (map f xs) i → length xs ≤ i → entry_of_key (map f xs) name ≡ None
  missed_end [] i p le = refl
  missed_end (y ∷ xs) zero p le = absurd (omega arith)
  missed_end (y ∷ xs) (suc i) p le = ap (λ (o : Ordering). cond (is_eq o) (Some (f y).1) (find byte_cmp name (map f xs))) p.0 ∙ missed_end xs i p.1 (omega arith)

module _ (name : List ℕ) where
  -- the entries from the place on
  none_below : (e : Entry) (es : List Entry) → byte_cmp name e.0 ≢ Greater → T (below_all byte_cmp e.0 es) → entries_from name es ≡ es
  none_below e [] n b = refl
  none_below e (y ∷ es) n b = go (none_below e es n (second _ _ b)) (byte_cmp name y.0) refl
    where
      not_above : (o : Ordering) → byte_cmp name e.0 ≡ o → byte_cmp name y.0 ≢ Greater
      not_above Less q g = less_or (byte_cmp name y.0) (nat_list_cmp_total.trans name e.0 y.0 q (less _ (first _ _ b))) g
      not_above Equal q g =
          less_or (byte_cmp name y.0) (subst (λ (k : List ℕ). byte_cmp k y.0 ≡ Less) (sym (one_text name e.0 q)) (less _ (first _ _ b))) g
      not_above Greater q g = n q

      go : entries_from name es ≡ es → (o : Ordering) → byte_cmp name y.0 ≡ o → entries_from name (y ∷ es) ≡ y ∷ es
      go h Less q = rw q (ap (λ (rest : List Entry). y ∷ rest) h)
      go h Equal q = rw q (ap (λ (rest : List Entry). y ∷ rest) h)
      go h Greater q = absurd (not_above (byte_cmp name e.0) refl q)

  pub from_place : (es : List Entry) (i : ℕ) → IsRising es → IsPlace name es i → entries_from name es ≡ drop i es
  from_place [] zero r p = refl
  from_place [] (suc i) r p = absurd p
  from_place (e ∷ es) zero r p = go (byte_cmp name e.0) refl
    where
      go : (o : Ordering) → byte_cmp name e.0 ≡ o → entries_from name (e ∷ es) ≡ e ∷ es
      go Less q = rw q (ap (λ (rest : List Entry). e ∷ rest) (none_below e es p (first _ _ r)))
      go Equal q = rw q (ap (λ (rest : List Entry). e ∷ rest) (none_below e es p (first _ _ r)))
      go Greater q = absurd (p q)
  from_place (e ∷ es) (suc i) r p = rw p.0 (from_place es i (second _ _ r) p.1)
