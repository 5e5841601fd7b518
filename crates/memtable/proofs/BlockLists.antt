-- Lists of entries one after another.
use Rattle.std.proofs.Common.{◌≡◌, ◌<◌, ◌≤◌, ◌+◌, ◌&&◌, ℕ, zero, suc, Bool, true, false, cond, T, List, [], ◌∷◌, ◌++◌, length, map, get_or, set, drop, Option, Some, None, refl, sym, ap, subst, ◌∙◌, arith, append-nil, append_assoc}
use Rattle.std.specs.List.{AllByRecursion, flat_map, insert}
use Rattle.std.specs.declared.cmp.Ordering.{Ordering}
use Rattle.std.specs.declared.cmp.Ordering.TheVariants.{Less, Equal, Greater}
use Rattle.std.specs.Ordering.{is_gt, is_eq, ordering_reverse}
use Rattle.std.specs.Cmp.Lexicographic.{nat_list_cmp_total}
use Rattle.std.specs.FinMap.Entries.{put, find, below_all}
use Rattle.cell_key.specs.Keys.{byte_cmp}
use Rattle.cell_key.specs.Entries.{Entry, IsPlace, IsRising, entry_of_key, entries_from}
use Rattle.cell_key.proofs.TextPlaces.{first, second, less, clash, find_lower, from_place}
use Rattle.memtable.specs.Blocks.{ends_below, IsBlockIndex}

both : (a b : Bool) → T a → T b → T (a && b)
both true b p q = q
both false b p q = p

greater : (o : Ordering) → is_gt o ≡ true → o ≡ Greater
greater Less e = cc
greater Equal e = cc
greater Greater e = refl

-- ---- two lists

below_front : (low : List ℕ) (a b : List Entry) → T (below_all byte_cmp low (a ++ b)) → T (below_all byte_cmp low a)
below_front low [] b h = tt
below_front low (e ∷ a) b h = both _ _ (first _ _ h) (below_front low a b (second _ _ h))

below_back : (low : List ℕ) (a b : List Entry) → T (below_all byte_cmp low (a ++ b)) → T (below_all byte_cmp low b)
below_back low [] b h = h
below_back low (e ∷ a) b h = below_back low a b (second _ _ h)

rising_front : (a b : List Entry) → IsRising (a ++ b) → IsRising a
rising_front [] b r = tt
rising_front (e ∷ a) b r = both _ _ (below_front e.0 a b (first _ _ r)) (rising_front a b (second _ _ r))

rising_back : (a b : List Entry) → IsRising (a ++ b) → IsRising b
rising_back [] b r = r
rising_back (e ∷ a) b r = rising_back a b (second _ _ r)

module _ (name : List ℕ) where
  -- texts below a list that ends below a text are below the text
  below_end : (low : List ℕ) (es : List Entry) → T (below_all byte_cmp low es) → ends_below name es ≡ true → byte_cmp name low ≡ Greater
  below_end low [] h t = cc
  below_end low (e ∷ []) h t =
      let up : byte_cmp e.0 name ≡ Less = nat_list_cmp_total.antisymm e.0 name ∙ ap ordering_reverse (greater _ t) in
      let lower : byte_cmp low name ≡ Less = nat_list_cmp_total.trans low e.0 name (less _ (first _ _ h)) up in
      nat_list_cmp_total.antisymm name low ∙ ap ordering_reverse lower
  below_end low (e ∷ f ∷ es) h t = below_end low (f ∷ es) (second _ _ h) t

  end_below : (es rest : List Entry) → IsRising (es ++ rest) → 1 ≤ length es → ((low : List ℕ) → T (below_all byte_cmp low rest) → byte_cmp name low ≡ Greater) → ends_below name es ≡ true
  end_below [] rest r some k = absurd (omega arith)
  end_below (e ∷ []) rest r some k = ap is_gt (k e.0 (first _ _ r))
  end_below (e ∷ f ∷ es) rest r some k = end_below (f ∷ es) rest (second _ _ r) (omega arith) k

  head_below : (e : Entry) (es : List Entry) → IsRising (e ∷ es) → ends_below name (e ∷ es) ≡ true → byte_cmp name e.0 ≡ Greater
  head_below e [] r t = greater _ t
  head_below e (f ∷ es) r t = below_end e.0 (f ∷ es) (first _ _ r) t

  -- a list that ends below the text has its place behind all
  pub place_at_end : (es : List Entry) → IsRising es → ends_below name es ≡ true → IsPlace name es (length es)
  place_at_end [] r t = cc
  place_at_end (e ∷ []) r t = (head_below e [] r t, tt)
  place_at_end (e ∷ f ∷ es) r t = (head_below e (f ∷ es) r t, place_at_end (f ∷ es) (second _ _ r) t)

  -- a list with the text's place behind all its entries ends below the text
  pub ends_at_place : (es : List Entry) (i : ℕ) → 1 ≤ length es → IsPlace name es i → i ≡ length es → ends_below name es ≡ true
  ends_at_place [] i some p e = absurd (omega arith)
  ends_at_place (e ∷ []) zero some p end = absurd (omega (arith, end))
  ends_at_place (e ∷ []) (suc i) some p end = ap is_gt p.0
  ends_at_place (e ∷ f ∷ es) zero some p end = absurd (omega (arith, end))
  ends_at_place (e ∷ f ∷ es) (suc i) some p end = ends_at_place (f ∷ es) i (omega arith) p.1 (omega (arith, end))

  one_place : (es : List Entry) (i j : ℕ) → IsPlace name es i → IsPlace name es j → i < j → ⊥
  one_place [] i zero p q lt = absurd (omega (arith, lt))
  one_place [] i (suc j) p q lt = q
  one_place (e ∷ es) i zero p q lt = absurd (omega (arith, lt))
  one_place (e ∷ es) zero (suc j) p q lt = p q.0
  one_place (e ∷ es) (suc i) (suc j) p q lt = one_place es i j p.1 q.1 (omega (arith, lt))

  -- a list with the text's place before its end doesn't end below the text
  pub stays_at_place : (es : List Entry) (i : ℕ) → IsRising es → IsPlace name es i → i < length es → ends_below name es ≡ false
  stays_at_place es i r p lt = go (ends_below name es) refl
    where
      go : (b : Bool) → ends_below name es ≡ b → ends_below name es ≡ false
      go false e = e
      go true e = absurd (one_place es i (length es) p (place_at_end es r e) lt)

  -- if an entry is before the text's place, the text is above all that is below the list
  above_first : (es : List Entry) (i : ℕ) → 0 < i → IsPlace name es i → (low : List ℕ) → T (below_all byte_cmp low es) → byte_cmp name low ≡ Greater
  above_first es zero some p low h = absurd (omega (arith, some))
  above_first [] (suc i) some p low h = absurd p
  above_first (e ∷ es) (suc i) some p low h =
      let up : byte_cmp e.0 name ≡ Less = nat_list_cmp_total.antisymm e.0 name ∙ ap ordering_reverse p.0 in
      let lower : byte_cmp low name ≡ Less = nat_list_cmp_total.trans low e.0 name (less _ (first _ _ h)) up in
      nat_list_cmp_total.antisymm name low ∙ ap ordering_reverse lower

  -- putting an entry skips a list that ends below its text
  put_past : (v : Option (List ℕ)) (a b : List Entry) → IsRising a → ends_below name a ≡ true → put byte_cmp name v (a ++ b) ≡ a ++ put byte_cmp name v b
  put_past v [] b r t = cc
  put_past v (e ∷ []) b r t = rw (head_below e [] r t) refl
  put_past v (e ∷ f ∷ es) b r t = rw (head_below e (f ∷ es) r t) (ap (λ (xs : List Entry). e ∷ xs) (put_past v (f ∷ es) b (second _ _ r) t))

  find_past : (a b : List Entry) → IsRising a → ends_below name a ≡ true → entry_of_key (a ++ b) name ≡ entry_of_key b name
  find_past [] b r t = cc
  find_past (e ∷ []) b r t = ap (λ (o : Ordering). cond (is_eq o) (Some e.1) (find byte_cmp name b)) (head_below e [] r t)
  find_past (e ∷ f ∷ es) b r t =
      ap (λ (o : Ordering). cond (is_eq o) (Some e.1) (find byte_cmp name (f ∷ es ++ b))) (head_below e (f ∷ es) r t)
      ∙ find_past (f ∷ es) b (second _ _ r) t

  from_past : (a b : List Entry) → IsRising a → ends_below name a ≡ true → entries_from name (a ++ b) ≡ entries_from name b
  from_past [] b r t = cc
  from_past (e ∷ []) b r t = rw (head_below e [] r t) refl
  from_past (e ∷ f ∷ es) b r t = rw (head_below e (f ∷ es) r t) (from_past (f ∷ es) b (second _ _ r) t)

  -- putting an entry in a list that doesn't end below its text leaves the later lists alone
  put_within : (v : Option (List ℕ)) (a b : List Entry) → 1 ≤ length a → ends_below name a ≡ false → put byte_cmp name v (a ++ b) ≡ put byte_cmp name v a ++ b
  put_within v [] b some n = absurd (omega arith)
  put_within v (e ∷ []) b some n = go (byte_cmp name e.0) refl
    where
      go : (o : Ordering) → byte_cmp name e.0 ≡ o → put byte_cmp name v (e ∷ b) ≡ put byte_cmp name v (e ∷ []) ++ b
      go Less p = rw p refl
      go Equal p = rw p refl
      go Greater p = absurd (clash _ (ap is_gt p) n)
  put_within v (e ∷ f ∷ es) b some n = go (put_within v (f ∷ es) b (omega arith) n) (byte_cmp name e.0) refl
    where
      go : put byte_cmp name v (f ∷ es ++ b) ≡ put byte_cmp name v (f ∷ es) ++ b → (o : Ordering) → byte_cmp name e.0 ≡ o → put byte_cmp name v (e ∷ f ∷ es ++ b) ≡ put byte_cmp name v (e ∷ f ∷ es) ++ b
      go h Less p = rw p refl
      go h Equal p = rw p refl
      go h Greater p = rw p (ap (λ (xs : List Entry). e ∷ xs) h)

  find_within : (a b : List Entry) → IsRising (a ++ b) → 1 ≤ length a → ends_below name a ≡ false → entry_of_key (a ++ b) name ≡ entry_of_key a name
  find_within [] b r some n = absurd (omega arith)
  find_within (e ∷ []) b r some n = go (byte_cmp name e.0) refl
    where
      go : (o : Ordering) → byte_cmp name e.0 ≡ o → entry_of_key (e ∷ b) name ≡ entry_of_key (e ∷ []) name
      go Less p = find_lower name e b r p ∙ sym (find_lower name e [] tt p)
      go Equal p = rw p refl
      go Greater p = absurd (clash _ (ap is_gt p) n)
  find_within (e ∷ f ∷ es) b r some n = go (find_within (f ∷ es) b (second _ _ r) (omega arith) n) (byte_cmp name e.0) refl
    where
      go : entry_of_key (f ∷ es ++ b) name ≡ entry_of_key (f ∷ es) name → (o : Ordering) → byte_cmp name e.0 ≡ o → entry_of_key (e ∷ f ∷ es ++ b) name ≡ entry_of_key (e ∷ f ∷ es) name
      go h Less p = find_lower name e (f ∷ es ++ b) r p ∙ sym (find_lower name e (f ∷ es) (rising_front (e ∷ f ∷ es) b r) p)
      go h Equal p = ap (λ (o : Option (Option (List ℕ))). cond (is_eq (byte_cmp name e.0)) (Some e.1) o) h
      go h Greater p = ap (λ (o : Option (Option (List ℕ))). cond (is_eq (byte_cmp name e.0)) (Some e.1) o) h

  from_within : (a b : List Entry) → IsRising (a ++ b) → 1 ≤ length a → ends_below name a ≡ false → entries_from name (a ++ b) ≡ entries_from name a ++ b
  from_within [] b r some n = absurd (omega arith)
  from_within (e ∷ []) b r some n =
      from_place name (e ∷ b) 0 r (λ g. clash _ (ap is_gt g) n)
      ∙ sym (ap (λ (xs : List Entry). xs ++ b) (from_place name (e ∷ []) 0 tt (λ g. clash _ (ap is_gt g) n)))
  from_within (e ∷ f ∷ es) b r some n = go (from_within (f ∷ es) b (second _ _ r) (omega arith) n) (byte_cmp name e.0) refl
    where
      stays : ¬ (byte_cmp name e.0 ≡ Greater) → entries_from name (e ∷ f ∷ es ++ b) ≡ entries_from name (e ∷ f ∷ es) ++ b
      stays k =
          from_place name (e ∷ f ∷ es ++ b) 0 r k
          ∙ sym (ap (λ (xs : List Entry). xs ++ b) (from_place name (e ∷ f ∷ es) 0 (rising_front (e ∷ f ∷ es) b r) k))

      go : entries_from name (f ∷ es ++ b) ≡ entries_from name (f ∷ es) ++ b → (o : Ordering) → byte_cmp name e.0 ≡ o → entries_from name (e ∷ f ∷ es ++ b) ≡ entries_from name (e ∷ f ∷ es) ++ b
      go h Less p = stays (λ g. clash _ (ap is_gt g) (ap is_gt p))
      go h Equal p = stays (λ g. clash _ (ap is_gt g) (ap is_gt p))
      go h Greater p = rw p h

-- ---- many lists

pub all_set : {X : Type 0} (P : X → Type 0) (xs : List X) (i : ℕ) (y : X) → AllByRecursion P xs → P y → AllByRecursion P (set xs i y)
all_set P [] i y all one = tt
all_set P (x ∷ xs) zero y all one = (one, all.1)
all_set P (x ∷ xs) (suc i) y all one = (all.0, all_set P xs i y all.1 one)

pub all_insert : {X : Type 0} (P : X → Type 0) (xs : List X) (i : ℕ) (y : X) → AllByRecursion P xs → P y → AllByRecursion P (insert xs i y)
all_insert P [] zero y all one = (one, tt)
all_insert P [] (suc i) y all one = (one, tt)
all_insert P (x ∷ xs) zero y all one = (one, all)
all_insert P (x ∷ xs) (suc i) y all one = (all.0, all_insert P xs i y all.1 one)

pub all_at : {X : Type 0} (P : X → Type 0) (xs : List X) (i : ℕ) (x : X) → AllByRecursion P xs → i < length xs → x ≡ get_or xs i x → P x
all_at P [] i x all lt g = absurd (omega arith)
all_at P (y ∷ xs) zero x all lt g = subst P (sym g) all.0
all_at P (y ∷ xs) (suc i) x all lt g = all_at P xs i x all.1 (omega arith) g

pub all_drop : {X : Type 0} (P : X → Type 0) (xs : List X) (i : ℕ) → AllByRecursion P xs → AllByRecursion P (drop i xs)
all_drop P [] zero all = tt
all_drop P [] (suc i) all = tt
all_drop P (x ∷ xs) zero all = all
all_drop P (x ∷ xs) (suc i) all = all_drop P xs i all.1

-- the rest of a list begins with the element at the index
pub first_of_drop : {X : Type 0} (xs : List X) (i : ℕ) (x : X) (later : List X) → drop i xs ≡ x ∷ later → (i < length xs) × (x ≡ get_or xs i x)
first_of_drop [] zero x later e = cc
first_of_drop [] (suc i) x later e = cc
first_of_drop {X} (y ∷ xs) zero x later e = (omega arith, sym (ap (λ (zs : List X). get_or zs 0 x) e))
first_of_drop (y ∷ xs) (suc i) x later e = let h = first_of_drop xs i x later e in let lt = h.0 in (omega (arith, lt), h.1)

module _ {X : Type 0} (f : X → List Entry) where
  abbrev AreSome : List X → Type 0
  AreSome xs = AllByRecursion (λ x. 1 ≤ length (f x)) xs

  below_at : (low : List ℕ) (xs : List X) (j : ℕ) (d : X) → T (below_all byte_cmp low (flat_map f xs)) → j < length xs → T (below_all byte_cmp low (f (get_or xs j d)))
  below_at low [] j d h lt = absurd (omega arith)
  below_at low (x ∷ xs) zero d h lt = below_front low (f x) (flat_map f xs) h
  below_at low (x ∷ xs) (suc j) d h lt = below_at low xs j d (below_back low (f x) (flat_map f xs) h) (omega arith)

  pub rising_at : (xs : List X) (i : ℕ) (x : X) → IsRising (flat_map f xs) → i < length xs → x ≡ get_or xs i x → IsRising (f x)
  rising_at [] i x r lt g = absurd (omega arith)
  rising_at (y ∷ xs) zero x r lt g = subst (λ (z : X). IsRising (f z)) (sym g) (rising_front (f y) (flat_map f xs) r)
  rising_at (y ∷ xs) (suc i) x r lt g = rising_at xs i x (rising_back (f y) (flat_map f xs) r) (omega arith) g

  rising_drop : (xs : List X) (i : ℕ) → IsRising (flat_map f xs) → IsRising (flat_map f (drop i xs))
  rising_drop [] zero r = r
  rising_drop [] (suc i) r = r
  rising_drop (x ∷ xs) zero r = r
  rising_drop (x ∷ xs) (suc i) r = rising_drop xs i (rising_back (f x) (flat_map f xs) r)

  pub rising_first : (xs : List X) (i : ℕ) (x : X) (later : List X) → IsRising (flat_map f xs) → drop i xs ≡ x ∷ later → IsRising (f x)
  rising_first xs i x later r e = rising_front (f x) (flat_map f later) (subst (λ (zs : List X). IsRising (flat_map f zs)) e (rising_drop xs i r))

  -- a block cut in two
  pub cut_in_two : (xs : List X) (i : ℕ) (x lower upper : X) → i < length xs → x ≡ get_or xs i x → f x ≡ f lower ++ f upper → flat_map f (insert (set xs i lower) (suc i) upper) ≡ flat_map f xs
  cut_in_two [] i x lower upper lt g e = absurd (omega arith)
  cut_in_two (y ∷ xs) zero x lower upper lt g e =
      sym (append_assoc (f lower) (f upper) (flat_map f xs))
      ∙ ap (λ (es : List Entry). es ++ flat_map f xs) (sym e ∙ ap f g)
  cut_in_two (y ∷ xs) (suc i) x lower upper lt g e = ap (λ (es : List Entry). f y ++ es) (cut_in_two xs i x lower upper (omega arith) g e)

  module _ (name : List ℕ) where
    abbrev pub is_passed : X → Bool
    is_passed x = ends_below name (f x)

    -- no list that ends below the text comes after one that doesn't
    pub parted_blocks : (xs : List X) → IsRising (flat_map f xs) → AreSome xs → (i j : ℕ) (d : X) → i ≤ j → j < length xs → is_passed (get_or xs j d) ≡ true → is_passed (get_or xs i d) ≡ true
    parted_blocks [] r some i j d le lt t = absurd (omega arith)
    parted_blocks (x ∷ xs) r some zero zero d le lt t = t
    parted_blocks (x ∷ xs) r some zero (suc j) d le lt t =
        end_below name (f x) (flat_map f xs) r some.0 (λ low h. below_end name low (f (get_or xs j d)) (below_at low xs j d h (omega arith)) t)
    parted_blocks (x ∷ xs) r some (suc i) zero d le lt t = absurd (omega arith)
    parted_blocks (x ∷ xs) r some (suc i) (suc j) d le lt t = parted_blocks xs (rising_back (f x) (flat_map f xs) r) some.1 i j d (omega arith) (omega arith) t

    pub block_point : (xs : List X) (i : ℕ) → i ≤ length xs → ((k : ℕ) (d : X) → 0 ≤ k → k < i → is_passed (get_or xs k d) ≡ true) → ((k : ℕ) (d : X) → i ≤ k → k < length xs → is_passed (get_or xs k d) ≡ false) → IsBlockIndex name (map f xs) i
    block_point [] zero le p q = tt
    block_point [] (suc i) le p q = absurd (omega arith)
    block_point (x ∷ xs) zero le p q = q 0 x (omega arith) (omega arith)
    block_point (x ∷ xs) (suc i) le p q = (
      p 0 x (omega arith) (omega arith),
      block_point xs i (omega arith) (λ k d a b. p (suc k) d (omega (arith, a)) (omega (arith, b))) (λ k d a b. q (suc k) d (omega (arith, a)) (omega (arith, b))),
    )

    -- so the first list that doesn't is known by the list before it
    pub first_point : (xs : List X) (i : ℕ) → IsRising (flat_map f xs) → AreSome xs → i < length xs → ((d : X) → is_passed (get_or xs i d) ≡ false) → ((j : ℕ) (d : X) → suc j ≡ i → is_passed (get_or xs j d) ≡ true) → IsBlockIndex name (map f xs) i
    first_point xs i r some lt stays ends = block_point xs i (omega arith) (λ k d a b. front i refl k d b) (λ k d a b. back k d a b (is_passed (get_or xs k d)) refl)
      where
        front : (m : ℕ) → m ≡ i → (k : ℕ) (d : X) → k < i → is_passed (get_or xs k d) ≡ true
        front zero e k d b = absurd (omega (arith, e, b))
        front (suc j) e k d b = parted_blocks xs r some k j d (omega (arith, e, b)) (omega (arith, e, lt)) (ends j d e)

        back : (k : ℕ) (d : X) → i ≤ k → k < length xs → (t : Bool) → is_passed (get_or xs k d) ≡ t → is_passed (get_or xs k d) ≡ false
        back k d a b true e = absurd (clash _ (parted_blocks xs r some i k d a b e) (stays d))
        back k d a b false e = e

    -- and a list with entries below and at or above the text is the first
    pub inner_point : (xs : List X) (i j : ℕ) → IsRising (flat_map f xs) → AreSome xs → i < length xs → ((d : X) → IsPlace name (f (get_or xs i d)) j) → 0 < j → ((d : X) → is_passed (get_or xs i d) ≡ false) → IsBlockIndex name (map f xs) i
    inner_point xs i j r some lt place inner stays = first_point xs i r some lt stays (λ k d e. before xs i k d r some lt e place)
      where
        before : (xs : List X) (i k : ℕ) (d : X) → IsRising (flat_map f xs) → AreSome xs → i < length xs → suc k ≡ i → ((d : X) → IsPlace name (f (get_or xs i d)) j) → is_passed (get_or xs k d) ≡ true
        before [] i k d r some lt e place = absurd (omega (arith, lt))
        before (x ∷ xs) zero k d r some lt e place = absurd (omega (arith, e))
        before (x ∷ []) (suc i) k d r some lt e place = absurd (omega (arith, lt))
        before (x ∷ y ∷ xs) (suc zero) zero d r some lt e place =
            end_below name (f x) (flat_map f (y ∷ xs)) r some.0 (λ low h. above_first name (f y) j inner (place d) low (below_front low (f y) (flat_map f xs) h))
        before (x ∷ y ∷ xs) (suc zero) (suc k) d r some lt e place = absurd (omega (arith, e))
        before (x ∷ y ∷ xs) (suc (suc i)) zero d r some lt e place = absurd (omega (arith, e))
        before (x ∷ y ∷ xs) (suc (suc i)) (suc k) d r some lt e place =
            before (y ∷ xs) (suc i) k d (rising_back (f x) (flat_map f (y ∷ xs)) r) some.1 (omega (arith, lt)) (omega (arith, e)) place

    -- and if the last list ends below the text, the place is behind all lists
    pub end_point : (xs : List X) (i : ℕ) → IsRising (flat_map f xs) → AreSome xs → suc i ≡ length xs → ((d : X) → is_passed (get_or xs i d) ≡ true) → IsBlockIndex name (map f xs) (length xs)
    end_point xs i r some e ends =
        block_point xs (length xs) (omega arith) (λ k d a b. parted_blocks xs r some k i d (omega (arith, e, b)) (omega (arith, e)) (ends d)) (λ k d a b. absurd (omega (arith, a, b)))

    -- an entry found in the list at the place is the entry in all lists
    pub found_in : (xs : List X) (i : ℕ) (x : X) → IsRising (flat_map f xs) → AreSome xs → IsBlockIndex name (map f xs) i → i < length xs → x ≡ get_or xs i x → entry_of_key (flat_map f xs) name ≡ entry_of_key (f x) name
    found_in [] i x r some p lt g = absurd (omega arith)
    found_in (y ∷ xs) zero x r some p lt g = find_within name (f y) (flat_map f xs) r some.0 p ∙ ap (λ (z : X). entry_of_key (f z) name) (sym g)
    found_in (y ∷ xs) (suc i) x r some p lt g =
        find_past name (f y) (flat_map f xs) (rising_front (f y) (flat_map f xs) r) p.0
        ∙ found_in xs i x (rising_back (f y) (flat_map f xs) r) some.1 p.1 (omega arith) g

    pub found_nowhere : (xs : List X) (i : ℕ) → IsRising (flat_map f xs) → IsBlockIndex name (map f xs) i → length xs ≤ i → entry_of_key (flat_map f xs) name ≡ None
    found_nowhere [] i r p le = refl
    found_nowhere (y ∷ xs) zero r p le = absurd (omega arith)
    found_nowhere (y ∷ xs) (suc i) r p le =
        find_past name (f y) (flat_map f xs) (rising_front (f y) (flat_map f xs) r) p.0
        ∙ found_nowhere xs i (rising_back (f y) (flat_map f xs) r) p.1 (omega arith)

    -- if all lists end below the text, an entry found in the last one is the entry in all lists
    pub found_last : (xs : List X) (i j : ℕ) (x : X) → IsRising (flat_map f xs) → IsBlockIndex name (map f xs) j → length xs ≤ j → i + 1 ≡ length xs → x ≡ get_or xs i x → entry_of_key (flat_map f xs) name ≡ entry_of_key (f x) name
    found_last [] i j x r p le last g = absurd (omega (arith, last))
    found_last (z ∷ xs) i zero x r p le last g = absurd (omega arith)
    found_last (z ∷ []) zero (suc j) x r p le last g = ap (λ (es : List Entry). entry_of_key es name) (append-nil (f z)) ∙ ap (λ (w : X). entry_of_key (f w) name) (sym g)
    found_last (z ∷ []) (suc i) (suc j) x r p le last g = absurd (omega (arith, last))
    found_last (z ∷ w ∷ xs) zero (suc j) x r p le last g = absurd (omega (arith, last))
    found_last (z ∷ w ∷ xs) (suc i) (suc j) x r p le last g =
        find_past name (f z) (flat_map f (w ∷ xs)) (rising_front (f z) (flat_map f (w ∷ xs)) r) p.0
        ∙ found_last (w ∷ xs) i j x (rising_back (f z) (flat_map f (w ∷ xs)) r) p.1 (omega arith) (omega (arith, last)) g

    -- if the place is behind all lists, each ends below the text
    pub each_passed : (xs : List X) (i k : ℕ) (d : X) → IsBlockIndex name (map f xs) i → length xs ≤ i → k < length xs → is_passed (get_or xs k d) ≡ true
    each_passed [] i k d p le lt = absurd (omega (arith, lt))
    each_passed (x ∷ xs) zero k d p le lt = absurd (omega (arith, le))
    each_passed (x ∷ xs) (suc i) zero d p le lt = p.0
    each_passed (x ∷ xs) (suc i) (suc k) d p le lt = each_passed xs i k d p.1 (omega (arith, le)) (omega (arith, lt))

    abbrev pub from_first : List X → List Entry
    from_first [] = []
    from_first (x ∷ xs) = entries_from name (f x) ++ flat_map f xs

    -- the entries at or above a text: a part of the list at the place, and the later lists
    pub from_block : (xs : List X) (i : ℕ) → IsRising (flat_map f xs) → AreSome xs → IsBlockIndex name (map f xs) i → entries_from name (flat_map f xs) ≡ from_first (drop i xs)
    from_block [] zero r some p = refl
    from_block [] (suc i) r some p = absurd p
    from_block (y ∷ xs) zero r some p = from_within name (f y) (flat_map f xs) r some.0 p
    from_block (y ∷ xs) (suc i) r some p =
        from_past name (f y) (flat_map f xs) (rising_front (f y) (flat_map f xs) r) p.0
        ∙ from_block xs i (rising_back (f y) (flat_map f xs) r) some.1 p.1

    module _ (v : Option (List ℕ)) (x y : X) (made : f y ≡ put byte_cmp name v (f x)) where
      -- an entry put into the block at its place, or behind all entries into the last block
      pub put_in : (xs : List X) (i : ℕ) → IsRising (flat_map f xs) → AreSome xs → IsBlockIndex name (map f xs) i → i < length xs → x ≡ get_or xs i x → flat_map f (set xs i y) ≡ put byte_cmp name v (flat_map f xs)
      put_in [] i r some p lt g = absurd (omega arith)
      put_in (z ∷ xs) zero r some p lt g =
          ap (λ (es : List Entry). es ++ flat_map f xs) (made ∙ ap (λ (w : X). put byte_cmp name v (f w)) g)
          ∙ sym (put_within name v (f z) (flat_map f xs) some.0 p)
      put_in (z ∷ xs) (suc i) r some p lt g =
          ap (λ (es : List Entry). f z ++ es) (put_in xs i (rising_back (f z) (flat_map f xs) r) some.1 p.1 (omega arith) g)
          ∙ sym (put_past name v (f z) (flat_map f xs) (rising_front (f z) (flat_map f xs) r) p.0)

      pub put_last : (xs : List X) (i j : ℕ) → IsRising (flat_map f xs) → IsBlockIndex name (map f xs) j → length xs ≤ j → i + 1 ≡ length xs → x ≡ get_or xs i x → flat_map f (set xs i y) ≡ put byte_cmp name v (flat_map f xs)
      put_last [] i j r p le last g = absurd (omega (arith, last))
      put_last (z ∷ xs) i zero r p le last g = absurd (omega arith)
      put_last (z ∷ []) zero (suc j) r p le last g =
          append-nil (f y) ∙ made ∙ ap (λ (w : X). put byte_cmp name v (f w)) g ∙ ap (put byte_cmp name v) (sym (append-nil (f z)))
      put_last (z ∷ []) (suc i) (suc j) r p le last g = absurd (omega (arith, last))
      put_last (z ∷ w ∷ xs) zero (suc j) r p le last g = absurd (omega (arith, last))
      put_last (z ∷ w ∷ xs) (suc i) (suc j) r p le last g =
          ap (λ (es : List Entry). f z ++ es) (put_last (w ∷ xs) i j (rising_back (f z) (flat_map f (w ∷ xs)) r) p.1 (omega arith) (omega (arith, last)) g)
          ∙ sym (put_past name v (f z) (flat_map f (w ∷ xs)) (rising_front (f z) (flat_map f (w ∷ xs)) r) p.0)
