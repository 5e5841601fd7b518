-- The block of an open file that can have a text.
use Rattle.std.proofs.Common.{◌≡◌, ◌≢◌, ◌<◌, ◌≤◌, ◌+◌, ◌-◌, ℕ, zero, suc, Bool, true, false, cond, T, List, [], ◌∷◌, ◌++◌, length, map, take, drop, get_or, Option, Some, None, refl, sym, ap, subst, ◌∙◌, arith}
use Rattle.std.specs.List.{AllByRecursion}
use Rattle.std.specs.declared.cmp.Ordering.{Ordering}
use Rattle.std.specs.declared.cmp.Ordering.TheVariants.{Less, Equal, Greater}
use Rattle.std.specs.Ordering.{is_eq, is_le, is_lt, is_ge, ordering_reverse}
use Rattle.std.specs.Cmp.Lexicographic.{nat_list_cmp_total}
use Rattle.std.specs.FinMap.Entries.{find, below_all}
use Rattle.cell_key.specs.Keys.{byte_cmp}
use Rattle.cell_key.specs.Entries.{Entry, IsRising, entries_from, entry_of_key}
use Rattle.cell_key.proofs.TextPlaces.{first, second, less, find_lower, from_place, one_text}
use Rattle.sorted_file.specs.Index.{IsFirstText, block_of, blocks_of, entries_in, AreRows, IsRowPosition, first_of}
use Rattle.sorted_file.specs.Grammar.{block_bytes, Fits, AreBlocks}
use Rattle.sorted_file.specs.declared.block.BlockRow.{BlockRow}
use Rattle.sorted_file.proofs.CursorSteps.{from_both}
use Rattle.sorted_file.proofs.Joining.{both, rising_back}

-- a row's block is not empty, and the row has its first text
pub record IsNamed (row : BlockRow) : Type 0 where
  pub entry : Entry
  pub more : List Entry
  pub block : block_of row ≡ entry ∷ more
  pub first : row.first.items ≡ entry.0

is_named : (row : BlockRow) (es : List Entry) → block_of row ≡ es → IsFirstText row.first.items es → Fits es → IsNamed row
is_named row [] e f g = absurd g
is_named row (x ∷ es) e f g = record { entry = x; more = es; block = e; first = f }

pub all_named : (at : ℕ) (rows : List BlockRow) → AreRows at rows → AreBlocks (blocks_of rows) → AllByRecursion IsNamed rows
all_named at [] p g = tt
all_named at (row ∷ rows) p g = (is_named row (block_of row) refl p.0.first g.0, all_named (at + length (block_bytes (block_of row))) rows p.1 g.2)

-- ---- texts below

pub below_back : (name : List ℕ) (xs ys : List Entry) → T (below_all byte_cmp name (xs ++ ys)) → T (below_all byte_cmp name ys)
below_back name [] ys h = h
below_back name (x ∷ xs) ys h = below_back name xs ys (second _ _ h)

pub below_text : (name text : List ℕ) (e : List ℕ) → byte_cmp name e ≡ Less → byte_cmp text e ≢ Less → byte_cmp text name ≡ Greater
below_text name text e p n = go (byte_cmp text e) refl
  where
    up : byte_cmp name text ≡ Less → byte_cmp text name ≡ Greater
    up q = nat_list_cmp_total.antisymm text name ∙ ap ordering_reverse q

    go : (o : Ordering) → byte_cmp text e ≡ o → byte_cmp text name ≡ Greater
    go Less q = absurd (n q)
    go Equal q = up (subst (λ (t : List ℕ). byte_cmp name t ≡ Less) (sym (one_text text e q)) p)
    go Greater q = up (nat_list_cmp_total.trans name e text p (nat_list_cmp_total.antisymm e text ∙ ap ordering_reverse q))

-- entries before one at or below a text are below the text
data AreBelow (text : List ℕ) : List Entry → Type 0 where
  none : AreBelow text []
  some : (e : Entry) (es : List Entry) → byte_cmp text e.0 ≡ Greater → AreBelow text es → AreBelow text (e ∷ es)

before_below : (text : List ℕ) (xs : List Entry) (e : Entry) (es : List Entry) → IsRising (xs ++ e ∷ es) → byte_cmp text e.0 ≢ Less → AreBelow text xs
before_below text [] e es r n = none
before_below text (x ∷ xs) e es r n = some x xs (below_text x.0 text e.0 (at xs (first _ _ r)) n) (before_below text xs e es (second _ _ r) n)
  where
    at : (ys : List Entry) → T (below_all byte_cmp x.0 (ys ++ e ∷ es)) → byte_cmp x.0 e.0 ≡ Less
    at [] h = less _ (first _ _ h)
    at (y ∷ ys) h = at ys (second _ _ h)

from_below : (text : List ℕ) (xs ys : List Entry) → AreBelow text xs → entries_from text (xs ++ ys) ≡ entries_from text ys
from_below text [] ys none = refl
from_below text (x ∷ xs) ys (some _ _ p b) = ap (λ (o : Ordering). cond (is_le o) (x ∷ entries_from text (xs ++ ys)) (entries_from text (xs ++ ys))) p ∙ from_below text xs ys b

find_below : (text : List ℕ) (xs ys : List Entry) → AreBelow text xs → entry_of_key (xs ++ ys) text ≡ entry_of_key ys text
find_below text [] ys none = refl
find_below text (x ∷ xs) ys (some _ _ p b) = ap (λ (o : Ordering). cond (is_eq o) (Some x.1) (find byte_cmp text (xs ++ ys))) p ∙ find_below text xs ys b

find_before : (text : List ℕ) (xs ys : List Entry) → entry_of_key ys text ≡ None → entry_of_key (xs ++ ys) text ≡ entry_of_key xs text
find_before text [] ys n = n
find_before text (x ∷ xs) ys n = ap (λ (o : Option (Option (List ℕ))). cond (is_eq (byte_cmp text x.0)) (Some x.1) o) (find_before text xs ys n)

two_orders : (o : Ordering) → o ≡ Less → o ≡ Greater → ⊥
two_orders o p q = cc

module _ (text : List ℕ) where
  -- the entries of the first row are below the text, if the next row's first text is at or below it
  row_below : (row next : BlockRow) (rows : List BlockRow) → IsNamed next → IsRising (block_of row ++ entries_in (blocks_of (next ∷ rows))) → byte_cmp text next.first.items ≢ Less → AreBelow text (block_of row)
  row_below row next rows is r n =
      let cut : block_of row ++ entries_in (blocks_of (next ∷ rows)) ≡ block_of row ++ is.entry ∷ (is.more ++ entries_in (blocks_of rows)) = ap (λ (b : List Entry). block_of row ++ (b ++ entries_in (blocks_of rows))) is.block in
      before_below text (block_of row) is.entry (is.more ++ entries_in (blocks_of rows)) (subst (λ (l : List Entry). IsRising l) cut r)
      (subst (λ (t : List ℕ). byte_cmp text t ≢ Less) is.first n)

  none_above : (rows : List BlockRow) → AllByRecursion IsNamed rows → IsRising (entries_in (blocks_of rows)) → IsRowPosition text rows 0 → entry_of_key (entries_in (blocks_of rows)) text ≡ None
  none_above [] is r p = refl
  none_above (row ∷ rows) is r p =
      let cut : entries_in (blocks_of (row ∷ rows)) ≡ is.0.entry ∷ (is.0.more ++ entries_in (blocks_of rows)) = ap (λ (b : List Entry). b ++ entries_in (blocks_of rows)) is.0.block in
      ap (λ (l : List Entry). entry_of_key l text) cut
      ∙ find_lower text is.0.entry (is.0.more ++ entries_in (blocks_of rows)) (subst (λ (l : List Entry). IsRising l) cut r) (ap (byte_cmp text) (sym is.0.first) ∙ p)

  pub none_before : (rows : List BlockRow) → AllByRecursion IsNamed rows → IsRising (entries_in (blocks_of rows)) → (n : ℕ) → IsRowPosition text rows n → n ≡ 0 → entry_of_key (entries_in (blocks_of rows)) text ≡ None
  none_before rows is r n p z = none_above rows is r (subst (IsRowPosition text rows) z p)

  -- a file's entry at a text is in the last block whose first text is at or below it
  pub in_row : (rows : List BlockRow) → AllByRecursion IsNamed rows → IsRising (entries_in (blocks_of rows)) → (n : ℕ) → IsRowPosition text rows n → (front : List BlockRow) (row : BlockRow) → take n rows ≡ front ++ row ∷ [] → entry_of_key (entries_in (blocks_of rows)) text ≡ entry_of_key (block_of row) text
  in_row rows is r zero p [] row t = cc
  in_row rows is r zero p (x ∷ front) row t = cc
  in_row [] is r (suc n) p front row t = absurd p
  in_row (x ∷ rows) is r (suc zero) p [] row t =
      let same : x ≡ row = cc in
      find_before text (block_of x) (entries_in (blocks_of rows)) (none_above rows is.1 (rising_back (block_of x) _ r) p.1) ∙ ap (λ (y : BlockRow). entry_of_key (block_of y) text) same
  in_row (x ∷ rows) is r (suc zero) p (y ∷ []) row t = cc
  in_row (x ∷ rows) is r (suc zero) p (y ∷ z ∷ front) row t = cc
  in_row (x ∷ []) is r (suc (suc n)) p front row t = absurd p.1
  in_row (x ∷ y ∷ rows) is r (suc (suc n)) p [] row t = cc
  in_row (x ∷ y ∷ rows) is r (suc (suc n)) p (z ∷ front) row t =
      let rest : take (suc n) (y ∷ rows) ≡ front ++ row ∷ [] = cc in
      find_below text (block_of x) (entries_in (blocks_of (y ∷ rows))) (row_below x y rows is.1.0 r p.1.0)
      ∙ in_row (y ∷ rows) is.1 (rising_back (block_of x) _ r) (suc n) p.1 front row rest

  -- blocks before that one have no entry at or above the text
  pub from_row : (rows : List BlockRow) → AllByRecursion IsNamed rows → IsRising (entries_in (blocks_of rows)) → (n : ℕ) → IsRowPosition text rows n → entries_from text (entries_in (blocks_of rows)) ≡ entries_from text (entries_in (blocks_of (drop (n - 1) rows)))
  from_row rows is r zero p = refl
  from_row rows is r (suc zero) p = refl
  from_row [] is r (suc (suc n)) p = absurd p
  from_row (x ∷ []) is r (suc (suc n)) p = absurd p.1
  from_row (x ∷ y ∷ rows) is r (suc (suc n)) p =
      from_below text (block_of x) (entries_in (blocks_of (y ∷ rows))) (row_below x y rows is.1.0 r p.1.0)
      ∙ from_row (y ∷ rows) is.1 (rising_back (block_of x) _ r) (suc n) p.1
      ∙ (let one : suc n - 1 ≡ n = omega arith in ap (λ (k : ℕ). entries_from text (entries_in (blocks_of (drop k (y ∷ rows))))) one)
      ∙ (let two : suc n ≡ suc (suc n) - 1 = omega arith in ap (λ (k : ℕ). entries_from text (entries_in (blocks_of (drop k (x ∷ y ∷ rows))))) two)

  -- if the text is below the first row's, all entries are at or above it
  above : (rows : List BlockRow) → AllByRecursion IsNamed rows → IsRising (entries_in (blocks_of rows)) → IsRowPosition text rows 0 → entries_from text (entries_in (blocks_of rows)) ≡ entries_in (blocks_of rows)
  above [] is r p = refl
  above (row ∷ rows) is r p =
      let cut : entries_in (blocks_of (row ∷ rows)) ≡ is.0.entry ∷ (is.0.more ++ entries_in (blocks_of rows)) = ap (λ (b : List Entry). b ++ entries_in (blocks_of rows)) is.0.block in
      let low : byte_cmp text is.0.entry.0 ≡ Less = ap (byte_cmp text) (sym is.0.first) ∙ p in
      ap (entries_from text) cut
      ∙ from_place text (is.0.entry ∷ (is.0.more ++ entries_in (blocks_of rows))) 0 (subst (λ (l : List Entry). IsRising l) cut r) (λ q. two_orders (byte_cmp text is.0.entry.0) low q)
      ∙ sym cut

  pub all_above : (rows : List BlockRow) → AllByRecursion IsNamed rows → IsRising (entries_in (blocks_of rows)) → (n : ℕ) → IsRowPosition text rows n → n ≡ 0 → entries_from text (entries_in (blocks_of rows)) ≡ entries_in (blocks_of (drop n rows))
  all_above rows is r n p z = above rows is r (subst (IsRowPosition text rows) z p) ∙ ap (λ (k : ℕ). entries_in (blocks_of (drop k rows))) (sym z)

  pub from_in_row : (rows : List BlockRow) → AllByRecursion IsNamed rows → IsRising (entries_in (blocks_of rows)) → (n : ℕ) → IsRowPosition text rows n → (front : List BlockRow) (row : BlockRow) → take n rows ≡ front ++ row ∷ [] → entries_from text (entries_in (blocks_of rows)) ≡ entries_from text (block_of row) ++ entries_in (blocks_of (drop n rows))
  from_in_row rows is r zero p [] row t = cc
  from_in_row rows is r zero p (x ∷ front) row t = cc
  from_in_row [] is r (suc n) p front row t = absurd p
  from_in_row (x ∷ rows) is r (suc zero) p [] row t =
      let same : x ≡ row = cc in
      from_both text (block_of x) (entries_in (blocks_of rows)) ∙ ap (λ (l : List Entry). entries_from text (block_of x) ++ l) (above rows is.1 (rising_back (block_of x) _ r) p.1)
      ∙ ap (λ (y : BlockRow). entries_from text (block_of y) ++ entries_in (blocks_of rows)) same
  from_in_row (x ∷ rows) is r (suc zero) p (y ∷ []) row t = cc
  from_in_row (x ∷ rows) is r (suc zero) p (y ∷ z ∷ front) row t = cc
  from_in_row (x ∷ []) is r (suc (suc n)) p front row t = absurd p.1
  from_in_row (x ∷ y ∷ rows) is r (suc (suc n)) p [] row t = cc
  from_in_row (x ∷ y ∷ rows) is r (suc (suc n)) p (z ∷ front) row t =
      let rest : take (suc n) (y ∷ rows) ≡ front ++ row ∷ [] = cc in
      from_below text (block_of x) (entries_in (blocks_of (y ∷ rows))) (row_below x y rows is.1.0 r p.1.0)
      ∙ from_in_row (y ∷ rows) is.1 (rising_back (block_of x) _ r) (suc n) p.1 front row rest

-- ---- the search in the rows

abbrev pub is_to : List ℕ → BlockRow → Bool
is_to text row = is_ge (byte_cmp text row.first.items)

at_least : (o : Ordering) → is_ge o ≡ true → o ≢ Less
at_least Less e p = cc
at_least Equal e p = cc
at_least Greater e p = cc

less_only : (o : Ordering) → is_ge o ≡ false → o ≡ Less
less_only Less e = refl
less_only Equal e = cc
less_only Greater e = cc

module _ (text : List ℕ) where
  below_at : (low : List ℕ) (xs : List BlockRow) (j : ℕ) (d : BlockRow) → T (below_all byte_cmp low (map first_of xs)) → j < length xs → byte_cmp low (get_or xs j d).first.items ≡ Less
  below_at low [] j d h lt = absurd (omega arith)
  below_at low (x ∷ xs) zero d h lt = less _ (first _ _ h)
  below_at low (x ∷ xs) (suc j) d h lt = below_at low xs j d (second _ _ h) (omega arith)

  still_to : (x y : BlockRow) → byte_cmp x.first.items y.first.items ≡ Less → is_to text y ≡ true → is_to text x ≡ true
  still_to x y p t = ap is_ge (below_text x.first.items text y.first.items p (at_least _ t))

  pub parted : (xs : List BlockRow) → IsRising (map first_of xs) → (i j : ℕ) (d : BlockRow) → i ≤ j → j < length xs → is_to text (get_or xs j d) ≡ true → is_to text (get_or xs i d) ≡ true
  parted [] r i j d le lt t = absurd (omega arith)
  parted (x ∷ xs) r zero zero d le lt t = t
  parted (x ∷ xs) r zero (suc j) d le lt t = still_to x (get_or xs j d) (below_at x.first.items xs j d (first _ _ r) (omega arith)) t
  parted (x ∷ xs) r (suc i) zero d le lt t = absurd (omega arith)
  parted (x ∷ xs) r (suc i) (suc j) d le lt t = parted xs (second _ _ r) i j d (omega arith) (omega arith) t

  pub at_point : (xs : List BlockRow) (i : ℕ) → i ≤ length xs → ((k : ℕ) (d : BlockRow) → 0 ≤ k → k < i → is_to text (get_or xs k d) ≡ true) → ((k : ℕ) (d : BlockRow) → i ≤ k → k < length xs → is_to text (get_or xs k d) ≡ false) → IsRowPosition text xs i
  at_point [] zero le p q = tt
  at_point [] (suc i) le p q = absurd (omega arith)
  at_point (x ∷ xs) zero le p q = less_only _ (q 0 x (omega arith) (omega arith))
  at_point (x ∷ xs) (suc i) le p q = (
    at_least _ (p 0 x (omega arith) (omega arith)),
    at_point xs i (omega arith) (λ k d a b. p (suc k) d (omega (arith, a)) (omega (arith, b))) (λ k d a b. q (suc k) d (omega (arith, a)) (omega (arith, b))),
  )

-- the first texts of blocks are in ascending order
below_firsts : (name : List ℕ) (rows : List BlockRow) → AllByRecursion IsNamed rows → T (below_all byte_cmp name (entries_in (blocks_of rows))) → T (below_all byte_cmp name (map first_of rows))
below_firsts name [] is h = tt
below_firsts name (row ∷ rows) is h =
    let h2 = subst (λ (b : List Entry). T (below_all byte_cmp name (b ++ entries_in (blocks_of rows)))) is.0.block h in
    both _ _ (subst (λ (t : List ℕ). T (is_lt (byte_cmp name t))) (sym is.0.first) (first _ _ h2)) (below_firsts name rows is.1 (below_back name is.0.more _ (second _ _ h2)))

pub firsts_rise : (rows : List BlockRow) → AllByRecursion IsNamed rows → IsRising (entries_in (blocks_of rows)) → IsRising (map first_of rows)
firsts_rise [] is r = tt
firsts_rise (row ∷ rows) is r =
    let r2 = subst (λ (b : List Entry). IsRising (b ++ entries_in (blocks_of rows))) is.0.block r in
    both _ _ (subst (λ (t : List ℕ). T (below_all byte_cmp t (map first_of rows))) (sym is.0.first) (below_firsts is.0.entry.0 rows is.1 (below_back is.0.entry.0 is.0.more _ (first _ _ r2))))
    (firsts_rise rows is.1 (rising_back (block_of row) _ r))
