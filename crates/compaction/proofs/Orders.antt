-- Places in order: where a place belongs, and the places at the front.
use Rattle.std.proofs.Common.{◌≡◌, ◌≤◌, ◌<◌, ◌+◌, ◌-◌, ◌==◌, ◌⊎◌, inl, inr, ℕ, zero, suc, Bool, true, false, T, List, [], ◌∷◌, ◌++◌, length, take, drop, get_or, refl, sym, ap, subst, ◌∙◌, arith, add-one, append_assoc, length-drop}
use Rattle.std.proofs.lemmas.Grind.{common_steps}
use Rattle.std.proofs.lemmas.List.{drop-drop}
use borrow.Rule.Slice.PartMut.{put_mid}
use Rattle.std.proofs.lemmas.Cmp.{upto, nat_cmp_total, on_total, then_total}
use Rattle.std.specs.Prelude.{Option, Some, None, IsSome, Contains}
use Rattle.std.specs.Cmp.{IsTotalOrder}
use Rattle.std.specs.List.{AllByRecursion, swap}
use Rattle.std.specs.List.Sorted.{IsPartitionedBy, IsPermutation}
use Rattle.std.proofs.lemmas.Bool.{cases_eq}
use Rattle.std.proofs.lemmas.Bool.Decides.{nat_tests}
use Rattle.std.proofs.lemmas.List.Edits.{Swapped, length-swap, swapped_from_swap}
use Rattle.std.proofs.lemmas.List.Sorted.{Contains-permutation, IsPermutation-append_left, IsPermutation-keeps}
use Rattle.std.specs.Ordering.{is_le, is_lt, is_gt, ordering_reverse}
use Rattle.std.specs.declared.cmp.Ordering.{Ordering}
use Rattle.std.specs.declared.cmp.Ordering.TheVariants.{Less, Equal, Greater}
use Rattle.cell_key.specs.Entries.{Entry}
use Rattle.cell_key.proofs.EntryLists.{total}
use Rattle.compaction.specs.Least.{entry_at}
use Rattle.compaction.specs.Order.{AreSorted, InOrder, IsDistinct, lent_cmp, place_cmp}
use Rattle.compaction.specs.OrderLaw.{at_index}

-- ---- the order of places is total

lent_antisymm : (x y : Option Entry) → lent_cmp x y ≡ ordering_reverse (lent_cmp y x)
lent_antisymm None None = refl
lent_antisymm None (Some f) = refl
lent_antisymm (Some e) None = refl
lent_antisymm (Some e) (Some f) = total.antisymm e.0 f.0

lent_trans : (x y z : Option Entry) → lent_cmp x y ≡ Less → lent_cmp y z ≡ Less → lent_cmp x z ≡ Less
lent_trans (Some e) (Some f) (Some g) p q = total.trans e.0 f.0 g.0 p q
lent_trans (Some e) (Some f) None p q = refl
lent_trans (Some e) None z p q = absurd (none_less z q)
  where
    none_less : (z : Option Entry) → lent_cmp None z ≡ Less → ⊥
    none_less None q = cc
    none_less (Some g) q = cc
lent_trans None None z p q = cc
lent_trans None (Some f) z p q = cc

lent_congr : (x y z : Option Entry) → lent_cmp x y ≡ Equal → lent_cmp x z ≡ lent_cmp y z
lent_congr (Some e) (Some f) (Some g) p = total.congr e.0 f.0 g.0 p
lent_congr (Some e) (Some f) None p = refl
lent_congr (Some e) None z p = cc
lent_congr None None z p = refl
lent_congr None (Some f) z p = cc

lent_total : IsTotalOrder lent_cmp
lent_total = record { antisymm = lent_antisymm; trans = lent_trans; congr = lent_congr }

pub place_total : (lents : List (Option Entry)) → IsTotalOrder (place_cmp lents)
place_total lents = then_total (on_total (entry_at lents) lent_total) nat_cmp_total

le_not_gt : (r : Ordering) → T (is_le r) → is_gt r ≡ false
le_not_gt Less h = refl
le_not_gt Equal h = refl
le_not_gt Greater h = absurd h

not_gt_le : (r : Ordering) → is_gt r ≡ false → T (is_le r)
not_gt_le Less h = tt
not_gt_le Equal h = tt
not_gt_le Greater h = cc

pub lt_le : (r : Ordering) → is_lt r ≡ true → T (is_le r)
lt_le Less h = tt
lt_le Equal h = cc
lt_le Greater h = cc

back_le : (r : Ordering) → is_lt r ≡ false → T (is_le (ordering_reverse r))
back_le Less h = cc
back_le Equal h = tt
back_le Greater h = tt

le_lt : (r s : Ordering) → T (is_le r) → is_lt s ≡ true → s ≡ Less
le_lt r Less h l = refl
le_lt r Equal h l = cc
le_lt r Greater h l = cc

pub place_le : (lents : List (Option Entry)) (x y z : ℕ) → T (is_le (place_cmp lents x y)) → T (is_le (place_cmp lents y z)) → T (is_le (place_cmp lents x z))
place_le lents x y z p q = not_gt_le _ (upto (place_total lents) x y z (le_not_gt _ p) (le_not_gt _ q))

-- if a place doesn't come before another, it comes after it
pub not_before : (lents : List (Option Entry)) (x y : ℕ) → is_lt (place_cmp lents x y) ≡ false → T (is_le (place_cmp lents y x))
not_before lents x y h = subst (λ r. T (is_le r)) (sym ((place_total lents).antisymm y x)) (back_le _ h)

less_of : (r : Ordering) → is_lt r ≡ true → r ≡ Less
less_of Less h = refl
less_of Equal h = cc
less_of Greater h = cc

split_le : (r : Ordering) → T (is_le r) → (r ≡ Less) ⊎ (r ≡ Equal)
split_le Less h = inl refl
split_le Equal h = inr refl
split_le Greater h = absurd h

before_less : (lents : List (Option Entry)) (x y z : ℕ) → T (is_le (place_cmp lents x y)) → is_lt (place_cmp lents y z) ≡ true → is_lt (place_cmp lents x z) ≡ true
before_less lents x y z p q = by (split_le _ p)
  where
    by : (place_cmp lents x y ≡ Less) ⊎ (place_cmp lents x y ≡ Equal) → is_lt (place_cmp lents x z) ≡ true
    by (inl less) = ap is_lt ((place_total lents).trans x y z less (less_of _ q))
    by (inr same) = ap is_lt ((place_total lents).congr x y z same) ∙ q

pub le_of : (r s : Ordering) → true ≡ is_le r → r ≡ s → T (is_le s)
le_of r s h e = subst (λ o. T (is_le o)) e (subst T h tt)

pub some_or_none : (n : ℕ) → true ≡ (n == 0) → 0 < n → ⊥
some_or_none n e l = grind (arith, nat_tests, e, l)

-- ---- where a place belongs

module _ (lents : List (Option Entry)) (place : ℕ) where
  abbrev pub comes_before : ℕ → Bool
  comes_before other = is_lt (place_cmp lents other place)

  pub parted : (xs : List ℕ) → InOrder lents xs → IsPartitionedBy comes_before xs
  parted [] r i j d le lt t = absurd (omega (arith, lt))
  parted (x ∷ xs) r zero zero d le lt t = t
  parted (x ∷ xs) r zero (suc j) d le lt t = before_less lents x (get_or xs j d) place (at_index (λ y. T (is_le (place_cmp lents x y))) xs j d r.0 (omega (arith, lt))) t
  parted (x ∷ xs) r (suc i) zero d le lt t = absurd (omega (arith, le))
  parted (x ∷ xs) r (suc i) (suc j) d le lt t = parted xs r.1 i j d (omega (arith, le)) (omega (arith, lt)) t

  pub front_before : (xs : List ℕ) (i : ℕ) → ((k d : ℕ) → 0 ≤ k → k < i → comes_before (get_or xs k d) ≡ true) → AllByRecursion (λ other. T (is_le (place_cmp lents other place))) (take i xs)
  front_before [] zero p = tt
  front_before [] (suc i) p = tt
  front_before (x ∷ xs) zero p = tt
  front_before (x ∷ xs) (suc i) p = (lt_le _ (p 0 x (omega arith) (omega arith)), front_before xs i (λ k d a b. p (suc k) d (omega (arith, a)) (omega (arith, b))))

  pub rest_behind : (xs : List ℕ) (i : ℕ) → ((k d : ℕ) → i ≤ k → k < length xs → comes_before (get_or xs k d) ≡ false) → AllByRecursion (λ other. T (is_le (place_cmp lents place other))) (drop i xs)
  rest_behind [] zero q = tt
  rest_behind [] (suc i) q = tt
  rest_behind (x ∷ xs) zero q = (not_before lents x place (q 0 x (omega arith) (omega arith)), rest_behind xs zero (λ k d a b. q (suc k) d (omega (arith, a)) (omega (arith, b))))
  rest_behind (x ∷ xs) (suc i) q = rest_behind xs i (λ k d a b. q (suc k) d (omega (arith, a)) (omega (arith, b)))

  -- all places of an order, if this place doesn't come after the first of them
  pub all_behind : (xs : List ℕ) → InOrder lents xs → (0 < length xs → T (is_le (place_cmp lents place (get_or xs 0 0)))) → AllByRecursion (λ other. T (is_le (place_cmp lents place other))) xs
  all_behind [] r h = tt
  all_behind (x ∷ xs) r h = (h (omega arith), more xs r.0)
    where
      more : (ys : List ℕ) → AllByRecursion (λ y. T (is_le (place_cmp lents x y))) ys → AllByRecursion (λ other. T (is_le (place_cmp lents place other))) ys
      more [] a = tt
      more (y ∷ ys) a = (place_le lents place x y (h (omega arith)) a.0, more ys a.1)

  insert_all : (x : ℕ) (mid tail : List ℕ) → T (is_le (place_cmp lents x place)) → AllByRecursion (λ y. T (is_le (place_cmp lents x y))) (mid ++ tail) → AllByRecursion (λ y. T (is_le (place_cmp lents x y))) (mid ++ place ∷ tail)
  insert_all x [] tail h a = (h, a)
  insert_all x (m ∷ mid) tail h a = (a.0, insert_all x mid tail h a.1)

  pub inserted : (mid tail : List ℕ) → InOrder lents (mid ++ tail) → AllByRecursion (λ other. T (is_le (place_cmp lents other place))) mid → AllByRecursion (λ other. T (is_le (place_cmp lents place other))) tail → InOrder lents (mid ++ place ∷ tail)
  inserted [] tail r b a = (a, r)
  inserted (m ∷ mid) tail r b a = (insert_all m mid tail b.0 r.0, inserted mid tail r.1 b.1 a)

take_drop : {X : Type 0} (xs : List X) (n : ℕ) → take n xs ++ drop n xs ≡ xs
take_drop xs zero = refl
take_drop [] (suc n) = refl
take_drop (x ∷ xs) (suc n) = ap (λ l. x ∷ l) (take_drop xs n)

-- the first place of a list moved behind the next n places
pub put_first_in : (lents : List (Option Entry)) (place : ℕ) (later new : List ℕ) (n : ℕ) → InOrder lents later
    → AllByRecursion (λ other. T (is_le (place_cmp lents other place))) (take n later) → AllByRecursion (λ other. T (is_le (place_cmp lents place other))) (drop n later)
    → new ≡ take n later ++ place ∷ drop n later → InOrder lents new
put_first_in lents place later new n r b a is =
    subst (InOrder lents) (sym is) (inserted lents place (take n later) (drop n later) (subst (InOrder lents) (sym (take_drop later n)) r) b a)

rotated : (place : ℕ) (later : List ℕ) (n : ℕ) → (drop 1 (take (n + 1) (place ∷ later)) ++ take 1 (take (n + 1) (place ∷ later))) ++ drop (n + 1) (place ∷ later) ≡ take n later ++ place ∷ drop n later
rotated place later n = rw add-one (append_assoc (take n later) (place ∷ []) (drop n later))

all_taken : (xs : List ℕ) → take (length xs) xs ≡ xs
all_taken [] = refl
all_taken (x ∷ xs) = ap (λ l. x ∷ l) (all_taken xs)

-- the first place moved behind those that come before it
pub put_first_whole : (lents : List (Option Entry)) (order later part : List ℕ) (place n : ℕ) → later ≡ take (length order - 1) (drop 1 order) → 0 < length order → place ≡ get_or order 0 0
    → (InOrder lents later → AllByRecursion (λ other. T (is_le (place_cmp lents other place))) (take n later)) → (InOrder lents later → AllByRecursion (λ other. T (is_le (place_cmp lents place other))) (drop n later))
    → part ≡ drop 1 (take (n + 1) order) ++ take 1 (take (n + 1) order) → InOrder lents (drop 1 order) → InOrder lents (part ++ drop (n + 1) order)
put_first_whole lents [] later part place n is some at before behind after r = absurd (omega (arith, some))
put_first_whole lents (p ∷ order) later part place n is some at before behind after r =
    let size : length (p ∷ order) - 1 ≡ length order = omega arith in
    let same : later ≡ order = is ∙ ap (λ k. take k order) size ∙ all_taken order in
    let r' : InOrder lents later = subst (InOrder lents) (sym same) r in
    put_first_in lents place order (part ++ drop (n + 1) (p ∷ order)) n r
    (subst (λ l. AllByRecursion (λ other. T (is_le (place_cmp lents other place))) (take n l)) same (before r'))
    (subst (λ l. AllByRecursion (λ other. T (is_le (place_cmp lents place other))) (drop n l)) same (behind r'))
    (ap (λ l. l ++ drop (n + 1) (p ∷ order)) after ∙ rotated p order n ∙ ap (λ q. take n order ++ q ∷ drop n order) (sym at))

pub same_whole : (xs part : List ℕ) (n : ℕ) → IsPermutation (take n xs) part → IsPermutation xs (part ++ drop n xs)
same_whole xs part n p = subst (λ l. IsPermutation l (part ++ drop n xs)) (take_drop xs n) (IsPermutation-append_left (drop n xs) (take n xs) part p)

taken_long : (n : ℕ) (xs : List ℕ) → length xs ≤ n → take n xs ≡ xs
taken_long zero [] l = refl
taken_long zero (x ∷ xs) l = absurd (omega (arith, l))
taken_long (suc n) [] l = refl
taken_long (suc n) (x ∷ xs) l = ap (λ r. x ∷ r) (taken_long n xs (omega (arith, l)))

-- the places from one on are in order again
pub rises_more : (lents : List (Option Entry)) (order part : List ℕ) (i : ℕ) → 1 ≤ i → i ≤ length order → length part ≡ length order - (i - 1)
    → (InOrder lents (drop 1 (take (length order - (i - 1)) (drop (i - 1) order))) → InOrder lents part) → InOrder lents (drop i order) → InOrder lents (drop (i - 1) (put_mid (i - 1) (length order - (i - 1)) order part))
rises_more lents order part i some within size h r =
    let back : (i - 1) + 1 ≡ i = omega (arith, some) in
    let whole : take (length order - (i - 1)) (drop (i - 1) order) ≡ drop (i - 1) order = taken_long (length order - (i - 1)) (drop (i - 1) order) (omega (arith, length-drop (i - 1) order)) in
    let rest : drop 1 (take (length order - (i - 1)) (drop (i - 1) order)) ≡ drop i order = ap (drop 1) whole ∙ drop-drop 1 (i - 1) order ∙ ap (λ n. drop n order) back in
    subst (InOrder lents) (sym (put_behind order part (i - 1) (omega (arith, within, some)) size)) (h (subst (InOrder lents) (sym rest) r))
  where
    put_behind : (order part : List ℕ) (a : ℕ) → a ≤ length order → length part ≡ length order - a → drop a (put_mid a (length order - a) order part) ≡ part
    put_behind order part a l size = grind (arith, common_steps)

-- ---- the same places in another order

either_side : (i j : ℕ) → (i ≡ j → ⊥) → (i < j) ⊎ (j < i)
either_side zero zero n = absurd (n refl)
either_side zero (suc j) n = inl (omega arith)
either_side (suc i) zero n = inr (omega arith)
either_side (suc i) (suc j) n = next (either_side i j (λ e. n (ap suc e)))
  where
    next : (i < j) ⊎ (j < i) → (suc i < suc j) ⊎ (suc j < suc i)
    next (inl l) = inl (omega (arith, l))
    next (inr l) = inr (omega (arith, l))

apart : (l : List ℕ) → IsDistinct l → (i j d : ℕ) → i < length l → j < length l → (i ≡ j → ⊥) → get_or l i d ≡ get_or l j d → ⊥
apart l h i j d li lj n e = by (either_side i j n)
  where
    by : (i < j) ⊎ (j < i) → ⊥
    by (inl below) = h i j d below lj e
    by (inr above) = h j i d above li (sym e)

-- the place of an element before two were exchanged
data Came (a b m from : ℕ) : Type 0 where
  from_b : m ≡ a → from ≡ b → Came a b m from
  from_a : (m ≡ a → ⊥) → m ≡ b → from ≡ a → Came a b m from
  from_there : (m ≡ a → ⊥) → (m ≡ b → ⊥) → from ≡ m → Came a b m from

came_one : (a b i j x y : ℕ) → Came a b i x → Came a b j y → x ≡ y → i ≡ j
came_one a b i j x y (from_b p p1) (from_b q q1) e = p ∙ sym q
came_one a b i j x y (from_b p p1) (from_a q q1 q2) e = absurd (q (q1 ∙ sym p1 ∙ e ∙ q2))
came_one a b i j x y (from_b p p1) (from_there q q1 q2) e = absurd (q1 (sym q2 ∙ sym e ∙ p1))
came_one a b i j x y (from_a p p1 p2) (from_b q q1) e = absurd (p (p1 ∙ sym q1 ∙ sym e ∙ p2))
came_one a b i j x y (from_a p p1 p2) (from_a q q1 q2) e = p1 ∙ sym q1
came_one a b i j x y (from_a p p1 p2) (from_there q q1 q2) e = absurd (q (sym q2 ∙ sym e ∙ p2))
came_one a b i j x y (from_there p p1 p2) (from_b q q1) e = absurd (p1 (sym p2 ∙ e ∙ q1))
came_one a b i j x y (from_there p p1 p2) (from_a q q1 q2) e = absurd (p (sym p2 ∙ e ∙ q2))
came_one a b i j x y (from_there p p1 p2) (from_there q q1 q2) e = sym p2 ∙ e ∙ q2

record Origin (l ys : List ℕ) (a b m d : ℕ) : Type 0 where
  from : ℕ
  within : from < length l
  is : get_or ys m d ≡ get_or l from d
  came : Came a b m from

origin : (l ys : List ℕ) (a b m d : ℕ) → a < length l → b < length l → m < length l → Swapped (λ i. get_or l i d) (λ i. get_or ys i d) a b → Origin l ys a b m d
origin l ys a b m d la lb lm s = by_a (cases_eq m a)
  where
    by_b : (m ≡ a → ⊥) → (m ≡ b) ⊎ (m ≡ b → ⊥) → Origin l ys a b m d
    by_b n (inl e) = record { from = a; within = la; is = ap (λ k. get_or ys k d) e ∙ s.1; came = from_a n e refl }
    by_b n (inr k) = record { from = m; within = lm; is = s.2 m n k; came = from_there n k refl }

    by_a : (m ≡ a) ⊎ (m ≡ a → ⊥) → Origin l ys a b m d
    by_a (inl e) = record { from = b; within = lb; is = ap (λ k. get_or ys k d) e ∙ s.0; came = from_b e refl }
    by_a (inr n) = by_b n (cases_eq m b)

swap_distinct : (l : List ℕ) (a b : ℕ) → a < length l → b < length l → IsDistinct l → IsDistinct (swap l a b)
swap_distinct l a b la lb h i j d below within same =
    let s = swapped_from_swap l (swap l a b) a b d la lb refl in
    let size = length-swap l a b in
    let lj : j < length l = omega (arith, within, size) in
    let li : i < length l = omega (arith, lj, below) in
    let x = origin l (swap l a b) a b i d la lb li s in
    let y = origin l (swap l a b) a b j d la lb lj s in
    apart l h x.from y.from d x.within y.within (λ e. omega (arith, below, came_one a b i j x.from y.from x.came y.came e)) (sym x.is ∙ same ∙ y.is)

pub still_distinct : (xs ys : List ℕ) → IsPermutation xs ys → IsDistinct xs → IsDistinct ys
still_distinct xs ys p h = IsPermutation-keeps xs IsDistinct h swap_distinct ys p

-- the same places in order are sorted
pub sorted_again : (lents : List (Option Entry)) (old new : List ℕ) → ((place : ℕ) → IsSome (entry_at lents place) → Contains old place) → IsDistinct old → IsPermutation old new → InOrder lents new → AreSorted lents new
sorted_again lents old new whole distinct same rises = record {
  whole = λ place some. Contains-permutation old new place same (whole place some);
  distinct = still_distinct old new same distinct;
  rises = rises;
}
