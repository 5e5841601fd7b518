-- The result of a search in the order of cells, and the order after a new write or another value.
use Rattle.std.proofs.Common.{◌≡◌, ◌≢◌, ℕ, zero, suc, ◌+◌, ◌<◌, ◌≤◌, List, [], ◌∷◌, ◌++◌, length, get_or, set, Option, Some, None, inl, inr, refl, sym, ap, ◌∙◌, arith}
use Rattle.std.specs.List.{AllPairs, AllWithin, Contains, insert, slice_get}
use Rattle.std.specs.List.Sorted.{IsSortedBy, IsNonDecreasingBy, IsPermutation}
use Rattle.std.specs.Option.{option_map, option_cmp}
use Rattle.std.specs.declared.cmp.Ordering.TheVariants.{Less, Equal}
use Rattle.std.specs.Ordering.{is_lt, ordering_index, ordering_reverse}
use Rattle.std.specs.Cmp.{IsTotalOrder, on_total, then_total}
use Rattle.std.specs.Cmp.Lexicographic.{nat_list_cmp_total, options_total}
use Rattle.std.specs.FinMap.{nat_cmp-IsAntisymmetric, slice_cmp-IsAntisymmetric}
use Rattle.std.proofs.lemmas.Bool.{cases_lt}
use Rattle.std.proofs.lemmas.Cmp.{tied_itself}
use Rattle.std.proofs.lemmas.List.{get_or_default}
use Rattle.std.proofs.lemmas.List.Elements.{All-cons}
use Rattle.std.proofs.lemmas.List.Kept.{AllPairs-cons}
use Rattle.std.proofs.lemmas.List.Sorted.{searchable_from_sorted, All-permutation, Contains-permutation, IsPermutation-insert}
use Rattle.std.proofs.lemmas.Option.{slice_get_within}
use Rattle.cell_key.specs.Keys.{byte_cmp}
use Rattle.cell_key.proofs.KeyLaws.{both_Equal}
use Rattle.si_model.specs.declared.replies.Cell.{Cell}
use Rattle.txn_client.specs.Writes.{IsIndexOf, NoneBefore}
use Rattle.txn_client.specs.CellOrder.{cell_cmp, cell_at, order_at, IsOrder, IsPlaceFor}
use Rattle.txn_client.specs.declared.writes.Write.{Write}

-- ---- the order of cells

-- it is total, with an index without a write below all cells
at_total : IsTotalOrder (option_cmp cell_cmp)
at_total = options_total (then_total (on_total (λ (x : Cell). x.row) nat_list_cmp_total) (on_total (λ (x : Cell). x.family) nat_list_cmp_total))

-- cells that compare equal are the same
same_cell : (x y : Cell) → cell_cmp x y ≡ Equal → x ≡ y
same_cell x y e =
    let both = both_Equal (byte_cmp x.row y.row) (byte_cmp x.family y.family) e in
    let row = slice_cmp-IsAntisymmetric nat_cmp-IsAntisymmetric x.row y.row both.0 in
    let family = slice_cmp-IsAntisymmetric nat_cmp-IsAntisymmetric x.family y.family both.1 in
    λ i. record { row = row i; family = family i }

-- an index whose cell compares equal is an index of a write to the cell
here : (ws : List Write) (x : Cell) (i : ℕ) → order_at ws x i ≡ Equal → (w : Write) × (slice_get ws i ≡ Some w) × (w.cell ≡ x)
here ws x i e = go (slice_get ws i) refl e
  where
    go : (o : Option Write) → slice_get ws i ≡ o → option_cmp cell_cmp (option_map (λ (w : Write). w.cell) o) (Some x) ≡ Equal → (w : Write) × (slice_get ws i ≡ Some w) × (w.cell ≡ x)
    go None is e = cc
    go (Some w) is e = (w, is, same_cell w.cell x e)

there : (ws : List Write) (x : Cell) (i : ℕ) (w : Write) → slice_get ws i ≡ Some w → w.cell ≡ x → cell_at ws i ≡ Some x
there ws x i w at is = ap (option_map (λ (w : Write). w.cell)) at ∙ ap (λ (y : Cell). Some y) is

-- of two indices of one cell neither is below the other
tied : (ws : List Write) (x : Cell) (i j : ℕ) → cell_at ws i ≡ Some x → cell_at ws j ≡ Some x → option_cmp cell_cmp (cell_at ws i) (cell_at ws j) ≢ Less
tied ws x i j e f less =
    let both = ap (λ (o : Option Cell). option_cmp cell_cmp o (cell_at ws j)) e ∙ ap (option_cmp cell_cmp (Some x)) f in
    let alike = tied_itself at_total (Some x) in
    cc

-- ---- a search

module _ (ws : List Write) (order : List ℕ) (x : Cell) (o : IsOrder ws order) where
  sorted : IsSortedBy (λ i j. is_lt (option_cmp cell_cmp (cell_at ws i) (cell_at ws j))) order
  sorted k d low lt =
      let less = o.rises k (k + 1) d (omega arith) lt in
      let turned = at_total.antisymm (cell_at ws (get_or order (k + 1) d)) (cell_at ws (get_or order k d)) in
      ap is_lt (turned ∙ ap ordering_reverse less)

  -- the comparisons with a cell ascend along the order, as a binary search needs
  pub comparisons_rise : IsNonDecreasingBy (λ i. ordering_index (order_at ws x i)) order
  comparisons_rise = searchable_from_sorted at_total (cell_at ws) order (Some x) sorted

  -- only one place has an index of the cell
  one_place : (p q : ℕ) (d : ℕ) → p < length order → q < length order → cell_at ws (get_or order p d) ≡ Some x → cell_at ws (get_or order q d) ≡ Some x → p ≡ q
  one_place p q d lt lt' at at' = elim (cases_lt p q) [
    | inl below ↦ absurd (tied ws x (get_or order p d) (get_or order q d) at at' (o.rises p q d below lt'))
    | inr not ↦ elim (cases_lt q p) [
      | inl above ↦ absurd (tied ws x (get_or order q d) (get_or order p d) at' at (o.rises q p d above lt))
      | inr same ↦ omega arith
    ]
  ]

  pub found : (p i : ℕ) → NoneBefore ws x 8 → p < length order → i ≡ get_or order p i → order_at ws x i ≡ Equal → IsIndexOf ws x (Some i)
  found p i few lt is e = (at, λ k w below at_k same. earlier k w below at_k same)
    where
      at : (w : Write) × (slice_get ws i ≡ Some w) × (w.cell ≡ x)
      at = here ws x i e

      earlier : (k : ℕ) (w : Write) → k < i → slice_get ws k ≡ Some w → w.cell ≢ x
      earlier k w below at_k same = elim (cases_lt k 8) [
        | inl first ↦ few k w first at_k same
        | inr later ↦
            let q = o.each k later (slice_get_within ws k w at_k) in
            let read = get_or_default order q.0 k i q.1 in
            let cell_i : cell_at ws (get_or order p i) ≡ Some x = ap (cell_at ws) (sym is) ∙ there ws x i at.0 at.1 at.2 in
            let cell_k : cell_at ws (get_or order q.0 i) ≡ Some x = ap (cell_at ws) (sym read ∙ q.2) ∙ there ws x k w at_k same in
            let one = one_place p q.0 i lt q.1 cell_i cell_k in
            let equal : i ≡ k = is ∙ ap (λ (n : ℕ). get_or order n i) one ∙ sym read ∙ q.2 in
            omega arith
      ]

  pub nowhere : (place : ℕ) → NoneBefore ws x 8 → IsPlaceFor ws order x place → IsIndexOf ws x None
  nowhere place few is k w at_k same = elim (cases_lt k 8) [
    | inl first ↦ few k w first at_k same
    | inr later ↦
        let q = o.each k later (slice_get_within ws k w at_k) in
        let alike : order_at ws x (get_or order q.0 k) ≡ Equal = ap (order_at ws x) q.2 ∙ ap (λ (c : Option Cell). option_cmp cell_cmp c (Some x)) (there ws x k w at_k same) ∙ tied_itself at_total (Some x) in
        elim (cases_lt q.0 place) [
          | inl before ↦ let less = is.parts.0 q.0 k (omega arith) before in cc
          | inr behind ↦ let more = is.parts.1 q.0 k behind q.1 in cc
        ]
  ]

-- ---- other writes

-- the order depends only on the cells, and an appended write may be in none
kept : (ws us : List Write) (order : List ℕ) → length ws ≤ length us → ((i : ℕ) → i < length ws → cell_at us i ≡ cell_at ws i)
    → ((i : ℕ) → 8 ≤ i → i < length us → Contains order i) → IsOrder ws order → IsOrder us order
kept ws us order longer same each o = record {
  within = λ k d lt. let in_ws = o.within k d lt in omega arith;
  rises = λ i j d lt in_order.
      let first = same (get_or order i d) (o.within i d (omega arith)) in
      let second = same (get_or order j d) (o.within j d in_order) in
      ap (λ (c : Option Cell). option_cmp cell_cmp c (cell_at us (get_or order j d))) first
      ∙ ap (option_cmp cell_cmp (cell_at ws (get_or order i d))) second
      ∙ o.rises i j d lt in_order;
  each = each;
}

length-last : (ws : List Write) (w : Write) → length (ws ++ w ∷ []) ≡ length ws + 1
length-last [] w = refl
length-last (u ∷ ws) w = let rest = length-last ws w in omega arith

before_last : (ws : List Write) (w : Write) (i : ℕ) → i < length ws → cell_at (ws ++ w ∷ []) i ≡ cell_at ws i
before_last [] w i lt = absurd (omega arith)
before_last (u ∷ ws) w zero lt = refl
before_last (u ∷ ws) w (suc i) lt = before_last ws w i (omega arith)

at_last : (ws : List Write) (w : Write) → cell_at (ws ++ w ∷ []) (length ws) ≡ Some w.cell
at_last [] w = refl
at_last (u ∷ ws) w = at_last ws w

pub none_ordered : IsOrder [] []
none_ordered = record { within = λ k d lt. absurd (omega arith); rises = λ i j d lt in_order. absurd (omega arith); each = λ i low lt. absurd (omega arith) }

-- one of the first few has no place in the order
pub pushed_first : (ws : List Write) (order : List ℕ) (w : Write) → length ws < 8 → IsOrder ws order → IsOrder (ws ++ w ∷ []) order
pushed_first ws order w few o =
    let more = length-last ws w in
    kept ws (ws ++ w ∷ []) order (omega arith) (before_last ws w) (λ i low lt. absurd (omega arith)) o

-- an insertion between elements that are before it by R, and elements that are after it
pairs_insert : {X : Type 0} (R : X → X → Type 0) (y : X) (xs : List X) (p : ℕ) → p ≤ length xs → AllPairs R xs → AllWithin (λ x. R x y) xs 0 p → AllWithin (R y) xs p (length xs) → AllPairs R (insert xs p y)
pairs_insert R y xs zero le pairs below above = AllPairs-cons R y xs (λ k d lt. above k d (omega arith) lt) pairs
pairs_insert R y [] (suc p) le pairs below above = absurd (omega arith)
pairs_insert R y (x ∷ xs) (suc p) le pairs below above =
    AllPairs-cons R x (insert xs p y)
    (All-permutation (R x) (y ∷ xs) (insert xs p y) (IsPermutation-insert xs p y) (All-cons (R x) y xs (below 0 x (omega arith) (omega arith)) (λ k d lt. pairs 0 (suc k) d (omega arith) (omega arith))))
    (pairs_insert R y xs p (omega arith) (λ i j d lt in_xs. pairs (suc i) (suc j) d (omega arith) (omega arith)) (λ k d low lt. below (suc k) d (omega arith) (omega arith)) (λ k d low lt. above (suc k) d (omega arith) (omega arith)))

-- the index of a new write at its place
pub pushed : (ws : List Write) (order : List ℕ) (w : Write) (place n : ℕ) → n ≡ length ws → 8 ≤ n → IsPlaceFor ws order w.cell place → IsOrder ws order → IsOrder (ws ++ w ∷ []) (insert order place n)
pushed ws order w place n is_n many is o = record {
  within = let more = length-last ws w in All-permutation (λ i. i < length us) (n ∷ order) (insert order place n) moved (All-cons (λ i. i < length us) n order (omega arith) (λ k d lt. let in_ws = o.within k d lt in omega arith));
  rises = pairs_insert (λ i j. option_cmp cell_cmp (cell_at us i) (cell_at us j) ≡ Less) n order place is.bound
      (λ i j d lt in_order.
      ap (λ (c : Option Cell). option_cmp cell_cmp c (cell_at us (get_or order j d))) (before_last ws w (get_or order i d) (o.within i d (omega arith)))
      ∙ ap (option_cmp cell_cmp (cell_at ws (get_or order i d))) (before_last ws w (get_or order j d) (o.within j d in_order))
      ∙ o.rises i j d lt in_order)
      (λ k d low lt. let bound = is.bound in
      ap (λ (c : Option Cell). option_cmp cell_cmp c (cell_at us n)) (before_last ws w (get_or order k d) (o.within k d (omega arith)))
      ∙ ap (option_cmp cell_cmp (cell_at ws (get_or order k d))) last
      ∙ is.parts.0 k d low lt)
      (λ k d low lt.
      ap (λ (c : Option Cell). option_cmp cell_cmp c (cell_at us (get_or order k d))) last
      ∙ ap (option_cmp cell_cmp (Some w.cell)) (before_last ws w (get_or order k d) (o.within k d lt))
      ∙ at_total.antisymm (Some w.cell) (cell_at ws (get_or order k d))
      ∙ ap ordering_reverse (is.parts.1 k d low lt));
  each = λ i low lt. let more = length-last ws w in Contains-permutation (n ∷ order) (insert order place n) i moved (elim (cases_lt i n) [
    | inl earlier ↦ let at = o.each i low (omega arith) in (suc at.0, omega (arith, at.1), at.2)
    | inr not ↦ let same : n ≡ i = omega arith in (0, omega arith, same)
  ]);
}
  where
    us : List Write
    us = ws ++ w ∷ []

    last : cell_at us n ≡ Some w.cell
    last = ap (cell_at us) is_n ∙ at_last ws w

    moved : IsPermutation (n ∷ order) (insert order place n)
    moved = IsPermutation-insert order place n

-- another value of a cell leaves the order unchanged
length-replaced : (ws : List Write) (k : ℕ) (w : Write) → length (set ws k w) ≡ length ws
length-replaced [] k w = refl
length-replaced (u ∷ ws) zero w = refl
length-replaced (u ∷ ws) (suc k) w = ap suc (length-replaced ws k w)

cells_stay : (ws : List Write) (k i : ℕ) (u w : Write) → slice_get ws k ≡ Some u → u.cell ≡ w.cell → cell_at (set ws k w) i ≡ cell_at ws i
cells_stay [] k i u w at e = refl
cells_stay (v ∷ ws) zero zero u w at e = let same : v ≡ u = cc in ap (λ (y : Cell). Some y) (sym e ∙ ap (λ (v : Write). v.cell) (sym same))
cells_stay (v ∷ ws) zero (suc i) u w at e = refl
cells_stay (v ∷ ws) (suc k) zero u w at e = refl
cells_stay (v ∷ ws) (suc k) (suc i) u w at e = cells_stay ws k i u w at e

replaced_value : (ws : List Write) (order : List ℕ) (k : ℕ) (w : Write) → IsIndexOf ws w.cell (Some k) → IsOrder ws order → IsOrder (set ws k w) order
replaced_value ws order k w is o =
    let as_long = length-replaced ws k w in
    kept ws (set ws k w) order (omega arith) (λ i lt. cells_stay ws k i is.0.0 w is.0.1 is.0.2) (λ i low lt. o.each i low (omega arith)) o

pub few_replaced : (ws : List Write) (order : List ℕ) (k : ℕ) (w : Write) → IsIndexOf ws w.cell (Some k) → (length ws ≤ 256) × IsOrder ws order → (length (set ws k w) ≤ 256) × IsOrder (set ws k w) order
few_replaced ws order k w is both = let as_long = length-replaced ws k w in let few = both.0 in (omega arith, replaced_value ws order k w is both.1)
