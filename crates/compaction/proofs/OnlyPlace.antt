-- The source at one place makes a step, and the others are unchanged.
use Rattle.std.proofs.Common.{◌≡◌, ◌≤◌, ◌<◌, ◌+◌, ℕ, zero, suc, true, false, List, [], ◌∷◌, map, length, take, get_or, set, refl, sym, ap, subst, ◌∙◌, arith, inl, inr}
use Rattle.std.proofs.lemmas.List.{get_or-set_same}
use Rattle.std.proofs.lemmas.List.Elements.{All-from_recursion}
use Rattle.std.proofs.lemmas.List.Sums.{sum_by-set}
use Rattle.std.proofs.lemmas.Grind.{common_steps}
use Rattle.std.specs.Prelude.{Option, None, IsSome, Contains, is_some, sum_by}
use Rattle.std.specs.List.{AllByRecursion, AllZip}
use Rattle.cell_key.specs.Entries.{Entry}
use Rattle.compaction.specs.Order.{InOrder, IsOrdered, IsReady}
use Rattle.compaction.specs.Ties.{ties}
use Rattle.compaction.specs.Merging.{BreaksAmong, BreaksAt, GoesPast, HasMoved, IsMoved, first_lent, lent_at}
use Rattle.compaction.proofs.Tied.{at_front, lent_get, none_moved, past_all, still_whole, tie_first, tied_breaks, tied_moved}

nowhere : (place : ℕ) → Contains {X = ℕ} [] place → ⊥
nowhere place w = omega (arith, w.1)

-- ---- the source at a place made a step

module _ {S : Type 0} (xs : List S) (place : ℕ) (s t : S) (within : place < length xs) (is : s ≡ get_or xs place s) where
  pub moved_at : (moves : S → S → Type 0) → moves s t → HasMoved moves (place ∷ []) xs (set xs place t)
  moved_at moves step = at_front place s t (none_moved moves xs) (nowhere place) within is step

  pub lent_there : (lent : S → Option Entry) → lent_at lent (set xs place t) place ≡ lent t
  lent_there lent = lent_get lent (set xs place t) place t (grind (arith, common_steps, within)) ∙ ap lent (get_or-set_same xs place t t within)

  pub falls_there : (price : S → ℕ) (b : ℕ) → price t + b ≤ price s → sum_by price (set xs place t) + b ≤ sum_by price xs
  falls_there price b h =
      let sums : sum_by price (set xs place t) + price s ≡ sum_by price xs + price t = ap (λ u. sum_by price (set xs place t) + price u) is ∙ sum_by-set price xs place t s within in
      omega (arith, sums, h)

  pub damaged_there : (P : S → Type 0) → ¬ P s → ¬ AllByRecursion P xs
  damaged_there P not all = not (subst P (sym is) (All-from_recursion P xs all place s within))

  pub breaks_there : (P : S → Type 0) → P s → BreaksAt P (place ∷ []) xs
  breaks_there P broken = record {
    place = place;
    among = (0, omega arith, refl);
    within = within;
    here = λ d. subst P (is ∙ any d) broken;
  }
    where
      any : (d : S) → get_or xs place s ≡ get_or xs place d
      any d = grind (arith, common_steps, within)

pub none_there : {S : Type 0} (lent : S → Option Entry) (xs : List S) (place : ℕ) → length xs ≤ place → lent_at lent xs place ≡ None
none_there lent [] place l = refl
none_there lent (x ∷ xs) zero l = absurd (omega (arith, l))
none_there lent (x ∷ xs) (suc place) l = none_there lent xs place (omega (arith, l))

pub stayed_beyond : {S : Type 0} (moves : S → S → Type 0) (xs : List S) (place : ℕ) → length xs ≤ place → HasMoved moves (place ∷ []) xs xs
stayed_beyond moves xs place long = past_all place (none_moved moves xs) long

-- ---- the only place of an order

pub first_some : {S : Type 0} (lent : S → Option Entry) (xs : List S) (order : List ℕ) → IsOrdered (map lent xs) order → length order ≡ 1 → IsSome (first_lent lent xs order)
first_some lent xs [] o size = absurd (omega (arith, size))
first_some lent xs (p ∷ order) o size = o.each.0

pub one_ready : (lents : List (Option Entry)) (order : List ℕ) → length order ≡ 1 → IsReady lents order → IsOrdered lents order
one_ready lents order size (inl none) = absurd (omega (arith, size, ap length none))
one_ready lents order size (inr o) = o

module _ {S : Type 0} (moves : S → S → Type 0) (lent : S → Option Entry) (xs ys : List S) (order : List ℕ) (one : length order ≡ 1) (size : length ys ≡ length xs) (o : IsOrdered (map lent xs) order) (p : ℕ) (here : p ≡ get_or order 0 p) where
  some : IsSome (first_lent lent xs order)
  some = first_some lent xs order o one

  taken : (order : List ℕ) → length order ≡ 1 → p ≡ get_or order 0 p → p ∷ [] ≡ take 1 order
  taken [] l is = absurd (omega (arith, l))
  taken (q ∷ order) l is = ap (λ r. r ∷ []) is

  pub only_past : HasMoved moves (p ∷ []) xs ys → AllZip (GoesPast moves lent (first_lent lent xs order)) xs ys
  only_past h = tied_moved moves lent xs ys order 1 size some o (omega arith) (tie_first (map lent xs) order some) (λ d l. absurd (omega (arith, l, one))) (subst (λ l. HasMoved moves l xs ys) (taken order one here) h)

  only_whole : HasMoved moves (p ∷ []) xs ys → (place : ℕ) → IsSome (lent_at lent ys place) → Contains order place
  only_whole h = still_whole moves lent xs ys order 1 size o (subst (λ l. HasMoved moves l xs ys) (taken order one here) h)

  only_rises : (lents : List (Option Entry)) (order : List ℕ) → length order ≡ 1 → InOrder lents order
  only_rises lents [] l = tt
  only_rises lents (p ∷ []) l = (tt, tt)
  only_rises lents (p ∷ q ∷ order) l = absurd (omega (arith, l))

  each_of : (order : List ℕ) → length order ≡ 1 → p ≡ get_or order 0 p → IsSome (lent_at lent ys p) → AllByRecursion (λ place. IsSome (lent_at lent ys place)) order
  each_of [] l is some = tt
  each_of (q ∷ []) l is some = (subst (λ r. IsSome (lent_at lent ys r)) is some, tt)
  each_of (q ∷ r ∷ order) l is some = absurd (omega (arith, l))

  pub only_ordered : HasMoved moves (p ∷ []) xs ys → true ≡ is_some (lent_at lent ys p) → IsOrdered (map lent ys) order
  only_ordered h some = record {
    sorted = record { whole = only_whole h; distinct = o.sorted.distinct; rises = only_rises (map lent ys) order one };
    each = each_of order one here (sym some);
  }

  pub none_ordered : HasMoved moves (p ∷ []) xs ys → false ≡ is_some (lent_at lent ys p) → IsOrdered (map lent ys) []
  none_ordered h none = record {
    sorted = record { whole = λ place some. absurd (not_here place some (only_whole h place some)); distinct = λ i j d l k e. omega (arith, k); rises = tt };
    each = tt;
  }
    where
      is_here : (order : List ℕ) (place : ℕ) → length order ≡ 1 → p ≡ get_or order 0 p → Contains order place → p ≡ place
      is_here [] place l is w = absurd (omega (arith, l))
      is_here (q ∷ order) place l is (zero, k, e) = is ∙ e
      is_here (q ∷ order) place l is (suc i, k, e) = absurd (omega (arith, l, k))

      not_here : (place : ℕ) → IsSome (lent_at lent ys place) → Contains order place → ⊥
      not_here place some w = clash (none ∙ ap (λ p. is_some (lent_at lent ys p)) (is_here order place one here w) ∙ some)
        where
          clash : false ≡ true → ⊥
          clash q = cc

  pub only_breaks : (breaks : S → Type 0) → BreaksAt breaks (p ∷ []) xs → BreaksAmong breaks (IsMoved lent (first_lent lent xs order)) xs
  only_breaks breaks b = tied_breaks breaks lent xs (first_lent lent xs order) (p ∷ []) (subst (AllByRecursion (λ place. ties (first_lent lent xs order) (lent_at lent xs place) ≡ true)) (sym (taken order one here)) (tie_first (map lent xs) order some)) b
