-- Places that are removed because their sources have no current entry.
use Rattle.std.proofs.Common.{◌≡◌, ◌≤◌, ◌<◌, ◌-◌, ◌⊎◌, ℕ, zero, suc, T, List, [], ◌∷◌, length, take, drop, get_or, refl, sym, ap, subst, arith, inl, inr, false}
use Rattle.std.specs.Prelude.{Option, Some, None, IsSome, Contains, is_some, option_map}
use Rattle.std.specs.List.{AllByRecursion}
use Rattle.std.specs.Ordering.{is_le, nat_cmp, ordering_then}
use Rattle.cell_key.specs.Entries.{Entry}
use Rattle.compaction.specs.Least.{entry_at}
use Rattle.compaction.specs.Order.{AreSorted, InOrder, IsOrdered, lent_cmp, place_cmp}
use Rattle.compaction.specs.OrderLaw.{at_index, not_both}
use Rattle.compaction.proofs.Tied.{distinct_take}

-- one more place at the end
one_dropped : (P : ℕ → Type 0) (order : List ℕ) (k d : ℕ) → k < length order → P (get_or order k d) → AllByRecursion P (drop (suc k) order) → AllByRecursion P (drop k order)
one_dropped P [] k d within here all = absurd (omega (arith, within))
one_dropped P (p ∷ order) zero d within here all = (here, all)
one_dropped P (p ∷ order) (suc k) d within here all = one_dropped P order k d (omega (arith, within)) here all

pub more_dropped : (P : ℕ → Type 0) (order : List ℕ) (i d : ℕ) → 1 ≤ i → i ≤ length order → P (get_or order (i - 1) d) → AllByRecursion P (drop i order) → AllByRecursion P (drop (i - 1) order)
more_dropped P order i d some within here all =
    let next : i ≡ suc (i - 1) = omega (arith, some) in
    one_dropped P order (i - 1) d (omega (arith, some, within)) here (subst (λ n. AllByRecursion P (drop n order)) next all)

module _ (lents : List (Option Entry)) where
  before_some : (a b : Option Entry) (p q : ℕ) → T (is_le (ordering_then (lent_cmp a b) (nat_cmp p q))) → IsSome b → IsSome a
  before_some None None p q h some = cc
  before_some None (Some f) p q h some = absurd h
  before_some (Some e) b p q h some = refl

  -- all places before one at an entry are at entries
  each_taken : (order : List ℕ) (n : ℕ) → InOrder lents order → n ≤ length order → ((k d : ℕ) → n ≡ suc k → IsSome (entry_at lents (get_or order k d))) → AllByRecursion (λ place. IsSome (entry_at lents place)) (take n order)
  each_taken [] zero r l last = tt
  each_taken [] (suc n) r l last = absurd (omega (arith, l))
  each_taken (p ∷ order) zero r l last = tt
  each_taken (p ∷ order) (suc zero) r l last = (last 0 p refl, tt)
  each_taken (p ∷ order) (suc (suc n)) r l last =
      let there = last (suc n) p refl in
      let place = get_or order n p in
      (before_some (entry_at lents p) (entry_at lents place) p place (at_index (λ later. T (is_le (place_cmp lents p later))) order n p r.0 (omega (arith, l))) there, each_taken order (suc n) r.1 (omega (arith, l)) (λ k d is. last (suc k) d (ap suc is)))

  rises_taken : (order : List ℕ) (n : ℕ) → InOrder lents order → InOrder lents (take n order)
  rises_taken order zero r = tt
  rises_taken [] (suc n) r = tt
  rises_taken (p ∷ order) (suc n) r = (all order n r.0, rises_taken order n r.1)
    where
      all : (qs : List ℕ) (n : ℕ) → AllByRecursion (λ later. T (is_le (place_cmp lents p later))) qs → AllByRecursion (λ later. T (is_le (place_cmp lents p later))) (take n qs)
      all qs zero a = tt
      all [] (suc n) a = tt
      all (q ∷ qs) (suc n) a = (a.0, all qs n a.1)

  in_either : (order : List ℕ) (n place : ℕ) → Contains order place → Contains (take n order) place ⊎ Contains (drop n order) place
  in_either order zero place w = inr w
  in_either [] (suc n) place w = inl w
  in_either (p ∷ order) (suc n) place (zero, within, is) = inl (zero, omega arith, is)
  in_either (p ∷ order) (suc n) place (suc k, within, is) = later (in_either order n place (k, omega (arith, within), is))
    where
      later : Contains (take n order) place ⊎ Contains (drop n order) place → Contains (p ∷ take n order) place ⊎ Contains (drop n order) place
      later (inl (j, l, e)) = inl (suc j, omega (arith, l), e)
      later (inr w) = inr w

  -- the places left are ordered
  pub left_ordered : (order : List ℕ) (n : ℕ) → AreSorted lents order → n ≤ length order → AllByRecursion (λ place. entry_at lents place ≡ None) (drop n order) → ((d : ℕ) → 0 < n → IsSome (entry_at lents (get_or order (n - 1) d))) → IsOrdered lents (take n order)
  left_ordered order n h l ended last = record {
    sorted = record {
      whole = λ place some. by place some (in_either order n place (h.whole place some));
      distinct = distinct_take order n h.distinct;
      rises = rises_taken order n h.rises;
    };
    each = each_taken order n h.rises l (λ k d is. subst (λ j. IsSome (entry_at lents (get_or order j d))) (omega (arith, is)) (last d (omega (arith, is))));
  }
    where
      by : (place : ℕ) → IsSome (entry_at lents place) → Contains (take n order) place ⊎ Contains (drop n order) place → Contains (take n order) place
      by place some (inl w) = w
      by place some (inr (k, within, is)) = absurd (not_both (entry_at lents place) some (subst (λ p. entry_at lents p ≡ None) is (at_index (λ p. entry_at lents p ≡ None) (drop n order) k place ended within)))

pub none_if : {A : Type 0} (f : A → Entry) (r : Option A) (o : Option Entry) → false ≡ is_some r → option_map f r ≡ o → o ≡ None
none_if f None o n is = sym is
none_if f (Some a) o n is = cc
