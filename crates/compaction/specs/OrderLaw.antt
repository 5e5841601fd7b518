-- Proofs that a ghost member cites; nothing is promised here.
-- The first place of an order has the least entry.
use Rattle.std.proofs.Common.{◌≡◌, ◌≢◌, ◌<◌, inl, inr, ℕ, zero, suc, T, List, [], ◌∷◌, length, get_or, refl, sym, ap, subst, ◌∙◌, arith}
use Rattle.std.specs.Prelude.{Option, Some, None, IsSome, IsSomeAnd, Contains}
use Rattle.std.specs.List.{AllByRecursion}
use Rattle.std.specs.Ordering.{is_le, nat_cmp, ordering_then}
use Rattle.std.specs.declared.cmp.Ordering.{Ordering}
use Rattle.std.specs.declared.cmp.Ordering.TheVariants.{Less, Equal, Greater}
use Rattle.std.proofs.lemmas.Cmp.{ranked}
use Rattle.cell_key.specs.Keys.{byte_cmp}
use Rattle.cell_key.specs.Entries.{Entry}
use Rattle.compaction.specs.Least.{IsAbove, IsNotBelow, IsLeast, entry_at}
use Rattle.compaction.specs.Order.{IsOrdered, IsReady, first_entry, lent_cmp, place_cmp}

-- a property at each place holds for all
each_of : (os : List (Option Entry)) (P : Option Entry → Type 0)
    → ((i : ℕ) → i < length os → P (entry_at os i)) → AllByRecursion P os
each_of [] P h = tt
each_of (o ∷ os) P h = (h 0 (omega arith), each_of os P (λ i l. h (suc i) (omega (arith, l))))

-- a place has the least entry if the entries before it are above it, and none behind is below it
least_at : (os : List (Option Entry)) (at : ℕ) (e : Entry) → entry_at os at ≡ Some e
    → ((i : ℕ) → i < at → IsAbove (Some e) (entry_at os i))
    → ((i : ℕ) → at < i → i < length os → IsNotBelow e (entry_at os i)) → IsLeast os at
least_at [] at e is before after = cc
least_at (o ∷ os) zero e is before after =
    subst (λ o. IsSomeAnd o (λ e. AllByRecursion (IsNotBelow e) os)) (sym is)
    (each_of os (IsNotBelow e) (λ i l. after (suc i) (omega arith) (omega (arith, l))))
least_at (o ∷ os) (suc at) e is before after = (
  subst (λ p. IsAbove p o) (sym is) (before 0 (omega arith)),
  least_at os at e is (λ i l. before (suc i) (omega (arith, l)))
      (λ i l m. after (suc i) (omega (arith, l)) (omega (arith, m))),
)

-- a property of all elements holds at each index
pub at_index : (P : ℕ → Type 0) (xs : List ℕ) (k d : ℕ) → AllByRecursion P xs → k < length xs
    → P (get_or xs k d)
at_index P [] k d h l = absurd (omega (arith, l))
at_index P (x ∷ xs) zero d h l = h.0
at_index P (x ∷ xs) (suc k) d h l = at_index P xs k d h.1 (omega (arith, l))

-- another place of an entry doesn't come before the first
pub after_first : (lents : List (Option Entry)) (place : ℕ) (order : List ℕ)
    → IsOrdered lents (place ∷ order) → (i : ℕ) → IsSome (entry_at lents i) → i ≢ place
    → T (is_le (place_cmp lents place i))
after_first lents place order h i some other = found (h.sorted.whole i some)
  where
    found : Contains (place ∷ order) i → T (is_le (place_cmp lents place i))
    found (zero, within, is) = absurd (other (sym is))
    found (suc k, within, is) =
        subst (λ j. T (is_le (place_cmp lents place j))) is
        (at_index (λ j. T (is_le (place_cmp lents place j))) order k i h.sorted.rises.0
        (omega (arith, within)))

above_of : (e : Entry) (o : Option Entry) (place i : ℕ) → i < place
    → T (is_le (ordering_then (lent_cmp (Some e) o) (nat_cmp place i))) → IsAbove (Some e) o
above_of e None place i l h = tt
above_of e (Some f) place i l h = by_key (byte_cmp e.0 f.0) h
  where
    by_key : (r : Ordering) → T (is_le (ordering_then r (nat_cmp place i))) → r ≡ Less
    by_key Less h = refl
    by_key Equal h = absurd (by_place (nat_cmp place i) refl h)
      where
        by_place : (r : Ordering) → r ≡ nat_cmp place i → T (is_le r) → ⊥
        by_place Less is h = let low = ranked place i Less is in omega (arith, low, l)
        by_place Equal is h = let low = ranked place i Equal is in omega (arith, low, l)
        by_place Greater is h = absurd h
    by_key Greater h = absurd h

not_below_of : (e : Entry) (o : Option Entry) (place i : ℕ)
    → T (is_le (ordering_then (lent_cmp (Some e) o) (nat_cmp place i))) → IsNotBelow e o
not_below_of e None place i h = tt
not_below_of e (Some f) place i h = by_key (byte_cmp e.0 f.0) h
  where
    by_key : (r : Ordering) → T (is_le (ordering_then r (nat_cmp place i))) → T (is_le r)
    by_key Less h = tt
    by_key Equal h = tt
    by_key Greater h = absurd h

-- the place of the least entry
pub record LeastPlace (lents : List (Option Entry)) (e : Entry) : Type 0 where
  pub place : ℕ
  pub is : entry_at lents place ≡ Some e
  pub least : IsLeast lents place

pub ordered_least : (lents : List (Option Entry)) (order : List ℕ) (e : Entry)
    → IsOrdered lents order → first_entry lents order ≡ Some e → LeastPlace lents e
ordered_least lents [] e h is = cc
ordered_least lents (place ∷ order) e h is = record {
  place = place;
  is = is;
  least = least_at lents place e is
      (λ i l. above i l (entry_at lents i) refl) (λ i l m. not_below i l (entry_at lents i) refl);
}
  where
    behind : (i : ℕ) (f : Entry) → entry_at lents i ≡ Some f → i ≢ place
        → T (is_le (ordering_then (lent_cmp (Some e) (Some f)) (nat_cmp place i)))
    behind i f some other =
        subst (λ o. T (is_le (ordering_then (lent_cmp (Some e) o) (nat_cmp place i)))) some
        (subst (λ o. T (is_le (ordering_then (lent_cmp o (entry_at lents i)) (nat_cmp place i)))) is
        (after_first lents place order h i (subst (λ o. IsSome o) (sym some) refl) other))

    above : (i : ℕ) → i < place → (o : Option Entry) → entry_at lents i ≡ o → IsAbove (Some e) o
    above i l None none = tt
    above i l (Some f) some =
        above_of e (Some f) place i l (behind i f some (λ same. omega (arith, same, l)))

    not_below : (i : ℕ) → place < i → (o : Option Entry) → entry_at lents i ≡ o → IsNotBelow e o
    not_below i l None none = tt
    not_below i l (Some f) some =
        not_below_of e (Some f) place i (behind i f some (λ same. omega (arith, same, l)))

pub ready_least : (lents : List (Option Entry)) (order : List ℕ) (e : Entry)
    → IsReady lents order → first_entry lents order ≡ Some e → LeastPlace lents e
ready_least lents order e (inl none) is =
    absurd (no_entry (sym (ap (first_entry lents) none) ∙ is))
  where
    no_entry : None ≡ Some e → ⊥
    no_entry q = cc
ready_least lents order e (inr h) is = ordered_least lents order e h is

no_place : (o : Option Entry) (i : ℕ) → (IsSome o → Contains {X = ℕ} [] i) → o ≡ None
no_place None i h = refl
no_place (Some e) i h = absurd (nowhere (h refl))
  where
    nowhere : Contains {X = ℕ} [] i → ⊥
    nowhere w = omega (arith, w.1)

pub not_both : (o : Option Entry) → IsSome o → o ≡ None → ⊥
not_both None some none = cc
not_both (Some e) some none = cc

-- if there is no current entry at the first place, there is none at all
pub ordered_none : (lents : List (Option Entry)) (order : List ℕ) → IsOrdered lents order
    → first_entry lents order ≡ None → AllByRecursion (λ o. o ≡ None) lents
ordered_none lents [] h is =
    each_of lents (λ o. o ≡ None) (λ i l. no_place (entry_at lents i) i (h.sorted.whole i))
ordered_none lents (place ∷ order) h is =
    absurd (not_both (entry_at lents place) h.each.0 is)
