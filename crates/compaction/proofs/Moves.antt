-- A loop that advances the sources at some places.
use Rattle.std.proofs.Common.{◌≡◌, ◌≤◌, ◌<◌, ◌+◌, ◌⊎◌, ℕ, zero, suc, List, [], ◌∷◌, ◌++◌, length, take, get_or, set, refl, sym, ap, subst, ◌∙◌, arith, inl, inr, add-one}
use Rattle.std.proofs.lemmas.Grind.{common_steps}
use Rattle.std.proofs.lemmas.List.{take_all}
use Rattle.std.proofs.lemmas.List.Elements.{All-from_recursion, Contains-get_or}
use Rattle.std.proofs.lemmas.List.Sums.{sum_by-set}
use Rattle.std.specs.List.{AllByRecursion}
use Rattle.file_store.specs.Store.{Contents}
use Rattle.std.proofs.Math.Seq.{take-suc}
use Rattle.std.specs.Prelude.{Option, Some, None, IsSome, sum_by}
use Rattle.cell_key.specs.Entries.{Entry}
use Rattle.compaction.specs.Order.{IsDistinct}
use Rattle.compaction.specs.Merging.{BreaksAt, HasMoved, first_lent, lent_at}
use Rattle.compaction.proofs.Tied.{at_front, lent_get, none_moved, not_yet, past_all}

-- at an index, the source at each earlier place has moved
pub record Moving {S : Type 0} (price : S → ℕ) (lent : S → Option Entry) (moves : S → S → Type 0) (places : List ℕ) (xs ys : List S) (i : ℕ) : Type 0 where
  pub size : length ys ≡ length xs
  pub start : i ≡ 0 → ys ≡ xs
  pub paid : sum_by price ys ≤ sum_by price xs
  pub lower : 0 < i → IsSome (first_lent lent xs places) → sum_by price ys + 1 ≤ sum_by price xs
  pub moved : IsDistinct places → HasMoved moves (take i places) xs ys

pub moving_none : {S : Type 0} (price : S → ℕ) (lent : S → Option Entry) (moves : S → S → Type 0) (places : List ℕ) (xs : List S) → Moving price lent moves places xs xs 0
moving_none price lent moves places xs = record {
  size = refl;
  start = λ _. refl;
  paid = omega arith;
  lower = λ none some. absurd (omega (arith, none));
  moved = λ distinct. none_moved moves xs;
}

next_places : (places : List ℕ) (i : ℕ) → i < length places → take (i + 1) places ≡ take i places ++ get_or places i 0 ∷ []
next_places places i l = rw add-one (take-suc places i 0 l)

first_of : {S : Type 0} (lent : S → Option Entry) (xs : List S) (places : List ℕ) → 0 < length places → first_lent lent xs places ≡ lent_at lent xs (get_or places 0 0)
first_of lent xs [] l = absurd (omega (arith, l))
first_of lent xs (p ∷ places) l = refl

first_or_later : (i : ℕ) → (i ≡ 0) ⊎ (0 < i)
first_or_later zero = inl refl
first_or_later (suc i) = inr (omega arith)

module _ {S : Type 0} {price : S → ℕ} {lent : S → Option Entry} {moves : S → S → Type 0} {places : List ℕ} {xs ys : List S} {i : ℕ} (m : Moving price lent moves places xs ys i) (within : i < length places) where
  pub moving_on : (s t : S) → get_or places i 0 < length ys → s ≡ get_or ys (get_or places i 0) s → price t ≤ price s → (IsSome (lent s) → price t + 1 ≤ price s) → moves s t → Moving price lent moves places xs (set ys (get_or places i 0) t) (i + 1)
  moving_on s t here is cheaper less step = record {
    size = grind (arith, common_steps, m.size);
    start = λ none. absurd (omega (arith, none));
    paid = omega (arith, m.paid, sums, cheaper);
    lower = λ _ some. lower some (first_or_later i);
    moved = λ distinct. subst (λ l. HasMoved moves l xs (set ys p t)) (sym (next_places places i within)) (at_front p s t (m.moved distinct) (not_yet places i 0 distinct within) here is step);
  }
    where
      p : ℕ
      p = get_or places i 0

      sums : sum_by price (set ys p t) + price s ≡ sum_by price ys + price t
      sums = ap (λ u. sum_by price (set ys p t) + price u) is ∙ sum_by-set price ys p t s here

      lower : IsSome (first_lent lent xs places) → (i ≡ 0) ⊎ (0 < i) → sum_by price (set ys p t) + 1 ≤ sum_by price xs
      lower some (inl first) =
          let same : ys ≡ xs = m.start first in
          let there : first_lent lent xs places ≡ lent s =
          first_of lent xs places (omega (arith, within))
          ∙ ap (λ k. lent_at lent xs (get_or places k 0)) (sym first) ∙ ap (λ l. lent_at lent l p) (sym same) ∙ lent_get lent ys p s here ∙ ap lent (sym is) in
          let one = less (subst (λ (o : Option Entry). IsSome o) there some) in
          omega (arith, m.paid, sums, one)
      lower some (inr later) = let one = m.lower later some in omega (arith, one, sums, cheaper)

  pub moving_past : length ys ≤ get_or places i 0 → Moving price lent moves places xs ys (i + 1)
  moving_past out = record {
    size = m.size;
    start = λ none. absurd (omega (arith, none));
    paid = m.paid;
    lower = λ _ some. lower some (first_or_later i);
    moved = λ distinct. subst (λ l. HasMoved moves l xs ys) (sym (next_places places i within)) (past_all (get_or places i 0) (m.moved distinct) (omega (arith, out, m.size)));
  }
    where
      nothing : (zs : List S) (k : ℕ) → length zs ≤ k → lent_at lent zs k ≡ None
      nothing [] k l = refl
      nothing (z ∷ zs) zero l = absurd (omega (arith, l))
      nothing (z ∷ zs) (suc k) l = nothing zs k (omega (arith, l))

      not_some : (o : Option Entry) → o ≡ None → IsSome o → ⊥
      not_some None n h = cc
      not_some (Some e) n h = cc

      lower : IsSome (first_lent lent xs places) → (i ≡ 0) ⊎ (0 < i) → sum_by price ys + 1 ≤ sum_by price xs
      lower some (inl first) =
          absurd (not_some (first_lent lent xs places)
          (first_of lent xs places (omega (arith, within)) ∙ ap (λ k. lent_at lent xs (get_or places k 0)) (sym first) ∙ nothing xs (get_or places i 0) (omega (arith, out, m.size))) some)
      lower some (inr later) = m.lower later some

-- the loop at its end
pub moving_lower : {S : Type 0} {price : S → ℕ} {lent : S → Option Entry} {moves : S → S → Type 0} {xs ys : List S} {i : ℕ} → (places : List ℕ) → Moving price lent moves places xs ys i → length places ≤ i → IsSome (first_lent lent xs places) → sum_by price ys + 1 ≤ sum_by price xs
moving_lower [] m long some = cc
moving_lower (p ∷ places) m long some = m.lower (omega (arith, long)) some

pub moving_all : {S : Type 0} {price : S → ℕ} {lent : S → Option Entry} {moves : S → S → Type 0} {xs ys : List S} {i : ℕ} → (places : List ℕ) → Moving price lent moves places xs ys i → length places ≤ i → IsDistinct places → HasMoved moves places xs ys
moving_all {moves = moves} {xs = xs} {ys = ys} {i = i} places m long distinct = subst (λ l. HasMoved moves l xs ys) (take_all i places long) (m.moved distinct)

-- or where a source doesn't stand for its list
module _ {S : Type 0} {price : S → ℕ} {lent : S → Option Entry} {moves : S → S → Type 0} {places : List ℕ} {xs ys : List S} {i : ℕ} (m : Moving price lent moves places xs ys i) (within : i < length places) (distinct : IsDistinct places) (here : get_or places i 0 < length ys) where
  unmoved : (d : S) → get_or ys (get_or places i 0) d ≡ get_or xs (get_or places i 0) d
  unmoved d = (m.moved distinct).stayed (get_or places i 0) d (not_yet places i 0 distinct within)

  pub damaged_here : (P : Option Contents → S → Type 0) (old now : Option Contents) (s : S) → now ≡ old → s ≡ get_or ys (get_or places i 0) s → ¬ P now s → ¬ AllByRecursion (P old) xs
  damaged_here P old now s same is not all =
      not (subst (λ (o : Option Contents). P o s) (sym same) (subst (P old) (sym (is ∙ unmoved s)) (All-from_recursion (P old) xs all (get_or places i 0) s (omega (arith, here, m.size)))))

  pub broken_here : (P : Option Contents → S → Type 0) (old now : Option Contents) (s : S) → now ≡ old → s ≡ get_or ys (get_or places i 0) s → P now s → BreaksAt (P old) places xs
  broken_here P old now s same is broken = record {
    place = get_or places i 0;
    among = Contains-get_or places i 0 within;
    within = inside;
    here = λ d. subst (P old) (is ∙ unmoved s ∙ any d) (subst (λ (o : Option Contents). P o s) same broken);
  }
    where
      inside : get_or places i 0 < length xs
      inside = omega (arith, here, m.size)

      any : (d : S) → get_or xs (get_or places i 0) s ≡ get_or xs (get_or places i 0) d
      any d = grind (arith, common_steps, inside)
