-- The number of a merge falls, by its current entry.
use Rattle.std.proofs.Common.{◌≡◌, ℕ, zero, suc, ◌+◌, ◌≤◌, false, cond, List, [], ◌∷◌, length, refl, sym, ap, subst, arith, take, drop, ◌++◌}
use Rattle.std.specs.Prelude.{Option, Some, None, IsSome, is_some, sum_by, Result, Ok, Err, OnOk}
use Rattle.std.specs.List.{AllByRecursion, AllZip}
use Rattle.std.proofs.lemmas.Grind.{common_steps}
use Rattle.std.proofs.lemmas.List.Sums.{sum_by-append}
use Rattle.cell_key.specs.Entries.{Entry}
use Rattle.compaction.specs.Merging.{first_lent, lent_at, one, HaveStarted, MergeHolds, StepsTo}

module _ {S : Type 0} (lent : S → Option Entry) where
  -- if a source has a current entry, the number isn't 0
  pub one_lent : (xs : List S) (k : ℕ) → IsSome (lent_at lent xs k) → 1 ≤ sum_by (λ s. one (lent s)) xs
  one_lent [] k h = cc
  one_lent (x ∷ xs) zero h =
      let here : one (lent x) ≡ 1 = ap (λ b. cond b 1 0) h in
      omega (arith, here, sum_by-append (λ s. one (lent s)) (x ∷ []) xs)
  one_lent (x ∷ xs) (suc k) h = omega (arith, one_lent xs k h, sum_by-append (λ s. one (lent s)) (x ∷ []) xs)

pub is_none : (o : Option Entry) → is_some o ≡ false → o ≡ None
is_none None h = refl
is_none (Some e) h = cc

module _ {S : Type 0} (lent : S → Option Entry) (remaining : S → List Entry) (holds : S → Type 0) where
  with_none : (xs : List S) → AllByRecursion holds xs → AllByRecursion (λ s. lent s ≡ None) xs → AllByRecursion (λ s. holds s × (lent s ≡ None)) xs
  with_none [] h n = tt
  with_none (x ∷ xs) h n = ((h.0, n.0), with_none xs h.1 n.1)

  -- if a merge has no current entry, each source makes a step
  pub all_none : (olds news : List S) (order : List ℕ) → false ≡ is_some (first_lent lent olds order) → MergeHolds lent remaining holds olds order → (AllByRecursion (λ s. holds s × (lent s ≡ None)) olds → AllZip (StepsTo lent remaining holds None) olds news) → AllZip (StepsTo lent remaining holds (first_lent lent olds order)) olds news
  all_none olds news order n h steps =
      let none : first_lent lent olds order ≡ None = is_none _ (sym n) in
      subst (λ o. AllZip (StepsTo lent remaining holds o) olds news) (sym none) (steps (with_none olds h.each (subst (λ o. HaveStarted lent remaining o olds) none h.started)))

pub back_whole : {S : Type 0} (new items : List S) (n : ℕ) → length new ≡ length items → n ≡ length items → take n (new ++ drop (length new) items) ≡ new
back_whole new items n e f = grind (arith, common_steps)

pub on_ok : {A E : Type 0} (r : Result A E) (P Q : Type 0) → OnOk r P → (P → Q) → OnOk r Q
on_ok (Ok a) P Q p f = f p
on_ok (Err e) P Q p f = tt

pub on_both : {A E : Type 0} (r : Result A E) (P Q R : Type 0) → OnOk r P → OnOk r Q → (P → Q → R) → OnOk r R
on_both (Ok a) P Q R p q f = f p q
on_both (Err e) P Q R p q f = tt

-- a sum that falls by one if a source is at an entry
pub falls_at : {S : Type 0} (lent : S → Option Entry) (news : List S) (new old : ℕ) → new + sum_by (λ s. one (lent s)) news ≤ old → (k : ℕ) → IsSome (lent_at lent news k) → new + 1 ≤ old
falls_at lent news new old h k some = omega (arith, one_lent lent news k some)
