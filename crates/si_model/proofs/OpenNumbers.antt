-- Numbers of what is open: one is opened, goes on, or is closed.
use Rattle.std.proofs.Common.{◌≡◌, ℕ, ◌+◌, ◌<◌, ◌≤◌, Some, sym, subst, ◌∙◌, arith}
use Rattle.std.specs.Ordering.{nat_cmp}
use Rattle.std.specs.FinMap.{FinMap, get, insert, remove, len, empty, get-empty, len-empty}
use Rattle.std.proofs.Math.Nat.{le_trans}
use Rattle.std.proofs.lemmas.Option.{none-some}
use Rattle.si_model.specs.Machine.{end_of_stamps}
use Rattle.si_model.specs.Laws.{AreNumbered}
use Rattle.si_model.proofs.Tools.{each_insert, each_remove, len_grows, len_stays, len_falls}

module _ {X : Type 0} (m : FinMap nat_cmp X) (next most : ℕ) (n : AreNumbered m next most) where
  -- one is opened
  pub added : (x : X) → len m < most → next < end_of_stamps → AreNumbered (insert m next x) (next + 1) most
  added x room low = record {
    first = omega arith;
    from = each_insert m next (λ i y. 1 ≤ i) x n.first (λ i y ne h. n.from i y h);
    below = each_insert m next (λ i y. i < next + 1) x (omega arith) (λ i y ne h. let b = n.below i y h in omega arith);
    last = omega arith;
    few = (let more = len_grows m next x in omega arith);
  }

  -- one continues
  pub changed : (k : ℕ) (old x : X) → get m k ≡ Some old → AreNumbered (insert m k x) next most
  changed k old x h = record {
    first = n.first;
    from = each_insert m k (λ i y. 1 ≤ i) x (n.from k old h) (λ i y ne g. n.from i y g);
    below = each_insert m k (λ i y. i < next) x (n.below k old h) (λ i y ne g. n.below i y g);
    last = n.last;
    few = subst (λ l. l ≤ most) (sym (len_stays m k x old h)) n.few;
  }

  -- one is closed
  pub closed : (k : ℕ) → AreNumbered (remove m k) next most
  closed k = record {
    first = n.first;
    from = each_remove m k (λ i y. 1 ≤ i) (λ i y ne g. n.from i y g);
    below = each_remove m k (λ i y. i < next) (λ i y ne g. n.below i y g);
    last = n.last;
    few = le_trans (len_falls m k) n.few;
  }

pub none_open : {X : Type 0} (most : ℕ) → AreNumbered (empty {X = X} {R = nat_cmp}) 1 most
none_open {X} most = record {
  first = omega arith;
  from = λ i x h. absurd (nothing i x h);
  below = λ i x h. absurd (nothing i x h);
  last = omega arith;
  few = subst (λ l. l ≤ most) (sym (len-empty nat_cmp X)) (omega arith);
}
  where
    nothing : (i : ℕ) (x : X) → get (empty {X = X} {R = nat_cmp}) i ≡ Some x → ⊥
    nothing i x h = none-some x (sym (get-empty nat_cmp i) ∙ h)
