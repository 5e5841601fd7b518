-- The first value of entries in ascending order.
use Rattle.std.proofs.Common.{◌≡◌, ℕ, Bool, true, false, cond, List, [], ◌∷◌, Option, Some, None, refl, ap, subst, ◌∙◌}
use Rattle.std.specs.Option.{unwrap_or}
use Rattle.std.specs.declared.cmp.Ordering.TheVariants.{Less}
use Rattle.std.specs.Ordering.{is_eq, eq_by_cmp}
use Rattle.std.specs.FinMap.Entries.{find}
use Rattle.cell_key.specs.Keys.{byte_cmp}
use Rattle.cell_key.specs.Entries.{Entry, IsRising, entry_of_key, value_of}
use Rattle.cell_key.proofs.TextPlaces.{below_less, first, second, find_below}
use Rattle.cell_key.proofs.EntryLists.{ties_itself}
use Rattle.tablet.specs.Reads.{first_value}
use Rattle.tablet.proofs.Filters.{one_text}

no_value : (b : Bool) (o : Option (Option (List ℕ))) → value_of o ≡ None → value_of (cond b (Some None) o) ≡ None
no_value true o e = refl
no_value false o e = e

-- if there is no value, no text has one
pub first_none : (es : List Entry) → first_value es ≡ None → (name : List ℕ) → value_of (entry_of_key es name) ≡ None
first_none [] e name = refl
first_none ((n, None) ∷ es) e name = no_value (eq_by_cmp byte_cmp name n) (find byte_cmp name es) (first_none es e name)
first_none ((n, Some v) ∷ es) e name = cc

-- a list has this value at this text, and no value at any lower text
pub record IsFirstAt (es : List Entry) (found : List ℕ × List ℕ) : Type 0 where
  pub there : entry_of_key es found.0 ≡ Some (Some found.1)
  pub least : (k : List ℕ) → byte_cmp k found.0 ≡ Less → value_of (entry_of_key es k) ≡ None

later : (n : List ℕ) (es : List Entry) (found : List ℕ × List ℕ) → IsRising ((n, None) ∷ es) → IsFirstAt es found → IsFirstAt ((n, None) ∷ es) found
later n es found r is = record {
  there = go (eq_by_cmp byte_cmp found.0 n) refl;
  least = λ k less. no_value (eq_by_cmp byte_cmp k n) (find byte_cmp k es) (is.least k less);
}
  where
    go : (b : Bool) → eq_by_cmp byte_cmp found.0 n ≡ b → cond b (Some None) (find byte_cmp found.0 es) ≡ Some (Some found.1)
    go true e =
        let none : find byte_cmp found.0 es ≡ None = ap (λ (k : List ℕ). find byte_cmp k es) (one_text found.0 n e) ∙ find_below n es (first _ _ r) in
        let some = is.there in
        cc
    go false e = is.there

here : (n v : List ℕ) (es : List Entry) → IsRising ((n, Some v) ∷ es) → IsFirstAt ((n, Some v) ∷ es) (n, v)
here n v es r = record {
  there = ap (λ (b : Bool). cond b (Some (Some v)) (find byte_cmp n es)) (ties_itself n);
  least = λ k less. ap (λ (b : Bool). value_of (cond b (Some (Some v)) (find byte_cmp k es))) (ap is_eq less) ∙ ap value_of (find_below k es (below_less k n es less (first _ _ r)));
}

pub first_some : (es : List Entry) (found : List ℕ × List ℕ) → IsRising es → first_value es ≡ Some found → IsFirstAt es found
first_some [] found r e = cc
first_some ((n, None) ∷ es) found r e = later n es found r (first_some es found (second _ _ r) e)
first_some ((n, Some v) ∷ es) found r e = subst (λ (p : List ℕ × List ℕ). IsFirstAt ((n, Some v) ∷ es) p) (ap (λ (o : Option (List ℕ × List ℕ)). unwrap_or o (n, v)) e) (here n v es r)
