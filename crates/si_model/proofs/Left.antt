-- The effect of a visit on a collector's remaining work.
use Rattle.std.proofs.Common.{◌≡◌, ℕ, ◌+◌, ◌≤◌, Bool, true, false, cond, ◌||◌, ◌&&◌, List, [], ◌∷◌, map, Option, Some, None, ◌⊎◌, inl, inr, refl, sym, ap, subst, ◌∙◌, arith}
use Rattle.std.specs.declared.cmp.Ordering.{Ordering}
use Rattle.std.specs.declared.cmp.Ordering.TheVariants.{Less, Equal, Greater}
use Rattle.std.specs.Ordering.{eq_by_cmp, is_eq, is_lt}
use Rattle.std.specs.Cmp.{IsTotalOrder, on_total, then_total, tied_itself}
use Rattle.std.specs.Cmp.Lexicographic.{nat_list_cmp_total}
use Rattle.std.specs.List.{list_any}
use Rattle.std.specs.Prelude.{is_some}
use Rattle.std.specs.FinMap.{entries, get, contains_key, contains_key-keys, get-from_entries, get-retain_keys, retain_keys}
use Rattle.std.specs.FinMap.Entries.{is_some-find}
use Rattle.std.specs.FinMap.{nat_cmp-IsAntisymmetric, slice_cmp-IsAntisymmetric}
use Rattle.cell_key.specs.Keys.{byte_cmp, key_cmp, key_cmp_total}
use Rattle.cell_key.specs.Cells.{Cells}
use Rattle.cell_key.specs.Places.{Place, place_of, place_cmp, HasCell, IsAfter}
use Rattle.cell_key.specs.declared.keys.CellKey.{CellKey}
use Rattle.cell_key.proofs.KeyLaws.{both_Equal, exact_keys}
use Rattle.si_model.specs.Collection.{Pass, FirstPass, SecondPass, places_of, comes_after, cells_after, left_of, LeftFalls}
use Rattle.si_model.proofs.Fewer.{IsWithin, few, fewer}

pub place_cmp_total : IsTotalOrder place_cmp
place_cmp_total = then_total (on_total (λ (p : Place). p.0) nat_list_cmp_total) (on_total (λ (p : Place). p.1) nat_list_cmp_total)

either : (a b : Bool) → (a || b) ≡ true → (a ≡ true) ⊎ (b ≡ true)
either true b e = inl refl
either false b e = inr e

left_true : (a b : Bool) → a ≡ true → (a || b) ≡ true
left_true true b e = refl
left_true false b e = cc

right_true : (a b : Bool) → b ≡ true → (a || b) ≡ true
right_true true b e = refl
right_true false b e = e

tied : (r : Ordering) → is_eq r ≡ true → r ≡ Equal
tied Less e = cc
tied Equal e = refl
tied Greater e = cc

abbrev Item : Type 0
Item = CellKey × List ℕ

abbrev keyed : Item → Place × Unit {0}
keyed e = (place_of e.0, tt)

abbrev key_in : List Item → CellKey → Bool
key_in es k = list_any (eq_by_cmp key_cmp k) (map (λ (e : Item). e.0) es)

abbrev place_in : List Item → Place → Bool
place_in es p = list_any (eq_by_cmp place_cmp p) (map (λ (e : Place × Unit {0}). e.0) (map keyed es))

pub exact_places : (p q : Place) → place_cmp p q ≡ Equal → p ≡ q
exact_places p q e =
    let b = both_Equal (byte_cmp p.0 q.0) (byte_cmp p.1 q.1) e in
    let row = slice_cmp-IsAntisymmetric nat_cmp-IsAntisymmetric p.0 q.0 b.0 in
    let family = slice_cmp-IsAntisymmetric nat_cmp-IsAntisymmetric p.1 q.1 b.1 in
    λ i. (row i, family i)

place_among : (es : List Item) (k : CellKey) → key_in es k ≡ true → place_in es (place_of k) ≡ true
place_among [] k h = cc
place_among (e ∷ es) k h = elim (either (eq_by_cmp key_cmp k e.0) (key_in es k) h) [
  | inl here ↦ left_true (eq_by_cmp place_cmp (place_of k) (place_of e.0)) (place_in es (place_of k)) (ap (λ (p : Place). eq_by_cmp place_cmp (place_of k) p) (ap place_of (sym (exact_keys k e.0 (tied (key_cmp k e.0) here)))) ∙ ap is_eq (tied_itself place_cmp_total (place_of k)))
  | inr later ↦ right_true (eq_by_cmp place_cmp (place_of k) (place_of e.0)) (place_in es (place_of k)) (place_among es k later)
]

key_among : (es : List Item) (p : Place) → place_in es p ≡ true → (k : CellKey) × (place_of k ≡ p) × (key_in es k ≡ true)
key_among [] p h = cc
key_among (e ∷ es) p h = elim (either (eq_by_cmp place_cmp p (place_of e.0)) (place_in es p) h) [
  | inl here ↦ (e.0, sym (exact_places p (place_of e.0) (tied (place_cmp p (place_of e.0)) here)), left_true (eq_by_cmp key_cmp e.0 e.0) (key_in es e.0) (ap is_eq (tied_itself key_cmp_total e.0)))
  | inr later ↦ let r = key_among es p later in (r.0, r.1, right_true (eq_by_cmp key_cmp r.0 e.0) (key_in es r.0) r.2)
]

in_places : (cells : Cells) (p : Place) → contains_key (places_of cells) p ≡ place_in (entries cells) p
in_places cells p = ap is_some (get-from_entries place_cmp_total (map keyed (entries cells)) p) ∙ is_some-find place_cmp p (map keyed (entries cells))

-- a cell has a key exactly if its place is among the places
has_place : (cells : Cells) (k : CellKey) → contains_key cells k ≡ true → contains_key (places_of cells) (place_of k) ≡ true
has_place cells k h = in_places cells (place_of k) ∙ place_among (entries cells) k (sym (contains_key-keys cells k) ∙ h)

place_has : (cells : Cells) (p : Place) → contains_key (places_of cells) p ≡ true → (k : CellKey) × (place_of k ≡ p) × (contains_key cells k ≡ true)
place_has cells p h = let r = key_among (entries cells) p (sym (in_places cells p) ∙ h) in (r.0, r.1, contains_key-keys cells r.0 ∙ r.2)

after_at : (cells : Cells) (after : Option Place) (p : Place) → contains_key (retain_keys (places_of cells) (comes_after after)) p ≡ (comes_after after p && contains_key (places_of cells) p)
after_at cells after p = ap is_some (get-retain_keys (places_of cells) (comes_after after) p (λ x t. ap (comes_after after) (sym (exact_places p x t)))) ∙ by_test (comes_after after p) (get (places_of cells) p)
  where
    by_test : (b : Bool) (x : Option (Unit {0})) → is_some (cond b x None) ≡ (b && is_some x)
    by_test true x = refl
    by_test false x = refl

both : (a b : Bool) → (a && b) ≡ true → (a ≡ true) × (b ≡ true)
both true b e = (refl, e)
both false b e = cc

and_true : (a b : Bool) → a ≡ true → b ≡ true → (a && b) ≡ true
and_true true b e f = f
and_true false b e f = cc

and_false : (a b : Bool) → a ≡ false → (a && b) ≡ false
and_false true b e = cc
and_false false b e = refl

-- if keys are only erased, no cell is added
few_after : (cells cells' : Cells) → IsWithin key_cmp_total cells' cells → (after : Option Place) → cells_after cells' after ≤ cells_after cells after
few_after cells cells' within after = few place_cmp_total (retain_keys (places_of cells') (comes_after after)) (retain_keys (places_of cells) (comes_after after)) (λ p h.
    let b = both (comes_after after p) (contains_key (places_of cells') p) (sym (after_at cells' after p) ∙ h) in
    let k = place_has cells' p b.1 in
    after_at cells after p ∙ and_true (comes_after after p) (contains_key (places_of cells) p) b.0 (subst (λ (q : Place). contains_key (places_of cells) q ≡ true) k.1 (has_place cells k.0 (within k.0 k.2))))

-- an erasure reduces it by at least one
left_erased : (cells cells' : Cells) (k : CellKey) → IsWithin key_cmp_total cells' cells → contains_key cells k ≡ true → contains_key cells' k ≡ false
    → (after : Option Place) → left_of cells' SecondPass after + 1 ≤ left_of cells SecondPass after
left_erased cells cells' k within was gone after =
    let keys = fewer key_cmp_total cells' cells k within was gone in
    let places = few_after cells cells' within after in
    omega arith

comes_less : (after : Option Place) (p : Place) → IsAfter after p → comes_after after p ≡ true
comes_less None p a = refl
comes_less (Some before) p a = ap is_lt a

lt_only : (r : Ordering) → is_lt r ≡ true → r ≡ Less
lt_only Less e = refl
lt_only Equal e = cc
lt_only Greater e = cc

later_too : (after : Option Place) (found p : Place) → IsAfter after found → place_cmp found p ≡ Less → comes_after after p ≡ true
later_too None found p a l = refl
later_too (Some before) found p a l = ap is_lt (place_cmp_total.trans before found p a l)

-- the position moves to the next cell
moved_after : (cells : Cells) (after : Option Place) (found : Place) → IsAfter after found → HasCell cells found → cells_after cells (Some found) + 1 ≤ cells_after cells after
moved_after cells after found later has = fewer place_cmp_total (retain_keys (places_of cells) (comes_after (Some found))) (retain_keys (places_of cells) (comes_after after)) found
    (λ p h. let b = both (comes_after (Some found) p) (contains_key (places_of cells) p) (sym (after_at cells (Some found) p) ∙ h) in
    after_at cells after p ∙ and_true (comes_after after p) (contains_key (places_of cells) p) (later_too after found p later (lt_only (place_cmp found p) b.0)) b.1)
    (after_at cells after found ∙ and_true (comes_after after found) (contains_key (places_of cells) found) (comes_less after found later)
    (subst (λ (q : Place). contains_key (places_of cells) q ≡ true) has.at (has_place cells has.key has.some)))
    (after_at cells (Some found) found ∙ and_false (comes_after (Some found) found) (contains_key (places_of cells) found) (ap is_lt (tied_itself place_cmp_total found)))

left_moved : (cells : Cells) (pass : Pass) (after : Option Place) (found : Place) → IsAfter after found → HasCell cells found → left_of cells pass (Some found) + 1 ≤ left_of cells pass after
left_moved cells FirstPass after found later has = let m = moved_after cells after found later has in omega arith
left_moved cells SecondPass after found later has = let m = moved_after cells after found later has in omega arith

-- the second pass begins
left_turned : (cells : Cells) (after : Option Place) → left_of cells SecondPass None + 1 ≤ left_of cells FirstPass after
left_turned cells after = omega arith

pub left_falls : (cells : Cells) → LeftFalls cells
left_falls cells = record {
  erased = λ cells' k after within was gone. left_erased cells cells' k within was (ap is_some gone) after;
  moved = left_moved cells;
  turned = left_turned cells;
}
