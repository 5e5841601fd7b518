-- A map with only keys of another map has at most as many keys.
use Rattle.std.proofs.Common.{◌≡◌, ℕ, zero, suc, ◌+◌, ◌-◌, ◌≤◌, Bool, true, false, cond, ◌||◌, List, [], ◌∷◌, length, map, Option, None, refl, sym, ap, ◌∙◌, arith}
use Rattle.std.specs.declared.cmp.Ordering.{Ordering}
use Rattle.std.specs.declared.cmp.Ordering.TheVariants.{Less, Equal, Greater}
use Rattle.std.specs.Ordering.{eq_by_cmp, is_eq}
use Rattle.std.specs.Cmp.{IsTotalOrder, tied_itself}
use Rattle.std.specs.List.{list_any}
use Rattle.std.specs.Prelude.{is_some}
use Rattle.std.specs.FinMap.{FinMap, entries, get, contains_key, contains_key-keys, remove, len, len-entries, len-remove, get-remove, get_tied}

tied : (r : Ordering) → is_eq r ≡ true → r ≡ Equal
tied Less e = cc
tied Equal e = refl
tied Greater e = cc

kept : {Z : Type 0} (b : Bool) (x : Option Z) → is_some (cond b None x) ≡ true → (b ≡ false) × (is_some x ≡ true)
kept true x e = cc
kept false x e = (refl, e)

module _ {K : Type 0} {R : K → K → Ordering} (o : IsTotalOrder R) where
  any_first : (k : K) (ks : List K) → list_any (eq_by_cmp R k) (k ∷ ks) ≡ true
  any_first k ks = ap (λ (b : Bool). b || list_any (eq_by_cmp R k) ks) (ap is_eq (tied_itself o k))

  some_key : {X : Type 0} (a : FinMap R X) (es : List (K × X)) (n : ℕ) → entries a ≡ es → length es ≡ suc n → (k : K) × (contains_key a k ≡ true)
  some_key a [] n is e = absurd (omega arith)
  some_key a (e ∷ es) n is l = (e.0, contains_key-keys a e.0 ∙ (ap (λ xs. list_any (eq_by_cmp R e.0) (map (λ x. x.0) xs)) is ∙ any_first e.0 (map (λ x. x.0) es)))

  has_one : {X : Type 0} (b : FinMap R X) (k : K) (es : List (K × X)) → entries b ≡ es → contains_key b k ≡ true → 1 ≤ len b
  has_one b k [] is h = absurd (cc (h, contains_key-keys b k ∙ ap (λ xs. list_any (eq_by_cmp R k) (map (λ x. x.0) xs)) is))
  has_one b k (e ∷ es) is h = let l : len b ≡ suc (length es) = len-entries b ∙ ap length is in omega arith

  less_one : {X : Type 0} (b : FinMap R X) (k : K) → contains_key b k ≡ true → len (remove b k) + 1 ≡ len b
  less_one b k h =
      let l : len (remove b k) ≡ len b - 1 = len-remove o b k ∙ ap (λ (t : Bool). cond t (len b - 1) (len b)) h in
      let some = has_one b k (entries b) refl h in
      omega arith

  abbrev pub IsWithin : {X Y : Type 0} → FinMap R X → FinMap R Y → Type 0
  IsWithin a b = (q : K) → contains_key a q ≡ true → contains_key b q ≡ true

  module _ {X Y : Type 0} where
    within_removed : (a : FinMap R X) (b : FinMap R Y) (k : K) → IsWithin a b → IsWithin (remove a k) (remove b k)
    within_removed a b k within q h =
        let w = kept (eq_by_cmp R q k) (get a q) (ap is_some (sym (get-remove o a k q)) ∙ h) in
        ap is_some (get-remove o b k q) ∙ (ap (λ (t : Bool). is_some (cond t None (get b q))) w.0 ∙ within q w.1)

    few_by : (n : ℕ) (a : FinMap R X) (b : FinMap R Y) → len a ≡ n → IsWithin a b → len a ≤ len b
    few_by zero a b e within = omega arith
    few_by (suc n) a b e within =
        let k = some_key a (entries a) n refl (sym (len-entries a) ∙ e) in
        let la = less_one a k.0 k.1 in
        let lb = less_one b k.0 (within k.0 k.1) in
        let rest = few_by n (remove a k.0) (remove b k.0) (omega arith) (within_removed a b k.0 within) in
        omega arith

    pub few : (a : FinMap R X) (b : FinMap R Y) → IsWithin a b → len a ≤ len b
    few a b within = few_by (len a) a b refl within

    -- and fewer if one of them is missing
    pub fewer : (a : FinMap R X) (b : FinMap R Y) (k : K) → IsWithin a b → contains_key b k ≡ true → contains_key a k ≡ false → len a + 1 ≤ len b
    fewer a b k within there missing =
        let lb = less_one b k there in
        let rest = few a (remove b k) without in
        omega arith
      where
        apart : (q : K) (t : Bool) → eq_by_cmp R q k ≡ t → contains_key a q ≡ true → t ≡ false
        apart q false e h = refl
        apart q true e h = absurd (cc (missing, ap is_some (get_tied o a q k (tied (R q k) e)), h))

        without : IsWithin a (remove b k)
        without q h = ap is_some (get-remove o b k q) ∙ (ap (λ (t : Bool). is_some (cond t None (get b q))) (apart q (eq_by_cmp R q k) refl h) ∙ within q h)
