-- Locks among keys, and the keys of kept locks.
use Rattle.std.proofs.Common.{◌≡◌, ◌<◌, ◌+◌, ◌⊎◌, ⊎_elim, ℕ, zero, suc, true, List, [], ◌∷◌, ◌++◌, length, map, take, get_or, Contains, sym, ap, subst, arith}
use Rattle.std.proofs.lemmas.List.{take_more}
use Rattle.std.proofs.lemmas.List.Elements.{Contains-append_left, Contains-push_cases, Contains-append_right}
use Rattle.std.specs.Prelude.{IfOk}
use Rattle.std.specs.List.{HoldsAt}
use Rattle.std.specs.List.Sorted.{IsSearchInRange}
use Rattle.std.specs.Result.{is_ok}
use Rattle.std.specs.declared.result.Result.{Result}
use Rattle.std.specs.declared.result.Result.TheVariants.{Ok, Err}
use Rattle.std.specs.declared.cmp.Ordering.TheVariants.{Equal}
use Rattle.cell_key.specs.Keys.{key_cmp}
use Rattle.cell_key.specs.declared.keys.CellKey.{CellKey}
use Rattle.cell_key.proofs.KeyLaws.{exact_keys}
use Rattle.sorted_file.specs.Numbers.{IsAmong}

-- a key found by binary search is among the keys
pub found_among : (keys : List CellKey) (key : CellKey) (found : Result ℕ ℕ) → IsSearchInRange found (length keys) → IfOk found (HoldsAt (λ y. key_cmp y key ≡ Equal) keys) → is_ok found ≡ true → Contains keys key
found_among keys key (Ok k) bound at is = (k, bound, exact_keys (get_or keys k key) key (at key))
found_among keys key (Err k) bound at is = cc

pub none_in : {A : Type 0} (xs : List A) → xs ≡ [] → (x : A) → ¬ Contains xs x
none_in xs e x there = let size = ap length e in let below = there.1 in omega (arith, size, below)

module _ (named old new xs : List CellKey) (i : ℕ) (d : CellKey) (within : i < length xs) where
  one_more : take (i + 1) xs ≡ take i xs ++ get_or xs i d ∷ []
  one_more = take_more xs i d within

  -- one more lock, which is kept unless it is named
  pub kept_more : ((key : CellKey) → Contains (take i xs) key → ¬ Contains named key → Contains old key) → IsAmong old new → (¬ Contains named (get_or xs i d) → Contains new (get_or xs i d))
      → (key : CellKey) → Contains (take (i + 1) xs) key → ¬ Contains named key → Contains new key
  kept_more before keeps has key there unnamed =
      ⊎_elim (λ (at : Contains (take i xs) key). keeps key (before key at unnamed))
      (λ (is : get_or xs i d ≡ key). subst (λ (k : CellKey). Contains new k) is (has (λ named_too. unnamed (subst (λ (k : CellKey). Contains named k) is named_too))))
      (Contains-push_cases (take i xs) (get_or xs i d) key (subst (λ (l : List CellKey). Contains l key) one_more there))

  pub only_more : IsAmong old (take i xs) → ((key : CellKey) → Contains new key → Contains old key ⊎ (get_or xs i d ≡ key)) → IsAmong new (take (i + 1) xs)
  only_more before only key there =
      subst (λ (l : List CellKey). Contains l key) (sym one_more)
      (⊎_elim (λ (at : Contains old key). Contains-append_left (take i xs) (get_or xs i d ∷ []) key (before key at))
      (λ (is : get_or xs i d ≡ key). Contains-append_right (take i xs) (get_or xs i d ∷ []) key (0, omega arith, is))
      (only key there))

-- ---- an image of each lock

contains_map_at : {A B : Type 0} (f : A → B) (xs : List A) (x : A) (i : ℕ) → i < length xs → get_or xs i x ≡ x → Contains (map f xs) (f x)
contains_map_at f [] x i below is = absurd (omega (arith, below))
contains_map_at f (y ∷ ys) x zero below is = (0, omega arith, ap f is)
contains_map_at f (y ∷ ys) x (suc i) below is = let rest = contains_map_at f ys x i (omega (arith, below)) is in let lt = rest.1 in (suc rest.0, omega (arith, lt), rest.2)

pub contains_map : {A B : Type 0} (f : A → B) (xs : List A) (x : A) → Contains xs x → Contains (map f xs) (f x)
contains_map f xs x there = contains_map_at f xs x there.0 there.1 there.2
