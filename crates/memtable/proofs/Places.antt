-- Entries put at their place.
use Rattle.std.proofs.Common.{◌≡◌, ◌<◌, ◌≤◌, ℕ, zero, suc, true, false, cond, Some, None, List, [], ◌∷◌, length, map, get_or, set, refl, sym, ap, ◌∙◌, arith}
use Rattle.std.specs.List.{insert}
use Rattle.std.specs.declared.cmp.Ordering.{Ordering}
use Rattle.std.specs.declared.cmp.Ordering.TheVariants.{Less, Equal, Greater}
use Rattle.std.specs.Ordering.{is_eq}
use Rattle.std.specs.FinMap.Entries.{put, by_order, find}
use Rattle.cell_key.specs.Keys.{byte_cmp}
use Rattle.cell_key.specs.Entries.{Entry, IsPlace, IsRising, entry_of_key}
use Rattle.cell_key.proofs.TextPlaces.{clash, equal, find_lower, one_text, second}
use Rattle.memtable.specs.Blocks.{IsBlockIndex}
use Rattle.memtable.specs.Slots.{is_named}

-- a place is within the list, or right behind it
pub place_bound : (name : List ℕ) (es : List Entry) (i : ℕ) → IsPlace name es i → i ≤ length es
place_bound name [] zero p = omega arith
place_bound name [] (suc i) p = absurd p
place_bound name (e ∷ es) zero p = omega arith
place_bound name (e ∷ es) (suc i) p = let h = place_bound name es i p.1 in omega (arith, h)

pub index_bound : (name : List ℕ) (lists : List (List Entry)) (i : ℕ) → IsBlockIndex name lists i → i ≤ length lists
index_bound name [] zero p = omega arith
index_bound name [] (suc i) p = absurd p
index_bound name (es ∷ lists) zero p = omega arith
index_bound name (es ∷ lists) (suc i) p = let h = index_bound name lists i p.1 in omega (arith, h)

module _ {X : Type 0} (f : X → Entry) (name : List ℕ) where
  pub named_some : (xs : List X) (i : ℕ) (x : X) → i < length xs → x ≡ get_or xs i x → is_named name (map f xs) i ≡ is_eq (byte_cmp name (f x).0)
  named_some [] i x lt g = absurd (omega arith)
  named_some (y ∷ xs) zero x lt g = ap (λ (z : X). is_eq (byte_cmp name (f z).0)) (sym g)
  named_some (y ∷ xs) (suc i) x lt g = named_some xs i x (omega arith) g

  pub named_none : (xs : List X) (i : ℕ) → length xs ≤ i → is_named name (map f xs) i ≡ false
  named_none [] i le = refl
  named_none (y ∷ xs) zero le = absurd (omega arith)
  named_none (y ∷ xs) (suc i) le = named_none xs i (omega arith)

  pub named_within : (xs : List X) (i : ℕ) → is_named name (map f xs) i ≡ true → i < length xs
  named_within [] i t = cc
  named_within (y ∷ xs) zero t = omega arith
  named_within (y ∷ xs) (suc i) t = let h = named_within xs i t in omega arith

  -- an entry put at its place is inserted, or replaces the entry with its text
  pub put_beside : (x : X) (xs : List X) (i : ℕ) → (f x).0 ≡ name → IsPlace name (map f xs) i → is_named name (map f xs) i ≡ false → map f (insert xs i x) ≡ put byte_cmp name (f x).1 (map f xs)
  put_beside x [] zero s p n = λ j. (s j, (f x).1) ∷ []
  put_beside x [] (suc i) s p n = absurd p
  put_beside x (y ∷ xs) zero s p n = go (byte_cmp name (f y).0) refl
    where
      go : (o : Ordering) → byte_cmp name (f y).0 ≡ o → f x ∷ f y ∷ map f xs ≡ by_order (byte_cmp name (f y).0) ((name, (f x).1) ∷ f y ∷ map f xs) (((f y).0, (f x).1) ∷ map f xs) (f y ∷ put byte_cmp name (f x).1 (map f xs))
      go Less e = rw e (λ j. (s j, (f x).1) ∷ f y ∷ map f xs)
      go Equal e = absurd (clash _ (ap is_eq e) n)
      go Greater e = absurd (p e)
  put_beside x (y ∷ xs) (suc i) s p n = rw p.0 (ap (λ (es : List Entry). f y ∷ es) (put_beside x xs i s p.1 n))

  pub put_over : (x : X) (xs : List X) (i : ℕ) → (f x).0 ≡ name → IsPlace name (map f xs) i → is_named name (map f xs) i ≡ true → map f (set xs i x) ≡ put byte_cmp name (f x).1 (map f xs)
  put_over x [] i s p t = cc
  put_over x (y ∷ xs) zero s p t =
      let tie : byte_cmp name (f y).0 ≡ Equal = equal _ t in
      rw tie (λ j. ((s ∙ one_text name (f y).0 tie) j, (f x).1) ∷ map f xs)
  put_over x (y ∷ xs) (suc i) s p t = rw p.0 (ap (λ (es : List Entry). f y ∷ es) (put_over x xs i s p.1 t))

  -- if the entry at the place has another text, there is no entry with the text
  pub not_found : (xs : List X) (i : ℕ) → IsRising (map f xs) → IsPlace name (map f xs) i → is_named name (map f xs) i ≡ false → entry_of_key (map f xs) name ≡ None
  not_found [] i r p n = refl
  not_found (y ∷ xs) zero r p n = go (byte_cmp name (f y).0) refl
    where
      go : (o : Ordering) → byte_cmp name (f y).0 ≡ o → entry_of_key (map f (y ∷ xs)) name ≡ None
      go Less e = find_lower name (f y) (map f xs) r e
      go Equal e = absurd (clash _ (ap is_eq e) n)
      go Greater e = absurd (p e)
  not_found (y ∷ xs) (suc i) r p n = ap (λ (o : Ordering). cond (is_eq o) (Some (f y).1) (find byte_cmp name (map f xs))) p.0 ∙ not_found xs i (second _ _ r) p.1 n
