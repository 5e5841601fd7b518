-- Reading items in a loop.
use Rattle.std.proofs.Common.{◌≡◌, ℕ, suc, ◌-◌, ◌+◌, ◌≤◌, ◌<◌, List, [], ◌∷◌, ◌++◌, Option, Some, None, refl, sym, ap, ◌∙◌, append_assoc, arith}
use Rattle.std.proofs.lemmas.List.{append-nil}
use Rattle.metadata_table.specs.declared.root.reader.ReadFault.{ReadFault}
use Rattle.metadata_table.specs.declared.root.reader.ReadFault.TheVariants as fault
use Rattle.std.specs.Prelude.{map, flat_map}
use Rattle.std.proofs.lemmas.List.Concat.{flat_map-append}
use Rattle.std.proofs.lemmas.List.{map_push}
use Rattle.metadata_table.specs.Places.{PlaceView}
use Rattle.metadata_table.specs.RootReader.{◌>>=◌, Fails, each_at, placed}

module _ {X : Type 0} (item : List ℕ → Option (X × List ℕ)) where
  -- the items read before, followed by those still to be read
  abbrev pub with_front : List X → Option (List X × List ℕ) → Option (List X × List ℕ)
  with_front front read = read >>= λ x. Some (front ++ x.0, x.1)

  regroup : (front : List X) (n : X) (read : Option (List X × List ℕ)) → with_front front (read >>= λ x. Some (n ∷ x.0, x.1)) ≡ with_front (front ++ n ∷ []) read
  regroup front n (Some x) = ap (λ (ns : List X). Some (ns, x.1)) (simp append_assoc)
  regroup front n None = refl

  pub goes_on : (front : List X) (count i : ℕ) (bytes : List ℕ) (n : X) (after : List ℕ) (total : Option (List X × List ℕ)) → i < count → item bytes ≡ Some (n, after)
      → with_front front (each_at item (count - i) bytes) ≡ total → with_front (front ++ n ∷ []) (each_at item (count - (i + 1)) after) ≡ total
  unfolding each_at
  goes_on front count i bytes n after total lt h so_far =
      let k : count - i ≡ suc (count - (i + 1)) = omega arith in
      let one : with_front front (each_at item (count - i) bytes) ≡ with_front (front ++ n ∷ []) (each_at item (count - (i + 1)) after) = rw (k, h) (regroup front n (each_at item (count - (i + 1)) after)) in
      sym one ∙ so_far

  pub ends : (e : ReadFault) (front : List X) (count i : ℕ) (bytes : List ℕ) (total : Option (List X × List ℕ)) → i < count → Fails e (item bytes)
      → with_front front (each_at item (count - i) bytes) ≡ total → Fails e total
  unfolding each_at
  ends fault.Memory front count i bytes total lt h so_far = tt
  ends fault.Malformed front count i bytes total lt h so_far =
      let k : count - i ≡ suc (count - (i + 1)) = omega arith in
      let one : with_front front (each_at item (count - i) bytes) ≡ None = rw (k, h) refl in
      sym so_far ∙ one

  pub is_done : (front : List X) (count i : ℕ) (bytes : List ℕ) (total : Option (List X × List ℕ)) → count ≤ i → with_front front (each_at item (count - i) bytes) ≡ total → total ≡ Some (front, bytes)
  unfolding each_at
  is_done front count i bytes total le so_far =
      let k : count - i ≡ 0 = omega arith in
      let one : with_front front (each_at item (count - i) bytes) ≡ Some (front, bytes) = rw k (ap (λ (ns : List X). Some (ns, bytes)) (append-nil front)) in
      sym so_far ∙ one

-- a reading that continues from a failed one fails
pub fails_with : {A B : Type 0} (e : ReadFault) (read : Option A) (f : A → Option B) → Fails e read → Fails e (read >>= f)
fails_with fault.Memory read f h = tt
fails_with fault.Malformed (Some x) f h = cc
fails_with fault.Malformed None f h = refl

-- one more place, with the lengths of its files
pub placed_more : (front : List (PlaceView × List ℕ)) (p : PlaceView) (own : List ℕ) (ps : List PlaceView) (lengths : List ℕ) → placed front ≡ (ps, lengths) → placed (front ++ (p, own) ∷ []) ≡ (ps ++ p ∷ [], lengths ++ own)
placed_more front p own ps lengths e =
    let these : map (λ (x : PlaceView × List ℕ). x.0) (front ++ (p, own) ∷ []) ≡ ps ++ p ∷ [] = map_push (λ (x : PlaceView × List ℕ). x.0) front (p, own) ∙ ap (λ (x : List PlaceView × List ℕ). x.0 ++ p ∷ []) e in
    let those : flat_map (λ (x : PlaceView × List ℕ). x.1) (front ++ (p, own) ∷ []) ≡ lengths ++ own =
    flat_map-append (λ (x : PlaceView × List ℕ). x.1) front ((p, own) ∷ []) ∙ ap (λ (l : List ℕ). flat_map (λ (x : PlaceView × List ℕ). x.1) front ++ l) (append-nil own) ∙ ap (λ (x : List PlaceView × List ℕ). x.1 ++ own) e in
    λ i. (these i, those i)
