-- Blocks of slots.
use Rattle.std.proofs.Common.{◌≡◌, ◌<◌, ◌≤◌, ◌+◌, ◌⊎◌, inl, inr, ℕ, zero, suc, Bool, true, false, nat_eq, nat_lt, ◌≢◌, List, [], ◌∷◌, length, map, get_or, set, Option, refl, sym, ap, subst, ◌∙◌, arith, vec_len}
use Rattle.std.proofs.lemmas.Bool.Decides.{nat_tests}
use Rattle.std.proofs.lemmas.List.{get_or_default, length-map}
use Rattle.std.specs.List.{AllByRecursion}
use Rattle.std.specs.Ordering.{is_gt}
use Rattle.std.specs.FinMap.Entries.{put}
use Rattle.cell_key.specs.Keys.{byte_cmp}
use Rattle.cell_key.specs.Entries.{Entry, IsPlace, IsRising, entry_of_key}
use Rattle.memtable.specs.declared.blocks.Block.{Block}
use Rattle.memtable.specs.declared.blocks.Place.{Place}
use Rattle.memtable.specs.Slots.{slot_entry}
use Rattle.memtable.specs.Blocks.{ends_below, list_of, lists_of, block_entries, IsBlockIndex, IsCounted, IsEndOf, IsEntryBlock, IsFullAt, IsPlaceAmong}
use Rattle.memtable.proofs.BlockLists.{all_at, all_set, each_passed, end_point, ends_at_place, first_point, found_in, found_last, inner_point, place_at_end, put_in, put_last, rising_at, stays_at_place}

-- a block has entries
block_some : (block : Block) → IsEntryBlock block → 1 ≤ length (list_of block)
block_some block is = let some = is.some in let len = block.slots.ok.0 in let same = length-map block.slots.items (λ slot. slot_entry slot.value) in omega (arith, len, same)

pub blocks_some : (blocks : List Block) → AllByRecursion IsEntryBlock blocks → AllByRecursion (λ block. 1 ≤ length (list_of block)) blocks
blocks_some [] all = tt
blocks_some (block ∷ blocks) all = (block_some block all.0, blocks_some blocks all.1)

-- the place of a text in a block is its place in all blocks if the block before ends below the text
module _ (name : List ℕ) (xs : List Block) (rising : IsRising (block_entries xs)) (all : AllByRecursion IsEntryBlock xs) (i j : ℕ) (lt : i < length xs) (place : (d : Block) → IsPlace name (list_of (get_or xs i d)) j) where
  one_at : (d : Block) → get_or xs i d ≡ get_or xs i (get_or xs i d)
  one_at d = get_or_default xs i d (get_or xs i d) lt

  pub some_at : (d : Block) → 1 ≤ length (list_of (get_or xs i d))
  some_at d = all_at (λ (b : Block). 1 ≤ length (list_of b)) xs i (get_or xs i d) (blocks_some xs all) lt (one_at d)

  rising_one : (d : Block) → IsRising (list_of (get_or xs i d))
  rising_one d = rising_at list_of xs i (get_or xs i d) rising lt (one_at d)

  -- a place behind all entries of the last block is behind all blocks
  pub place_behind : i + 1 ≡ length xs → ((d : Block) → j ≡ length (list_of (get_or xs i d))) → IsPlaceAmong name xs (record { block = i + 1; slot = 0 })
  place_behind last end = record {
    block = subst (IsBlockIndex name (lists_of xs)) (sym last)
        (end_point list_of name xs i rising (blocks_some xs all) (omega (arith, last)) (λ d. ends_at_place name (list_of (get_or xs i d)) j (some_at d) (place d) (end d)));
    slot = λ d within. absurd (omega (arith, last, within));
  }

  module _ (inside : (d : Block) → j < length (list_of (get_or xs i d))) where
    stays : (d : Block) → ends_below name (list_of (get_or xs i d)) ≡ false
    stays d = stays_at_place name (list_of (get_or xs i d)) j (rising_one d) (place d) (inside d)

    pub place_within : 0 < j → IsPlaceAmong name xs (record { block = i; slot = j })
    place_within inner = record {
      block = inner_point list_of name xs i j rising (blocks_some xs all) lt place inner stays;
      slot = λ d within. place d;
    }

    pub place_after : ((k : ℕ) (d : Block) → suc k ≡ i → ends_below name (list_of (get_or xs k d)) ≡ true) → IsPlaceAmong name xs (record { block = i; slot = j })
    place_after ends = record {
      block = first_point list_of name xs i rising (blocks_some xs all) lt stays ends;
      slot = λ d within. place d;
    }

-- where an entry is put, given its place
module _ (xs : List Block) (place at : Place) (some : 1 ≤ length xs) (inside : place.block < length xs → at ≡ place) (end : length xs ≤ place.block → IsEndOf xs at) where
  is_inside : (place.block < length xs) ⊎ (length xs ≤ place.block)
  is_inside = go (nat_lt place.block (length xs)) refl
    where
      go : (b : Bool) → nat_lt place.block (length xs) ≡ b → (place.block < length xs) ⊎ (length xs ≤ place.block)
      go true e = inl (grind (arith, nat_tests))
      go false e = inr (grind (arith, nat_tests))

  pub at_within : at.block < length xs
  at_within = go is_inside
    where
      go : (place.block < length xs) ⊎ (length xs ≤ place.block) → at.block < length xs
      go (inl lt) = subst (λ (p : Place). p.block < length xs) (sym (inside lt)) lt
      go (inr le) = let last = (end le).block in omega (arith, last)

  pub at_other : at.block ≢ place.block → (at.block + 1 ≡ length xs) × (length xs ≤ place.block)
  at_other other = go is_inside
    where
      go : (place.block < length xs) ⊎ (length xs ≤ place.block) → (at.block + 1 ≡ length xs) × (length xs ≤ place.block)
      go (inl lt) = absurd (other (ap (λ (p : Place). p.block) (inside lt)))
      go (inr le) = ((end le).block, le)

  pub at_place : (name : List ℕ) → IsRising (block_entries xs) → IsPlaceAmong name xs place → (d : Block) → IsPlace name (list_of (get_or xs at.block d)) at.slot
  at_place name rising is d = go is_inside
    where
      go : (place.block < length xs) ⊎ (length xs ≤ place.block) → IsPlace name (list_of (get_or xs at.block d)) at.slot
      go (inl lt) = subst (λ (p : Place). IsPlace name (list_of (get_or xs p.block d)) p.slot) (sym (inside lt)) (is.slot d lt)
      go (inr le) =
          let block = get_or xs at.block d in
          let risen = rising_at list_of xs at.block block rising at_within (get_or_default xs at.block d block at_within) in
          let len = length-map block.slots.items (λ slot. slot_entry slot.value) in
          let items = block.slots.ok.0 in
          let slot = (end le).slot d in
          subst (IsPlace name (list_of block)) (omega (arith, len, items, slot)) (place_at_end name (list_of block) risen (each_passed list_of name xs place.block at.block d is.block le at_within))

-- a list ends below a text if its last entry is below it
pub by_last : {X : Type 0} (f : X → Entry) (name : List ℕ) (xs : List X) (i : ℕ) (x : X) → i + 1 ≡ length xs → x ≡ get_or xs i x → is_gt (byte_cmp name (f x).0) ≡ ends_below name (map f xs)
by_last f name [] i x e g = absurd (omega (arith, e))
by_last f name (y ∷ []) zero x e g = ap (λ (z : _). is_gt (byte_cmp name (f z).0)) g
by_last f name (y ∷ []) (suc i) x e g = absurd (omega (arith, e))
by_last f name (y ∷ z ∷ xs) zero x e g = absurd (omega (arith, e))
by_last f name (y ∷ z ∷ xs) (suc i) x e g = by_last f name (z ∷ xs) i x (omega (arith, e)) g

set_again : {X : Type 0} (xs : List X) (i : ℕ) (x y : X) → set (set xs i x) i y ≡ set xs i y
set_again [] zero x y = refl
set_again [] (suc i) x y = refl
set_again (z ∷ xs) zero x y = refl
set_again (z ∷ xs) (suc i) x y = ap (λ (zs : List _). z ∷ zs) (set_again xs i x y)

pub at_set : {X : Type 0} (xs : List X) (i : ℕ) (x d : X) → i < length xs → get_or (set xs i x) i d ≡ x
at_set [] i x d lt = absurd (omega arith)
at_set (z ∷ xs) zero x d lt = refl
at_set (z ∷ xs) (suc i) x d lt = at_set xs i x d (omega arith)

within_set : {X : Type 0} (xs : List X) (i : ℕ) (x : X) → i < length xs → i < length (set xs i x)
within_set [] i x lt = absurd (omega arith)
within_set (z ∷ xs) zero x lt = omega arith
within_set (z ∷ xs) (suc i) x lt = let h = within_set xs i x (omega arith) in omega (arith, h)

-- a block that became full
pub full_at : (blocks : List Block) (i : ℕ) (block : Block) → i < length blocks → vec_len block.slots ≡ 128 → IsCounted block → AllByRecursion IsEntryBlock blocks → IsFullAt (set blocks i block) i
full_at blocks i block lt full counted all =
    record {
      within = within_set blocks i block lt;
      full = λ d. ap (λ (b : Block). vec_len b.slots) (at_set blocks i block d lt) ∙ full;
      counted = λ d. subst IsCounted (sym (at_set blocks i block d lt)) counted;
      others = λ other is. subst (AllByRecursion IsEntryBlock) (sym (set_again blocks i block other)) (all_set IsEntryBlock blocks i other all is);
    }

-- an entry put into the block at its place, or into the last block if its place is behind all blocks
pub put_chosen : (name : List ℕ) (v : Option (List ℕ)) (old new : Block) → list_of new ≡ put byte_cmp name v (list_of old) → (blocks : List Block) (place at : ℕ) → IsRising (block_entries blocks) → AllByRecursion IsEntryBlock blocks → IsBlockIndex name (lists_of blocks) place → at < length blocks → (at ≢ place → (at + 1 ≡ length blocks) × (length blocks ≤ place)) → old ≡ get_or blocks at old → block_entries (set blocks at new) ≡ put byte_cmp name v (block_entries blocks)
put_chosen name v old new made blocks place at r all p lt last g = go (nat_eq at place) refl
  where
    go : (b : Bool) → nat_eq at place ≡ b → block_entries (set blocks at new) ≡ put byte_cmp name v (block_entries blocks)
    go true e =
        let same : at ≡ place = grind (arith, nat_tests) in
        put_in list_of name v old new made blocks at r (blocks_some blocks all) (subst (IsBlockIndex name (lists_of blocks)) (sym same) p) lt g
    go false e =
        let other = last (λ same. grind (arith, nat_tests)) in
        put_last list_of name v old new made blocks at place r p other.1 other.0 g

-- the entry at the text in the chosen block is the entry in all blocks
pub found_chosen : (name : List ℕ) (old : Block) (blocks : List Block) (place at : ℕ) → IsRising (block_entries blocks) → AllByRecursion IsEntryBlock blocks → IsBlockIndex name (lists_of blocks) place → at < length blocks → (at ≢ place → (at + 1 ≡ length blocks) × (length blocks ≤ place)) → old ≡ get_or blocks at old → entry_of_key (block_entries blocks) name ≡ entry_of_key (list_of old) name
found_chosen name old blocks place at r all p lt last g = go (nat_eq at place) refl
  where
    go : (b : Bool) → nat_eq at place ≡ b → entry_of_key (block_entries blocks) name ≡ entry_of_key (list_of old) name
    go true e =
        let same : at ≡ place = grind (arith, nat_tests) in
        found_in list_of name blocks at old r (blocks_some blocks all) (subst (IsBlockIndex name (lists_of blocks)) (sym same) p) lt g
    go false e =
        let other = last (λ same. grind (arith, nat_tests)) in
        found_last list_of name blocks at place old r p other.1 other.0 g
