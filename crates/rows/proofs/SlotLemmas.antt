-- The contents of slots, key by key.
use Rattle.std.proofs.Common.{◌≡◌, ◌≢◌, ℕ, Bool, true, false, cond, List, [], ◌∷◌, Option, Some, None, IsSome, is_some, refl, sym, ap, subst, ◌∙◌, map, zero, suc, arith}
use Rattle.std.specs.declared.vec.Vec.{Vec}
use Rattle.std.specs.declared.cmp.Ordering.{Ordering}
use Rattle.std.specs.declared.cmp.Ordering.TheVariants.{Less, Equal, Greater}
use Rattle.std.specs.Ordering.{is_eq, eq_by_cmp}
use Rattle.std.specs.Cmp.{eq_by_cmp_equiv, tied_itself}
use Rattle.std.specs.FinMap.{empty, get, insert, remove, get-empty, get-insert, get-remove, same_map}
use Rattle.std.specs.List.{All, AllByRecursion}
use Rattle.cell_key.specs.Keys.{key_cmp, key_cmp_total}
use Rattle.cell_key.specs.Cells.{Cells, edited_key}
use Rattle.cell_key.specs.declared.keys.CellKey.{CellKey}
use Rattle.cell_key.specs.declared.edits.Edit.{Edit}
use Rattle.cell_key.proofs.KeyLaws.{exact_keys}
use Rattle.rows.specs.Slots.{slot_cells, slot_at, HasSlot, HasEdited, KeepsSlots, EmptiesNone, AreFilled, IsFullBut}

-- the content of a slot
abbrev pub content : {Z : Type 0} → Option (Option (Vec ℕ Z)) → Option (List ℕ)
content None = None
content (Some None) = None
content (Some (Some value)) = Some value.items

content-cond : {Z : Type 0} (b : Bool) (w r : Option (Option (Vec ℕ Z))) → content (cond b w r) ≡ cond b (content w) (content r)
content-cond true w r = refl
content-cond false w r = refl

-- a cell's value is its slot's content
pub get_cells : {Z : Type 0} (slots : List (CellKey × Option (Vec ℕ Z))) (q : CellKey) → get (slot_cells slots) q ≡ content (slot_at slots q)
get_cells [] q = get-empty key_cmp q
get_cells ((key, None) ∷ slots) q =
    get-remove key_cmp_total (slot_cells slots) key q
    ∙ ap (cond (eq_by_cmp key_cmp q key) None) (get_cells slots q)
    ∙ sym (content-cond (eq_by_cmp key_cmp q key) (Some None) (slot_at slots q))
get_cells ((key, Some value) ∷ slots) q =
    get-insert key_cmp_total (slot_cells slots) key value.items q
    ∙ ap (cond (eq_by_cmp key_cmp q key) (Some value.items)) (get_cells slots q)
    ∙ sym (content-cond (eq_by_cmp key_cmp q key) (Some (Some value)) (slot_at slots q))

turned : (k q : CellKey) → eq_by_cmp key_cmp k q ≡ eq_by_cmp key_cmp q k
turned k q = (eq_by_cmp_equiv key_cmp_total).symm k q

tied : (r : Ordering) → is_eq r ≡ true → r ≡ Equal
tied Less e = cc
tied Equal e = refl
tied Greater e = cc

-- keys that compare equal are equal
pub same_at : (k q : CellKey) → eq_by_cmp key_cmp k q ≡ true → k ≡ q
same_at k q e = exact_keys k q (tied (key_cmp k q) e)

module _ {Z : Type 0} (old new : List (CellKey × Option (Vec ℕ Z))) (k : CellKey) where
  -- the cells after one slot was set or removed
  at_all : (w : Option (Option (Vec ℕ Z))) → ((q : CellKey) → slot_at new q ≡ cond (eq_by_cmp key_cmp k q) w (slot_at old q)) → (q : CellKey) → get (slot_cells new) q ≡ cond (eq_by_cmp key_cmp q k) (content w) (get (slot_cells old) q)
  at_all w h q =
      get_cells new q ∙ ap content (h q) ∙ content-cond (eq_by_cmp key_cmp k q) w (slot_at old q)
      ∙ ap (λ (b : Bool). cond b (content w) (content (slot_at old q))) (turned k q)
      ∙ ap (cond (eq_by_cmp key_cmp q k) (content w)) (sym (get_cells old q))

  pub cells_after_fill : (v : Vec ℕ Z) → ((q : CellKey) → slot_at new q ≡ cond (eq_by_cmp key_cmp k q) (Some (Some v)) (slot_at old q)) → slot_cells new ≡ insert (slot_cells old) k v.items
  cells_after_fill v h = same_map key_cmp_total exact_keys (slot_cells new) (insert (slot_cells old) k v.items) (λ q. at_all (Some (Some v)) h q ∙ sym (get-insert key_cmp_total (slot_cells old) k v.items q))

  -- an empty slot, like a missing one, is no cell
  pub cells_after_none : (w : Option (Option (Vec ℕ Z))) → content w ≡ None → ((q : CellKey) → slot_at new q ≡ cond (eq_by_cmp key_cmp k q) w (slot_at old q)) → slot_cells new ≡ remove (slot_cells old) k
  cells_after_none w none h =
      same_map key_cmp_total exact_keys (slot_cells new) (remove (slot_cells old) k)
      (λ q. at_all w h q ∙ ap (λ (o : Option (List ℕ)). cond (eq_by_cmp key_cmp q k) o (get (slot_cells old) q)) none ∙ sym (get-remove key_cmp_total (slot_cells old) k q))

pub absent_none : {X : Type 0} (o : Option X) → is_some o ≡ false → o ≡ None
absent_none None e = refl
absent_none (Some x) e = cc

-- removing a missing key changes nothing
remove_absent : (cells : Cells) (k : CellKey) → get cells k ≡ None → remove cells k ≡ cells
remove_absent cells k none = same_map key_cmp_total exact_keys (remove cells k) cells (λ q. get-remove key_cmp_total cells k q ∙ go q (eq_by_cmp key_cmp q k) refl)
  where
    go : (q : CellKey) (b : Bool) → eq_by_cmp key_cmp q k ≡ b → cond b None (get cells q) ≡ get cells q
    go q true e = sym (ap (get cells) (same_at q k e) ∙ none)
    go q false e = refl

-- if there was no cell, setting its slot to empty or removing it changes no cell
pub cells_same : {Z : Type 0} (old new : List (CellKey × Option (Vec ℕ Z))) (k : CellKey) (w : Option (Option (Vec ℕ Z))) → content w ≡ None → content (slot_at old k) ≡ None → ((q : CellKey) → slot_at new q ≡ cond (eq_by_cmp key_cmp k q) w (slot_at old q)) → slot_cells new ≡ slot_cells old
cells_same old new k w none before h = cells_after_none old new k w none h ∙ remove_absent (slot_cells old) k (get_cells old k ∙ before)

-- a slot that is set changes no other key
pub elsewhere : {X : Type 0} (old new : List (CellKey × X)) (k : CellKey) (w : Option X) → ((q : CellKey) → slot_at new q ≡ cond (eq_by_cmp key_cmp k q) w (slot_at old q)) → (q : CellKey) → k ≢ q → slot_at new q ≡ slot_at old q
elsewhere old new k w h q apart = h q ∙ go (eq_by_cmp key_cmp k q) refl
  where
    go : (b : Bool) → eq_by_cmp key_cmp k q ≡ b → cond b w (slot_at old q) ≡ slot_at old q
    go true e = absurd (apart (same_at k q e))
    go false e = refl

-- a slot that is set exists, and no other one is removed
pub set_keeps : {X : Type 0} (old new : List (CellKey × X)) (k : CellKey) (w : X) → ((q : CellKey) → slot_at new q ≡ cond (eq_by_cmp key_cmp k q) (Some w) (slot_at old q)) → KeepsSlots old new
set_keeps {X} old new k w h q has = subst (λ (o : Option X). IsSome o) (sym (h q)) (go (eq_by_cmp key_cmp k q))
  where
    go : (b : Bool) → IsSome (cond b (Some w) (slot_at old q))
    go true = refl
    go false = has

pub set_has : {X : Type 0} (old new : List (CellKey × X)) (k : CellKey) (w : X) → ((q : CellKey) → slot_at new q ≡ cond (eq_by_cmp key_cmp k q) (Some w) (slot_at old q)) → HasSlot new k
set_has {X} old new k w h = subst (λ (o : Option X). IsSome o) (sym (h k ∙ ap (λ (b : Bool). cond b (Some w) (slot_at old k)) (ap is_eq (tied_itself key_cmp_total k)))) refl

-- edits whose keys have slots still have them if no slot is removed
pub slots_kept : {X : Type 0} (old new : List (CellKey × X)) → KeepsSlots old new → (edits : List Edit) → AllByRecursion (HasEdited old) edits → AllByRecursion (HasEdited new) edits
slots_kept old new kept [] all = tt
slots_kept old new kept (edit ∷ edits) all = (kept (edited_key edit) all.0, slots_kept old new kept edits all.1)

pub not_empty : {X : Type 0} (o : Option (Option X)) → o ≡ None → o ≡ Some None → ⊥
not_empty o none empty = cc

pub clash : (b : Bool) → b ≡ true → b ≡ false → ⊥
clash b e f = cc

-- once a key's slot is not empty, the key can be left out of the list
pub full_but_rest : {X : Type 0} (old new : List (CellKey × Option X)) (k : CellKey) (keys : List CellKey) → slot_at new k ≢ Some None → ((q : CellKey) → k ≢ q → slot_at new q ≡ slot_at old q) → IsFullBut (k ∷ keys) old → IsFullBut keys new
full_but_rest old new k keys filled same full q others empty = go (eq_by_cmp key_cmp k q) refl
  where
    go : (b : Bool) → eq_by_cmp key_cmp k q ≡ b → ⊥
    go true e = filled (ap (slot_at new) (same_at k q e) ∙ empty)
    go false e =
        let apart : k ≢ q = λ same_key. clash (eq_by_cmp key_cmp k q) (ap (eq_by_cmp key_cmp k) (sym same_key) ∙ ap is_eq (tied_itself key_cmp_total k)) e in
        full q (apart, others) (sym (same q apart) ∙ empty)

-- so can a key whose slot was removed
pub full_without : {X : Type 0} (old new : List (CellKey × Option X)) (k : CellKey) (keys : List CellKey) → ((q : CellKey) → slot_at new q ≡ cond (eq_by_cmp key_cmp k q) None (slot_at old q)) → IsFullBut (k ∷ keys) old → IsFullBut keys new
full_without {X} old new k keys h full =
    let none : slot_at new k ≡ None = h k ∙ ap (λ (b : Bool). cond b None (slot_at old k)) (ap is_eq (tied_itself key_cmp_total k)) in
    full_but_rest old new k keys (not_empty (slot_at new k) none) (elsewhere old new k None h) full

-- each of the keys of edits has a slot
pub edits_have_slots : {X : Type 0} (slots : List (CellKey × X)) (edits : List Edit) → AllByRecursion (HasSlot slots) (map edited_key edits) → AllByRecursion (HasEdited slots) edits
edits_have_slots slots [] all = tt
edits_have_slots slots (edit ∷ edits) all = (all.0, edits_have_slots slots edits all.1)

pub keys_differ : (key : CellKey) (edits : List Edit) → AllByRecursion (λ other. other ≢ key) (map edited_key edits) → AllByRecursion (λ edit. edited_key edit ≢ key) edits
keys_differ key [] all = tt
keys_differ key (edit ∷ edits) all = (all.0, keys_differ key edits all.1)

-- a property of all elements, by recursion and by index
pub in_turn : {X : Type 0} (P : X → Type 0) (xs : List X) → All P xs → AllByRecursion P xs
in_turn P [] all = tt
in_turn P (x ∷ xs) all = (all 0 x (omega arith), in_turn P xs (λ k d h. all (suc k) d (omega (arith, h))))

pub by_place : {X : Type 0} (P : X → Type 0) (xs : List X) → AllByRecursion P xs → All P xs
by_place P [] all k d h = absurd (omega (arith, h))
by_place P (x ∷ xs) all zero d h = all.0
by_place P (x ∷ xs) all (suc k) d h = by_place P xs all.1 k d (omega (arith, h))

-- if the keys of edits have slots, the edits can be made
pub ready : {X : Type 0} (slots : List (CellKey × X)) (keys : List CellKey) (edits : List Edit) → keys ≡ map edited_key edits → All (HasSlot slots) keys → AllByRecursion (HasEdited slots) edits
ready slots keys edits e all = edits_have_slots slots edits (subst (λ (ks : List CellKey). AllByRecursion (HasSlot slots) ks) e (in_turn (HasSlot slots) keys all))

module _ {X : Type 0} (old made : List (CellKey × Option X)) (keys : List CellKey) where
  -- only the keys got empty slots
  pub but_made : AreFilled old → EmptiesNone (λ q. All (λ key. key ≢ q) keys) old made → IsFullBut keys made
  but_made full empties q others empty = full q (empties q (by_place (λ key. key ≢ q) keys others) empty)

  -- and only they have them once the edits are made
  pub but_written : (new : List (CellKey × Option X)) (edits : List Edit) → keys ≡ map edited_key edits → AreFilled old → EmptiesNone (λ q. All (λ key. key ≢ q) keys) old made → EmptiesNone (λ q. AllByRecursion (λ edit. edited_key edit ≢ q) edits) made new → IsFullBut keys new
  but_written new edits e full empties later q others empty =
      but_made full empties q others (later q (keys_differ q edits (subst (λ (ks : List CellKey). AllByRecursion (λ key. key ≢ q) ks) e others)) empty)
