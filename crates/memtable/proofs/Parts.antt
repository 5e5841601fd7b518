-- Parts of the entries of a block: all entries before a part are below a text, and none from its end on is.
use Rattle.std.proofs.Common.{◌≡◌, ◌<◌, ◌≤◌, ◌+◌, ℕ, zero, suc, Bool, true, false, T, List, [], ◌∷◌, length, get_or, refl, sym, ap, subst, ◌∙◌, arith}
use Rattle.std.proofs.lemmas.List.{get_or_default}
use Rattle.std.specs.Ordering.{is_gt, ordering_reverse}
use Rattle.std.specs.Cmp.Lexicographic.{nat_list_cmp_total}
use Rattle.std.specs.FinMap.Entries.{below_all}
use Rattle.std.specs.declared.cmp.Ordering.TheVariants.{Less, Equal}
use Rattle.std.specs.declared.boxed.Box.{Box}
use Rattle.cell_key.specs.Keys.{byte_cmp}
use Rattle.cell_key.specs.Entries.{IsPlace, IsRising}
use Rattle.cell_key.proofs.TextPlaces.{at_point, clash, first, less, one_text, parted, second}
use Rattle.memtable.specs.declared.entries.Slot.{Slot}
use Rattle.memtable.specs.Slots.{slot_entry, slot_entries, AreBelow, AreNotBelow, IsPartOf}

below_at : {A : Type 0} (low : List ℕ) (xs : List (Box Slot A)) (j : ℕ) (d : Box Slot A) → T (below_all byte_cmp low (slot_entries xs)) → j < length xs → byte_cmp low (get_or xs j d).value.text ≡ Less
below_at low [] j d h lt = absurd (omega arith)
below_at low (x ∷ xs) zero d h lt = less _ (first _ _ h)
below_at low (x ∷ xs) (suc j) d h lt = below_at low xs j d (second _ _ h) (omega arith)

-- of two entries the earlier one has the lesser text
in_order : {A : Type 0} (xs : List (Box Slot A)) → IsRising (slot_entries xs) → (i j : ℕ) (d : Box Slot A) → i < j → j < length xs → byte_cmp (get_or xs i d).value.text (get_or xs j d).value.text ≡ Less
in_order [] r i j d lt within = absurd (omega arith)
in_order (x ∷ xs) r i zero d lt within = absurd (omega arith)
in_order (x ∷ xs) r zero (suc j) d lt within = below_at x.value.text xs j d (first _ _ r) (omega arith)
in_order (x ∷ xs) r (suc i) (suc j) d lt within = in_order xs (second _ _ r) i j d (omega arith) (omega arith)

module _ {A : Type 0} (name : List ℕ) (xs : List (Box Slot A)) (r : IsRising (slot_entries xs)) where
  -- if an entry is below the text, all before it are
  pub up_to : (j : ℕ) (x : Box Slot A) → j < length xs → x ≡ get_or xs j x → is_gt (byte_cmp name x.value.text) ≡ true → AreBelow name xs (j + 1)
  up_to j x lt is below = λ k d before within.
      parted (λ (s : Box Slot A). slot_entry s.value) name xs r k j d (omega (arith, before)) lt
      (ap (λ (s : Box Slot A). is_gt (byte_cmp name s.value.text)) (get_or_default xs j d x lt ∙ sym is) ∙ below)

  -- if an entry isn't below the text, none behind it is
  pub from_on : (j : ℕ) (x : Box Slot A) → j < length xs → x ≡ get_or xs j x → is_gt (byte_cmp name x.value.text) ≡ false → AreNotBelow name xs j
  from_on j x lt is above = λ k d behind within. go k d behind within (is_gt (byte_cmp name (get_or xs k d).value.text)) refl
    where
      go : (k : ℕ) (d : Box Slot A) → j ≤ k → k < length xs → (b : Bool) → is_gt (byte_cmp name (get_or xs k d).value.text) ≡ b → is_gt (byte_cmp name (get_or xs k d).value.text) ≡ false
      go k d behind within false e = e
      go k d behind within true e =
          let same = ap (λ (s : Box Slot A). is_gt (byte_cmp name s.value.text)) (get_or_default xs j d x lt ∙ sym is) ∙ above in
          absurd (clash _ (parted (λ (s : Box Slot A). slot_entry s.value) name xs r j k d behind within e) same)

  -- all entries before one with the text are below it
  pub before : (j : ℕ) (x : Box Slot A) → j < length xs → x ≡ get_or xs j x → byte_cmp name x.value.text ≡ Equal → AreBelow name xs j
  before j x lt is tie = λ k d less within.
      let one = one_text name x.value.text tie in
      let above = subst (λ (n : List ℕ). byte_cmp (get_or xs k d).value.text n ≡ Less) (sym one) (rising_pair k d less) in
      ap is_gt (nat_list_cmp_total.antisymm name (get_or xs k d).value.text ∙ ap ordering_reverse above)
    where
      rising_pair : (k : ℕ) (d : Box Slot A) → k < j → byte_cmp (get_or xs k d).value.text x.value.text ≡ Less
      rising_pair k d less = subst (λ (s : Box Slot A). byte_cmp (get_or xs k d).value.text s.value.text ≡ Less) (get_or_default xs j d x lt ∙ sym is) (in_order xs r k j d less lt)

  -- an empty part is at the text's place
  pub part_place : (i : ℕ) → IsPartOf name xs i i → IsPlace name (slot_entries xs) i
  part_place i part = at_point (λ (s : Box Slot A). slot_entry s.value) name xs i part.within (λ k d least before. part.below k d before (let w = part.within in omega (arith, before, w))) part.above
