-- The first entry of a range of slots, none of which is empty, is the first cell there.
use Rattle.std.proofs.Common.{◌≡◌, ℕ, true, List, [], ◌∷◌, Option, Some, None, is_some, refl, ap, ◌∙◌}
use Rattle.std.specs.declared.vec.Vec.{Vec}
use Rattle.std.specs.declared.cmp.Ordering.TheVariants.{Less}
use Rattle.std.specs.declared.ops.Bound.{Bound}
use Rattle.std.specs.Ordering.{is_gt, ordering_reverse}
use Rattle.std.specs.BTreeMap.{BTreeMap}
use Rattle.std.specs.BTreeMap.Range.{IsInRange, IsRangeOf}
use Rattle.cell_key.specs.Keys.{key_cmp, key_cmp_total}
use Rattle.cell_key.specs.declared.keys.CellKey.{CellKey}
use Rattle.rows.specs.Slots.{slot_cells, slot_at, IsFirstKey}
use Rattle.rows.proofs.SlotLemmas.{content, get_cells, clash}

module _ {Z : Type 0} (m : BTreeMap CellKey (Option (Vec ℕ Z))) (lo hi : Bound CellKey) where
  pub first_none : IsRangeOf key_cmp lo hi m [] → IsFirstKey (slot_cells m.entries) lo hi None
  first_none range key inside = get_cells m.entries key ∙ ap content (range.5 refl key inside)

  pub first_some : (key : CellKey) (value : Vec ℕ Z) (rest : List (CellKey × Option (Vec ℕ Z))) → IsRangeOf key_cmp lo hi m ((key, Some value) ∷ rest) → IsFirstKey (slot_cells m.entries) lo hi (Some (key, value.items))
  first_some key value rest range = (
    range.1.0,
    get_cells m.entries key ∙ ap content range.1.1,
    λ q inside less. get_cells m.entries q ∙ ap content (none_before q inside less (slot_at m.entries q) refl),
  )
    where
      none_before : (q : CellKey) → IsInRange key_cmp lo hi q → key_cmp q key ≡ Less → (o : Option (Option (Vec ℕ Z))) → slot_at m.entries q ≡ o → o ≡ None
      none_before q inside less None e = refl
      none_before q inside less (Some slot) e =
          let above : is_gt (key_cmp key q) ≡ true = ap is_gt (key_cmp_total.antisymm key q ∙ ap ordering_reverse less) in
          absurd (clash (is_gt (key_cmp key q)) above (range.2 q inside (ap is_some e)))
