use Rattle.std.proofs.Common.{◌≡◌, ℕ, ◌-◌, suc, List, [], ◌∷◌, length, map, None, Some, slice_get, option_map, refl, ap, subst, ◌∙◌, arith}
use Rattle.std.specs.List.{last_or}
use Rattle.si_model.specs.Replies.{item_of}
use Rattle.si_model.specs.declared.scans.ScanItem.{ScanItem}
use Rattle.txn_client.proofs.scan.Gathered.last.Goals as goal

fewer : {A : Type 0} (x y : A) (xs : List A) → length (x ∷ y ∷ xs) - 1 ≡ suc (length (y ∷ xs) - 1)
fewer x y xs = omega arith

last_named : (items : List ScanItem) → option_map (λ item. item.cell) (slice_get items (length items - 1)) ≡ option_map (λ item. item.0) (last_or None (map item_of items))
last_named [] = refl
last_named (x ∷ []) = refl
last_named (x ∷ y ∷ items) = ap (λ (k : ℕ). option_map (λ item. item.cell) (slice_get (x ∷ y ∷ items) k)) (fewer x y items) ∙ last_named (y ∷ items)

pub returns-in-Some-last : goal.returns-in-Some-last
returns-in-Some-last c =
    let items = c.args.self.now.items.items in
    let at : Some c.in-Some-last.item.now ≡ slice_get items (length items - 1) = subst (λ (is : List ScanItem). Some c.in-Some-last.item.now ≡ slice_get is (length is - 1)) c.deref.ensures.value c.in-Some-last.ensures.value in
    rw c.in_default.is (ap (option_map (λ (item : ScanItem). item.cell)) at ∙ last_named items)
