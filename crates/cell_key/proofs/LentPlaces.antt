-- Keys that are borrowed as their texts and have the same place.
use Rattle.std.proofs.Common.{◌≡◌, ◌<◌, ◌^◌, ◌-◌, ℕ, List, ◌++◌, length, take, sym, ap, ◌∙◌, arith}
use Rattle.std.proofs.Math.Seq.{take-append_seam}
use Rattle.std.specs.Ordering.{nat_cmp, ordering_then}
use Rattle.std.specs.declared.cmp.Ordering.TheVariants.{Less}
use Rattle.std.specs.Cmp.{nat_cmp_is, tied_itself}
use Rattle.std.specs.Cmp.Lexicographic.{nat_list_cmp_total}
use Rattle.cell_key.specs.Cells.{version}
use Rattle.cell_key.specs.Keys.{byte_cmp, qualifier_name, text, IsKey, IsStored}
use Rattle.cell_key.specs.LentKeys.{IsLentKey}
use Rattle.cell_key.specs.Texts.{ended, place_text, stamp_text}
use Rattle.cell_key.specs.declared.keys.CellKey.{CellKey}
use Rattle.cell_key.specs.declared.keys.Qualifier.{Qualifier}
use Rattle.cell_key.specs.declared.lent_keys.KeyRef.{KeyRef}
use Rattle.cell_key.proofs.ColumnTexts.{before_stamp, column_text, with_stamp}
use Rattle.cell_key.proofs.Order.{text_of_place, text_order}

stored_is_key : (key : CellKey) → IsStored key → IsKey key
stored_is_key key s = record { row = s.row; family = s.family; stamp = let to = s.to in omega arith }

-- a version in the place of a borrowed key
abbrev pub beside : {lent : KeyRef} → IsLentKey lent → Qualifier → ℕ → CellKey
beside k q s = version k.key.row k.key.family q s

-- the front of a borrowed key's text is its place
pub front_is_place : (lent : KeyRef) (k : IsLentKey lent) → take lent.place_len lent.text.now ≡ place_text k.key.row k.key.family
front_is_place lent k =
    ap (λ (n : ℕ). take n lent.text.now) k.place
    ∙ ap (take (length (place_text k.key.row k.key.family))) (k.is ∙ text_of_place k.key)
    ∙ take-append_seam (place_text k.key.row k.key.family) (ended (qualifier_name k.key.qualifier) ++ stamp_text k.key.stamp)

-- a place and the rest of a key's text are the text of a version there
pub text_beside : (lent : KeyRef) (k : IsLentKey lent) (bytes tail : List ℕ) (q : Qualifier) (s : ℕ) → bytes ≡ take lent.place_len lent.text.now ++ tail
    → tail ≡ ended (qualifier_name q) ++ stamp_text s → bytes ≡ text (beside k q s)
text_beside lent k bytes tail q s e f =
    e ∙ ap (λ (t : List ℕ). t ++ tail) (front_is_place lent k) ∙ ap (λ (t : List ℕ). place_text k.key.row k.key.family ++ t) f ∙ sym (text_of_place (beside k q s))

-- a text that begins with a borrowed key's column is the text of a version in that column
pub text_in_column : (lent : KeyRef) (k : IsLentKey lent) (bytes front falling : List ℕ) (n s : ℕ) → n ≡ length lent.text.now → bytes ≡ front ++ falling
    → front ≡ take (n - 8) lent.text.now → falling ≡ stamp_text s → bytes ≡ text (beside k k.key.qualifier s)
text_in_column lent k bytes front falling n s whole parts column stamp =
    parts ∙ ap (λ (t : List ℕ). t ++ falling) (column ∙ before_stamp lent.text.now k.key n whole k.is)
    ∙ ap (λ (t : List ℕ). column_text k.key ++ t) stamp
    ∙ with_stamp k.key s

-- qualifier and stamp decide the order in one place
pub order_beside : (lent : KeyRef) (k : IsLentKey lent) (q : Qualifier) (s : ℕ) → s < 2 ^ 63
    → byte_cmp lent.text.now (text (beside k q s)) ≡ ordering_then (byte_cmp (qualifier_name lent.qualifier) (qualifier_name q)) (nat_cmp s lent.stamp)
order_beside lent k q s small =
    let key = k.key in
    let next : IsKey (beside k q s) = record { row = k.stored.row; family = k.stored.family; stamp = omega arith } in
    let rows = tied_itself nat_list_cmp_total key.row in
    let families = tied_itself nat_list_cmp_total key.family in
    let later = ordering_then (byte_cmp (qualifier_name key.qualifier) (qualifier_name q)) (nat_cmp s key.stamp) in
    ap (λ (t : List ℕ). byte_cmp t (text (beside k q s))) k.is
    ∙ text_order key (beside k q s) (stored_is_key key k.stored) next
    ∙ ap (λ o. ordering_then o (ordering_then (byte_cmp key.family key.family) later)) rows
    ∙ ap (λ o. ordering_then o later) families
    ∙ ap (λ (w : Qualifier). ordering_then (byte_cmp (qualifier_name w) (qualifier_name q)) (nat_cmp s key.stamp)) (sym k.qualifier)
    ∙ ap (λ (t : ℕ). ordering_then (byte_cmp (qualifier_name lent.qualifier) (qualifier_name q)) (nat_cmp s t)) (sym k.stamp)

-- in one column an older version comes after a later one
pub older_is_after : (lent : KeyRef) (k : IsLentKey lent) (s : ℕ) → s < 2 ^ 63 → s < lent.stamp → byte_cmp lent.text.now (text (beside k k.key.qualifier s)) ≡ Less
older_is_after lent k s small older =
    order_beside lent k k.key.qualifier s small
    ∙ ap (λ (w : Qualifier). ordering_then (byte_cmp (qualifier_name w) (qualifier_name k.key.qualifier)) (nat_cmp s lent.stamp)) k.qualifier
    ∙ ap (λ o. ordering_then o (nat_cmp s lent.stamp)) (tied_itself nat_list_cmp_total (qualifier_name k.key.qualifier))
    ∙ sym (nat_cmp_is s lent.stamp Less older)
