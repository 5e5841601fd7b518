-- Texts on the stack, in buffers that may be too short.
use Rattle.std.proofs.Common.{◌≡◌, ◌<◌, ◌≤◌, ◌+◌, ℕ, true, false, Result, Ok, Err, IsOk, OnErr, List, [], ◌++◌, length, length-append, refl, ap, arith}
use Rattle.std.specs.Prelude.{◌↔◌}
use Rattle.std.proofs.Math.Nat.{lt_of_not-le}
use Rattle.cell_key.specs.Keys.{text}
use Rattle.cell_key.specs.Names.{IsRow, IsFamily}
use Rattle.cell_key.specs.Texts.{escaped}
use Rattle.cell_key.specs.declared.keys.CellKey.{CellKey}
use Rattle.cell_key.proofs.EscapedParts.{escaped-least}
use Rattle.memtable.proofs.Sizes.{text_len}

differ : false ≡ true → ⊥
differ e = cc

-- without room the result is an error
pub no_room : {A E : Type 0} (r : Result A E) (most : ℕ) (old other : List ℕ) → (IsOk r ↔ (length old + length other ≤ most)) → OnErr r (most < length (old ++ other))
no_room (Ok a) most old other iff = tt
no_room (Err e) most old other iff = let over : most < length old + length other = lt_of_not-le (λ le. differ (iff.1 le)) in omega (arith, over, length-append old other)

-- if there is no room for a row, there is none for its escaped form
pub too_long : {A E : Type 0} (r : Result A E) (most left : ℕ) (old row : List ℕ) → left + length old ≡ most → left < length row → OnErr r (most < length (old ++ escaped row))
too_long (Ok a) most left old row e less = tt
too_long (Err x) most left old row e less = omega (arith, e, less, length-append old (escaped row), escaped-least row)

-- there is room for the text of any key
pub has_room : {A E : Type 0} (r : Result A E) (old : List ℕ) (k : CellKey) → old ≡ [] → IsRow k.row → IsFamily k.family → OnErr r (8192 < length (old ++ text k)) → IsOk r
has_room (Ok a) old k e row family full = refl
has_room (Err x) old k e row family full =
    let len = ap (λ (xs : List ℕ). length (xs ++ text k)) e in
    absurd (omega (arith, len, full, text_len k row.few family.few))
