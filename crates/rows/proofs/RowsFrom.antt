-- Rows from a place on.
use Rattle.std.proofs.Common.{◌≡◌, ◌≢◌, ℕ, List, Option, Some, None, refl, ap, ◌∙◌}
use Rattle.std.specs.declared.cmp.Ordering.{Ordering}
use Rattle.std.specs.declared.cmp.Ordering.TheVariants.{Less, Equal, Greater}
use Rattle.std.specs.Ordering.{ordering_reverse, ordering_then}
use Rattle.std.specs.Cmp.Lexicographic.{nat_list_cmp_total}
use Rattle.cell_key.specs.Keys.{byte_cmp}
use Rattle.cell_key.specs.Places.{IsAfter, Place}
use Rattle.rows.specs.Calls.{AreReadableFrom, IsRowFrom, View}

not_greater : (x y : Ordering) → ordering_then x y ≡ Less → x ≢ Greater
not_greater Less y e is = cc
not_greater Equal y e is = cc
not_greater Greater y e is = cc

turned : (x y : Ordering) → x ≡ ordering_reverse y → y ≡ Less → x ≡ Greater
turned x y t is = t ∙ ap ordering_reverse is

-- a later place's row is not below an earlier place's
not_below : (before place : Place) → IsAfter (Some before) place → byte_cmp place.0 before.0 ≢ Less
not_below before place after less =
    not_greater (byte_cmp before.0 place.0) (byte_cmp before.1 place.1) after (turned _ _ (nat_list_cmp_total.antisymm before.0 place.0) less)

-- not being below is transitive
not_below_both : (a b c : List ℕ) → byte_cmp a b ≢ Less → byte_cmp b c ≢ Less → byte_cmp a c ≢ Less
not_below_both a b c above up less = by (byte_cmp b a) refl
  where
    by : (o : Ordering) → byte_cmp b a ≡ o → ⊥
    by Less e = up (nat_list_cmp_total.trans b a c e less)
    by Equal e = up (nat_list_cmp_total.congr b a c e ∙ less)
    by Greater e = above (nat_list_cmp_total.antisymm a b ∙ ap ordering_reverse e)

pub row_after : (after : Option Place) (place : Place) → IsAfter after place → IsRowFrom after place.0
row_after None place after = tt
row_after (Some before) place after = not_below before place after

pub from_later : (after : Option Place) (place : Place) → IsAfter after place → (row : List ℕ) → IsRowFrom (Some place) row → IsRowFrom after row
from_later None place after row from = tt
from_later (Some before) place after row from = not_below_both row place.0 before.0 from (not_below before place after)

-- rows that can be read from a place on can be read from a later one on
pub readable_later : {R : Type 0} (seen : View R) (rows : R) (after : Option Place) (place : Place) → IsAfter after place → AreReadableFrom seen rows after → AreReadableFrom seen rows (Some place)
readable_later seen rows after place later readable row from = readable row (from_later after place later row from)
