use Rattle.std.proofs.Common.{◌≡◌, ◌-◌, suc, List, [], ◌∷◌, length, Option, Some, slice_get, option_map, ap, ◌∙◌, arith}
use Rattle.cell_key.specs.Places.{Place, last_or, place_named}
use Rattle.cell_key.proofs.places.last_place.Goals as goal

fewer : {A : Type 0} (x y : A) (xs : List A) → length (x ∷ y ∷ xs) - 1 ≡ suc (length (y ∷ xs) - 1)
fewer x y xs = omega arith

last_is : (other : Option Place) (places : List Place) (p : Place) → Some p ≡ slice_get places (length places - 1) → Some p ≡ last_or other places
last_is other [] p e = cc
last_is other (q ∷ []) p e = e
last_is other (q ∷ r ∷ places) p e = last_is (Some q) (r ∷ places) p (e ∙ ap (slice_get (q ∷ r ∷ places)) (fewer q r places))

pub returns-in-Some : goal.returns-in-Some
returns-in-Some c = last_is (option_map place_named c.args.other) c.args.places.now c.in-Some.field-0.now c.in-Some.ensures.value
