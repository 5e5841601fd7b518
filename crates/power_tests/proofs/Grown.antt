-- The bytes of a log after a write that failed.
use Rattle.std.proofs.Common.{◌≡◌, ◌++◌, ℕ, List, Bool, true, false, take, ap, cond, refl}
use Rattle.std.specs.Prelude.{Some}
use Rattle.power_tests.specs.Meant.{the_meant}

pub grown : (b : Bool) (r l r' l' more : List ℕ) → ((n : ℕ) × (r' ≡ r ++ take n more))
    → ((n : ℕ) × (l' ≡ l ++ take n more)) → (n : ℕ) × (Some (the_meant b r' l') ≡ Some (the_meant b r l ++ take n more))
grown true r l r' l' more p q = (q.0, ap Some q.1)
grown false r l r' l' more p q = (p.0, ap Some p.1)

-- what is meant, after what is read replaced what lasts or didn't, was meant before
pub reread : {X : Type 0} (lasts b : Bool) (r l l' : X) → l' ≡ cond b r l
    → (before : Bool) × (Some (the_meant lasts r l') ≡ Some (the_meant before r l))
reread false b r l l' e = (false, refl)
reread true true r l l' e = (false, ap Some e)
reread true false r l l' e = (true, ap Some e)
