-- Lists with an item appended.
use Rattle.std.proofs.Common.{List, [], ◌∷◌, ◌++◌}
use Rattle.std.specs.List.{AllByRecursion}

-- a property of each item holds after one more with the property is appended
pub each_push : {A : Type 0} (P : A → Type 0) (xs : List A) (x : A) → AllByRecursion P xs → P x → AllByRecursion P (xs ++ x ∷ [])
each_push P [] x all p = (p, tt)
each_push P (y ∷ xs) x all p = (all.0, each_push P xs x all.1 p)
