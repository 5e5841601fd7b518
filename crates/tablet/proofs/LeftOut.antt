-- Lists without a value at a text.
use Rattle.std.proofs.Common.{◌≡◌, ℕ, List, [], ◌∷◌, Option, Some, None, refl}
use Rattle.std.specs.List.{AllByRecursion}
use Rattle.cell_key.specs.Entries.{Entry, entry_of_key, first_naming, or_else, value_of}

pub none_named : (b : List (List Entry)) (name : List ℕ) → AllByRecursion (λ es. value_of (entry_of_key es name) ≡ None) b → value_of (first_naming b name) ≡ None
none_named [] name all = refl
none_named (es ∷ b) name all = go (entry_of_key es name) (first_naming b name) all.0 (none_named b name all.1)
  where
    go : (x y : Option (Option (List ℕ))) → value_of x ≡ None → value_of y ≡ None → value_of (or_else x y) ≡ None
    go None y p q = q
    go (Some v) y p q = p

pub value_or : (x y : Option (Option (List ℕ))) → value_of y ≡ None → value_of (or_else x y) ≡ value_of x
value_or None y e = e
value_or (Some v) y e = refl
