-- Parts of a body that follow each other.
use Rattle.std.specs.Prelude.{◌≡◌, ℕ, List, length}
use Rattle.std.specs.List.{AllByRecursion, flat_map}

-- the bytes are the fields of count parts, each of which fits
pub record AreParts {A : Type 0} (fits : A → Type 0) (fields : A → List ℕ) (count : ℕ)
    (bytes : List ℕ) : Type 0 where
  pub parts : List A
  pub many : length parts ≡ count
  pub all_fit : AllByRecursion fits parts
  pub whole : bytes ≡ flat_map fields parts
