-- The bytes of a log's file after its calls.
use Rattle.std.specs.Prelude.{◌≡◌, ◌≢◌, ℕ, ◌⊎◌, List, [], ◌∷◌, ◌++◌, take, replicate, Option, option_map}

-- the bytes with more appended, and all bytes replaced by these, if the bytes are known
abbrev pub with_more : List ℕ → Option (List ℕ) → Option (List ℕ)
with_more more = option_map (λ bytes. bytes ++ more)

abbrev pub with_all : List ℕ → Option (List ℕ) → Option (List ℕ)
with_all all = option_map (λ _. all)

-- a prefix of more was appended: nothing, a part, or all of it
abbrev pub GrowsInPart : List ℕ → Option (List ℕ) → Option (List ℕ) → Type 0
GrowsInPart more old new = (n : ℕ) × (new ≡ with_more (take n more) old)

-- the bytes are unchanged, or were all replaced by these
abbrev pub MayBeAll : List ℕ → Option (List ℕ) → Option (List ℕ) → Type 0
MayBeAll all old new = (new ≡ old) ⊎ (new ≡ with_all all old)

-- The bytes without the zeros at their end.
pub record IsWithoutRoom (bytes rest : List ℕ) : Type 0 where
  pub zeros : ℕ
  pub joined : bytes ≡ rest ++ replicate zeros 0
  pub last : (front : List ℕ) → rest ≢ front ++ 0 ∷ []
