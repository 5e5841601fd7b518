-- The records that a log holds, and the effects of its calls on them.
use Rattle.std.specs.Prelude.{◌≡◌, ◌+◌, ℕ, ◌⊎◌, List, [], ◌∷◌, ◌++◌, Option, Some, length}
use Rattle.commit_log.specs.Numbered.{IsStoreLog}

-- Any records that were held are unchanged, or have one more at the end, or were replaced by one.
module _ (old new : List (List ℕ) → Type 0) where
  abbrev pub Keeps : Type 0
  Keeps = (records : List (List ℕ)) → old records → new records

  abbrev pub Gains : List ℕ → Type 0
  Gains payload = (records : List (List ℕ)) → old records → new (records ++ payload ∷ [])

  abbrev pub MayGain : List ℕ → Type 0
  MayGain payload =
      (records : List (List ℕ)) → old records → new records ⊎ new (records ++ payload ∷ [])

  abbrev pub Renews : List ℕ → Type 0
  Renews payload = (records : List (List ℕ)) → old records → new (payload ∷ [])

  abbrev pub MayRenew : List ℕ → Type 0
  MayRenew payload =
      (records : List (List ℕ)) → old records → new records ⊎ new (payload ∷ [])

-- A file's bytes are known, and are a store's log of these records, maybe with a tail. This holds after a kill.
pub record IsKept (told : Option (List ℕ)) (records : List (List ℕ)) : Type 0 where
  pub bytes : List ℕ
  pub are_told : told ≡ Some bytes
  pub store : ℕ
  pub first : ℕ
  pub tail : List ℕ
  pub is_log : IsStoreLog store first bytes records tail

-- The same for this store's log. The records have no tail and the next record has this number, or the file is stopped.
pub record IsHeld (told : Option (List ℕ)) (stopped : Type 0) (store next : ℕ)
    (records : List (List ℕ)) : Type 0 where
  pub kept : IsKept told records
  pub same : kept.store ≡ store
  pub ready : ((kept.tail ≡ []) × (next ≡ kept.first + length records)) ⊎ stopped

-- An opened log holds the records that the file had before, for example after a kill.
abbrev pub Opens : (old new : Option (List ℕ)) (stopped : Type 0) (store next : ℕ) → Type 0
Opens old new stopped store next =
    (records : List (List ℕ)) → IsKept old records → IsHeld new stopped store next records

-- the bytes are a log of some records
abbrev pub HasRecords : List ℕ → Type 0
HasRecords bytes = (records : List (List ℕ)) × IsKept (Some bytes) records
