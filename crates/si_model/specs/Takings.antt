-- The writes that a session takes one after the other.
use Rattle.std.specs.Prelude.{◌≡◌, ⊤, ℕ, Some, ◌<◌, ◌≤◌, ◌⊎◌, List, [], ◌∷◌, ◌++◌, length, IfSome}
use Rattle.cell_key.specs.Names.{IsRow, IsFamily}
use Rattle.cell_key.specs.declared.refusals.Refusal.{Refusal}
use Rattle.cell_key.specs.declared.refusals.Refusal.TheVariants.{BadRow, BadColumn, BadValue, TooManyWrites, NoMemory}
use Rattle.si_model.specs.Machine.{Change, Writes, Names, Sets, most_value, most_writes}
use Rattle.si_model.specs.declared.replies.Cell.{Cell}

-- the cell's names are within their limits
abbrev pub IsNamed : Cell → Type 0
IsNamed x = IsRow x.row × IsFamily x.family

-- a value that is written has at most 65,536 bytes
abbrev pub HasShortValue : Change → Type 0
HasShortValue v = IfSome v (λ value. length value ≤ most_value)

-- the session takes the write
pub record TakesWrite (before : Writes) (write : Cell × Change) (after : Writes) : Type 0 where
  pub named : IsNamed write.0
  pub short : HasShortValue write.1
  pub room : Names before write.0 ⊎ (length before < most_writes)
  pub sets : Sets write.0 write.1 before after

-- it takes the writes, one after the other
abbrev pub TakesAll : Writes → Writes → Writes → Type 0
TakesAll before [] after = after ≡ before
TakesAll before (write ∷ rest) after =
    (mid : Writes) × TakesWrite before write mid × TakesAll mid rest after

-- why a value is refused
abbrev pub IsValueRefusal : Change → Refusal → Type 0
IsValueRefusal v BadValue = (value : List ℕ) × (v ≡ Some value) × (most_value < length value)
IsValueRefusal v NoMemory = ⊤
IsValueRefusal v _ = ⊥

-- why a write is refused: by the machine, or for want of memory
abbrev pub IsWriteRefusal : Writes → Cell × Change → Refusal → Type 0
IsWriteRefusal before write BadRow = ¬ IsRow write.0.row
IsWriteRefusal before write BadColumn = IsRow write.0.row × ¬ IsFamily write.0.family
IsWriteRefusal before write BadValue = IsNamed write.0 × IsValueRefusal write.1 BadValue
IsWriteRefusal before write TooManyWrites =
    IsNamed write.0 × HasShortValue write.1 × (¬ Names before write.0)
    × (most_writes ≤ length before)
IsWriteRefusal before write NoMemory = ⊤
IsWriteRefusal before write _ = ⊥

-- one of the writes is refused, and those before it are taken
pub record IsRefusedWrite (before asked : Writes) (refusal : Refusal) : Type 0 where
  pub first : Writes
  pub write : Cell × Change
  pub rest : Writes
  pub split : asked ≡ first ++ write ∷ rest
  pub mid : Writes
  pub taken : TakesAll before first mid
  pub why : IsWriteRefusal mid write refusal
