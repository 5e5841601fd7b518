-- The hashes of the columns of entries.
use Rattle.std.specs.Prelude.{◌≡◌, ◌-◌, ℕ, List, length, take, Contains, IsSome}
use Rattle.std.specs.Hash.FoldHasher as folding
use Rattle.std.specs.List.{AllByRecursion}
use Rattle.cell_key.specs.Keys.{text, IsStored}
use Rattle.cell_key.specs.Entries.{Entry, entry_of_key}
use Rattle.cell_key.specs.declared.keys.CellKey.{CellKey}
use Rattle.cell_key.specs.declared.keys.Qualifier.TheVariants.{Lock}
use Rattle.sorted_file.specs.declared.lock_stamps.LockStamp.{LockStamp}

-- a key's text without its stamp, which is the text of the key's column
abbrev pub column_of : List ℕ → List ℕ
column_of name = take (length name - 8) name

-- the hash of a text
abbrev pub text_number : List ℕ → ℕ
text_number name = folding.finish (folding.write folding.initial name)

-- the hash of the column of a key with this text: keys of one column have the same hash
abbrev pub number_of : List ℕ → ℕ
number_of name = text_number (column_of name)

-- the hash of an entry's column is among these
abbrev pub IsNumbered : List ℕ → Entry → Type 0
IsNumbered numbers entry = Contains numbers (number_of entry.0)

-- a stamp of a lock whose column has this hash
abbrev pub lock_stamp : ℕ → ℕ → LockStamp
lock_stamp column stamp = record { column = column; stamp = stamp }

-- if the entry is a lock's, a value or an erasure, the hash of its text is among these
abbrev pub IsLockKeyNumbered : List ℕ → Entry → Type 0
IsLockKeyNumbered numbers entry =
    (key : CellKey) → IsStored key → entry.0 ≡ text key → key.qualifier ≡ Lock
    → Contains numbers (text_number entry.0)

-- if the entry is the value of a lock, its key is among these
abbrev pub IsLockKept : List CellKey → Entry → Type 0
IsLockKept locks entry =
    (key : CellKey) → IsStored key → entry.0 ≡ text key → key.qualifier ≡ Lock → IsSome entry.1
    → Contains locks key

-- entries have a value or an erasure of each of these keys
abbrev pub AreNamed : List CellKey → List Entry → Type 0
AreNamed keys es = (key : CellKey) → Contains keys key → IsSome (entry_of_key es (text key))

-- `locks` has the keys of all locks that have a value in these entries; entries have each key of `names`
pub record KeepsLocks (locks names : List CellKey) (es : List Entry) : Type 0 where
  pub values : AllByRecursion (IsLockKept locks) es
  pub named : AreNamed names es

-- each of the first is among the second
abbrev pub IsAmong : {X : Type 0} → List X → List X → Type 0
IsAmong {X} old new = (x : X) → Contains old x → Contains new x
