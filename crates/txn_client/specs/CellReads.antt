-- Reads of several cells in one session, in terms of the cell map.
use Rattle.std.specs.Prelude.{◌≡◌, ⊤, ℕ, ◌+◌, ◌*◌, ◌≤◌, ◌⊎◌, List, [], ◌∷◌, ◌++◌, Option}
use Rattle.cell_key.specs.Cells.{Cells}
use Rattle.cell_key.specs.Names.{IsRow, IsFamily}
use Rattle.cell_key.specs.declared.refusals.Refusal.{Refusal}
use Rattle.cell_key.specs.declared.refusals.Refusal.TheVariants.{BadRow, BadColumn, Device, NoMemory, Damaged}
use Rattle.si_model.specs.Answers.{told_items}
use Rattle.si_model.specs.Machine.{Item}
use Rattle.si_model.specs.Replies.{found_reply}
use Rattle.si_model.specs.Transactions.{IsTold, most_told, told_length}
use Rattle.si_model.specs.declared.replies.Cell.{Cell}
use Rattle.si_model.specs.declared.replies.Found.{Found}
use Rattle.txn_client.specs.Reads.{IsFound}
use Rattle.si_model.specs.Takings.{IsNamed}
use Rattle.txn_client.specs.declared.cell_reads.Told.{Told}

-- what is said of n cells has so few bytes: values end at the limit, and behind it each cell has at most nine
abbrev pub IsShortOf : ℕ → ℕ → Type 0
IsShortOf n bytes = (bytes ≤ 9 * n) ⊎ (bytes + 9 ≤ most_told + 9 * n)

-- a session that began at s reads x, and this is said of it after this many bytes
pub record IsReadSo (cells : Cells) (s used : ℕ) (x : Cell) (said : Option Item) : Type 0 where
  pub found : Found
  pub is_found : IsFound cells x s found
  pub told : IsTold used (found_reply found) said

-- a session that began at s reads these cells one after the other, and this is said of them after this many bytes
abbrev pub AreRead : Cells → ℕ → ℕ → List Cell → List (Option Item) → Type 0
AreRead cells s used [] [] = ⊤
AreRead cells s used (x ∷ xs) (said ∷ more) =
    IsNamed x × IsReadSo cells s used x said × AreRead cells s (used + told_length said) xs more
AreRead cells s used [] (said ∷ more) = ⊥
AreRead cells s used (x ∷ xs) [] = ⊥

-- x is read next, and what is said of it comes last
pub record ReadsNext (cells : Cells) (s : ℕ) (x : Cell) (old new : Told) : Type 0 where
  pub said : Option Item
  pub read : IsReadSo cells s old.bytes x said
  pub found : told_items new.found.items ≡ told_items old.found.items ++ said ∷ []
  pub bytes : new.bytes ≡ old.bytes + told_length said

-- why a read of x in an open session is refused
abbrev pub IsReadingRefusal : Cell → Refusal → Type 0
IsReadingRefusal x BadRow = ¬ IsRow x.row
IsReadingRefusal x BadColumn = IsRow x.row × ¬ IsFamily x.family
IsReadingRefusal x Device = ⊤
IsReadingRefusal x NoMemory = ⊤
IsReadingRefusal x Damaged = ⊤
IsReadingRefusal x _ = ⊥

-- one of the cells is refused, and those before it are read
pub record IsRefusedAmong (cells : Cells) (s : ℕ) (xs : List Cell)
    (refusal : Refusal) : Type 0 where
  pub before : List Cell
  pub cell : Cell
  pub after : List Cell
  pub split : xs ≡ before ++ cell ∷ after
  pub said : List (Option Item)
  pub read : AreRead cells s 0 before said
  pub why : IsReadingRefusal cell refusal

-- the refusals of reads of several cells
abbrev pub IsReadsRefusal : Refusal → Type 0
IsReadsRefusal BadRow = ⊤
IsReadsRefusal BadColumn = ⊤
IsReadsRefusal Device = ⊤
IsReadsRefusal NoMemory = ⊤
IsReadsRefusal Damaged = ⊤
IsReadsRefusal _ = ⊥
