-- Results of reads and conflict tests, in terms of the cell map.
use Rattle.std.specs.Prelude.{◌≡◌, ⊤, ℕ, ◌≤◌, ◌^◌, ◌-◌, ◌⊎◌, List, length, Some, None}
use Rattle.cell_key.specs.Cells.{Cells, IsNewest}
use Rattle.cell_key.specs.declared.keys.Qualifier.TheVariants.{Data, Lock, Write}
use Rattle.cell_key.specs.Columns.{NamesWrite}
use Rattle.cell_key.specs.declared.columns.WriteKind.{WriteKind}
use Rattle.cell_key.specs.declared.columns.WriteKind.TheVariants as write
use Rattle.si_model.specs.Reads.{IsClear, IsLast}
use Rattle.si_model.specs.ShowsCells.{at, key_of, IsThere}
use Rattle.si_model.specs.declared.replies.Cell.{Cell}
use Rattle.si_model.specs.declared.replies.Found.{Found}
use Rattle.si_model.specs.declared.replies.Found.TheVariants.{Value, Nothing, Pending}
use Rattle.txn_client.specs.declared.newest_read.Newest.{Newest}

-- a session that began at s reads this value of x (Percolator, Get): the last record is a set's
pub record ReadsValue (cells : Cells) (x : Cell) (s : ℕ) (value : List ℕ) : Type 0 where
  pub unlocked : IsClear cells x Lock 0 s
  pub stamp : ℕ
  pub text : List ℕ
  pub is_last : IsLast cells x s stamp text
  pub start : ℕ
  pub names : NamesWrite text start write.Set
  pub data_is : at cells x Data start ≡ Some value

-- a session that began at s finds x deleted: the last record is a deletion's
pub record ReadsDeletion (cells : Cells) (x : Cell) (s : ℕ) : Type 0 where
  pub stamp : ℕ
  pub text : List ℕ
  pub is_last : IsLast cells x s stamp text
  pub start : ℕ
  pub names : NamesWrite text start write.Delete

-- the newest versions of the columns of x at or below s
pub record AreNewest (cells : Cells) (x : Cell) (s : ℕ) (newest : Newest) : Type 0 where
  pub of_data : IsNewest cells (key_of x Data) 0 s newest.data
  pub of_lock : IsNewest cells (key_of x Lock) 0 s newest.lock
  pub of_write : IsNewest cells (key_of x Write) 0 s newest.write

abbrev pub IsFound : Cells → Cell → ℕ → Found → Type 0
IsFound cells x s (Pending t) = (t ≤ s) × IsThere cells x Lock t
IsFound cells x s Nothing =
    IsClear cells x Lock 0 s × (IsClear cells x Write 0 s ⊎ ReadsDeletion cells x s)
IsFound cells x s (Value value) = ReadsValue cells x s value.items

-- the last write record is malformed, or is a set's whose data is missing
abbrev pub IsDamaged : Cells → Cell → ℕ → Type 0
IsDamaged cells x s =
    (c : ℕ) × (text : List ℕ) × IsLast cells x s c text
    × (((t : ℕ) (kind : WriteKind) → ¬ NamesWrite text t kind)
    ⊎ ((t : ℕ) × NamesWrite text t write.Set × (at cells x Data t ≡ None)))

-- x has a lock, or a write record at s or later (Percolator, Prewrite)
abbrev pub IsTaken : Cells → Cell → ℕ → Type 0
IsTaken cells x s =
    ((t : ℕ) × IsThere cells x Lock t) ⊎ ((c : ℕ) × (s ≤ c) × IsThere cells x Write c)

abbrev pub IsFree : Cells → Cell → ℕ → Type 0
IsFree cells x s = IsClear cells x Lock 0 (2 ^ 64 - 1) × IsClear cells x Write s (2 ^ 64 - 1)

-- a value in the answer has at most 65,536 bytes
abbrev pub IsShort : Found → Type 0
IsShort (Value value) = length value.items ≤ 65536
IsShort Nothing = ⊤
IsShort (Pending start) = ⊤
