-- The bodies of operations: of a request, of a Commit and of a Read.
use Rattle.std.specs.Prelude.{◌≡◌, ℕ, List, ◌∷◌, ◌++◌, ◌<◌, ◌^◌, length, Bool, IfSome}
use Rattle.std.specs.List.{AllByRecursion, flat_map}
use Rattle.si_model.specs.Answers.{cells_named, writes_named}
use Rattle.si_model.specs.Machine.{Change, Writes}
use Rattle.si_model.specs.Transactions.{Operation, One, Commit, Read}
use Rattle.si_model.specs.declared.replies.Cell.{Cell}
use Rattle.request_codec.specs.Fields.{number, field, optional, cell_fields, FitsField, FitsCell}
use Rattle.request_codec.specs.Parts.{AreParts}
use Rattle.request_codec.specs.Requests.{asked, request_body, NumbersFit, BytesFit}
use Rattle.request_codec.specs.Scans.{flag_number}
use Rattle.request_codec.specs.declared.operations.Operation.{Operation as Lent}
use Rattle.request_codec.specs.declared.operations.Operation.TheVariants as lent

-- an operation as the machine's
abbrev pub operation_of : Lent → Operation
operation_of (lent.One request) = One (asked request)
operation_of (lent.Commit start writes) = Commit start (writes_named writes.items)
operation_of (lent.Read start cells stays_open) = Read start (cells_named cells.items) stays_open

-- a write: its cell, and its value or that it deletes
unfoldable pub write_fields : Cell × Change → List ℕ
write_fields write = cell_fields write.0 ++ optional field write.1

-- a Commit's fields
abbrev pub commit_fields : ℕ → Writes → List ℕ
commit_fields start writes =
    number 8 start ++ (number 4 (length writes) ++ flat_map write_fields writes)

-- a Read's fields
abbrev pub read_fields : ℕ → List Cell → Bool → List ℕ
read_fields start cells stays_open =
    number 8 start
    ++ (flag_number stays_open ∷ (number 4 (length cells) ++ flat_map cell_fields cells))

-- the body of an operation
abbrev pub operation_body : Operation → List ℕ
operation_body (One request) = request_body request
operation_body (Commit start writes) = 0x32 ∷ commit_fields start writes
operation_body (Read start cells stays_open) = 0x33 ∷ read_fields start cells stays_open

-- the lengths of a write's fields of bytes fit
pub record WriteFits (write : Cell × Change) : Type 0 where
  pub cell : FitsCell write.0
  pub value : IfSome write.1 (λ value. FitsField value)

-- each number fits its field
abbrev pub OperationNumbersFit : Operation → Type 0
OperationNumbersFit (One request) = NumbersFit request
OperationNumbersFit (Commit start writes) = (start < 2 ^ 64) × (length writes < 2 ^ 32)
OperationNumbersFit (Read start cells stays_open) = (start < 2 ^ 64) × (length cells < 2 ^ 32)

-- the length of each field of bytes fits its field
abbrev pub OperationBytesFit : Operation → Type 0
OperationBytesFit (One request) = BytesFit request
OperationBytesFit (Commit start writes) = AllByRecursion WriteFits writes
OperationBytesFit (Read start cells stays_open) = AllByRecursion FitsCell cells

-- the body is this operation's, in the grammar
pub record IsOperation (operation : Operation) (body : List ℕ) : Type 0 where
  pub numbers : OperationNumbersFit operation
  pub bytes : OperationBytesFit operation
  pub whole : body ≡ operation_body operation

-- the body is no operation's
abbrev pub IsNoOperation : List ℕ → Type 0
IsNoOperation body = (operation : Operation) → IsOperation operation body → ⊥

-- a Commit or a Read with at least one cell
abbrev pub HasCells : Operation → Type 0
HasCells (One request) = ⊥
HasCells (Commit start writes) = 0 < length writes
HasCells (Read start cells stays_open) = 0 < length cells

-- the body is that of such an operation
abbrev pub NamesCells : List ℕ → Type 0
NamesCells body = (operation : Operation) × IsOperation operation body × HasCells operation

-- the bytes are the fields of this many writes
abbrev pub AreWrites : ℕ → List ℕ → Type 0
AreWrites count bytes = AreParts WriteFits write_fields count bytes

-- the bytes are the fields of this many cells
abbrev pub AreCells : ℕ → List ℕ → Type 0
AreCells count bytes = AreParts FitsCell cell_fields count bytes
