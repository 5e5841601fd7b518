-- A file that is written in pieces.
use Rattle.std.specs.Prelude.{◌≡◌, ◌≢◌, ◌⊎◌, ◌+◌, ◌<◌, ◌≤◌, ◌^◌, List, ℕ, [], ◌∷◌, ◌++◌, length, Option, Some, None, Result}
use Rattle.cell_key.specs.Keys.{text, IsStored}
use Rattle.cell_key.specs.Texts.{place_text}
use Rattle.cell_key.specs.Entries.{Entry, IsRising, field}
use Rattle.cell_key.specs.declared.keys.CellKey.{CellKey}
use Rattle.cell_key.specs.Faults.{HasReason}
use Rattle.cell_key.specs.declared.refusals.Refusal.{Refusal}
use Rattle.file_store.specs.Store.{Contents}
use Rattle.sorted_file.specs.Block.{IsLastText, IsParsed, bytes_at, entries_of}
use Rattle.sorted_file.specs.Check.{IsFollowed, IsFormed, IsOpening}
use Rattle.sorted_file.specs.Columns.{AreColumnsOf}
use Rattle.sorted_file.specs.Grammar.{Fits, body, head, number_bytes}
use Rattle.sorted_file.specs.Index.{blocks_of, entries_in}
use Rattle.sorted_file.specs.declared.block.BlockRow.{BlockRow}
use Rattle.sorted_file.specs.declared.builder.FileBuilder.{FileBuilder}
use Rattle.sorted_file.specs.declared.builder.LastKey.{LastKey}
use Rattle.sorted_file.specs.declared.check.Opening.{Opening}
use Rattle.sorted_file.specs.declared.format.Format.TheVariants.{Two}

-- the entries of a file so far: of the closed blocks and the open one
abbrev pub built : FileBuilder → List Entry
built b = entries_in (blocks_of b.opening.rows.items) ++ entries_of b.current.block

-- the bytes of its head and the closed blocks
abbrev pub closed : FileBuilder → List ℕ
closed b = head Two ++ body (blocks_of b.opening.rows.items)

-- A file under construction has an open file's state of the closed blocks, and an open block behind them. Its entries
-- are in ascending order, and without index and foot it is within its limit.
pub record IsSound (b : FileBuilder) : Type 0 where
  pub opening : IsOpening b.opening
  pub format : b.opening.format ≡ Two
  pub parsed : IsParsed (entries_of b.current.block) b.current.block
  pub columns : AreColumnsOf b.current.columns (entries_of b.current.block)
  pub rising : IsRising (built b)
  pub within : b.opening.end + length b.current.block.bytes.items ≤ b.opening.size

-- the last key of entries with these bytes: the extent of its text, and the rest of the key behind row and family
pub record IsLastKey (es : List Entry) (bytes : List ℕ) (last : LastKey) : Type 0 where
  pub some : es ≢ []
  pub named : IsLastText es (bytes_at bytes last.text)
  pub key : CellKey
  pub stored : IsStored key
  pub is : bytes_at bytes last.text ≡ text key
  pub place : last.place_len ≡ length (place_text key.row key.family)
  pub qualifier : last.qualifier ≡ key.qualifier
  pub stamp : last.stamp ≡ key.stamp

-- the same, if there is a last entry
abbrev pub KeepsLast : List Entry → List ℕ → Option LastKey → Type 0
KeepsLast es bytes None = es ≡ []
KeepsLast es bytes (Some last) = IsLastKey es bytes last

-- the open block, if not empty, can be the next one, and its last key is kept
pub record IsReady (b : FileBuilder) : Type 0 where
  pub sound : IsSound b
  pub fits : (entries_of b.current.block ≡ []) ⊎ Fits (entries_of b.current.block)
  pub followed : IsFollowed (blocks_of b.opening.rows.items) (entries_of b.current.block)
  pub last : KeepsLast (entries_of b.current.block) b.current.block.bytes.items b.last

-- with this entry the open block can be the next one
pub record HasRoom (b : FileBuilder) (e : Entry) : Type 0 where
  pub fits : Fits (entries_of b.current.block ++ e ∷ [])
  pub followed : IsFollowed (blocks_of b.opening.rows.items) (entries_of b.current.block ++ e ∷ [])

module _ {W : Type 0} (has : W → List ℕ → Type 0) where
  -- Files that are being written have the bytes of head and closed blocks but for the last, which the builder keeps.
  pub record HasClosed (writing : W) (b : FileBuilder) : Type 0 where
    pub front : List ℕ
    pub had : has writing front
    pub rest : front ++ b.out.items ≡ closed b

  -- they have the whole file of these blocks, which is within a limit
  pub record HasImage (writing : W) (o : Opening) (limit : ℕ) : Type 0 where
    pub image : List ℕ
    pub had : has writing image
    pub formed : IsFormed o image
    pub within : length image ≤ limit

-- A push to a file that is being written: its name and all files are unchanged, and each refusal has its reason.
pub record Pushes {F W T : Type 0} (contents : F → Option Contents) (faults : F → ℕ)
    (writes_to : W → ℕ) (old new : F) (before now : W) (result : Result T Refusal) : Type 0 where
  pub named : writes_to now ≡ writes_to before
  pub same : contents new ≡ contents old
  pub reason : HasReason (faults old) (faults new) result

-- the bytes of a row of the index
abbrev pub row_spelled : BlockRow → List ℕ
row_spelled row =
    number_bytes Two row.offset ++ (number_bytes Two row.length ++ field row.first.items)

abbrev pub HasShortText : BlockRow → Type 0
HasShortText row = length row.first.items < 2 ^ 32
