-- The fields of the replies that come through a pipe, behind their first byte.
use Rattle.std.specs.List.{AllByRecursion, flat_map}
use Rattle.std.specs.Prelude.{◌≡◌, ℕ, Bool, true, false, List, [], ◌∷◌, ◌++◌, length, ⊤}
use Rattle.byteorder.specs.Endian.{big_bytes}
use Rattle.cell_key.specs.Keys.{text}
use Rattle.cell_key.specs.declared.edits.Edit.{Edit}
use Rattle.cell_key.specs.declared.edits.Edit.TheVariants.{Put, Erase}
use Rattle.remote_rows.specs.Messages.{field}
use Rattle.remote_rows.specs.declared.wire.FetchedRow.{FetchedRow}
use Rattle.remote_rows.specs.declared.wire.Page.{Page}

-- a key and its value
abbrev pub version_fields : Edit → List ℕ
version_fields (Put key value) = field (text key) ++ field value.items
version_fields (Erase key) = []

abbrev pub IsPut : Edit → Type 0
IsPut (Put key value) = ⊤
IsPut (Erase key) = ⊥

-- the bytes are a number of keys with their values
pub record AreVersions (bytes : List ℕ) (edits : List Edit) : Type 0 where
  pub puts : AllByRecursion IsPut edits
  pub is : bytes ≡ big_bytes 4 (length edits) ++ flat_map version_fields edits

-- a reply to a fetch: the row's guard and its versions
pub record IsFetchReply (fields : List ℕ) (fetched : FetchedRow) : Type 0 where
  pub versions : List ℕ
  pub is : fields ≡ big_bytes 8 fetched.guard ++ versions
  pub told : AreVersions versions fetched.edits.items

-- 1 if no key is left, and 0 otherwise
abbrev pub last_byte : Bool → ℕ
last_byte true = 1
last_byte false = 0

-- a reply to a page: whether it is the last one, and its versions
pub record IsPageReply (fields : List ℕ) (page : Page) : Type 0 where
  pub versions : List ℕ
  pub is : fields ≡ last_byte page.is_last ∷ versions
  pub told : AreVersions versions page.edits.items
