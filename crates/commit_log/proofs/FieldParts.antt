-- Fields of edits are read back from their bytes; their lengths.
use Rattle.std.proofs.Common.{◌≡◌, ◌≢◌, ℕ, ◌+◌, ◌≤◌, ◌<◌, ◌^◌, Bool, true, false, List, [], ◌∷◌, ◌++◌, length, refl, sym, ap, ◌∙◌, arith, length-append, append_assoc}
use Rattle.std.specs.Prelude.{Option, Some, None, IfSome, is_some}
use Rattle.std.specs.Int.{w16, to_be_bytes, from_be_bytes}
use Rattle.std.proofs.lemmas.Nat.{from_be_bytes-to_be_bytes_2}
use Rattle.cell_key.specs.Cells.{edited_key, qualifier_rank, rank_back, ranked_qualifier, version}
use Rattle.cell_key.specs.Entries.{field}
use Rattle.cell_key.specs.Keys.{IsStored}
use Rattle.cell_key.specs.declared.edits.Edit.{Edit}
use Rattle.cell_key.specs.declared.edits.Edit.TheVariants.{Put, Erase}
use Rattle.cell_key.specs.declared.keys.CellKey.{CellKey}
use Rattle.cell_key.specs.declared.keys.Qualifier.{Qualifier}
use Rattle.cell_key.specs.declared.keys.Qualifier.TheVariants.{Data, Lock, Write}
use Rattle.cell_key.proofs.EscapedParts.{escaped-least}
use Rattle.commit_log.specs.Edits.{FitsFields, IsShortValue, IsStoredEdit, column_byte, edit_value, family_field, key_fields, row_field, spelled_edit, spelled_edits, spelled_entries, spelled_entry, spelled_fields, value_field}
use Rattle.commit_log.specs.Records.{spelled_number}
use Rattle.commit_log.proofs.Cuts.{same_front}
use Rattle.commit_log.proofs.Entries.{erasure_length, field_length, field_split, put_length, text_length}
use Rattle.commit_log.proofs.Numbering.{length-number, same_number}

-- ---- columns

low_rank : (q : Qualifier) → qualifier_rank q ≤ 2
low_rank Data = omega arith
low_rank Lock = omega arith
low_rank Write = omega arith

same_rank : (j k : Qualifier) → qualifier_rank j ≡ qualifier_rank k → j ≡ k
same_rank j k e = sym (rank_back j) ∙ ap ranked_qualifier e ∙ rank_back k

pub same_column : (j k : Qualifier) (p q : Bool) → column_byte j p ≡ column_byte k q → (j ≡ k) × (p ≡ q)
same_column j k true true e = (same_rank j k e, refl)
same_column j k false false e = (same_rank j k (omega (arith, e)), refl)
same_column j k true false e = let low = low_rank j in absurd (omega (arith, e, low))
same_column j k false true e = let low = low_rank k in absurd (omega (arith, e, low))

-- ---- names

pub row_split : (a b x y : List ℕ) → length a < 2 ^ 16 → length b < 2 ^ 16 → row_field a ++ x ≡ row_field b ++ y → (a ≡ b) × (x ≡ y)
row_split a b x y p q e =
    let whole : to_be_bytes w16 (length a) ++ (a ++ x) ≡ to_be_bytes w16 (length b) ++ (b ++ y) = sym (append_assoc (to_be_bytes w16 (length a)) a x) ∙ e ∙ append_assoc (to_be_bytes w16 (length b)) b y in
    let numbers = same_front (to_be_bytes w16 (length a)) (to_be_bytes w16 (length b)) (a ++ x) (b ++ y) refl whole in
    same_front a b x y (sym (from_be_bytes-to_be_bytes_2 (length a) p) ∙ ap (from_be_bytes w16) numbers.0 ∙ from_be_bytes-to_be_bytes_2 (length b) q) numbers.1

pub family_split : (a b x y : List ℕ) → family_field a ++ x ≡ family_field b ++ y → (a ≡ b) × (x ≡ y)
family_split a b x y e =
    let size : length a ≡ length b = cc in
    let rest : a ++ x ≡ b ++ y = cc in
    same_front a b x y size rest

number_split : (s t : ℕ) (x y : List ℕ) → spelled_number s ++ x ≡ spelled_number t ++ y → (spelled_number s ≡ spelled_number t) × (x ≡ y)
number_split s t x y e = same_front (spelled_number s) (spelled_number t) x y (length-number s ∙ sym (length-number t)) e

-- ---- the key

-- the fields behind the column, and what comes after them
abbrev pub behind_column : CellKey → List ℕ → List ℕ
behind_column key rest = row_field key.row ++ (family_field key.family ++ (spelled_number key.stamp ++ rest))

pub key_front : (key : CellKey) (puts : Bool) (rest : List ℕ) → key_fields key puts ++ rest ≡ column_byte key.qualifier puts ∷ behind_column key rest
key_front key puts rest =
    ap (λ (l : List ℕ). column_byte key.qualifier puts ∷ l)
    (append_assoc (row_field key.row) (family_field key.family ++ spelled_number key.stamp) rest
    ∙ ap (λ (l : List ℕ). row_field key.row ++ l) (append_assoc (family_field key.family) (spelled_number key.stamp) rest))

-- bytes that begin with fields that were read one by one
module _ (bytes after_column after_row after_family rest row family : List ℕ) (byte stamp : ℕ) (column : Qualifier) (puts : Bool) where
  pub key_joined : bytes ≡ byte ∷ after_column → byte ≡ column_byte column puts → after_column ≡ row_field row ++ after_row → after_row ≡ family_field family ++ after_family → after_family ≡ spelled_number stamp ++ rest
      → bytes ≡ key_fields (version row family column stamp) puts ++ rest
  key_joined first column_is rows families stamps =
      first
      ∙ ap (λ (b : ℕ). b ∷ after_column) column_is
      ∙ ap (λ (l : List ℕ). column_byte column puts ∷ l) (rows ∙ ap (λ (l : List ℕ). row_field row ++ l) (families ∙ ap (λ (l : List ℕ). family_field family ++ l) stamps))
      ∙ sym (key_front (version row family column stamp) puts rest)

-- the fields at the front of the same bytes
module _ (bytes : List ℕ) (key : CellKey) (is_puts : Bool) (x : List ℕ) (small : FitsFields key) (same : bytes ≡ key_fields key is_puts ++ x) where
  pub no_bytes : length bytes ≡ 0 → ⊥
  no_bytes none = omega (arith, none, ap length (same ∙ key_front key is_puts x))

  module _ (byte : ℕ) (after_column : List ℕ) (first : bytes ≡ byte ∷ after_column) where
    opened : byte ∷ after_column ≡ column_byte key.qualifier is_puts ∷ behind_column key x
    opened = sym first ∙ same ∙ key_front key is_puts x

    pub its_column : byte ≡ column_byte key.qualifier is_puts
    its_column = let e = opened in cc

    pub its_row : after_column ≡ behind_column key x
    its_row = let e = opened in cc

    module _ (row after_row : List ℕ) (rows : after_column ≡ row_field row ++ after_row) (short : length row < 2 ^ 16) where
      row_parts : (row ≡ key.row) × (after_row ≡ family_field key.family ++ (spelled_number key.stamp ++ x))
      row_parts = row_split row key.row after_row (family_field key.family ++ (spelled_number key.stamp ++ x)) short small.row (sym rows ∙ its_row)

      pub its_family : after_row ≡ family_field key.family ++ (spelled_number key.stamp ++ x)
      its_family = row_parts.1

      module _ (family after_family : List ℕ) (families : after_row ≡ family_field family ++ after_family) where
        pub its_stamp : after_family ≡ spelled_number key.stamp ++ x
        its_stamp = (family_split family key.family after_family (spelled_number key.stamp ++ x) (sym families ∙ its_family)).1

-- too few bytes for a stamp
pub no_stamp : (bytes x : List ℕ) (stamp : ℕ) → length bytes < 8 → bytes ≡ spelled_number stamp ++ x → ⊥
no_stamp bytes x stamp few same = omega (arith, few, ap length same, length-append (spelled_number stamp) x, length-number stamp)

-- two keys at the front are the same
pub key_split : (k l : CellKey) (p q : Bool) (x y : List ℕ) → FitsFields k → FitsFields l → key_fields k p ++ x ≡ key_fields l q ++ y → (k ≡ l) × ((p ≡ q) × (x ≡ y))
key_split k l p q x y small also same =
    let whole : column_byte k.qualifier p ∷ behind_column k x ≡ column_byte l.qualifier q ∷ behind_column l y = sym (key_front k p x) ∙ same ∙ key_front l q y in
    let bytes : column_byte k.qualifier p ≡ column_byte l.qualifier q = cc in
    let behind : behind_column k x ≡ behind_column l y = cc in
    let columns = same_column k.qualifier l.qualifier p q bytes in
    let rows = row_split k.row l.row (family_field k.family ++ (spelled_number k.stamp ++ x)) (family_field l.family ++ (spelled_number l.stamp ++ y)) small.row also.row behind in
    let families = family_split k.family l.family (spelled_number k.stamp ++ x) (spelled_number l.stamp ++ y) rows.1 in
    let numbers = number_split k.stamp l.stamp x y families.1 in
    let stamps = same_number k.stamp l.stamp small.stamp also.stamp numbers.0 in
    (λ i. record { row = rows.0 i; family = families.0 i; qualifier = columns.0 i; stamp = stamps i }, (columns.1, numbers.1))

-- ---- the value

pub value_split : (v w : Option (List ℕ)) (x y : List ℕ) → is_some v ≡ is_some w → IsShortValue v → IsShortValue w → value_field v ++ x ≡ value_field w ++ y → (v ≡ w) × (x ≡ y)
value_split None None x y e p q same = (refl, same)
value_split None (Some w) x y e p q same = absurd cc
value_split (Some v) None x y e p q same = absurd cc
value_split (Some v) (Some w) x y e p q same =
    let s = field_split v w x y p q same in
    (ap Some s.0, s.1)

-- a put without a value at the front
pub no_value_field : (bytes x : List ℕ) (value : Option (List ℕ)) → ((part rest : List ℕ) → length part < 2 ^ 32 → bytes ≢ field part ++ rest) → is_some value ≡ true → IsShortValue value → bytes ≡ value_field value ++ x → ⊥
no_value_field bytes x None none some small same = cc
no_value_field bytes x (Some value) none some small same = none value x small same

-- ---- an edit

pub stored_fits : (edit : Edit) → IsStoredEdit edit → FitsFields (edited_key edit)
stored_fits edit is = record {
  row = let few = is.row.few in omega (arith, few);
  family = let few = is.family.few in omega (arith, few);
  stamp = let low = is.limits.to in omega (arith, low);
}

pub stored_value : (edit : Edit) → IsStoredEdit edit → IfSome (edit_value edit) (λ bytes. length bytes ≤ 65536)
stored_value (Put key value) is = is.limits.value
stored_value (Erase key) is = tt

pub short_value : (edit : Edit) → IsStoredEdit edit → IsShortValue (edit_value edit)
short_value (Put key value) is = let few = is.limits.value in omega (arith, few)
short_value (Erase key) is = tt

pub stored_key : (edit : Edit) → IsStoredEdit edit → IsStored (edited_key edit)
stored_key edit is = record { row = is.row; family = is.family; from = is.limits.from; to = is.limits.to }

-- the value comes after the key
pub edit_front : (edit : Edit) (rest : List ℕ) → spelled_edit edit ++ rest ≡ key_fields (edited_key edit) (is_some (edit_value edit)) ++ (value_field (edit_value edit) ++ rest)
edit_front edit rest = append_assoc (key_fields (edited_key edit) (is_some (edit_value edit))) (value_field (edit_value edit)) rest

-- fields at the front that are an edit's
module _ (bytes after rest x : List ℕ) (key : CellKey) (puts : Bool) (edit : Edit) (is : IsStoredEdit edit) (fits : FitsFields key) (read : bytes ≡ key_fields key puts ++ after) (same : bytes ≡ spelled_edit edit ++ x) where
  parts : (key ≡ edited_key edit) × ((puts ≡ is_some (edit_value edit)) × (after ≡ value_field (edit_value edit) ++ x))
  parts = key_split key (edited_key edit) puts (is_some (edit_value edit)) after (value_field (edit_value edit) ++ x) fits (stored_fits edit is) (sym read ∙ same ∙ edit_front edit x)

  pub its_key : key ≡ edited_key edit
  its_key = parts.0

  pub its_puts : is_some (edit_value edit) ≡ puts
  its_puts = sym parts.1.0

  pub its_value_field : after ≡ value_field (edit_value edit) ++ x
  its_value_field = parts.1.1

  pub its_value : (value : Option (List ℕ)) → is_some value ≡ puts → IsShortValue value → after ≡ value_field value ++ rest → value ≡ edit_value edit
  its_value value some small read_value =
      (value_split value (edit_value edit) rest x (some ∙ parts.1.0) small (short_value edit is) (sym read_value ∙ parts.1.1)).0

-- fields that were read are those of the edit that is made of them
pub edit_joined : (bytes after rest : List ℕ) (key : CellKey) (puts : Bool) (value : Option (List ℕ)) (edit : Edit) → bytes ≡ key_fields key puts ++ after → after ≡ value_field value ++ rest → is_some value ≡ puts → edited_key edit ≡ key → edit_value edit ≡ value
    → bytes ≡ spelled_edit edit ++ rest
edit_joined bytes after rest key puts value edit read read_value some keys values =
    let k = sym keys in
    let v = sym values in
    read
    ∙ ap (λ (l : List ℕ). key_fields key puts ++ l) read_value
    ∙ ap (λ (p : Bool). key_fields key p ++ (value_field value ++ rest)) (sym some)
    ∙ sym (append_assoc (key_fields key (is_some value)) (value_field value) rest)
    ∙ (λ i. spelled_fields (k i) (v i) ++ rest)

-- two edits at the front
pub edit_split : (a b : Edit) (x y : List ℕ) → IsStoredEdit a → IsStoredEdit b → spelled_edit a ++ x ≡ spelled_edit b ++ y → (edited_key a ≡ edited_key b) × ((edit_value a ≡ edit_value b) × (x ≡ y))
edit_split a b x y p q same =
    let keys = key_split (edited_key a) (edited_key b) (is_some (edit_value a)) (is_some (edit_value b)) (value_field (edit_value a) ++ x) (value_field (edit_value b) ++ y) (stored_fits a p) (stored_fits b q)
    (sym (edit_front a x) ∙ same ∙ edit_front b y) in
    let values = value_split (edit_value a) (edit_value b) x y keys.1.0 (short_value a p) (short_value b q) keys.1.1 in
    (keys.0, values)

-- ---- lengths

pub key_length : (key : CellKey) (puts : Bool) → length (key_fields key puts) ≡ length key.row + length key.family + 12
key_length key puts =
    omega (arith, length-append (row_field key.row) (family_field key.family ++ spelled_number key.stamp), length-append (to_be_bytes w16 (length key.row)) key.row, length-append (family_field key.family) (spelled_number key.stamp), length-number key.stamp)

pub edit_long : (edit : Edit) → 1 ≤ length (spelled_edit edit)
edit_long edit = omega (arith, length-append (key_fields (edited_key edit) (is_some (edit_value edit))) (value_field (edit_value edit)), key_length (edited_key edit) (is_some (edit_value edit)))

pub rest_shorter : (bytes rest : List ℕ) (edit : Edit) → bytes ≡ spelled_edit edit ++ rest → length rest < length bytes
rest_shorter bytes rest edit is = omega (arith, ap length is, length-append (spelled_edit edit) rest, edit_long edit)

-- an edit has no more bytes as fields than as an entry
fewer : (edit : Edit) → length (spelled_edit edit) ≤ length (spelled_entry edit)
fewer (Put key value) =
    let row = escaped-least key.row in
    omega (arith, length-append (key_fields key true) (field value.items), key_length key true, field_length value.items, put_length key value.items, text_length key, row)
fewer (Erase key) =
    let row = escaped-least key.row in
    omega (arith, length-append (key_fields key false) [], key_length key false, erasure_length key, text_length key, row)

pub all_fewer : (edits : List Edit) → length (spelled_edits edits) ≤ length (spelled_entries edits)
all_fewer [] = omega arith
all_fewer (edit ∷ edits) =
    let one = fewer edit in
    let rest = all_fewer edits in
    omega (arith, one, rest, length-append (spelled_edit edit) (spelled_edits edits), length-append (spelled_entry edit) (spelled_entries edits))
