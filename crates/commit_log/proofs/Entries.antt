-- Entries of edits are read back from their bytes; their lengths.
use Rattle.std.proofs.Common.{◌≡◌, ◌≢◌, ℕ, zero, suc, ◌+◌, ◌*◌, ◌≤◌, ◌<◌, ◌^◌, ◌==◌, false, List, [], ◌∷◌, ◌++◌, length, refl, sym, ap, ◌∙◌, arith, length-append, append_assoc}
use Rattle.std.specs.Prelude.{Option, Some, None, IfSome}
use Rattle.std.specs.Int.{w32, to_be_bytes, from_be_bytes}
use Rattle.std.proofs.lemmas.Nat.{from_be_bytes-to_be_bytes_4}
use Rattle.std.proofs.lemmas.Bool.Decides.{nat_tests}
use Rattle.cell_key.specs.Cells.{edited_key}
use Rattle.cell_key.specs.Entries.{Entry, field, spelled, spelled_value}
use Rattle.cell_key.specs.Keys.{text, qualifier_name}
use Rattle.cell_key.specs.Texts.{escaped, escaped_byte, stamp_text}
use Rattle.cell_key.specs.declared.keys.CellKey.{CellKey}
use Rattle.cell_key.specs.declared.keys.Qualifier.{Qualifier}
use Rattle.cell_key.specs.declared.keys.Qualifier.TheVariants.{Data, Lock, Write}
use Rattle.cell_key.specs.declared.edits.Edit.{Edit}
use Rattle.cell_key.specs.declared.edits.Edit.TheVariants.{Put, Erase}
use Rattle.commit_log.specs.Edits.{HasShortParts, IsStoredEdit, edit_entry, edit_value, spelled_entry}
use Rattle.commit_log.proofs.Cuts.{same_front}

-- ---- lengths

escaped_byte_len : (b : ℕ) → length (escaped_byte b) ≤ 2
escaped_byte_len zero = omega arith
escaped_byte_len (suc b) = let e : (suc b == 0) ≡ false = grind (arith, nat_tests) in rw e (omega arith)

pub escaped_len : (row : List ℕ) → length (escaped row) ≤ 2 * length row
escaped_len [] = omega arith
escaped_len (b ∷ row) = let one = escaped_byte_len b in let rest = escaped_len row in omega (arith, length-append (escaped_byte b) (escaped row))

pub name_len : (q : Qualifier) → length (qualifier_name q) ≤ 5
name_len Data = omega arith
name_len Lock = omega arith
name_len Write = omega arith

pub text_length : (key : CellKey) → length (text key) ≡ length (escaped key.row) + length key.family + length (qualifier_name key.qualifier) + 14
text_length key =
    let stamp : length (stamp_text key.stamp) ≡ 8 = refl in
    simp length-append (omega arith)

pub text_len : (key : CellKey) → length key.row ≤ 4000 → length key.family ≤ 64 → length (text key) ≤ 8083
text_len key row family =
    let row_len = escaped_len key.row in
    let name = name_len key.qualifier in
    let stamp : length (stamp_text key.stamp) ≡ 8 = refl in
    simp length-append (omega arith)

pub field_length : (bytes : List ℕ) → length (field bytes) ≡ 4 + length bytes
field_length bytes = length-append (to_be_bytes w32 (length bytes)) bytes

pub spelled_long : (e : Entry) → 4 ≤ length (spelled e)
spelled_long e = omega (arith, length-append (field e.0) (spelled_value e.1), field_length e.0)

pub put_length : (key : CellKey) (value : List ℕ) → length (spelled (text key, Some value)) ≡ length (text key) + length value + 9
put_length key value = omega (arith, length-append (field (text key)) (spelled_value (Some value)), field_length (text key), field_length value)

pub erasure_length : (key : CellKey) → length (spelled (text key, None)) ≡ length (text key) + 5
erasure_length key = omega (arith, length-append (field (text key)) (spelled_value None), field_length (text key))

pub short_edit : (edit : Edit) → IsStoredEdit edit → HasShortParts (edit_entry edit)
short_edit (Put key value) is = record { text = let t = text_len key is.row.few is.family.few in omega (arith, t); value = let v = is.limits.value in omega (arith, v) }
short_edit (Erase key) is = record { text = let t = text_len key is.row.few is.family.few in omega (arith, t); value = tt }

-- ---- the front of bytes

pub field_split : (a b x y : List ℕ) → length a < 2 ^ 32 → length b < 2 ^ 32 → field a ++ x ≡ field b ++ y → (a ≡ b) × (x ≡ y)
field_split a b x y p q e =
    let whole : to_be_bytes w32 (length a) ++ (a ++ x) ≡ to_be_bytes w32 (length b) ++ (b ++ y) = sym (append_assoc (to_be_bytes w32 (length a)) a x) ∙ e ∙ append_assoc (to_be_bytes w32 (length b)) b y in
    let numbers = same_front (to_be_bytes w32 (length a)) (to_be_bytes w32 (length b)) (a ++ x) (b ++ y) refl whole in
    same_front a b x y (sym (from_be_bytes-to_be_bytes_4 (length a) p) ∙ ap (from_be_bytes w32) numbers.0 ∙ from_be_bytes-to_be_bytes_4 (length b) q) numbers.1

value_split : (a b : Option (List ℕ)) (x y : List ℕ) → IfSome a (λ v. length v < 2 ^ 32) → IfSome b (λ v. length v < 2 ^ 32) → spelled_value a ++ x ≡ spelled_value b ++ y → (a ≡ b) × (x ≡ y)
value_split None None x y p q e = let t : x ≡ y = cc in (refl, t)
value_split None (Some b) x y p q e = let z : zero ≡ 1 = cc in absurd (omega (arith, z))
value_split (Some a) None x y p q e = let z : 1 ≡ zero = cc in absurd (omega (arith, z))
value_split (Some a) (Some b) x y p q e =
    let t : field a ++ x ≡ field b ++ y = cc in
    let s = field_split a b x y p q t in
    (ap Some s.0, s.1)

-- two entries at the front are the same
pub entry_split : (e f : Entry) (x y : List ℕ) → HasShortParts e → HasShortParts f → spelled e ++ x ≡ spelled f ++ y → (e ≡ f) × (x ≡ y)
entry_split e f x y p q s =
    let whole : field e.0 ++ (spelled_value e.1 ++ x) ≡ field f.0 ++ (spelled_value f.1 ++ y) = sym (append_assoc (field e.0) (spelled_value e.1) x) ∙ s ∙ append_assoc (field f.0) (spelled_value f.1) y in
    let keys = field_split e.0 f.0 (spelled_value e.1 ++ x) (spelled_value f.1 ++ y) p.text q.text whole in
    let values = value_split e.1 f.1 x y p.value q.value keys.1 in
    (λ i. (keys.0 i, values.0 i), values.1)

pub entry_front : (bytes key rest x : List ℕ) (v : Option (List ℕ)) → bytes ≡ field key ++ rest → rest ≡ spelled_value v ++ x → bytes ≡ spelled (key, v) ++ x
entry_front bytes key rest x v f r = f ∙ ap (λ (l : List ℕ). field key ++ l) r ∙ sym (append_assoc (field key) (spelled_value v) x)

-- the value comes after the first field
value_front : (bytes key rest x : List ℕ) (e : Entry) → length key < 2 ^ 32 → HasShortParts e → bytes ≡ field key ++ rest → bytes ≡ spelled e ++ x → rest ≡ spelled_value e.1 ++ x
value_front bytes key rest x e small is f s =
    let whole : field key ++ rest ≡ field e.0 ++ (spelled_value e.1 ++ x) = sym f ∙ s ∙ append_assoc (field e.0) (spelled_value e.1) x in
    (field_split key e.0 rest (spelled_value e.1 ++ x) small is.text whole).1

-- bytes that don't begin with a field don't begin with an entry
pub no_text : (bytes : List ℕ) → ((part rest : List ℕ) → length part < 2 ^ 32 → bytes ≢ field part ++ rest) → (e : Entry) (x : List ℕ) → HasShortParts e → bytes ≢ spelled e ++ x
no_text bytes none e x is s = none e.0 (spelled_value e.1 ++ x) is.text (s ∙ append_assoc (field e.0) (spelled_value e.1) x)

nothing : (v : Option (List ℕ)) (x : List ℕ) → [] ≡ spelled_value v ++ x → ⊥
nothing None x e = cc
nothing (Some v) x e = cc

pub no_kind : (bytes key rest : List ℕ) → length key < 2 ^ 32 → bytes ≡ field key ++ rest → rest ≡ [] → (e : Entry) (x : List ℕ) → HasShortParts e → bytes ≢ spelled e ++ x
no_kind bytes key rest small f n e x is s = nothing e.1 x (sym n ∙ value_front bytes key rest x e small is f s)

kinds : (v : Option (List ℕ)) (kind : ℕ) (after x : List ℕ) → kind ≢ 0 → kind ≢ 1 → kind ∷ after ≡ spelled_value v ++ x → ⊥
kinds None kind after x p q e = let is : kind ≡ 0 = cc in p is
kinds (Some v) kind after x p q e = let is : kind ≡ 1 = cc in q is

pub other_kind : (bytes key rest after : List ℕ) (kind : ℕ) → length key < 2 ^ 32 → bytes ≡ field key ++ rest → rest ≡ kind ∷ after → kind ≢ 0 → kind ≢ 1 → (e : Entry) (x : List ℕ) → HasShortParts e → bytes ≢ spelled e ++ x
other_kind bytes key rest after kind small f n p q e x is s = kinds e.1 kind after x p q (sym n ∙ value_front bytes key rest x e small is f s)

values : (v : Option (List ℕ)) (after x : List ℕ) → IfSome v (λ b. length b < 2 ^ 32) → ((part more : List ℕ) → length part < 2 ^ 32 → after ≢ field part ++ more) → 1 ∷ after ≡ spelled_value v ++ x → ⊥
values None after x small h e = let is : 1 ≡ zero = cc in absurd (omega (arith, is))
values (Some v) after x small h e = let is : after ≡ field v ++ x = cc in h v x small is

pub no_value : (bytes key rest after : List ℕ) (kind : ℕ) → length key < 2 ^ 32 → bytes ≡ field key ++ rest → rest ≡ kind ∷ after → kind ≡ 1 → ((part more : List ℕ) → length part < 2 ^ 32 → after ≢ field part ++ more)
    → (e : Entry) (x : List ℕ) → HasShortParts e → bytes ≢ spelled e ++ x
no_value bytes key rest after kind small f n one h e x is s =
    values e.1 after x is.value h (ap (λ (k : ℕ). k ∷ after) (sym one) ∙ sym n ∙ value_front bytes key rest x e small is f s)

-- an entry that was read is that of the edit that is made of it
pub entry_joined : (bytes rest name : List ℕ) (value : Option (List ℕ)) (key : CellKey) (edit : Edit) → bytes ≡ spelled (name, value) ++ rest → name ≡ text key → edited_key edit ≡ key → edit_value edit ≡ value → bytes ≡ spelled_entry edit ++ rest
entry_joined bytes rest name value key edit read named keys values =
    read
    ∙ ap (λ (n : List ℕ). spelled (n, value) ++ rest) (named ∙ ap text (sym keys))
    ∙ ap (λ (v : Option (List ℕ)). spelled (text (edited_key edit), v) ++ rest) (sym values)
