-- Texts of keys without their stamps.
use Rattle.std.proofs.Common.{◌≡◌, ◌-◌, ◌++◌, List, ℕ, length, take, refl, ap, sym, ◌∙◌, append_assoc, arith}
use Rattle.std.proofs.Math.Seq.{take-append_seam}
use Rattle.std.proofs.lemmas.List.{length-append}
use Rattle.cell_key.specs.Cells.{version}
use Rattle.cell_key.specs.Keys.{qualifier_name, text}
use Rattle.cell_key.specs.Texts.{escaped, ended, stamp_text}
use Rattle.cell_key.specs.declared.keys.CellKey.{CellKey}

-- a key's text without its stamp
abbrev pub column_text : CellKey → List ℕ
column_text key = ended (escaped key.row) ++ (ended key.family ++ ended (qualifier_name key.qualifier))

-- with a stamp it is the text of the key in the same column at that stamp
pub with_stamp : (key : CellKey) (s : ℕ) → column_text key ++ stamp_text s ≡ text (version key.row key.family key.qualifier s)
with_stamp key s =
    append_assoc (ended (escaped key.row)) (ended key.family ++ ended (qualifier_name key.qualifier)) (stamp_text s)
    ∙ ap (λ (t : List ℕ). ended (escaped key.row) ++ t) (append_assoc (ended key.family) (ended (qualifier_name key.qualifier)) (stamp_text s))

-- it is a key's text without the last eight bytes
pub before_stamp : (bytes : List ℕ) (key : CellKey) (n : ℕ) → n ≡ length bytes → bytes ≡ text key → take (n - 8) bytes ≡ column_text key
before_stamp bytes key n whole is =
    let e : bytes ≡ column_text key ++ stamp_text key.stamp = is ∙ sym (with_stamp key key.stamp) in
    let lens = ap length e in
    let parts = length-append (column_text key) (stamp_text key.stamp) in
    let stamp : length (stamp_text key.stamp) ≡ 8 = refl in
    let at : n - 8 ≡ length (column_text key) = omega (arith, lens, stamp, parts, whole) in
    ap (λ (k : ℕ). take k bytes) at ∙ ap (take (length (column_text key))) e ∙ take-append_seam (column_text key) (stamp_text key.stamp)
