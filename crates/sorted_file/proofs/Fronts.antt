-- The front of the texts of a column's versions, before their stamps.
use Rattle.std.proofs.Common.{◌≡◌, ◌-◌, ℕ, List, ◌++◌, ◌+◌, length, take, drop, Option, Some, None, refl, sym, ap, ◌∙◌, arith, append_assoc, length-append}
use Rattle.std.specs.Prelude.{false, IfSome, IsTrue}
use Rattle.std.proofs.Math.Seq.{take-append_seam}
use Rattle.std.proofs.lemmas.List.{take-append-drop}
use Rattle.cell_key.specs.Keys.{qualifier_name, text}
use Rattle.cell_key.specs.Texts.{escaped, ended, stamp_text}
use Rattle.cell_key.specs.declared.keys.CellKey.{CellKey}
use Rattle.sorted_file.specs.Newest.{at_stamp}

abbrev front : CellKey → List ℕ
front key = ended (escaped key.row) ++ (ended key.family ++ ended (qualifier_name key.qualifier))

in_parts : (key : CellKey) (s : ℕ) → text (at_stamp key s) ≡ front key ++ stamp_text s
in_parts key s =
    sym (append_assoc (ended (escaped key.row)) (ended key.family ++ ended (qualifier_name key.qualifier)) (stamp_text s)
    ∙ ap (λ (xs : List ℕ). ended (escaped key.row) ++ xs) (append_assoc (ended key.family) (ended (qualifier_name key.qualifier)) (stamp_text s)))

eight : (s : ℕ) → length (stamp_text s) ≡ 8
eight s = refl

text_length : (key : CellKey) (s : ℕ) → length (text (at_stamp key s)) ≡ length (front key) + 8
text_length key s = ap length (in_parts key s) ∙ length-append (front key) (stamp_text s) ∙ ap (λ (n : ℕ). length (front key) + n) (eight s)

pub one_length : (key : CellKey) (s t : ℕ) → length (text (at_stamp key s)) ≡ length (text (at_stamp key t))
one_length key s t = text_length key s ∙ sym (text_length key t)

pub before : (key : CellKey) (s : ℕ) → take (length (text (at_stamp key s)) - 8) (text (at_stamp key s)) ≡ front key
before key s =
    let l = text_length key s in
    let n : length (text (at_stamp key s)) - 8 ≡ length (front key) = omega (arith, l) in
    ap (λ (n : ℕ). take n (text (at_stamp key s))) n ∙ ap (take (length (front key))) (in_parts key s) ∙ take-append_seam (front key) (stamp_text s)

module _ (column bytes : List ℕ) (key : CellKey) (is : column ≡ text key) where
  at : ℕ
  at = length column - 8

  column_front : take (length column - 8) column ≡ front key
  column_front = ap (λ (xs : List ℕ). take (length xs - 8) xs) is ∙ before key key.stamp

  -- bytes that begin like the column's texts and end in a stamp are the text of a version
  pub has_stamp : take (length column - 8) bytes ≡ take (length column - 8) column → (s : ℕ) → drop (length column - 8) bytes ≡ stamp_text s → bytes ≡ text (at_stamp key s)
  has_stamp same s ends =
      sym (take-append-drop (length column - 8) bytes)
      ∙ ap (λ (xs : List ℕ). xs ++ drop (length column - 8) bytes) (same ∙ column_front)
      ∙ ap (λ (xs : List ℕ). front key ++ xs) ends ∙ sym (in_parts key s)

  -- the text of a version begins like the column's texts, and has the same length
  pub same_front : (s : ℕ) → bytes ≡ text (at_stamp key s) → take (length column - 8) bytes ≡ take (length column - 8) column
  same_front s e =
      let l = ap length e ∙ one_length key s key.stamp ∙ sym (ap length is) in
      ap (λ (n : ℕ). take (n - 8) bytes) (sym l) ∙ ap (λ (xs : List ℕ). take (length xs - 8) xs) e ∙ before key s ∙ sym column_front

  pub same_length : (s : ℕ) → bytes ≡ text (at_stamp key s) → length bytes ≡ length column
  same_length s e = ap length e ∙ one_length key s key.stamp ∙ sym (ap length is)

pub if_some : {A : Type 0} (o : Option A) (P Q : A → Type 0) → ((x : A) → P x → Q x) → IfSome o P → IfSome o Q
if_some None P Q f h = tt
if_some (Some x) P Q f h = f x h

pub not_false : IsTrue false → ⊥
not_false t = cc
