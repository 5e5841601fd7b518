-- The content of a lock's value: a place, and the kind of a write.
use Rattle.std.proofs.Common.{◌≡◌, ℕ, List, [], ◌∷◌, ◌++◌, length, inl, inr, sym, ap, ◌∙◌, arith, length-append}
use Rattle.std.specs.Prelude.{slice_get}
use Rattle.std.proofs.lemmas.List.{append_assoc, append_cancel_right}
use Rattle.std.proofs.lemmas.Option.{same_Some}
use Rattle.cell_key.specs.Columns.{IsLockText, IsParted, kind_byte}
use Rattle.cell_key.specs.Texts.{ended, escaped, place_text}
use Rattle.cell_key.specs.declared.columns.WriteKind.{WriteKind}
use Rattle.cell_key.specs.declared.columns.WriteKind.TheVariants as write
use Rattle.cell_key.proofs.RecordTexts.{at_end, same_kind}

-- lists with a last element are equal only if the elements before it and the last ones are
same_ends : (xs ys : List ℕ) (a b : ℕ) → xs ++ (a ∷ []) ≡ ys ++ (b ∷ []) → (xs ≡ ys) × (a ≡ b)
same_ends xs ys a b e = (append_cancel_right xs ys (a ∷ []) (e ∙ ap (λ (c : ℕ). ys ++ (c ∷ [])) (sym last)), last)
  where
    long : length xs ≡ length ys
    long = omega (arith, ap length e, length-append xs (a ∷ []), length-append ys (b ∷ []))

    last : a ≡ b
    last = same_Some a b (sym (at_end xs a) ∙ (ap (λ (l : List ℕ). slice_get l (length xs)) e ∙ (ap (slice_get (ys ++ (b ∷ []))) long ∙ at_end ys b)))

abbrev place_front : List ℕ → List ℕ → List ℕ
place_front row family = ended (escaped row) ++ (family ++ (0 ∷ []))

-- a place ends with a byte 0
place_ends : (row family : List ℕ) → place_text row family ≡ place_front row family ++ (0 ∷ [])
place_ends row family =
    ap (λ (l : List ℕ). ended (escaped row) ++ l) (sym (append_assoc family (0 ∷ []) (0 ∷ [])))
    ∙ sym (append_assoc (ended (escaped row)) (family ++ (0 ∷ [])) (0 ∷ []))

-- and 0 is no kind's byte
no_kind : (kind : WriteKind) → 0 ≡ kind_byte kind → ⊥
no_kind write.Set e = omega (arith, e)
no_kind write.Delete e = omega (arith, e)

-- a lock's value has one place, and one kind
pub one_part : (row family : List ℕ) (k kind : WriteKind) (text place : List ℕ) → IsLockText row family k text → IsParted text place kind → (place ≡ place_text row family) × (kind ≡ k)
one_part row family k kind text place (inl e) (inl f) =
    let same = same_ends place (place_text row family) (kind_byte kind) (kind_byte k) (sym f ∙ e) in
    (same.0, same_kind kind k same.1)
one_part row family k kind text place (inl e) (inr (whole, set, none)) = absurd (none k (place_text row family) e)
one_part row family k kind text place (inr (set, e)) (inl f) =
    absurd (no_kind kind (sym (same_ends place (place_front row family) (kind_byte kind) 0 (sym f ∙ (e ∙ place_ends row family))).1))
one_part row family k kind text place (inr (set, e)) (inr (whole, is, none)) = (sym whole ∙ e, is ∙ sym set)

-- a lock names one place
pub one_first : (row family row' family' : List ℕ) (k l : WriteKind) (text : List ℕ) → IsLockText row family k text → IsLockText row' family' l text → place_text row family ≡ place_text row' family'
one_first row family row' family' k l text (inl e) (inl f) = (same_ends (place_text row family) (place_text row' family') (kind_byte k) (kind_byte l) (sym e ∙ f)).0
one_first row family row' family' k l text (inl e) (inr (set, f)) = absurd (no_kind k (sym (same_ends (place_text row family) (place_front row' family') (kind_byte k) 0 (sym e ∙ (f ∙ place_ends row' family'))).1))
one_first row family row' family' k l text (inr (set, e)) (inl f) = absurd (no_kind l (sym (same_ends (place_text row' family') (place_front row family) (kind_byte l) 0 (sym f ∙ (e ∙ place_ends row family))).1))
one_first row family row' family' k l text (inr (set, e)) (inr (too, f)) = sym e ∙ f

-- a value with the place of a row and a family is the value of their lock
pub whole_text : (row family : List ℕ) (kind : WriteKind) (text place : List ℕ) → place ≡ place_text row family → IsParted text place kind → IsLockText row family kind text
whole_text row family kind text place named (inl e) = inl (e ∙ ap (λ (l : List ℕ). l ++ (kind_byte kind ∷ [])) named)
whole_text row family kind text place named (inr (whole, set, none)) = inr (set, whole ∙ named)
