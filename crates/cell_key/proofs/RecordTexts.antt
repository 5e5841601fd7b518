-- The content of write records' values: a start, and the kind of a write.
use Rattle.std.proofs.Common.{◌≡◌, ℕ, ◌<◌, ◌^◌, List, [], ◌∷◌, ◌++◌, length, Some, ◌⊎◌, inl, inr, refl, sym, ap, ◌∙◌, subst, arith, length-append}
use Rattle.std.specs.Prelude.{slice_get}
use Rattle.std.proofs.lemmas.List.{append-nil}
use Rattle.std.proofs.lemmas.Option.{same_Some}
use Rattle.byteorder.specs.Endian.{big_number, big_from}
use Rattle.byteorder.specs.Numbers.{big_number-reads_back, length-bytes_high_first}
use Rattle.cell_key.specs.Columns.{IsRecordText, NamesWrite, kind_byte, record_text, start_text}
use Rattle.cell_key.specs.declared.columns.WriteKind.{WriteKind}
use Rattle.cell_key.specs.declared.columns.WriteKind.TheVariants as write

pub start_back : (t : ℕ) → t < 2 ^ 64 → big_number 8 (start_text t) ≡ t
start_back t h = ap (λ xs. big_from 0 8 xs) (sym (append-nil (start_text t))) ∙ big_number-reads_back 8 t [] h

-- each byte belongs to one kind at most
pub same_kind : (k l : WriteKind) → kind_byte k ≡ kind_byte l → k ≡ l
same_kind write.Set write.Set e = refl
same_kind write.Set write.Delete e = absurd (omega (arith, e))
same_kind write.Delete write.Set e = absurd (omega (arith, e))
same_kind write.Delete write.Delete e = refl

pub at_end : (xs : List ℕ) (b : ℕ) → slice_get (xs ++ (b ∷ [])) (length xs) ≡ Some b
at_end [] b = refl
at_end (x ∷ xs) b = at_end xs b

byte_at : (t : ℕ) (kind : WriteKind) → slice_get (record_text t kind) 8 ≡ Some (kind_byte kind)
byte_at t kind = subst (λ (n : ℕ). slice_get (record_text t kind) n ≡ Some (kind_byte kind)) (length-bytes_high_first 8 t) (at_end (start_text t) (kind_byte kind))

text_length : (t : ℕ) (kind : WriteKind) → length (record_text t kind) ≡ 9
text_length t kind = omega (arith, length-append (start_text t) (kind_byte kind ∷ []), length-bytes_high_first 8 t)

-- the kind in a value
abbrev TellsKind : List ℕ → WriteKind → Type 0
TellsKind text kind = ((length text ≡ 8) × (kind ≡ write.Set)) ⊎ ((length text ≡ 9) × (slice_get text 8 ≡ Some (kind_byte kind)))

told : (t : ℕ) (kind : WriteKind) (text : List ℕ) → IsRecordText t kind text → TellsKind text kind
told t kind text (inl e) = inr (ap length e ∙ text_length t kind, ap (λ (l : List ℕ). slice_get l 8) e ∙ byte_at t kind)
told t kind text (inr (is, e)) = inl (ap length e ∙ length-bytes_high_first 8 t, is)

one_told : (text : List ℕ) (k l : WriteKind) → TellsKind text k → TellsKind text l → k ≡ l
one_told text k l (inl (e, a)) (inl (f, b)) = a ∙ sym b
one_told text k l (inl (e, a)) (inr (f, b)) = absurd (omega arith)
one_told text k l (inr (e, a)) (inl (f, b)) = absurd (omega arith)
one_told text k l (inr (e, a)) (inr (f, b)) = same_kind k l (same_Some (kind_byte k) (kind_byte l) (sym a ∙ b))

-- a record's value is decoded to its content
pub names_of : (t : ℕ) (kind : WriteKind) (text : List ℕ) → t < 2 ^ 64 → IsRecordText t kind text → NamesWrite text t kind
names_of t kind text low is = record { start = by is; kind_is = told t kind text is }
  where
    by : IsRecordText t kind text → big_number 8 text ≡ t
    by (inl e) = ap (big_number 8) e ∙ big_number-reads_back 8 t (kind_byte kind ∷ []) low
    by (inr (set, e)) = ap (big_number 8) e ∙ start_back t low

pub one_write : (text : List ℕ) (t u : ℕ) (k l : WriteKind) → NamesWrite text t k → NamesWrite text u l → (t ≡ u) × (k ≡ l)
one_write text t u k l n m = (sym n.start ∙ m.start, one_told text k l n.kind_is m.kind_is)

-- a record holds one start, and one kind
pub same_start : (t u : ℕ) (k l : WriteKind) (text : List ℕ) → t < 2 ^ 64 → u < 2 ^ 64 → IsRecordText t k text → IsRecordText u l text → t ≡ u
same_start t u k l text h g a b = (one_write text t u k l (names_of t k text h a) (names_of u l text g b)).0

pub same_write : (t u : ℕ) (k l : WriteKind) (text : List ℕ) → IsRecordText t k text → IsRecordText u l text → k ≡ l
same_write t u k l text a b = one_told text k l (told t k text a) (told u l text b)
