-- The lengths of fields, their contents, and the bytes after them.
use Rattle.std.proofs.Common.{◌≡◌, ℕ, ◌+◌, ◌^◌, ◌-◌, ◌<◌, ◌≤◌, List, [], ◌∷◌, ◌++◌, length, get_or, take, drop, refl, sym, ap, ◌∙◌, append_assoc, append-nil, length-append, false, ◌==◌, subst, take_at, drop_at, Option, None, Some, IfSome, IfNone, Result, Ok, Err, OnErr, ◌≢◌, arith}
use Rattle.std.proofs.lemmas.Nat.{be_bytes_2, be_bytes_4, be_bytes_8}
use Rattle.std.specs.Borrow.{Bor}
use Rattle.byteorder.specs.Endian.{big_number}
use Rattle.byteorder.specs.Numbers.{length-bytes_high_first, big_number-reads_back}
use Rattle.cell_key.specs.declared.keys.Qualifier.{Qualifier}
use Rattle.cell_key.specs.declared.keys.Qualifier.TheVariants.{Data, Lock, Write}
use Rattle.si_model.specs.declared.replies.Cell.{Cell}
use Rattle.request_codec.specs.Fields.{number, field, cell_fields, qualifier_number, FitsField, FitsCell}

-- ---- numbers

pub length-number : (k n : ℕ) → length (number k n) ≡ k
unfolding number
length-number k n = length-bytes_high_first k n

reads-number : (k n : ℕ) (rest : List ℕ) → n < 256 ^ k → big_number k (number k n ++ rest) ≡ n
unfolding number
reads-number k n rest fits = big_number-reads_back k n rest fits

pub same_number : (k m n : ℕ) (x y : List ℕ) → m < 256 ^ k → n < 256 ^ k → number k m ++ x ≡ number k n ++ y → m ≡ n
same_number k m n x y p q e = sym (reads-number k m x p) ∙ ap (big_number k) e ∙ reads-number k n y q

pub past_number : (k m n : ℕ) (x y : List ℕ) → number k m ++ x ≡ number k n ++ y → x ≡ y
past_number k m n x y e = sym (drop_at (number k m) x k (length-number k m)) ∙ ap (drop k) e ∙ drop_at (number k n) y k (length-number k n)

-- too few bytes for a number
pub no_number : (k n : ℕ) (bytes after : List ℕ) → length bytes < k → bytes ≡ number k n ++ after → ⊥
no_number k n bytes after few e = omega (arith, length-append (number k n) after, length-number k n, ap length e)

-- a decoded number is encoded to the same bytes
pub spells_2 : (front : List ℕ) (n : ℕ) → length front ≡ 2 → ((i : ℕ) → get_or front i 0 < 256) → n ≡ big_number 2 front → front ≡ number 2 n
unfolding number
spells_2 front n len bytes e = sym (be_bytes_2 front n len bytes (omega arith))

pub spells_4 : (front : List ℕ) (n : ℕ) → length front ≡ 4 → ((i : ℕ) → get_or front i 0 < 256) → n ≡ big_number 4 front → front ≡ number 4 n
unfolding number
spells_4 front n len bytes e = sym (be_bytes_4 front n len bytes (omega arith))

pub spells_8 : (front : List ℕ) (n : ℕ) → length front ≡ 8 → ((i : ℕ) → get_or front i 0 < 256) → n ≡ big_number 8 front → front ≡ number 8 n
unfolding number
spells_8 front n len bytes e = sym (be_bytes_8 front n len bytes (omega arith))

-- lists of the same length, followed by the same
same_front : (a b x y : List ℕ) → length a ≡ length b → a ++ x ≡ b ++ y → (a ≡ b) × (x ≡ y)
same_front a b x y size same = (
  sym (take_at a x (length a) refl) ∙ ap (take (length a)) same ∙ take_at b y (length a) (sym size),
  sym (drop_at a x (length a) refl) ∙ ap (drop (length a)) same ∙ drop_at b y (length a) (sym size),
)

-- ---- fields of bytes

pub length-field : (bytes : List ℕ) → length (field bytes) ≡ 4 + length bytes
unfolding field
length-field bytes = omega (arith, length-append (number 4 (length bytes)) bytes, length-number 4 (length bytes))

pub field-append : (bytes rest : List ℕ) → field bytes ++ rest ≡ number 4 (length bytes) ++ (bytes ++ rest)
unfolding field
field-append bytes rest = append_assoc (number 4 (length bytes)) bytes rest

-- the contents of two fields, and the bytes after them
pub same_field : (a b x y : List ℕ) → FitsField a → FitsField b → field a ++ x ≡ field b ++ y → (a ≡ b) × (x ≡ y)
same_field a b x y p q e =
    let whole = sym (field-append a x) ∙ e ∙ field-append b y in
    let len = same_number 4 (length a) (length b) (a ++ x) (b ++ y) p q whole in
    same_front a b x y len (past_number 4 (length a) (length b) (a ++ x) (b ++ y) whole)

-- ---- cells

pub length-cell : (cell : Cell) → length (cell_fields cell) ≡ 8 + length cell.row + length cell.family
unfolding cell_fields
length-cell cell = omega (arith, length-append (field cell.row) (field cell.family), length-field cell.row, length-field cell.family)

pub cell-append : (cell : Cell) (rest : List ℕ) → cell_fields cell ++ rest ≡ field cell.row ++ (field cell.family ++ rest)
unfolding cell_fields
cell-append cell rest = append_assoc (field cell.row) (field cell.family) rest

pub same_cell : (a b : Cell) (x y : List ℕ) → FitsCell a → FitsCell b → cell_fields a ++ x ≡ cell_fields b ++ y → (a ≡ b) × (x ≡ y)
same_cell a b x y p q e =
    let whole = sym (cell-append a x) ∙ e ∙ cell-append b y in
    let row = same_field a.row b.row (field a.family ++ x) (field b.family ++ y) p.row q.row whole in
    let family = same_field a.family b.family x y p.family q.family row.1 in
    (λ i. record { row = row.0 i; family = family.0 i }, family.1)

-- ---- qualifiers

qualifier-fits : (q : Qualifier) → qualifier_number q < 256
qualifier-fits Data = omega arith
qualifier-fits Lock = omega arith
qualifier-fits Write = omega arith

numbered : ℕ → Qualifier
numbered n = get_or (Data ∷ Lock ∷ Write ∷ []) (n - 1) Data

numbered-back : (q : Qualifier) → numbered (qualifier_number q) ≡ q
unfolding numbered
numbered-back Data = refl
numbered-back Lock = refl
numbered-back Write = refl

-- a qualifier, and the bytes after it
pub same_qualifier : (a b : Qualifier) (x y : List ℕ) → number 1 (qualifier_number a) ++ x ≡ number 1 (qualifier_number b) ++ y → (a ≡ b) × (x ≡ y)
same_qualifier a b x y e = (
  sym (numbered-back a) ∙ ap numbered (same_number 1 (qualifier_number a) (qualifier_number b) x y (qualifier-fits a) (qualifier-fits b) e) ∙ numbered-back b,
  past_number 1 (qualifier_number a) (qualifier_number b) x y e,
)

-- a number that is no qualifier's
pub no_qualifier : (o : Option Qualifier) (old : List ℕ) (byte : ℕ) (mid : List ℕ) → byte < 256 → old ≡ number 1 byte ++ mid → IfNone o ((q : Qualifier) → qualifier_number q ≢ byte)
    → IfNone o ((q : Qualifier) (after : List ℕ) → old ≢ number 1 (qualifier_number q) ++ after)
no_qualifier (Some q) old byte mid fits e none = tt
no_qualifier None old byte mid fits e none = λ q after f.
    none q (sym (same_number 1 byte (qualifier_number q) mid after fits (qualifier-fits q) (sym e ∙ f)))

-- ---- options and results

pub if_none : {X : Type 0} (o : Option X) {P : Type 0} → P → IfNone o P
if_none None p = p
if_none (Some x) p = tt

pub on_err : {X E : Type 0} (r : Result X E) {P : Type 0} → P → OnErr r P
on_err (Ok x) p = tt
on_err (Err e) p = p

-- ---- a length, and the bytes after it

pub cut_field : (o : Option (Bor (List ℕ))) (old : List ℕ) (len : ℕ) (mid new : List ℕ) → old ≡ number 4 len ++ mid → IfSome o (λ front. mid ≡ front.now ++ new) → IfSome o (λ front. length front.now ≡ len)
    → IfSome o (λ front. old ≡ field front.now ++ new)
cut_field None old len mid new e f g = tt
cut_field (Some front) old len mid new e f g = e ∙ ap (λ (t : List ℕ). number 4 len ++ t) f ∙ ap (λ (n : ℕ). number 4 n ++ (front.now ++ new)) (sym g) ∙ sym (field-append front.now new)

pub no_bytes : (o : Option (Bor (List ℕ))) (old : List ℕ) (len : ℕ) (mid : List ℕ) → old ≡ number 4 len ++ mid → len < 2 ^ 32 → IfNone o (length mid < len)
    → IfNone o ((bytes after : List ℕ) → FitsField bytes → old ≢ field bytes ++ after)
no_bytes (Some front) old len mid e fits few = tt
no_bytes None old len mid e fits few = λ bytes after p f.
    let whole = sym e ∙ f ∙ field-append bytes after in
    let same = same_number 4 len (length bytes) mid (bytes ++ after) fits p whole in
    let rest = past_number 4 len (length bytes) mid (bytes ++ after) whole in
    omega (arith, ap length rest, length-append bytes after)

-- ---- nothing is left after the last field

not_empty : (rest : List ℕ) → false ≡ (length rest == 0) → rest ≡ [] → ⊥
not_empty rest f e = let g = subst (λ (t : List ℕ). false ≡ (length t == 0)) e f in cc

pub left_number : (k m n : ℕ) (rest old : List ℕ) → old ≡ number k m ++ rest → false ≡ (length rest == 0) → old ≡ number k n → ⊥
left_number k m n rest old e f g = not_empty rest f (past_number k m n rest [] (sym e ∙ g ∙ sym (append-nil (number k n))))

pub left_field : (a b rest old : List ℕ) → FitsField a → FitsField b → old ≡ field a ++ rest → false ≡ (length rest == 0) → old ≡ field b → ⊥
left_field a b rest old p q e f g = not_empty rest f (same_field a b rest [] p q (sym e ∙ g ∙ sym (append-nil (field b)))).1

pub left_cell : (a b : Cell) (rest old : List ℕ) → FitsCell a → FitsCell b → old ≡ cell_fields a ++ rest → false ≡ (length rest == 0) → old ≡ cell_fields b → ⊥
left_cell a b rest old p q e f g = not_empty rest f (same_cell a b rest [] p q (sym e ∙ g ∙ sym (append-nil (cell_fields b)))).1

pub ruleset lengths = (length-number, length-field, length-cell, length-append)

-- ---- the first two bytes of a body

abbrev pub first : List ℕ → ℕ
first bytes = get_or bytes 0 0

abbrev pub second : List ℕ → ℕ
second bytes = get_or bytes 1 0
