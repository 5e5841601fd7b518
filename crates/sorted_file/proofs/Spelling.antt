-- Entries are read back from their bytes, and a file's entries from its image.
use Rattle.std.proofs.Common.{◌≡◌, ℕ, zero, ◌+◌, ◌≤◌, ◌<◌, ◌^◌, List, [], ◌∷◌, ◌++◌, length, refl, sym, ap, ◌∙◌, arith, length-append, append_assoc}
use Rattle.std.specs.Prelude.{flat_map, Option, Some, None, codes}
use Rattle.std.specs.List.{AllByRecursion}
use Rattle.std.specs.Int.{w32, to_be_bytes}
use Rattle.std.proofs.lemmas.List.Concat.{flat_map-append}
use Rattle.cell_key.specs.Entries.{Entry, spelled, spelled_value, field}
use Rattle.sorted_file.specs.Grammar.{block_bytes, body, foot_len, head, index, most, number_bytes, IsFile, IsShortEntry}
use Rattle.sorted_file.specs.declared.format.Format.{Format}
use Rattle.sorted_file.specs.declared.format.Format.TheVariants.{One}
use Rattle.sorted_file.proofs.Widths.{foot_length, head_length, same_length, same_number}

-- equal parts of equal lists
pub parted : {A : Type 0} (a b x y : List A) → length a ≡ length b → a ++ x ≡ b ++ y → (a ≡ b) × (x ≡ y)
parted [] [] x y l e = (refl, e)
parted [] (b ∷ bs) x y l e = absurd (omega (arith, l))
parted (a ∷ as₁) [] x y l e = absurd (omega (arith, l))
parted (a ∷ as₁) (b ∷ bs) x y l e =
    let heads : a ≡ b = cc in
    let tails : as₁ ++ x ≡ bs ++ y = cc in
    let rest = parted as₁ bs x y (omega (arith, l)) tails in
    (ap (λ z. z ∷ as₁) heads ∙ ap (λ l. b ∷ l) rest.0, rest.1)

-- two numbers at the front of the same bytes are equal
pub number_split : (f : Format) (m n : ℕ) (x y : List ℕ) → m < most f → n < most f → number_bytes f m ++ x ≡ number_bytes f n ++ y → (m ≡ n) × (x ≡ y)
number_split f m n x y p q e =
    let parts = parted (number_bytes f m) (number_bytes f n) x y (same_length f m n) e in
    (same_number f m n p q parts.0, parts.1)

pub field_length : (bytes : List ℕ) → length (field bytes) ≡ 4 + length bytes
field_length bytes = length-append (to_be_bytes w32 (length bytes)) bytes

-- two fields at the front of the same bytes are equal
pub field_split : (a b x y : List ℕ) → length a < 2 ^ 32 → length b < 2 ^ 32 → field a ++ x ≡ field b ++ y → (a ≡ b) × (x ≡ y)
field_split a b x y p q e =
    let whole : to_be_bytes w32 (length a) ++ (a ++ x) ≡ to_be_bytes w32 (length b) ++ (b ++ y) = sym (append_assoc (to_be_bytes w32 (length a)) a x) ∙ e ∙ append_assoc (to_be_bytes w32 (length b)) b y in
    let numbers = parted (to_be_bytes w32 (length a)) (to_be_bytes w32 (length b)) (a ++ x) (b ++ y) refl whole in
    parted a b x y (same_number One (length a) (length b) p q numbers.0) numbers.1

-- an entry whose lengths fit their four bytes
pub record IsShort (e : Entry) : Type 0 where
  pub key : length e.0 < 2 ^ 32
  pub value : length (spelled_value e.1) < 2 ^ 32

value_split : (a b : Option (List ℕ)) (x y : List ℕ) → length (spelled_value a) < 2 ^ 32 → length (spelled_value b) < 2 ^ 32 → spelled_value a ++ x ≡ spelled_value b ++ y → (a ≡ b) × (x ≡ y)
value_split None None x y p q e = let t : x ≡ y = cc in (refl, t)
value_split None (Some b) x y p q e = let z : zero ≡ 1 = cc in absurd (omega (arith, z))
value_split (Some a) None x y p q e = let z : 1 ≡ zero = cc in absurd (omega (arith, z))
value_split (Some a) (Some b) x y p q e =
    let t : field a ++ x ≡ field b ++ y = cc in
    let s = field_split a b x y (omega (arith, p, field_length a)) (omega (arith, q, field_length b)) t in
    (ap Some s.0, s.1)

-- two entries at the front of the same bytes are equal
pub spelled_split : (e f : Entry) (x y : List ℕ) → IsShort e → IsShort f → spelled e ++ x ≡ spelled f ++ y → (e ≡ f) × (x ≡ y)
spelled_split e f x y p q s =
    let whole : field e.0 ++ (spelled_value e.1 ++ x) ≡ field f.0 ++ (spelled_value f.1 ++ y) = sym (append_assoc (field e.0) (spelled_value e.1) x) ∙ s ∙ append_assoc (field f.0) (spelled_value f.1) y in
    let keys = field_split e.0 f.0 (spelled_value e.1 ++ x) (spelled_value f.1 ++ y) p.key q.key whole in
    let values = value_split e.1 f.1 x y p.value q.value keys.1 in
    (λ i. (keys.0 i, values.0 i), values.1)

pub spelled_length : (e : Entry) → length (spelled e) ≡ 4 + length e.0 + length (spelled_value e.1)
spelled_length e = length-append (field e.0) (spelled_value e.1) ∙ ap (λ (n : ℕ). n + length (spelled_value e.1)) (field_length e.0)

pub some_value : (v : Option (List ℕ)) → 1 ≤ length (spelled_value v)
some_value None = omega arith
some_value (Some v) = omega arith

pub short : (e : Entry) (x bytes : List ℕ) → bytes ≡ spelled e ++ x → length bytes < 2 ^ 32 → IsShort e
short e x bytes s p =
    let l : length bytes ≡ length (spelled e) + length x = ap length s ∙ length-append (spelled e) x in
    record { key = omega (arith, l, p, spelled_length e); value = omega (arith, l, p, spelled_length e) }

pub record GoesOn (done es : List Entry) (rest : List ℕ) : Type 0 where
  pub more : List Entry
  pub list : es ≡ done ++ more
  pub bytes : rest ≡ flat_map spelled more

-- the entries read are the first ones of each list with these bytes
pub goes_on : (done es : List Entry) (bytes rest : List ℕ) → length bytes < 2 ^ 32 → bytes ≡ flat_map spelled done ++ rest → bytes ≡ flat_map spelled es → GoesOn done es rest
goes_on [] es bytes rest p s t = record { more = es; list = refl; bytes = sym s ∙ t }
goes_on (d ∷ done) [] bytes rest p s t =
    let whole : bytes ≡ spelled d ++ (flat_map spelled done ++ rest) = s ∙ append_assoc (spelled d) (flat_map spelled done) rest in
    let l : length bytes ≡ length (spelled d) + length (flat_map spelled done ++ rest) = ap length whole ∙ length-append (spelled d) (flat_map spelled done ++ rest) in
    let z : length bytes ≡ 0 = ap length t in
    absurd (omega (arith, l, z, spelled_length d))
goes_on (d ∷ done) (e ∷ es) bytes rest p s t =
    let whole : bytes ≡ spelled d ++ (flat_map spelled done ++ rest) = s ∙ append_assoc (spelled d) (flat_map spelled done) rest in
    let l : length bytes ≡ length (spelled d) + length (flat_map spelled done ++ rest) = ap length whole ∙ length-append (spelled d) (flat_map spelled done ++ rest) in
    let split = spelled_split d e (flat_map spelled done ++ rest) (flat_map spelled es) (short d _ bytes whole p) (short e _ bytes t p) (sym whole ∙ t) in
    let on = goes_on done es (flat_map spelled done ++ rest) rest (omega (arith, l, p)) refl split.1 in
    record { more = on.more; list = ap (λ z. z ∷ es) (sym split.0) ∙ ap (λ (l : List Entry). d ∷ l) on.list; bytes = on.bytes }

pub no_more : (es : List Entry) → [] ≡ flat_map spelled es → es ≡ []
no_more [] s = refl
no_more (e ∷ es) s =
    let l : 0 ≡ length (spelled e) + length (flat_map spelled es) = ap length s ∙ length-append (spelled e) (flat_map spelled es) in
    absurd (omega (arith, l, spelled_length e))

append-nil : {A : Type 0} (xs : List A) → xs ++ [] ≡ xs
append-nil [] = refl
append-nil (x ∷ xs) = ap (λ (l : List _). x ∷ l) (append-nil xs)

-- no other list has these bytes
pub one_spelling : (es fs : List Entry) → length (flat_map spelled es) < 2 ^ 32 → flat_map spelled es ≡ flat_map spelled fs → fs ≡ es
one_spelling es fs p s =
    let on = goes_on es fs (flat_map spelled es) [] p (sym (append-nil (flat_map spelled es))) s in
    on.list ∙ ap (λ (more : List Entry). es ++ more) (no_more on.more on.bytes) ∙ append-nil es

-- two lists of short entries with the same bytes are equal
pub one_short : (es fs : List Entry) → AllByRecursion IsShortEntry es → AllByRecursion IsShortEntry fs → flat_map spelled es ≡ flat_map spelled fs → es ≡ fs
one_short es [] p q s = no_more es (sym s)
one_short [] (f ∷ fs) p q s = sym (no_more (f ∷ fs) s)
one_short (e ∷ es) (f ∷ fs) p q s =
    let split = spelled_split e f (flat_map spelled es) (flat_map spelled fs) (short e [] (spelled e) (sym (append-nil (spelled e))) p.0) (short f [] (spelled f) (sym (append-nil (spelled f))) q.0) s in
    ap (λ (x : Entry). x ∷ es) split.0 ∙ ap (λ (l : List Entry). f ∷ l) (one_short es fs p.1 q.1 split.1)

-- the bytes of the blocks are the bytes of the entries
pub body-whole : (blocks : List (List Entry)) → body blocks ≡ flat_map spelled (flat_map (λ es. es) blocks)
body-whole [] = refl
body-whole (es ∷ blocks) = ap (λ bytes. block_bytes es ++ bytes) (body-whole blocks) ∙ sym (flat_map-append spelled es (flat_map (λ es. es) blocks))

-- an image, cut at its entries
pub record IsCut (f : Format) (es : List Entry) (image : List ℕ) : Type 0 where
  pub rows : List ℕ
  pub numbers : List ℕ
  pub bytes : image ≡ head f ++ (flat_map spelled es ++ (rows ++ (number_bytes f (8 + length (flat_map spelled es)) ++ numbers)))
  pub size : length image ≡ 8 + foot_len f + length (flat_map spelled es) + length rows

pub is_cut : (f : Format) (es : List Entry) (image : List ℕ) → IsFile f es image → IsCut f es image
is_cut f es image is =
    let same : body is.blocks ≡ flat_map spelled es = body-whole is.blocks ∙ ap (flat_map spelled) is.whole in
    let rows = index f 8 is.blocks in
    let all = 8 + foot_len f + length (body is.blocks) + length rows in
    let numbers : List ℕ = number_bytes f (length is.blocks) ++ (number_bytes f (length es) ++ (number_bytes f all ++ codes "TABLETZZ")) in
    let tail : List ℕ = number_bytes f (8 + length (flat_map spelled es)) ++ numbers in
    let whole : image ≡ head f ++ (flat_map spelled es ++ (rows ++ tail)) =
    is.bytes ∙ ap (λ (b : List ℕ). head f ++ (b ++ (rows ++ (number_bytes f (8 + length b) ++ numbers)))) same in
    let l1 = ap length whole ∙ length-append (head f) (flat_map spelled es ++ (rows ++ tail)) in
    let l2 = length-append (flat_map spelled es) (rows ++ tail) in
    let l3 = length-append rows tail in
    let h = head_length f in
    let t : length tail ≡ foot_len f = foot_length f (8 + length (flat_map spelled es)) (length is.blocks) (length es) all in
    record { rows = rows; numbers = numbers; bytes = whole; size = omega (arith, l1, l2, l3, h, t) }
