-- Common properties of both formats, and their differences.
use Rattle.std.proofs.Common.{◌≡◌, ◌+◌, ◌*◌, ◌≤◌, ◌<◌, ◌^◌, ◌==◌, ℕ, zero, suc, false, List, [], ◌∷◌, length, get_or, Option, Some, None, refl, sym, ap, ◌∙◌, arith, length-append}
use Rattle.std.specs.Prelude.{IfSome}
use Rattle.std.specs.List.{AllByRecursion}
use Rattle.std.specs.Int.{w32, w64, from_be_bytes}
use Rattle.std.proofs.lemmas.Nat.{from_be_bytes-to_be_bytes_4, from_be_bytes-to_be_bytes_8}
use Rattle.std.proofs.lemmas.Bool.Decides.{nat_tests}
use Rattle.cell_key.specs.Keys.{text, qualifier_name}
use Rattle.cell_key.specs.Texts.{escaped, escaped_byte, stamp_text}
use Rattle.cell_key.specs.Entries.{Entry, IsEntry, spelled}
use Rattle.cell_key.specs.declared.keys.CellKey.{CellKey}
use Rattle.cell_key.specs.declared.keys.Qualifier.{Qualifier}
use Rattle.cell_key.specs.declared.keys.Qualifier.TheVariants.{Data, Lock, Write}
use Rattle.sorted_file.specs.Grammar.{block_bytes, foot, foot_len, head, most, number_bytes, number_len, Fits, AreBlocks, IsShortEntry}
use Rattle.sorted_file.specs.Index.{entries_in}
use Rattle.sorted_file.specs.declared.format.Format.{Format}
use Rattle.sorted_file.specs.declared.format.Format.TheVariants.{One, Two}
use Rattle.sorted_file.proofs.Joining.{all_front, all_back}

-- ---- numbers, heads and feet

pub number_length : (f : Format) (n : ℕ) → length (number_bytes f n) ≡ number_len f
number_length One n = refl
number_length Two n = refl

pub same_length : (f : Format) (m n : ℕ) → length (number_bytes f m) ≡ length (number_bytes f n)
same_length f m n = number_length f m ∙ sym (number_length f n)

pub same_number : (f : Format) (m n : ℕ) → m < most f → n < most f → number_bytes f m ≡ number_bytes f n → m ≡ n
same_number One m n p q e = sym (from_be_bytes-to_be_bytes_4 m p) ∙ ap (from_be_bytes w32) e ∙ from_be_bytes-to_be_bytes_4 n q
same_number Two m n p q e = sym (from_be_bytes-to_be_bytes_8 m p) ∙ ap (from_be_bytes w64) e ∙ from_be_bytes-to_be_bytes_8 n q

pub some_number : (f : Format) → 4 ≤ number_len f
some_number One = omega arith
some_number Two = omega arith

pub foot_length : (f : Format) (at blocks entries size : ℕ) → length (foot f at blocks entries size) ≡ foot_len f
foot_length One at blocks entries size = refl
foot_length Two at blocks entries size = refl

pub head_length : (f : Format) → length (head f) ≡ 8
head_length One = refl
head_length Two = refl

pub one_head : (f g : Format) → head f ≡ head g → f ≡ g
one_head One One e = refl
one_head One Two e = let z : 49 ≡ 50 = ap (λ (l : List ℕ). get_or l 7 0) e in absurd (omega (arith, z))
one_head Two One e = let z : 50 ≡ 49 = ap (λ (l : List ℕ). get_or l 7 0) e in absurd (omega (arith, z))
one_head Two Two e = refl

-- ---- entries and blocks are short

escaped_byte_len : (b : ℕ) → length (escaped_byte b) ≤ 2
escaped_byte_len zero = omega arith
escaped_byte_len (suc b) = let e : (suc b == 0) ≡ false = grind (arith, nat_tests) in rw e (omega arith)

escaped_len : (row : List ℕ) → length (escaped row) ≤ 2 * length row
escaped_len [] = omega arith
escaped_len (b ∷ row) = let one = escaped_byte_len b in let rest = escaped_len row in omega (arith, length-append (escaped_byte b) (escaped row))

name_len : (q : Qualifier) → length (qualifier_name q) ≤ 5
name_len Data = omega arith
name_len Lock = omega arith
name_len Write = omega arith

text_len : (key : CellKey) → length key.row ≤ 4000 → length key.family ≤ 64 → length (text key) ≤ 8083
text_len key row family =
    let row_len = escaped_len key.row in
    let name = name_len key.qualifier in
    let stamp : length (stamp_text key.stamp) ≡ 8 = refl in
    simp length-append (omega arith)

value_len : (name : List ℕ) (v : Option (List ℕ)) → IfSome v (λ bytes. length bytes ≤ 65536) → length (spelled (name, v)) ≤ length name + 65545
value_len name None h = simp length-append (omega arith)
value_len name (Some bytes) h = simp length-append (omega arith)

pub text_small : (e : Entry) → IsEntry e → length e.0 ≤ 8083
text_small e is =
    let key = text_len is.key is.stored.row.few is.stored.family.few in
    let name = ap length is.named in
    omega arith

pub entry_small : (e : Entry) → IsEntry e → length (spelled e) ≤ 73628
entry_small e is =
    let name = text_small e is in
    let value = value_len e.0 e.1 is.value in
    omega arith

pub all_short : (es : List Entry) → AllByRecursion IsEntry es → AllByRecursion IsShortEntry es
all_short [] h = tt
all_short (e ∷ es) h = (let s = entry_small e h.0 in omega (arith, s), all_short es h.1)

pub block_small : (es : List Entry) → AllByRecursion IsEntry es → Fits es → length (block_bytes es) ≤ 73628
block_small [] h f = absurd f
block_small (e ∷ []) h f = let s = entry_small e h.0 in omega (arith, s, length-append (spelled e) [])
block_small (e ∷ g ∷ es) h f = omega (arith, f)

pub blocks_small : (blocks : List (List Entry)) → AreBlocks blocks → AllByRecursion IsEntry (entries_in blocks) → AllByRecursion (λ (es : List Entry). length (block_bytes es) < 2 ^ 32) blocks
blocks_small [] g h = tt
blocks_small (es ∷ blocks) g h = (
  let s = block_small es (all_front IsEntry es (entries_in blocks) h) g.0 in omega (arith, s),
  blocks_small blocks g.2 (all_back IsEntry es (entries_in blocks) h),
)
