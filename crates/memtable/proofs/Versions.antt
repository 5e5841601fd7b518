-- Texts of the versions of a column.
use Rattle.std.proofs.Common.{◌≡◌, ℕ, List, ◌++◌, length, length-append, take-append-drop, take, drop, ◌-◌, refl, sym, ap, ◌∙◌, arith, append_assoc}
use Rattle.std.specs.Prelude.{Option, Some, None, IfSome, IfNone}
use Rattle.std.proofs.Math.Seq.{take-append_seam}
use Rattle.cell_key.specs.Keys.{qualifier_name, text}
use Rattle.cell_key.specs.Texts.{escaped, ended, stamp_text}
use Rattle.cell_key.specs.declared.keys.CellKey.{CellKey}
use Rattle.memtable.specs.Order.{at_stamp, key_of}
use Rattle.memtable.specs.declared.sought.Version.{Version}

-- the text of a key without its stamp
abbrev pub column_text : CellKey → List ℕ
column_text key =
    ended (escaped key.row) ++ (ended key.family ++ ended (qualifier_name key.qualifier))

-- the text of a key is the column's front and the stamp's text
pub key_in_parts : (key : CellKey) → column_text key ++ stamp_text key.stamp ≡ text key
key_in_parts key =
    append_assoc (ended (escaped key.row)) (ended key.family ++ ended (qualifier_name key.qualifier)) (stamp_text key.stamp)
    ∙ ap (λ (xs : List ℕ). ended (escaped key.row) ++ xs) (append_assoc (ended key.family) (ended (qualifier_name key.qualifier)) (stamp_text key.stamp))

pub in_parts : (v : Version) (s : ℕ) → column_text (key_of v) ++ stamp_text s ≡ text (at_stamp v s)
in_parts v s = key_in_parts (at_stamp v s)

pub if_some : {A : Type 0} (o : Option A) (P Q : A → Type 0) → ((x : A) → P x → Q x) → IfSome o P → IfSome o Q
if_some None P Q f h = tt
if_some (Some x) P Q f h = f x h

pub if_none : {A : Type 0} (o : Option A) {P Q : Type 0} → (P → Q) → IfNone o P → IfNone o Q
if_none None f h = f h
if_none (Some x) f h = tt

-- ---- texts that differ in their last eight bytes alone

pub before_stamp : (bytes front : List ℕ) (s n : ℕ) → bytes ≡ front ++ stamp_text s → n ≡ length bytes → take (n - 8) bytes ≡ front
before_stamp bytes front s n e whole =
    let lens = ap length e in
    let stamp : length (stamp_text s) ≡ 8 = refl in
    let parts = length-append front (stamp_text s) in
    let at : n - 8 ≡ length front = omega (arith, lens, stamp, parts, whole) in
    ap (λ (k : ℕ). take k bytes) at ∙ ap (take (length front)) e ∙ take-append_seam front (stamp_text s)

pub same_front : (text bytes front : List ℕ) (other s : ℕ) → text ≡ front ++ stamp_text other
    → take (length text - 8) text ≡ take (length text - 8) bytes → drop (length text - 8) bytes ≡ stamp_text s
    → bytes ≡ front ++ stamp_text s
same_front text bytes front other s first same last =
    sym (take-append-drop (length text - 8) bytes)
    ∙ ap (λ (xs : List ℕ). xs ++ drop (length text - 8) bytes) (sym same ∙ before_stamp text front other (length text) first refl)
    ∙ ap (λ (xs : List ℕ). front ++ xs) last

pub one_front : (text bytes front : List ℕ) (other s : ℕ) → text ≡ front ++ stamp_text other → bytes ≡ front ++ stamp_text s
    → take (length text - 8) text ≡ take (length text - 8) bytes
one_front text bytes front other s first second =
    let one = ap length first ∙ length-append front (stamp_text other) in
    let two = ap length second ∙ length-append front (stamp_text s) in
    let stamp : length (stamp_text other) ≡ length (stamp_text s) = refl in
    before_stamp text front other (length text) first refl
    ∙ sym (before_stamp bytes front s (length text) second (omega (arith, one, two, stamp)))
