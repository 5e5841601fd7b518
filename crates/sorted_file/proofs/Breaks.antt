-- The place where the entries of a cursor break off.
use Rattle.std.proofs.Common.{◌≡◌, ◌<◌, ◌≢◌, ℕ, List, [], ◌∷◌, length, sym, ap, subst, ◌∙◌, arith}
use Rattle.std.specs.Prelude.{Option, IfSome}
use Rattle.cell_key.specs.Entries.{Entry, IsRising}
use Rattle.file_store.specs.Store.{Contents, bytes_of, part}
use Rattle.sorted_file.specs.Cursor.{BreaksOff, HasNoBlock, IsOpened, behind, missing}
use Rattle.sorted_file.specs.declared.block.BlockRow.{BlockRow}
use Rattle.sorted_file.specs.Grammar.{block_bytes}

-- the file ends before a block does
pub short_block : (m : Contents) (name : ℕ) (row : BlockRow) → length (part (bytes_of m name) row.offset row.length) < row.length → HasNoBlock m name row
short_block m name row short es list size e =
    let same = ap length e in
    omega (arith, short, size, same)

-- the bytes read are no entry list
pub garbled_block : (m : Contents) (name : ℕ) (row : BlockRow) (block bytes : List ℕ) → block ≡ part (bytes_of m name) row.offset row.length → bytes ≡ block → ((es : List Entry) → IsRising es → bytes ≢ block_bytes es) → HasNoBlock m name row
garbled_block m name row block bytes now same none es list size e = none es list.rising (same ∙ now ∙ e)

-- the next block isn't there
pub breaks_here : (was disk : Option Contents) (old name : ℕ) (from ahead : List ℕ) (row : BlockRow) (rows all : List BlockRow)
    → was ≡ disk → old ≡ name → IfSome was (λ m. HasNoBlock m old row) → ahead ≡ [] → all ≡ row ∷ rows → BreaksOff disk name from ahead all
breaks_here was disk old name from ahead row rows all d n none empty cut =
    let here = subst (λ (k : ℕ). IfSome disk (λ m. HasNoBlock m k row)) n (subst (λ (o : Option Contents). IfSome o (λ m. HasNoBlock m old row)) d none) in
    subst (λ (l : List BlockRow). BreaksOff disk name from ahead l) (sym cut) (subst (λ (l : List ℕ). BreaksOff disk name from l (row ∷ rows)) (sym empty) (missing here))

-- the next block is opened
pub breaks_behind : (was disk : Option Contents) (old name : ℕ) (before from : List ℕ) (row : BlockRow) (rows all : List BlockRow) (ahead bytes : List ℕ)
    → was ≡ disk → old ≡ name → before ≡ from → IfSome was (λ m. IsOpened m old before row bytes) → ahead ≡ [] → all ≡ row ∷ rows → BreaksOff disk name from bytes rows → BreaksOff disk name from ahead all
breaks_behind was disk old name before from row rows all ahead bytes d n f opened none cut breaks =
    let here = subst (λ (t : List ℕ). IfSome disk (λ m. IsOpened m name t row bytes)) f (subst (λ (k : ℕ). IfSome disk (λ m. IsOpened m k before row bytes)) n (subst (λ (o : Option Contents). IfSome o (λ m. IsOpened m old before row bytes)) d opened)) in
    subst (λ (l : List BlockRow). BreaksOff disk name from ahead l) (sym cut) (subst (λ (l : List ℕ). BreaksOff disk name from l (row ∷ rows)) (sym none) (behind here breaks))
