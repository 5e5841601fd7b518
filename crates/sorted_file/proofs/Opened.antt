-- The bytes behind entries with texts below a text.
use Rattle.std.proofs.Common.{◌≡◌, ◌≢◌, true, false, List, ℕ, [], ◌∷◌, ◌++◌, refl, sym, ap, ◌∙◌, append_assoc, subst, length, Option, Some, None}
use Rattle.std.specs.Prelude.{IfSome}
use Rattle.std.specs.Ordering.{is_le}
use Rattle.std.specs.List.{AllByRecursion}
use Rattle.std.specs.declared.cmp.Ordering.{Ordering}
use Rattle.std.specs.declared.cmp.Ordering.TheVariants.{Less, Equal, Greater}
use Rattle.std.proofs.lemmas.List.Concat.{flat_map-append}
use Rattle.cell_key.specs.Keys.{byte_cmp}
use Rattle.cell_key.specs.Entries.{Entry, spelled}
use Rattle.file_store.specs.Store.{Contents, bytes_of, part}
use Rattle.sorted_file.specs.Block.{BeginsFrom, IsBehind}
use Rattle.sorted_file.specs.Cursor.{GoesOn, IsOpened, ends, opens, takes}
use Rattle.sorted_file.specs.declared.block.BlockRow.{BlockRow}
use Rattle.sorted_file.specs.Grammar.{block_bytes}

-- ---- the bytes behind entries

greater : (o : Ordering) → is_le o ≡ false → o ≡ Greater
greater Less p = cc
greater Equal p = cc
greater Greater p = refl

pub not_greater : (o : Ordering) → is_le o ≡ true → o ≢ Greater
not_greater o p g =
    let no : false ≡ true = sym (ap is_le g) ∙ p in
    cc

all_on : (P : Entry → Type 0) (es : List Entry) (e : Entry) → AllByRecursion P es → P e → AllByRecursion P (es ++ e ∷ [])
all_on P [] e h p = (p, tt)
all_on P (x ∷ es) e h p = (h.0, all_on P es e h.1 p)

-- no entries are before all bytes
pub behind_none : (text bytes : List ℕ) → IsBehind text bytes bytes
behind_none text bytes = record { before = []; below = tt; bytes_are = refl }

-- one more entry is behind
pub behind_next : (text bytes rest after : List ℕ) (e : Entry) → IsBehind text bytes rest → rest ≡ spelled e ++ after → is_le (byte_cmp text e.0) ≡ false → IsBehind text bytes after
behind_next text bytes rest after e h r low =
    record {
      before = h.before ++ e ∷ [];
      below = all_on (λ e. byte_cmp text e.0 ≡ Greater) h.before e h.below (greater _ low);
      bytes_are = h.bytes_are ∙ ap (λ (l : List ℕ). block_bytes h.before ++ l) r
          ∙ sym (append_assoc (block_bytes h.before) (spelled e) after)
          ∙ ap (λ (l : List ℕ). l ++ after) (ap (λ (l : List ℕ). block_bytes h.before ++ l) (sym (append-nil (spelled e))) ∙ sym (flat_map-append spelled h.before (e ∷ [])));
    }
  where
    append-nil : (xs : List ℕ) → xs ++ [] ≡ xs
    append-nil [] = refl
    append-nil (x ∷ xs) = ap (λ (l : List ℕ). x ∷ l) (append-nil xs)

-- ---- a step of a cursor

-- a row was opened
pub is_opened : (m : Contents) (name : ℕ) (from : List ℕ) (row : BlockRow) (block bytes rest ahead : List ℕ) → length block ≡ row.length → block ≡ part (bytes_of m name) row.offset row.length → bytes ≡ block → IsBehind from bytes rest → BeginsFrom from rest → ahead ≡ rest → IsOpened m name from row ahead
is_opened m name from row block bytes rest ahead size now same behind begins e =
    record {
      whole = ap length (sym now) ∙ size;
      behind = subst (λ (l : List ℕ). IsBehind from l ahead) (same ∙ now) (subst (IsBehind from bytes) (sym e) behind);
      begins = subst (BeginsFrom from) (sym e) begins;
    }

pub goes_open : (was disk : Option Contents) (old name : ℕ) (before from : List ℕ) (row : BlockRow) (rows all later : List BlockRow) (ahead bytes rest : List ℕ) (lent : Option Entry)
    → was ≡ disk → old ≡ name → before ≡ from → IfSome was (λ m. IsOpened m old before row bytes) → ahead ≡ [] → all ≡ row ∷ rows → GoesOn disk name from bytes rows lent rest later → GoesOn disk name from ahead all lent rest later
goes_open was disk old name before from row rows all later ahead bytes rest lent d n f opened none cut goes =
    let here = subst (λ (t : List ℕ). IfSome disk (λ m. IsOpened m name t row bytes)) f (subst (λ (k : ℕ). IfSome disk (λ m. IsOpened m k before row bytes)) n (subst (λ (o : Option Contents). IfSome o (λ m. IsOpened m old before row bytes)) d opened)) in
    subst (λ (l : List BlockRow). GoesOn disk name from ahead l lent rest later) (sym cut) (subst (λ (l : List ℕ). GoesOn disk name from l (row ∷ rows) lent rest later) (sym none) (opens here goes))

pub goes_end : (disk : Option Contents) (name : ℕ) (from ahead : List ℕ) (rows : List BlockRow) → ahead ≡ [] → rows ≡ [] → GoesOn disk name from ahead rows None ahead rows
goes_end disk name from ahead rows none no_rows =
    subst (λ (l : List BlockRow). GoesOn disk name from ahead l None ahead l) (sym no_rows) (subst (λ (l : List ℕ). GoesOn disk name from l [] None l []) (sym none) ends)

pub goes_entry : (disk : Option Contents) (name : ℕ) (from ahead rest : List ℕ) (rows : List BlockRow) (e : Entry) → ahead ≡ spelled e ++ rest → GoesOn disk name from ahead rows (Some e) rest rows
goes_entry disk name from ahead rest rows e is =
    subst (λ (l : List ℕ). GoesOn disk name from l rows (Some e) rest rows) (sym is) takes
