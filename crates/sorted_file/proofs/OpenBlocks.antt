-- The blocks of an open file are in its image.
use Rattle.std.proofs.Common.{◌≡◌, ◌+◌, ℕ, zero, suc, List, [], ◌∷◌, ◌++◌, length, map, take, drop, Option, Some, None, refl, sym, ap, subst, ◌∙◌, arith, append_assoc, length-append}
use Rattle.std.proofs.Math.Seq.{take-append_seam, drop-append_seam}
use Rattle.std.specs.List.{AllByRecursion}
use Rattle.cell_key.specs.Entries.{Entry, IsEntry, IsEntryList, IsRising}
use Rattle.file_store.specs.Store.{Contents, part}
use Rattle.sorted_file.specs.Grammar.{block_bytes, body, head, AreBlocks, image_of}
use Rattle.sorted_file.specs.Index.{block_of, blocks_of, entries_in, first_of, AreRows, IsBlockIn}
use Rattle.sorted_file.specs.File.{IsOpen, listed}
use Rattle.sorted_file.specs.declared.block.BlockRow.{BlockRow}
use Rattle.sorted_file.specs.declared.file.SortedFile.{SortedFile}
use Rattle.sorted_file.proofs.Joining.{all_back, all_front, rising_back, rising_front}
use Rattle.sorted_file.proofs.Widths.{head_length}
use Rattle.sorted_file.proofs.Rows.{all_named, firsts_rise, IsNamed}

pub blocks_in : (image : List ℕ) (at : ℕ) (before : List ℕ) (rows : List BlockRow) (after : List ℕ) → image ≡ before ++ (body (blocks_of rows) ++ after) → length before ≡ at → AreRows at rows → IsEntryList (entries_in (blocks_of rows)) → AllByRecursion (IsBlockIn image) rows
blocks_in image at before [] after e l p h = tt
blocks_in image at before (row ∷ rows) after e l p h =
    let b = block_bytes (block_of row) in
    let cut : image ≡ before ++ (b ++ (body (blocks_of rows) ++ after)) = e ∙ ap (λ (x : List ℕ). before ++ x) (append_assoc b (body (blocks_of rows)) after) in
    let offset : row.offset ≡ length before = p.0.offset ∙ sym l in
    let size = p.0.length in
    let l1 = ap length cut ∙ length-append before (b ++ (body (blocks_of rows) ++ after)) in
    let l2 = length-append b (body (blocks_of rows) ++ after) in
    let l3 = length-append before b in (
      record {
        list = record { rising = rising_front (block_of row) (entries_in (blocks_of rows)) h.rising; each = all_front IsEntry (block_of row) (entries_in (blocks_of rows)) h.each };
        within = omega (arith, offset, size, l1, l2);
        bytes = ap (λ (n : ℕ). part image n row.length) offset ∙ ap (λ (x : List ℕ). take row.length (drop (length before) x)) cut
            ∙ ap (take row.length) (drop-append_seam before (b ++ (body (blocks_of rows) ++ after))) ∙ ap (λ (n : ℕ). take n (b ++ (body (blocks_of rows) ++ after))) size
            ∙ take-append_seam b (body (blocks_of rows) ++ after);
      },
      blocks_in image (at + length b) (before ++ b) rows after (cut ∙ sym (append_assoc before b (body (blocks_of rows) ++ after))) (omega (arith, l3, l)) p.1
          (record { rising = rising_back (block_of row) (entries_in (blocks_of rows)) h.rising; each = all_back IsEntry (block_of row) (entries_in (blocks_of rows)) h.each }),
    )

module _ (m : Contents) (file : SortedFile) (o : IsOpen m file) where
  pub open_in : AllByRecursion (IsBlockIn o.image) file.rows.items
  open_in =
      blocks_in o.image 8 (head o.format) file.rows.items _ (o.form.bytes ∙ ap (λ (b : List (List Entry)). image_of o.format b (length (listed m file))) o.blocks) (head_length o.format) o.rows o.list

  pub open_named : AllByRecursion IsNamed file.rows.items
  open_named = all_named 8 file.rows.items o.rows (subst AreBlocks o.blocks o.form.grammar)

  pub open_firsts : IsRising (map first_of file.rows.items)
  open_firsts = firsts_rise file.rows.items open_named o.list.rising

-- the last one of some rows, and the rows from an index on
pub row_in : (P : BlockRow → Type 0) (rows : List BlockRow) (n : ℕ) (front : List BlockRow) (row : BlockRow) → take n rows ≡ front ++ row ∷ [] → AllByRecursion P rows → P row
row_in P rows zero [] row t all = cc
row_in P rows zero (f ∷ front) row t all = cc
row_in P [] (suc n) [] row t all = cc
row_in P [] (suc n) (f ∷ front) row t all = cc
row_in P (x ∷ rows) (suc n) [] row t all = let same : x ≡ row = cc in subst P same all.0
row_in P (x ∷ rows) (suc n) (f ∷ front) row t all = let rest : take n rows ≡ front ++ row ∷ [] = cc in row_in P rows n front row rest all.1

pub rows_behind : (P : BlockRow → Type 0) (n : ℕ) (rows : List BlockRow) → AllByRecursion P rows → AllByRecursion P (drop n rows)
rows_behind P zero rows all = all
rows_behind P (suc n) [] all = tt
rows_behind P (suc n) (x ∷ rows) all = rows_behind P n rows all.1
