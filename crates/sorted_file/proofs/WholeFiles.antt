-- A file whose blocks were all read.
use Rattle.std.proofs.Common.{◌≡◌, ℕ, ◌+◌, ◌-◌, ◌≤◌, ◌<◌, List, [], ◌∷◌, ◌++◌, length, drop, refl, sym, ap, subst, ◌∙◌, arith, length-append, Some, None}
use Rattle.std.proofs.lemmas.List.{take-append-drop, length-map}
use Rattle.std.specs.Prelude.{Option, IfSome, IsSome, flat_map}
use Rattle.std.specs.FinMap as map
use Rattle.file_store.specs.Store.{Contents}
use Rattle.cell_key.specs.Entries.{Entry, field, spelled}
use Rattle.sorted_file.specs.Grammar.{block_bytes, body, foot_len, head, index, most, number_bytes, row, foot, AreBlocks, IsFile, IsNoFile}
use Rattle.sorted_file.specs.Index.{block_of, blocks_of, entries_in, Tells}
use Rattle.sorted_file.specs.Check.{IsFormed, IsFramed, IsOpening, IsRead, IsReading, IsWhole}
use Rattle.sorted_file.specs.File.{HasFile}
use Rattle.sorted_file.specs.declared.block.BlockRow.{BlockRow}
use Rattle.sorted_file.specs.declared.format.Format.{Format}
use Rattle.sorted_file.specs.declared.check.Opening.{Opening}
use Rattle.sorted_file.proofs.Joining.{block_fits}
use Rattle.sorted_file.proofs.NextBlocks.{drop_part, end_is, image_length, left}
use Rattle.sorted_file.proofs.Spelling.{body-whole, number_split, spelled_length}
use Rattle.sorted_file.proofs.Widths.{all_short, foot_length, head_length, number_length, some_number}

-- ---- there are no more blocks or entries than bytes

pub few_entries : (es : List Entry) → length es ≤ length (flat_map spelled es)
few_entries [] = omega arith
few_entries (e ∷ es) =
    let l = length-append (spelled e) (flat_map spelled es) in
    omega (arith, l, spelled_length e, few_entries es)

pub few_blocks : (blocks : List (List Entry)) → AreBlocks blocks → length blocks ≤ length (body blocks)
few_blocks [] g = omega arith
few_blocks ([] ∷ blocks) g = absurd g.0
few_blocks ((e ∷ es) ∷ blocks) g =
    let l = length-append (block_bytes (e ∷ es)) (body blocks) in
    let m = few_entries (e ∷ es) in
    let n = few_blocks blocks g.2 in
    let k : length (e ∷ es) ≡ 1 + length es = length-append (e ∷ []) es in
    let j : length ((e ∷ es) ∷ blocks) ≡ 1 + length blocks = length-append ((e ∷ es) ∷ []) blocks in
    omega (arith, l, m, n, k, j)

-- the bytes are the file of these entries in these blocks
pub record HasBlocks (f : Format) (es : List Entry) (image : List ℕ) (blocks : List (List Entry)) : Type 0 where
  pub form : IsFile f es image
  pub split : form.blocks ≡ blocks

module _ (o : Opening) (opening : IsOpening o) where
  count_rows : length o.rows.items ≡ length (blocks_of o.rows.items)
  count_rows = sym (length-map o.rows.items block_of)

  count_entries : o.count ≡ length (entries_in (blocks_of o.rows.items))
  count_entries = opening.counted

  pub rows_fit : length o.rows.items ≤ o.size
  rows_fit =
      let few = few_blocks (blocks_of o.rows.items) opening.grammar in
      let reached = opening.reached in
      let within = opening.within in
      omega (arith, few, reached, within, count_rows)

  pub entries_fit : o.count ≤ o.size
  entries_fit =
      let few = few_entries (entries_in (blocks_of o.rows.items)) in
      let whole = ap length (body-whole (blocks_of o.rows.items)) in
      let reached = opening.reached in
      let within = opening.within in
      omega (arith, few, whole, reached, within, count_entries)

  abbrev foot_of : List ℕ
  foot_of = foot o.format o.end (length o.rows.items) (o.count) o.size

  module _ (told : Option Contents) (image all end : List ℕ) (reading : IsReading told o image all end []) where
    small : o.size < most o.format
    small = opening.small

    abbrev blocks : List (List Entry)
    blocks = blocks_of o.rows.items

    -- ---- a foot that is right

    module _ (is : end ≡ foot_of) where
      at : reading.framed.at ≡ o.end
      at =
          let to = reading.framed.to in
          let size = reading.size in
          let within = opening.within in
          (number_split o.format reading.framed.at o.end _ _ (omega (arith, to, size, small)) (omega (arith, within, small)) (sym reading.framed.foot ∙ is)).0

      append-nil : (xs : List ℕ) → xs ++ [] ≡ xs
      append-nil [] = refl
      append-nil (x ∷ xs) = ap (λ (l : List ℕ). x ∷ l) (append-nil xs)

      behind : drop (8 + length (body blocks)) image ≡ index o.format 8 blocks ++ end
      behind =
          let to = reading.framed.to in
          let k = length image - foot_len o.format - reading.framed.at in
          ap (λ (n : ℕ). drop n image) (sym (at ∙ opening.reached)) ∙ drop_part image reading.framed.at k
          ∙ ap (λ (l : List ℕ). l ++ drop (reading.framed.at + k) image) (sym reading.framed.behind ∙ reading.read.rows ∙ append-nil (index o.format 8 blocks))
          ∙ ap (λ (n : ℕ). index o.format 8 blocks ++ drop n image) (omega (arith, to)) ∙ ap (λ (l : List ℕ). index o.format 8 blocks ++ l) (sym reading.framed.last)

      bytes : image ≡ head o.format ++ (body blocks ++ (index o.format 8 blocks ++ end))
      bytes =
          sym (take-append-drop 8 image) ∙ ap (λ (l : List ℕ). l ++ drop 8 image) reading.framed.named
          ∙ ap (λ (l : List ℕ). head o.format ++ l) (reading.read.bytes ∙ ap (λ (l : List ℕ). body blocks ++ l) behind)

      size_is : o.size ≡ 8 + foot_len o.format + length (body blocks) + length (index o.format 8 blocks)
      size_is =
          let size = reading.size in
          let l = ap length bytes ∙ length-append (head o.format) (body blocks ++ (index o.format 8 blocks ++ end)) in
          let m = length-append (body blocks) (index o.format 8 blocks ++ end) in
          let k = length-append (index o.format 8 blocks) end in
          let h = head_length o.format in
          let e : length end ≡ foot_len o.format = ap length is ∙ foot_length o.format _ _ _ _ in
          omega (arith, size, l, m, k, h, e)

      foot_is : end ≡ foot o.format (8 + length (body blocks)) (length blocks) (length (entries_in blocks)) (8 + foot_len o.format + length (body blocks) + length (index o.format 8 blocks))
      foot_is =
          is ∙ ap (λ (n : ℕ). foot o.format n (length o.rows.items) (o.count) o.size) opening.reached
          ∙ ap (λ (n : ℕ). foot o.format (8 + length (body blocks)) n (o.count) o.size) count_rows
          ∙ ap (λ (n : ℕ). foot o.format (8 + length (body blocks)) (length blocks) n o.size) count_entries
          ∙ ap (λ (n : ℕ). foot o.format (8 + length (body blocks)) (length blocks) (length (entries_in blocks)) n) size_is

      pub formed : IsFormed o image
      formed =
          let size = reading.size in
          record {
            form = record {
              blocks = blocks;
              grammar = opening.grammar;
              short = all_short (entries_in blocks) opening.list.each;
              whole = refl;
              bytes = bytes ∙ ap (λ (l : List ℕ). head o.format ++ (body blocks ++ (index o.format 8 blocks ++ l))) foot_is;
              small = omega (arith, size, small);
            };
            blocks = refl;
          }

    -- ---- the foot of each file

    pub foot_there : (es : List Entry) → IsFile o.format es image → end ≡ foot_of
    foot_there es f =
        let more = left o opening told image all end [] reading es f in
        go more.more more.list more.rows_are
      where
        go : (more : List (List Entry)) → f.blocks ≡ blocks ++ more → [] ≡ index o.format (8 + length (body blocks)) more ++ [] → end ≡ foot_of
        go [] l r =
            let size = reading.size in
            let same : f.blocks ≡ blocks = l ∙ none blocks in
            let long = image_length o opening told image all end [] reading es f in
            let entries : length es ≡ o.count = ap length (sym f.whole ∙ ap entries_in same) ∙ sym count_entries in
            let reached : 8 + length (body f.blocks) ≡ o.end = ap (λ (b : List (List Entry)). 8 + length (body b)) same ∙ sym opening.reached in
            end_is o opening told image all end [] reading es f
            ∙ ap (λ (n : ℕ). foot o.format n (length f.blocks) (length es) (8 + foot_len o.format + length (body f.blocks) + length (index o.format 8 f.blocks))) reached
            ∙ ap (λ (n : ℕ). foot o.format o.end n (length es) (8 + foot_len o.format + length (body f.blocks) + length (index o.format 8 f.blocks))) (ap length same ∙ sym count_rows)
            ∙ ap (λ (n : ℕ). foot o.format o.end (length o.rows.items) n (8 + foot_len o.format + length (body f.blocks) + length (index o.format 8 f.blocks))) entries
            ∙ ap (λ (n : ℕ). foot o.format o.end (length o.rows.items) (o.count) n) (omega (arith, long, size))
          where
            none : (xs : List (List Entry)) → xs ++ [] ≡ xs
            none [] = refl
            none (x ∷ xs) = ap (λ (l : List (List Entry)). x ∷ l) (none xs)
        go ([] ∷ more) l r = absurd (block_fits blocks [] more (subst AreBlocks l f.grammar))
        go ((e ∷ es) ∷ more) l r =
            let at = 8 + length (body blocks) in
            let n = number_bytes o.format at in
            let first = number_bytes o.format (length (block_bytes (e ∷ es))) ++ field e.0 in
            let l1 = ap length r ∙ length-append (row o.format at (e ∷ es) ++ index o.format (at + length (block_bytes (e ∷ es))) more) [] in
            let l2 = length-append (row o.format at (e ∷ es)) (index o.format (at + length (block_bytes (e ∷ es))) more) in
            let l3 = length-append n first in
            let k = number_length o.format at in
            let s = some_number o.format in
            absurd (omega (arith, l1, l2, l3, k, s))

-- ---- nothing was read yet

pub start_reading : (o : Opening) (told : Option Contents) (name : ℕ) (image all end : List ℕ) → o.name ≡ name → o.rows.items ≡ [] → Tells told name image → length image ≡ o.size → IsFramed o.format image all end → IsReading told o image all end all
start_reading o told name image all end named empty tells size framed =
    record {
      tells = subst (λ (n : ℕ). Tells told n image) (sym named) tells;
      size = size;
      framed = framed;
      read = subst (λ (rows : List BlockRow). IsRead o.format image all (blocks_of rows) all) (sym empty) (record { bytes = refl; rows = refl });
    }

-- ---- known contents of files

pub no_file : (told : Option Contents) (name : ℕ) → ((image : List ℕ) → Tells told name image → IsNoFile image) → IfSome told (λ m. ¬ HasFile m name)
no_file None name f = tt
no_file (Some m) name f = λ h. f h.image h.there h.format h.entries h.list h.form

pub whole_file : (told : Option Contents) (name : ℕ) (o : Opening) → IfSome told (λ m. IsSome (map.get m name)) → ((image : List ℕ) → Tells told name image → IsFormed o image) → IfSome told (λ m. IsWhole m name o)
whole_file None name o there f = tt
whole_file (Some m) name o there f = go (map.get m name) refl there
  where
    go : (found : Option (List ℕ)) → map.get m name ≡ found → IsSome found → IsWhole m name o
    go None e some = cc
    go (Some image) e some = let is = f image e in record { image = image; there = e; form = is.form; blocks = is.blocks }
