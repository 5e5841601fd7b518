-- The bytes of a built file.
use Rattle.std.proofs.Common.{◌≡◌, ◌+◌, ◌≤◌, ◌<◌, ◌^◌, ℕ, List, [], ◌∷◌, ◌++◌, length, refl, sym, ap, subst, ◌∙◌, arith, length-append, append_assoc}
use Rattle.std.specs.Prelude.{flat_map}
use Rattle.std.specs.List.{AllByRecursion}
use Rattle.std.proofs.lemmas.List.{length-map}
use Rattle.cell_key.specs.Entries.{Entry, IsEntry, field}
use Rattle.sorted_file.specs.Builder.{row_spelled, HasShortText}
use Rattle.sorted_file.specs.Check.{IsFormed, IsOpening}
use Rattle.sorted_file.specs.Grammar.{block_bytes, body, foot, head, image_of, index, most, number_bytes, row, AreBlocks, Fits, FitsIn}
use Rattle.sorted_file.specs.Index.{block_of, blocks_of, entries_in, AreRows, IsFirstText}
use Rattle.sorted_file.specs.declared.block.BlockRow.{BlockRow}
use Rattle.sorted_file.specs.declared.check.Opening.{Opening}
use Rattle.sorted_file.specs.declared.format.Format.{Format}
use Rattle.sorted_file.specs.declared.format.Format.TheVariants.{Two}
use Rattle.sorted_file.proofs.Joining.{all_back, all_front}
use Rattle.sorted_file.proofs.Splits.{one_split}
use Rattle.sorted_file.proofs.WholeFiles.{HasBlocks}
use Rattle.sorted_file.proofs.Widths.{all_short, foot_length, head_length, text_small}

-- ---- rows

row_is : (at : ℕ) (r : BlockRow) (es : List Entry) → r.offset ≡ at → r.length ≡ length (block_bytes es) → IsFirstText r.first.items es → Fits es → row_spelled r ≡ row Two at es
row_is at r [] offset size first fits = absurd fits
row_is at r (e ∷ es) offset size first fits =
    ap (λ (n : ℕ). number_bytes Two n ++ (number_bytes Two r.length ++ field r.first.items)) offset
    ∙ ap (λ (n : ℕ). number_bytes Two at ++ (number_bytes Two n ++ field r.first.items)) size
    ∙ ap (λ (b : List ℕ). number_bytes Two at ++ (number_bytes Two (length (block_bytes (e ∷ es))) ++ field b)) first

-- the bytes of the rows are the index
pub rows_index : (at : ℕ) (rows : List BlockRow) → AreRows at rows → AreBlocks (blocks_of rows) → flat_map row_spelled rows ≡ index Two at (blocks_of rows)
rows_index at [] h g = refl
rows_index at (r ∷ rows) h g =
    ap (λ (l : List ℕ). l ++ flat_map row_spelled rows) (row_is at r (block_of r) h.0.offset h.0.length h.0.first g.0)
    ∙ ap (λ (l : List ℕ). row Two at (block_of r) ++ l) (rows_index (at + length (block_bytes (block_of r))) rows h.1 g.2)

first_short : (r : BlockRow) (es : List Entry) → IsFirstText r.first.items es → Fits es → AllByRecursion IsEntry es → HasShortText r
first_short r [] first fits each = absurd fits
first_short r (e ∷ es) first fits each = let small = text_small e each.0 in omega (arith, small, ap length first)

pub short_texts : (at : ℕ) (rows : List BlockRow) → AreRows at rows → AreBlocks (blocks_of rows) → AllByRecursion IsEntry (entries_in (blocks_of rows)) → AllByRecursion HasShortText rows
short_texts at [] h g each = tt
short_texts at (r ∷ rows) h g each = (
  first_short r (block_of r) h.0.first g.0 (all_front IsEntry (block_of r) (entries_in (blocks_of rows)) each),
  short_texts (at + length (block_bytes (block_of r))) rows h.1 g.2 (all_back IsEntry (block_of r) (entries_in (blocks_of rows)) each),
)

-- ---- images

image_length : (blocks : List (List Entry)) (entries : ℕ) → length (image_of Two blocks entries) ≡ 8 + length (body blocks) + length (index Two 8 blocks) + 40
image_length blocks entries =
    let rows = index Two 8 blocks in
    let end : List ℕ = foot Two (8 + length (body blocks)) (length blocks) entries (8 + 40 + length (body blocks) + length rows) in
    let l = length-append (head Two) (body blocks ++ (rows ++ end)) in
    let m = length-append (body blocks) (rows ++ end) in
    let n = length-append rows end in
    let h = head_length Two in
    let f : length end ≡ 40 = foot_length Two (8 + length (body blocks)) (length blocks) entries (8 + 40 + length (body blocks) + length rows) in
    omega (arith, l, m, n, h, f)

module _ (o : Opening) (opening : IsOpening o) (format : o.format ≡ Two) (out rows : List ℕ) (bytes : out ≡ head Two ++ body (blocks_of o.rows.items)) (indexed : rows ≡ index Two 8 (blocks_of o.rows.items)) where
  abbrev blocks : List (List Entry)
  blocks = blocks_of o.rows.items

  out_length : length out ≡ 8 + length (body blocks)
  out_length = let h = head_length Two in omega (arith, ap length bytes, length-append (head Two) (body blocks), h)

  -- no file of its entries has fewer bytes
  pub too_long : (limit : ℕ) → limit < length out + length rows + 40 → FitsIn limit (entries_in blocks) → ⊥
  too_long limit h f =
      let same : f.form.blocks ≡ blocks = one_split f.form.blocks blocks f.form.grammar opening.grammar f.form.whole in
      let size = ap length (f.form.bytes ∙ ap (λ (b : List (List Entry)). image_of Two b (length (entries_in blocks))) same) ∙ image_length blocks (length (entries_in blocks)) in
      let within = f.within in
      omega (arith, out_length, ap length indexed, size, within, h)

  module _ (before image : List ℕ) (count size : ℕ) (joined : before ≡ out ++ rows) (counted : count ≡ length o.rows.items) (sized : size ≡ length out + length rows + 40) (small : size ≤ o.size) (made : image ≡ before ++ foot Two o.end count o.count size) where
    size_is : size ≡ 8 + 40 + length (body blocks) + length (index Two 8 blocks)
    size_is = omega (arith, sized, out_length, ap length indexed)

    foot_is : foot Two o.end (length o.rows.items) o.count size ≡ foot Two (8 + length (body blocks)) (length blocks) (length (entries_in blocks)) (8 + 40 + length (body blocks) + length (index Two 8 blocks))
    foot_is =
        ap (λ (n : ℕ). foot Two n (length o.rows.items) o.count size) opening.reached
        ∙ ap (λ (n : ℕ). foot Two (8 + length (body blocks)) n o.count size) (sym (length-map o.rows.items block_of))
        ∙ ap (λ (n : ℕ). foot Two (8 + length (body blocks)) (length blocks) n size) opening.counted
        ∙ ap (λ (n : ℕ). foot Two (8 + length (body blocks)) (length blocks) (length (entries_in blocks)) n) size_is

    image_is : image ≡ image_of Two blocks (length (entries_in blocks))
    image_is =
        made ∙ ap (λ (l : List ℕ). l ++ foot Two o.end count o.count size) joined
        ∙ ap (λ (n : ℕ). (out ++ rows) ++ foot Two o.end n o.count size) counted
        ∙ append_assoc out rows (foot Two o.end (length o.rows.items) o.count size)
        ∙ ap (λ (l : List ℕ). l ++ (rows ++ foot Two o.end (length o.rows.items) o.count size)) bytes
        ∙ ap (λ (l : List ℕ). (head Two ++ body blocks) ++ (l ++ foot Two o.end (length o.rows.items) o.count size)) indexed
        ∙ ap (λ (l : List ℕ). (head Two ++ body blocks) ++ (index Two 8 blocks ++ l)) foot_is
        ∙ append_assoc (head Two) (body blocks) _

    image_size : length image ≡ size
    image_size = omega (arith, ap length image_is, image_length blocks (length (entries_in blocks)), size_is)

    has_blocks : HasBlocks Two (entries_in blocks) image blocks
    has_blocks =
        let limit = opening.small in
        record {
          form = record {
            blocks = blocks;
            grammar = opening.grammar;
            short = all_short (entries_in blocks) opening.list.each;
            whole = refl;
            bytes = image_is;
            small = image_small (below o.format format o.size limit);
          };
          split = refl;
        }
      where
        below : (f : Format) → f ≡ Two → (n : ℕ) → n < most f → n < 2 ^ 64
        below f e n h = subst (λ (g : Format). n < most g) e h

        image_small : o.size < 2 ^ 64 → length image < 2 ^ 64
        image_small h = omega (arith, h, image_size, small)

    -- the image is the file of its blocks, within its limit
    pub is_formed : IsFormed o image × (length image ≤ o.size)
    is_formed =
        let h = subst (λ (f : Format). HasBlocks f (entries_in blocks) image blocks) (sym format) has_blocks in
        (record { form = h.form; blocks = h.split }, omega (arith, image_size, small))
