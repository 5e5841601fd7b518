-- The next block of a file, after the blocks that were read.
use Rattle.std.proofs.Common.{◌≡◌, ℕ, ◌+◌, ◌-◌, ◌≤◌, ◌<◌, ◌^◌, List, [], ◌∷◌, ◌++◌, length, take, drop, refl, sym, ap, subst, ◌∙◌, arith, length-append, length-drop, append_assoc}
use Rattle.std.proofs.Math.Seq.{take-append_seam, drop-append_seam, drop-append-add}
use Rattle.std.proofs.lemmas.List.{take-append-drop, drop-drop}
use Rattle.std.proofs.lemmas.List.Concat.{flat_map-append}
use Rattle.std.specs.Prelude.{Option, flat_map}
use Rattle.std.specs.List.{AllByRecursion}
use Rattle.file_store.specs.Store.{Contents, part}
use Rattle.cell_key.specs.Entries.{Entry, IsEntry, IsEntryList, IsRising, spelled, field}
use Rattle.sorted_file.specs.Index.{IsFirstText, block_of, blocks_of, entries_in, row_bytes, AreRows}
use Rattle.sorted_file.specs.Grammar.{block_bytes, body, foot_len, head, index, most, number_bytes, row, foot, Fits, AreBlocks, IsFile}
use Rattle.sorted_file.specs.Block.{IsBlock}
use Rattle.sorted_file.specs.Check.{IsFollowed, IsNext, IsOpening, IsRead, IsReading}
use Rattle.sorted_file.specs.declared.block.BlockRow.{BlockRow}
use Rattle.sorted_file.specs.declared.format.RowRef.{RowRef}
use Rattle.sorted_file.specs.declared.format.Format.{Format}
use Rattle.sorted_file.specs.declared.check.Opening.{Opening}
use Rattle.sorted_file.proofs.Growth.{index-last, body-last, flat-last}
use Rattle.sorted_file.proofs.Joining.{all_back, all_front, all_joined, blocks_joined, map_joined, rows_joined, block_fits, block_follows, rising_back, rising_front}
use Rattle.sorted_file.proofs.Reading.{place_of}
use Rattle.sorted_file.proofs.Widths.{block_small, blocks_small, foot_length, head_length, number_length, some_number, text_small}
use Rattle.sorted_file.proofs.Spelling.{parted, number_split, field_split, one_spelling, body-whole}

first_same : (x y : Entry) (xs ys : List Entry) → x ∷ xs ≡ y ∷ ys → x ≡ y
first_same x y xs ys e = cc

-- ---- rows

-- the parts of a row
row_apart : (f : Format) (at : ℕ) (e : Entry) (es : List Entry) (x : List ℕ) → row f at (e ∷ es) ++ x ≡ number_bytes f at ++ (number_bytes f (length (block_bytes (e ∷ es))) ++ (field e.0 ++ x))
row_apart f at e es x =
    let n = number_bytes f (length (block_bytes (e ∷ es))) in
    append_assoc (number_bytes f at) (n ++ field e.0) x ∙ ap (λ (l : List ℕ). number_bytes f at ++ l) (append_assoc n (field e.0) x)

pub record IsSameRow (r : RowRef) (rest : List ℕ) (at : ℕ) (e : Entry) (es : List Entry) (after : List ℕ) : Type 0 where
  pub offset : r.offset ≡ at
  pub length_is : r.length ≡ length (block_bytes (e ∷ es))
  pub first : r.first.now ≡ e.0
  pub rest_is : rest ≡ after

-- two rows at the front of the same bytes are equal
pub same_row : (f : Format) (r : RowRef) (rest : List ℕ) (at : ℕ) (e : Entry) (es : List Entry) (after tail : List ℕ) → r.offset < most f → r.length < most f → length r.first.now < 2 ^ 32 → at < most f → length e.0 < 2 ^ 32 → length (block_bytes (e ∷ es)) < most f
    → tail ≡ row_bytes f r ++ rest → tail ≡ row f at (e ∷ es) ++ after → IsSameRow r rest at e es after
same_row f r rest at e es after tail so sl sf sa se sb p q =
    let n = number_bytes f r.length in
    let apart : tail ≡ number_bytes f r.offset ++ (n ++ (field r.first.now ++ rest)) = p ∙ append_assoc (number_bytes f r.offset) (n ++ field r.first.now) rest ∙ ap (λ (l : List ℕ). number_bytes f r.offset ++ l) (append_assoc n (field r.first.now) rest) in
    let one = number_split f r.offset at _ _ so sa (sym apart ∙ q ∙ row_apart f at e es after) in
    let two = number_split f r.length (length (block_bytes (e ∷ es))) _ _ sl sb one.1 in
    let three = field_split r.first.now e.0 rest after sf se two.1 in
    record { offset = one.0; length_is = two.0; first = three.0; rest_is = three.1 }

-- ---- the blocks that remain after some were read, with their bytes and rows

pub record Remains (f : Format) (done blocks : List (List Entry)) (bytes tail rows end : List ℕ) (at : ℕ) : Type 0 where
  pub more : List (List Entry)
  pub list : blocks ≡ done ++ more
  pub bytes_are : bytes ≡ body more ++ tail
  pub rows_are : rows ≡ index f (at + length (body done)) more ++ end

abbrev IsSmallBlock : List Entry → Type 0
IsSmallBlock es = length (block_bytes es) < 2 ^ 32

remains : (f : Format) (done blocks : List (List Entry)) (bytes tail rows end : List ℕ) (at : ℕ) → AllByRecursion IsSmallBlock done → length (body done) < most f → length (body blocks) < most f → length end ≤ length rows → AreBlocks done → AreBlocks blocks
    → body done ++ bytes ≡ body blocks ++ tail → index f at done ++ rows ≡ index f at blocks ++ end → Remains f done blocks bytes tail rows end at
remains f [] blocks bytes tail rows end at small sd sb least g h e r = record { more = blocks; list = refl; bytes_are = e; rows_are = r ∙ ap (λ (n : ℕ). index f n blocks ++ end) (omega arith) }
remains f ([] ∷ done) blocks bytes tail rows end at small sd sb least g h e r = absurd g.0
remains f ((d ∷ ds) ∷ done) [] bytes tail rows end at small sd sb least g h e r =
    let x = index f (at + length (block_bytes (d ∷ ds))) done in
    let apart = append_assoc (row f at (d ∷ ds)) x rows ∙ row_apart f at d ds (x ++ rows) in
    let n = number_bytes f at in
    let k = number_bytes f (length (block_bytes (d ∷ ds))) in
    let l : length end ≡ length (n ++ (k ++ (field d.0 ++ (x ++ rows)))) = ap length (sym r ∙ apart) in
    let a = length-append n (k ++ (field d.0 ++ (x ++ rows))) in
    let m = length-append k (field d.0 ++ (x ++ rows)) in
    let o = length-append (field d.0) (x ++ rows) in
    let q = length-append x rows in
    let c = number_length f at in
    let s = some_number f in
    absurd (omega (arith, l, a, m, o, q, c, s, least))
remains f ((d ∷ ds) ∷ done) ([] ∷ blocks) bytes tail rows end at small sd sb least g h e r = absurd h.0
remains f ((d ∷ ds) ∷ done) ((b ∷ bs) ∷ blocks) bytes tail rows end at small sd sb least g h e r =
    let ld = length-append (block_bytes (d ∷ ds)) (body done) in
    let lb = length-append (block_bytes (b ∷ bs)) (body blocks) in
    let sm = small.0 in
    let x = index f (at + length (block_bytes (d ∷ ds))) done in
    let y = index f (at + length (block_bytes (b ∷ bs))) blocks in
    let whole = sym (append_assoc (row f at (d ∷ ds)) x rows ∙ row_apart f at d ds (x ++ rows)) ∙ r ∙ (append_assoc (row f at (b ∷ bs)) y end ∙ row_apart f at b bs (y ++ end)) in
    let one = (parted (number_bytes f at) (number_bytes f at) _ _ refl whole).1 in
    let two = number_split f (length (block_bytes (d ∷ ds))) (length (block_bytes (b ∷ bs))) _ _ (omega (arith, ld, sd)) (omega (arith, lb, sb)) one in
    let size : length (block_bytes (d ∷ ds)) ≡ length (block_bytes (b ∷ bs)) = two.0 in
    let parts = parted (block_bytes (d ∷ ds)) (block_bytes (b ∷ bs)) (body done ++ bytes) (body blocks ++ tail) size (sym (append_assoc (block_bytes (d ∷ ds)) (body done) bytes) ∙ e ∙ append_assoc (block_bytes (b ∷ bs)) (body blocks) tail) in
    let same : d ∷ ds ≡ b ∷ bs = one_spelling (b ∷ bs) (d ∷ ds) (omega (arith, size, sm)) (sym parts.0) in
    let three = parted (field d.0) (field b.0) (x ++ rows) (y ++ end) (ap (λ (z : Entry). length (field z.0)) (first_same d b ds bs same)) two.1 in
    let rest = remains f done blocks bytes tail rows end (at + length (block_bytes (b ∷ bs))) small.1 (omega (arith, ld, sd)) (omega (arith, lb, sb)) least g.2 h.2 parts.1
    (ap (λ (n : ℕ). index f (at + n) done ++ rows) (sym size) ∙ three.1) in
    record {
      more = rest.more;
      list = ap (λ (z : List Entry). z ∷ blocks) (sym same) ∙ ap (λ (l : List (List Entry)). (d ∷ ds) ∷ l) rest.list;
      bytes_are = rest.bytes_are;
      rows_are = rest.rows_are ∙ ap (λ (n : ℕ). index f n rest.more ++ end) (omega (arith, size, ld));
    }

-- ---- the same for a file that is being opened

module _ (o : Opening) (opening : IsOpening o) (told : Option Contents) (image all end rest : List ℕ) (reading : IsReading told o image all end rest) (es : List Entry) (f : IsFile o.format es image) where
  abbrev done : List (List Entry)
  done = blocks_of o.rows.items

  abbrev rows_of : List ℕ
  rows_of = index o.format 8 f.blocks

  abbrev end_of : List ℕ
  end_of = foot o.format (8 + length (body f.blocks)) (length f.blocks) (length es) (8 + foot_len o.format + length (body f.blocks) + length rows_of)

  spelled_body : length (body f.blocks) ≡ length (flat_map spelled es)
  spelled_body = ap length (body-whole f.blocks ∙ ap (flat_map spelled) f.whole)

  end_length : length end_of ≡ foot_len o.format
  end_length = foot_length o.format _ _ _ _

  pub image_length : length image ≡ 8 + (length (body f.blocks) + (length rows_of + foot_len o.format))
  image_length =
      let l1 = ap length f.bytes ∙ length-append (head o.format) (body f.blocks ++ (rows_of ++ end_of)) in
      let l2 = length-append (body f.blocks) (rows_of ++ end_of) in
      let l3 = length-append rows_of end_of in
      let h = head_length o.format in
      omega (arith, l1, l2, l3, h, end_length)

  index_at : reading.framed.at ≡ 8 + length (body f.blocks)
  index_at =
      let to = reading.framed.to in
      let small = f.small in
      let p = place_of o.format es image _ reading.framed.numbers reading.framed.at (omega (arith, to, small)) f reading.framed.last reading.framed.foot in
      let x = p.exact in
      omega (arith, x, spelled_body)

  behind_head : drop 8 image ≡ body f.blocks ++ (rows_of ++ end_of)
  behind_head =
      ap (λ (n : ℕ). drop n image) (sym (head_length o.format)) ∙ ap (drop (length (head o.format))) f.bytes
      ∙ drop-append_seam (head o.format) (body f.blocks ++ (rows_of ++ end_of))

  behind_body : drop (8 + length (body f.blocks)) image ≡ rows_of ++ end_of
  behind_body =
      ap (λ (n : ℕ). drop (n + length (body f.blocks)) image) (sym (head_length o.format)) ∙ ap (drop (length (head o.format) + length (body f.blocks))) f.bytes
      ∙ drop-append-add (head o.format) (body f.blocks ++ (rows_of ++ end_of)) (length (body f.blocks))
      ∙ drop-append_seam (body f.blocks) (rows_of ++ end_of)

  index_is : all ≡ rows_of
  index_is =
      reading.framed.behind ∙ ap (λ (n : ℕ). part image n (length image - foot_len o.format - n)) index_at
      ∙ ap (take (length image - foot_len o.format - (8 + length (body f.blocks)))) behind_body
      ∙ ap (λ (n : ℕ). take n (rows_of ++ end_of)) (omega (arith, image_length))
      ∙ take-append_seam rows_of end_of

  -- the foot is right for the file
  pub end_is : end ≡ end_of
  end_is =
      reading.framed.last ∙ ap (λ (n : ℕ). drop n image) (omega (arith, image_length)) ∙ sym (drop-drop (length rows_of) (8 + length (body f.blocks)) image)
      ∙ ap (drop (length rows_of)) behind_body ∙ drop-append_seam rows_of end_of

  done_small : length (body done) < most o.format
  done_small =
      let l = length-drop 8 image in
      let m = ap length reading.read.bytes ∙ length-append (body done) (drop (8 + length (body done)) image) in
      let small = f.small in
      omega (arith, l, m, small)

  append-nil : (xs : List ℕ) → xs ++ [] ≡ xs
  append-nil [] = refl
  append-nil (x ∷ xs) = ap (λ (l : List ℕ). x ∷ l) (append-nil xs)

  pub left : Remains o.format done f.blocks (drop (8 + length (body done)) image) (rows_of ++ end_of) rest [] 8
  left =
      let small = f.small in
      remains o.format done f.blocks (drop (8 + length (body done)) image) (rows_of ++ end_of) rest [] 8 (blocks_small done opening.grammar opening.list.each) done_small (omega (arith, image_length, small)) (omega arith) opening.grammar f.grammar
      (sym reading.read.bytes ∙ behind_head) (sym reading.read.rows ∙ index_is ∙ sym (append-nil rows_of))

-- the next block
pub record NextBlock (o : Opening) (image rest : List ℕ) : Type 0 where
  pub first : Entry
  pub others : List Entry
  pub after : List ℕ
  pub named : rest ≡ row o.format o.end (first ∷ others) ++ after
  pub there : part image o.end (length (block_bytes (first ∷ others))) ≡ block_bytes (first ∷ others)
  pub within : o.end + length (block_bytes (first ∷ others)) ≤ length image
  pub list : IsEntryList (first ∷ others)
  pub fits : Fits (first ∷ others)
  pub followed : IsFollowed (blocks_of o.rows.items) (first ∷ others)
  pub rising : IsRising (entries_in (blocks_of o.rows.items) ++ first ∷ others)

module _ (o : Opening) (opening : IsOpening o) (told : Option Contents) (image all end rest : List ℕ) (reading : IsReading told o image all end rest) (more_left : 0 < length rest) (es : List Entry) (list : IsEntryList es) (f : IsFile o.format es image) where
  cut : (more : List (List Entry)) → f.blocks ≡ blocks_of o.rows.items ++ more → drop (8 + length (body (blocks_of o.rows.items))) image ≡ body more ++ (index o.format 8 f.blocks ++ end_of o opening told image all end rest reading es f)
      → rest ≡ index o.format (8 + length (body (blocks_of o.rows.items))) more ++ [] → NextBlock o image rest
  cut [] l b r =
      let e : length rest ≡ 0 = ap length r in
      absurd (omega (arith, e, more_left))
  cut ([] ∷ more) l b r = absurd (block_fits (blocks_of o.rows.items) [] more (subst AreBlocks l f.grammar))
  cut ((e ∷ block) ∷ more) l b r =
      let done = blocks_of o.rows.items in
      let grammar = subst AreBlocks l f.grammar in
      let reached = opening.reached in
      let foot = end_of o opening told image all end rest reading es f in
      let entries : es ≡ entries_in done ++ (e ∷ block ++ entries_in more) = sym f.whole ∙ ap entries_in l ∙ flat_map-append (λ b. b) done ((e ∷ block) ∷ more) in
      let rising = subst (λ (l : List Entry). IsRising l) entries list.rising in
      let each = subst (AllByRecursion IsEntry) entries list.each in
      let joined = rising_front (entries_in done ++ e ∷ block) (entries_in more) (subst (λ (l : List Entry). IsRising l) (sym (append_assoc (entries_in done) (e ∷ block) (entries_in more))) rising) in
      let bytes : drop o.end image ≡ block_bytes (e ∷ block) ++ (body more ++ (index o.format 8 f.blocks ++ foot)) = ap (λ (n : ℕ). drop n image) reached ∙ b ∙ append_assoc (block_bytes (e ∷ block)) (body more) (index o.format 8 f.blocks ++ foot) in
      let l1 = length-drop o.end image in
      let l2 = ap length bytes ∙ length-append (block_bytes (e ∷ block)) (body more ++ (index o.format 8 f.blocks ++ foot)) in
      let inside = opening.within in
      let size = reading.size in
      record {
        first = e;
        others = block;
        after = index o.format (o.end + length (block_bytes (e ∷ block))) more ++ [];
        named = r ∙ ap (λ (n : ℕ). (row o.format n (e ∷ block) ++ index o.format (n + length (block_bytes (e ∷ block))) more) ++ []) (sym reached) ∙ append_assoc (row o.format o.end (e ∷ block)) (index o.format (o.end + length (block_bytes (e ∷ block))) more) [];
        there = ap (take (length (block_bytes (e ∷ block)))) bytes ∙ take-append_seam (block_bytes (e ∷ block)) (body more ++ (index o.format 8 f.blocks ++ foot));
        within = omega (arith, l1, l2, inside, size);
        list = record { rising = rising_front (e ∷ block) (entries_in more) (rising_back (entries_in done) (e ∷ block ++ entries_in more) rising); each = all_front IsEntry (e ∷ block) (entries_in more) (all_back IsEntry (entries_in done) (e ∷ block ++ entries_in more) each) };
        fits = block_fits done (e ∷ block) more grammar;
        followed = block_follows done (e ∷ block) more grammar;
        rising = joined;
      }

  pub next_block : NextBlock o image rest
  next_block = let x = left o opening told image all end rest reading es f in cut x.more x.list x.bytes_are x.rows_are

-- ---- the bytes read of the next block

module _ (o : Opening) (image rest : List ℕ) (n : NextBlock o image rest) (small : length image < most o.format) where
  first_short : length n.first.0 < 2 ^ 32
  first_short = let t = text_small n.first n.list.each.0 in omega (arith, t)

  -- a row is there
  pub row_there : (none : (offset size : ℕ) (first more : List ℕ) → length first < 2 ^ 32 → ¬ (rest ≡ number_bytes o.format offset ++ (number_bytes o.format size ++ (field first ++ more)))) → ⊥
  row_there none =
      none o.end (length (block_bytes (n.first ∷ n.others))) n.first.0 n.after first_short (n.named ∙ row_apart o.format o.end n.first n.others n.after)

  module _ (r : RowRef) (more : List ℕ) (so : r.offset < most o.format) (sl : r.length < most o.format) (sf : length r.first.now < 2 ^ 32) (at : o.end ≤ length image) (read : rest ≡ row_bytes o.format r ++ more) where
    same : IsSameRow r more o.end n.first n.others n.after
    same = let w = n.within in same_row o.format r more o.end n.first n.others n.after rest so sl sf (omega (arith, w, small)) first_short (omega (arith, w, small)) read n.named

    -- the block of the row is there
    pub block_there : (none : (es : List Entry) → length (block_bytes es) ≡ r.length → ¬ IsBlock es (part image o.end r.length)) → ⊥
    block_there none =
        none (n.first ∷ n.others) (sym same.length_is) (record { list = n.list; fits = n.fits; spelled = ap (part image o.end) same.length_is ∙ n.there })

    -- and the block read is this one, which is the next one
    pub block_next : (es : List Entry) → part image o.end r.length ≡ block_bytes es → IsNext o r es
    block_next es there =
        let b = block_small (n.first ∷ n.others) n.list.each n.fits in
        let is : es ≡ n.first ∷ n.others = one_spelling (n.first ∷ n.others) es (omega (arith, b)) (sym n.there ∙ sym (ap (part image o.end) same.length_is) ∙ there) in
        subst (λ (es : List Entry). IsNext o r es) (sym is) (record { offset = same.offset; first = same.first; followed = n.followed; rising = n.rising })

-- ---- a block is added

pub drop_part : (image : List ℕ) (at size : ℕ) → drop at image ≡ part image at size ++ drop (at + size) image
drop_part image at size = sym (take-append-drop size (drop at image)) ∙ ap (λ (l : List ℕ). take size (drop at image) ++ l) (drop-drop size at image)

pub reads_on : (f : Format) (image tail rest more : List ℕ) (blocks : List (List Entry)) (es : List Entry) (r : RowRef) → IsRead f image tail blocks rest → rest ≡ row_bytes f r ++ more → r.offset ≡ 8 + length (body blocks) → r.length ≡ length (block_bytes es) → IsFirstText r.first.now es → Fits es
    → part image (8 + length (body blocks)) r.length ≡ block_bytes es → IsRead f image tail (blocks ++ es ∷ []) more
reads_on f image tail rest more blocks [] r was read offset size first fits there = absurd fits
reads_on f image tail rest more blocks (e ∷ es) r was read offset size first fits there =
    let at = 8 + length (body blocks) in
    let l : length (body (blocks ++ (e ∷ es) ∷ [])) ≡ length (body blocks) + length (block_bytes (e ∷ es)) = ap length (body-last blocks (e ∷ es)) ∙ length-append (body blocks) (block_bytes (e ∷ es)) in
    let same : row_bytes f r ≡ row f at (e ∷ es) =
    ap (λ (n : ℕ). number_bytes f n ++ (number_bytes f r.length ++ field r.first.now)) offset
    ∙ ap (λ (n : ℕ). number_bytes f at ++ (number_bytes f n ++ field r.first.now)) size
    ∙ ap (λ (b : List ℕ). number_bytes f at ++ (number_bytes f (length (block_bytes (e ∷ es))) ++ field b)) first in
    record {
      bytes =
          was.bytes ∙ ap (λ (l : List ℕ). body blocks ++ l) (drop_part image at r.length ∙ ap (λ (l : List ℕ). l ++ drop (at + r.length) image) there)
          ∙ sym (append_assoc (body blocks) (block_bytes (e ∷ es)) (drop (at + r.length) image)) ∙ ap (λ (l : List ℕ). l ++ drop (at + r.length) image) (sym (body-last blocks (e ∷ es)))
          ∙ ap (λ (n : ℕ). body (blocks ++ (e ∷ es) ∷ []) ++ drop n image) (omega (arith, l, size));
      rows =
          was.rows ∙ ap (λ (l : List ℕ). index f 8 blocks ++ l) (read ∙ ap (λ (l : List ℕ). l ++ more) same)
          ∙ sym (append_assoc (index f 8 blocks) (row f at (e ∷ es)) more) ∙ ap (λ (l : List ℕ). l ++ more) (sym (index-last f 8 blocks (e ∷ es)));
    }

pub record IsAdded (rows new : List BlockRow) (es : List Entry) (end : ℕ) : Type 0 where
  pub blocks : blocks_of new ≡ blocks_of rows ++ es ∷ []
  pub rows_are : AreRows 8 new
  pub grammar : AreBlocks (blocks_of new)
  pub list : IsEntryList (entries_in (blocks_of new))
  pub whole : entries_in (blocks_of new) ≡ entries_in (blocks_of rows) ++ es
  pub reached : end ≡ 8 + length (body (blocks_of new))

pub is_added : (rows new : List BlockRow) (row : BlockRow) (es : List Entry) (end : ℕ) → AreRows 8 rows → AreBlocks (blocks_of rows) → IsEntryList (entries_in (blocks_of rows)) → end ≡ 8 + length (body (blocks_of rows))
    → IsFollowed (blocks_of rows) es → IsRising (entries_in (blocks_of rows) ++ es) → IsEntryList es → Fits es → new ≡ rows ++ row ∷ [] → block_of row ≡ es → row.offset ≡ end → row.length ≡ length (block_bytes es) → IsFirstText row.first.items es
    → IsAdded rows new es (end + row.length)
is_added rows new row es end rows_are grammar list reached followed rising each fits made is offset size first =
    let blocks = ap blocks_of made ∙ map_joined block_of rows row ∙ ap (λ (b : List Entry). blocks_of rows ++ b ∷ []) is in
    let flat = ap entries_in blocks ∙ flat-last (blocks_of rows) es in
    let l : length (body (blocks_of new)) ≡ length (body (blocks_of rows)) + length (block_bytes es) = ap (λ (b : List (List Entry)). length (body b)) blocks ∙ ap length (body-last (blocks_of rows) es) ∙ length-append (body (blocks_of rows)) (block_bytes es) in
    record {
      blocks = blocks;
      rows_are = subst (λ (r : List BlockRow). AreRows 8 r) (sym made) (rows_joined 8 rows row rows_are (record { offset = offset ∙ reached; length = size ∙ ap (λ (b : List Entry). length (block_bytes b)) (sym is); first = subst (λ (b : List Entry). IsFirstText row.first.items b) (sym is) first }));
      grammar = subst AreBlocks (sym blocks) (blocks_joined (blocks_of rows) es grammar fits followed);
      list = subst IsEntryList (sym flat) (record { rising = rising; each = all_joined IsEntry (entries_in (blocks_of rows)) es list.each each.each });
      whole = flat;
      reached = omega (arith, reached, l, size);
    }
