-- The block with the first entry of an open file at or above a text: the first one whose last text is at or above it.
use Rattle.std.proofs.Common.{◌≡◌, ◌≢◌, ℕ, zero, suc, Bool, true, false, cond, T, List, [], ◌∷◌, ◌++◌, map, slice_get, Option, Some, None, refl, sym, ap, subst, ◌∙◌}
use Rattle.std.specs.List.{AllByRecursion}
use Rattle.std.specs.declared.cmp.Ordering.{Ordering}
use Rattle.std.specs.declared.cmp.Ordering.TheVariants.{Less, Equal, Greater}
use Rattle.std.specs.Ordering.{is_le, is_lt}
use Rattle.std.specs.FinMap.Entries.{below_all}
use Rattle.cell_key.specs.Keys.{byte_cmp}
use Rattle.cell_key.specs.Entries.{Entry, IsRising, entries_from}
use Rattle.cell_key.proofs.TextPlaces.{first, second}
use Rattle.file_store.specs.Store.{Contents}
use Rattle.sorted_file.specs.Index.{block_of, blocks_of, entries_in, last_of, IsBlockNumber, IsLastRow}
use Rattle.sorted_file.specs.File.{IsOpen, listed}
use Rattle.sorted_file.specs.Block.{first_from, IsLastText}
use Rattle.sorted_file.specs.declared.block.BlockRow.{BlockRow}
use Rattle.sorted_file.specs.declared.file.SortedFile.{SortedFile}
use Rattle.sorted_file.proofs.CursorSteps.{from_both}
use Rattle.sorted_file.proofs.Joining.{below_front, both, rising_back, rising_front}
use Rattle.sorted_file.proofs.OpenBlocks.{open_named}
use Rattle.sorted_file.proofs.Rows.{below_back, below_text, IsNamed}
use Rattle.sorted_file.proofs.Starts.{below_last, is_less}

-- ---- entries and their last text

kept_first : (o : Ordering) → o ≢ Greater → is_le o ≡ true
kept_first Less n = refl
kept_first Equal n = refl
kept_first Greater n = absurd (n refl)

not_less : (o : Ordering) → o ≡ Greater → o ≢ Less
not_less o g l = let no : Greater ≡ Less = sym g ∙ l in cc

module _ (text last : List ℕ) where
  -- entries with a last text below this one have none at or above it
  none_past : (es : List Entry) → IsRising es → IsLastText es last → byte_cmp text last ≡ Greater → entries_from text es ≡ []
  none_past [] r is g = refl
  none_past (e ∷ []) r is g = ap (λ (o : Ordering). cond (is_le o) (e ∷ []) []) (ap (byte_cmp text) (sym is) ∙ g)
  none_past (e ∷ f ∷ es) r is g =
      let low = below_text e.0 text last (below_last e.0 last f es (first _ _ r) is) (not_less _ g) in
      ap (λ (o : Ordering). cond (is_le o) (e ∷ entries_from text (f ∷ es)) (entries_from text (f ∷ es))) low
      ∙ none_past (f ∷ es) (second _ _ r) is g

  -- entries with a last text at or above this one have a first entry at or above it
  some_to : (e : Entry) (es : List Entry) → IsLastText (e ∷ es) last → byte_cmp text last ≢ Greater → (x : Entry) × (first_from text (e ∷ es) ≡ Some x)
  some_to e [] is n =
      let here = kept_first (byte_cmp text e.0) (subst (λ (t : List ℕ). byte_cmp text t ≢ Greater) is n) in
      (e, ap (λ (b : Bool). slice_get (cond b (e ∷ []) []) 0) here)
  some_to e (f ∷ es) is n = go (is_le (byte_cmp text e.0)) (some_to f es is n)
    where
      go : (b : Bool) → ((x : Entry) × (first_from text (f ∷ es) ≡ Some x)) → (x : Entry) × (slice_get (cond b (e ∷ entries_from text (f ∷ es)) (entries_from text (f ∷ es))) 0 ≡ Some x)
      go true more = (e, refl)
      go false more = more

  last_below : (e : Entry) (es ys : List Entry) → IsRising ((e ∷ es) ++ ys) → IsLastText (e ∷ es) last → T (below_all byte_cmp last ys)
  last_below e [] ys r is = subst (λ (t : List ℕ). T (below_all byte_cmp t ys)) (sym is) (first _ _ r)
  last_below e (f ∷ es) ys r is = last_below f es ys (second _ _ r) is

-- ---- two lists

module _ (text : List ℕ) where
  front_of : (xs ys : List Entry) (x : Entry) → slice_get xs 0 ≡ Some x → slice_get (xs ++ ys) 0 ≡ Some x
  front_of [] ys x e = cc
  front_of (y ∷ xs) ys x e = e

  first_or : (xs ys : List Entry) → entries_from text xs ≡ [] → first_from text (xs ++ ys) ≡ first_from text ys
  first_or xs ys none = ap (λ (l : List Entry). slice_get l 0) (from_both text xs ys ∙ ap (λ (l : List Entry). l ++ entries_from text ys) none)

  first_and : (xs ys : List Entry) (x : Entry) → first_from text xs ≡ Some x → first_from text (xs ++ ys) ≡ Some x
  first_and xs ys x e = ap (λ (l : List Entry). slice_get l 0) (from_both text xs ys) ∙ front_of (entries_from text xs) (entries_from text ys) x e

  -- ---- rows

  first_there : (row : BlockRow) → IsNamed row → IsLastRow row → byte_cmp text row.last.items ≢ Greater → (x : Entry) × (first_from text (block_of row) ≡ Some x)
  first_there row named last n =
      let x = some_to text row.last.items named.entry named.more (subst (λ (es : List Entry). IsLastText es row.last.items) named.block last) n in
      (x.0, ap (first_from text) named.block ∙ x.1)

  in_block : (rows : List BlockRow) → AllByRecursion IsNamed rows → AllByRecursion IsLastRow rows → IsRising (entries_in (blocks_of rows)) → (n : ℕ) (row : BlockRow) → IsBlockNumber text rows n → slice_get rows n ≡ Some row
      → first_from text (entries_in (blocks_of rows)) ≡ first_from text (block_of row)
  in_block [] named lasts r n row p at = cc
  in_block (x ∷ rows) named lasts r zero row p at =
      let same : x ≡ row = cc in
      let found = first_there x named.0 lasts.0 p in
      first_and (block_of x) (entries_in (blocks_of rows)) found.0 found.1 ∙ sym found.1 ∙ ap (λ (y : BlockRow). first_from text (block_of y)) same
  in_block (x ∷ rows) named lasts r (suc n) row p at =
      first_or (block_of x) (entries_in (blocks_of rows)) (none_past text x.last.items (block_of x) (rising_front (block_of x) _ r) lasts.0 p.0)
      ∙ in_block rows named.1 lasts.1 (rising_back (block_of x) _ r) n row p.1 at

  past_all : (rows : List BlockRow) → AllByRecursion IsLastRow rows → IsRising (entries_in (blocks_of rows)) → (n : ℕ) → IsBlockNumber text rows n → slice_get rows n ≡ None → first_from text (entries_in (blocks_of rows)) ≡ None
  past_all [] lasts r n p at = refl
  past_all (x ∷ rows) lasts r zero p at = cc
  past_all (x ∷ rows) lasts r (suc n) p at =
      first_or (block_of x) (entries_in (blocks_of rows)) (none_past text x.last.items (block_of x) (rising_front (block_of x) _ r) lasts.0 p.0)
      ∙ past_all rows lasts.1 (rising_back (block_of x) _ r) n p.1 at

  -- two rows of one number are the same
  pub one_number : (rows : List BlockRow) (i j : ℕ) → IsBlockNumber text rows i → IsBlockNumber text rows j → i ≡ j
  one_number [] zero zero p q = refl
  one_number [] zero (suc j) p q = absurd q
  one_number [] (suc i) j p q = absurd p
  one_number (r ∷ rows) zero zero p q = refl
  one_number (r ∷ rows) zero (suc j) p q = absurd (p q.0)
  one_number (r ∷ rows) (suc i) zero p q = absurd (q p.0)
  one_number (r ∷ rows) (suc i) (suc j) p q = ap suc (one_number rows i j p.1 q.1)

-- the last texts of blocks are in ascending order
below_lasts : (name : List ℕ) (rows : List BlockRow) → AllByRecursion IsNamed rows → AllByRecursion IsLastRow rows → T (below_all byte_cmp name (entries_in (blocks_of rows))) → T (below_all byte_cmp name (map last_of rows))
below_lasts name [] named lasts h = tt
below_lasts name (row ∷ rows) named lasts h =
    let is = subst (λ (es : List Entry). IsLastText es row.last.items) named.0.block lasts.0 in
    let front = subst (λ (b : List Entry). T (below_all byte_cmp name b)) named.0.block (below_front name (block_of row) (entries_in (blocks_of rows)) h) in
    both _ _ (is_less _ (below_last name row.last.items named.0.entry named.0.more front is)) (below_lasts name rows named.1 lasts.1 (below_back name (block_of row) _ h))

lasts_rise : (rows : List BlockRow) → AllByRecursion IsNamed rows → AllByRecursion IsLastRow rows → IsRising (entries_in (blocks_of rows)) → IsRising (map last_of rows)
lasts_rise [] named lasts r = tt
lasts_rise (row ∷ rows) named lasts r =
    let is = subst (λ (es : List Entry). IsLastText es row.last.items) named.0.block lasts.0 in
    let r2 = subst (λ (b : List Entry). IsRising (b ++ entries_in (blocks_of rows))) named.0.block r in
    both _ _ (below_lasts row.last.items rows named.1 lasts.1 (last_below [] row.last.items named.0.entry named.0.more (entries_in (blocks_of rows)) r2 is))
    (lasts_rise rows named.1 lasts.1 (rising_back (block_of row) _ r))

module _ (m : Contents) (file : SortedFile) (o : IsOpen m file) where
  pub open_lasts : IsRising (map last_of file.rows.items)
  open_lasts = lasts_rise file.rows.items (open_named m file o) o.lasts o.list.rising

  -- an open file's first entry at or above a text
  pub first_in : (text : List ℕ) (n : ℕ) (row : BlockRow) → IsBlockNumber text file.rows.items n → slice_get file.rows.items n ≡ Some row → first_from text (listed m file) ≡ first_from text (block_of row)
  first_in text n row p at = in_block text file.rows.items (open_named m file o) o.lasts o.list.rising n row p at

  -- there is none
  pub first_past : (text : List ℕ) (n : ℕ) → IsBlockNumber text file.rows.items n → slice_get file.rows.items n ≡ None → first_from text (listed m file) ≡ None
  first_past text n p at = past_all text file.rows.items o.lasts o.list.rising n p at

  -- the number of a text's block, found through a slice of the rows
  pub number_in : (name other : List ℕ) (slice : List BlockRow) (n : ℕ) → slice ≡ file.rows.items → name ≡ other → (IsRising (map last_of slice) → IsBlockNumber name slice n) → IsBlockNumber other file.rows.items n
  number_in name other slice n same is number =
      subst (λ (t : List ℕ). IsBlockNumber t file.rows.items n) is
      (subst (λ (l : List BlockRow). IsBlockNumber name l n) same (number (subst (λ (l : List BlockRow). IsRising (map last_of l)) (sym same) open_lasts)))
