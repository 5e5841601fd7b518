-- Blocks in look-ups.
use Rattle.std.proofs.Common.{◌≡◌, ◌<◌, ◌⊎◌, ℕ, zero, suc, List, [], ◌∷◌, ◌++◌, length, take, slice_get, get_or, Contains, Option, Some, None, inl, inr, refl, sym, ap, subst, ◌∙◌, arith}
use Rattle.std.proofs.lemmas.Option.{same_Some, slice_get_read}
use Rattle.std.specs.Prelude.{IfSome}
use Rattle.std.specs.List.{AllByRecursion}
use Rattle.cell_key.specs.Entries.{Entry}
use Rattle.file_store.specs.Store.{Contents}
use Rattle.lru.specs.LruCache.{LruCache}
use Rattle.sorted_file.specs.Index.{block_of, IsBlockIn}
use Rattle.sorted_file.specs.File.{AreCached, name_of, IsOpen, IsReadNow, IsSameFile, WasRead}
use Rattle.sorted_file.specs.Block.{BeginsWith, IsParsed}
use Rattle.sorted_file.specs.declared.block.BlockRow.{BlockRow}
use Rattle.sorted_file.specs.declared.file.SortedFile.{SortedFile}
use Rattle.sorted_file.specs.declared.block.Block.{Block}
use Rattle.sorted_file.proofs.OpenBlocks.{open_in, open_named}
use Rattle.sorted_file.proofs.Results.{as_told}
use Rattle.sorted_file.proofs.Rows.{IsNamed}
use Rattle.sorted_file.proofs.Starts.{parsed_as}

pub of_row : (P : BlockRow → Type 0) (rows : List BlockRow) (n : ℕ) (row : BlockRow) → slice_get rows n ≡ Some row → AllByRecursion P rows → P row
of_row P [] n row at all = cc
of_row P (r ∷ rows) zero row at all = let same : r ≡ row = cc in subst P same all.0
of_row P (r ∷ rows) (suc n) row at all = of_row P rows n row at all.1

pub same_row : (rows : List BlockRow) (n : ℕ) (row x : BlockRow) → n < length rows → x ≡ get_or rows n x → slice_get rows n ≡ Some row → row ≡ x
same_row rows n row x lt got at = same_Some row x (sym at ∙ slice_get_read rows (length rows) n x refl lt got)

begins : (row : BlockRow) → IsNamed row → BeginsWith row.first.items (block_of row)
begins row is = subst (BeginsWith row.first.items) (sym is.block) is.first

module _ (m : Contents) (file : SortedFile) (o : IsOpen m file) (n : ℕ) (row : BlockRow) (at : slice_get file.rows.items n ≡ Some row) where
  pub block_in : IsBlockIn o.image row
  block_in = of_row (IsBlockIn o.image) file.rows.items n row at (open_in m file o)

  pub row_begins : BeginsWith row.first.items (block_of row)
  row_begins = begins row (of_row IsNamed file.rows.items n row at (open_named m file o))

  -- a block read from an open file is unchanged since it was opened
  pub read_right : (block : Block) → IsReadNow (Some m) (name_of file) row block → IsParsed (block_of row) block
  read_right block r =
      let from = r.read o.image o.there in
      subst (λ (es : List Entry). IsParsed es block) (sym (parsed_as r.entries (block_of row) block r.parsed (sym block_in.bytes ∙ from.bytes))) r.parsed

-- a file with another cache is the same file
pub same_file : (told : Option Contents) (file : SortedFile) (cache : LruCache ℕ Block) → IfSome told (λ m. IsOpen m file → AreCached file.rows.items cache.entries)
    → IsSameFile told file (record { alloc = file.alloc; name = file.name; rows = file.rows; count = file.count; bytes = file.bytes; bounds = file.bounds; numbers = file.numbers; lock_keys = file.lock_keys; lock_values = file.lock_values; named_locks = file.named_locks; cache = cache })
same_file None file cache h = record { rest = λ c. refl; name = refl; lists = λ m. refl; still = tt }
same_file (Some m) file cache h = record {
  rest = λ c. refl;
  name = refl;
  lists = λ m. refl;
  still = λ o.
      record { list = o.list; bounds = o.bounds; bounded = o.bounded; numbered = o.numbered; keyed = o.keyed; locks_kept = o.locks_kept; lasts = o.lasts; counted = o.counted; measured = o.measured; format = o.format; image = o.image; there = o.there; form = o.form; rows = o.rows; blocks = o.blocks; cached = h o };
}

-- a file from whose cache a block was evicted is the same file
pub evicted_file : (told : Option Contents) (file : SortedFile) (cache : LruCache ℕ Block) → ((rows : List BlockRow) → AreCached rows file.cache.entries → AreCached rows cache.entries)
    → IsSameFile told file (record { alloc = file.alloc; name = file.name; rows = file.rows; count = file.count; bytes = file.bytes; bounds = file.bounds; numbers = file.numbers; lock_keys = file.lock_keys; lock_values = file.lock_values; named_locks = file.named_locks; cache = cache })
evicted_file told file cache still = same_file told file cache (as_told told _ (λ m e o. still file.rows.items o.cached))

-- after a block was read, a cached block was cached before or is that block
pub kept_or_read : (told : Option Contents) (file : SortedFile) (n : ℕ) (block : Block) (row : BlockRow) → slice_get file.rows.items n ≡ Some row → IsReadNow told (name_of file) row block
    → (e : ℕ × Block) → Contains file.cache.entries e ⊎ (e ≡ (n, block)) → Contains file.cache.entries e ⊎ WasRead told file e
kept_or_read told file n block row at read e (inl old) = inl old
kept_or_read told file n block row at read e (inr is) = inr (subst (WasRead told file) (sym is) (record { row = row; named = at; read = read }))

pub here_row : (rows : List BlockRow) (n : ℕ) (x : BlockRow) → n < length rows → x ≡ get_or rows n x → slice_get rows n ≡ Some x
here_row rows n x lt got = slice_get_read rows (length rows) n x refl lt got

pub some_row : (rows : List BlockRow) (n : ℕ) → n < length rows → (row : BlockRow) × (slice_get rows n ≡ Some row)
some_row [] n lt = absurd (omega (arith, lt))
some_row (r ∷ rows) zero lt = (r, refl)
some_row (r ∷ rows) (suc n) lt = some_row rows n (omega (arith, lt))

pub front_row : (rows : List BlockRow) (k : ℕ) (row : BlockRow) → slice_get rows k ≡ Some row → take (suc k) rows ≡ take k rows ++ row ∷ []
front_row [] k row at = cc
front_row (r ∷ rows) zero row at = let same : r ≡ row = cc in ap (λ (x : BlockRow). x ∷ []) same
front_row (r ∷ rows) (suc k) row at = ap (λ (l : List BlockRow). r ∷ l) (front_row rows k row at)
