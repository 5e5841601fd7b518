-- The steps of a cursor from entry to entry and from block to block.
use Rattle.std.proofs.Common.{◌≡◌, ◌≤◌, ◌<◌, ◌-◌, ◌^◌, ℕ, List, [], ◌∷◌, ◌++◌, length, drop, Option, Some, None, refl, sym, ap, subst, ◌∙◌, arith, length-append, append_assoc}
use Rattle.std.proofs.Math.ListN.{drop_of_length-le}
use Rattle.std.proofs.lemmas.Bool.{le-leb, false_from_ne_true, leb-true}
use Rattle.std.proofs.lemmas.List.Concat.{flat_map-append}
use Rattle.std.proofs.lemmas.List.{length-drop}
use Rattle.std.specs.Prelude.{IsSomeAnd, cond, Bool, true, false, nat_le}
use Rattle.std.specs.Ordering.{is_le}
use Rattle.std.specs.List.{AllByRecursion}
use Rattle.cell_key.specs.Keys.{byte_cmp}
use Rattle.cell_key.specs.Entries.{Entry, IsRising, entries_from, spelled}
use Rattle.cell_key.proofs.TextPlaces.{second}
use Rattle.file_store.specs.Store.{Contents}
use Rattle.sorted_file.specs.declared.block.BlockRow.{BlockRow}
use Rattle.sorted_file.specs.Index.{block_of, blocks_of, entries_in, AreBlocksIn, IsBlockIn, Tells}
use Rattle.sorted_file.specs.Cursor.{last_of, last_within}
use Rattle.sorted_file.specs.Grammar.{block_bytes}
use Rattle.sorted_file.proofs.Seams.{drop_end}
use Rattle.sorted_file.proofs.Searched.{all_from, front}
use Rattle.sorted_file.proofs.Spelling.{no_more, spelled_length}

-- ---- the last entries of a block

end_length : (before more : List Entry) → length (block_bytes more) ≤ length (block_bytes (before ++ more))
end_length [] more = omega arith
end_length (f ∷ before) more =
    let rest = end_length before more in
    omega (arith, rest, length-append (spelled f) (block_bytes (before ++ more)))

-- the longest end with at most as many bytes as an end is that end
last_end : (before more : List Entry) → last_within (length (block_bytes more)) (before ++ more) ≡ more
last_end [] [] = refl
last_end [] (e ∷ es) =
    let n = length (block_bytes (e ∷ es)) in
    ap (λ (b : Bool). cond b (e ∷ es) (last_within n es)) (le-leb n n (omega arith))
last_end (f ∷ before) more =
    let n = length (block_bytes more) in
    let rest = end_length before more in
    let long = length-append (spelled f) (block_bytes (before ++ more)) in
    let some = spelled_length f in
    ap (λ (b : Bool). cond b (f ∷ (before ++ more)) (last_within n (before ++ more)))
    (false_from_ne_true _ (λ le. let few = leb-true (length (block_bytes (f ∷ (before ++ more)))) n le in omega (arith, few, rest, long, some)))
    ∙ last_end before more

record IsEnd (more es : List Entry) : Type 0 where
  before : List Entry
  whole : es ≡ before ++ more

end_on : (e : Entry) (more es : List Entry) → IsEnd more es → IsEnd more (e ∷ es)
end_on e more es h = record { before = e ∷ h.before; whole = ap (λ (l : List Entry). e ∷ l) h.whole }

last_is_end : (n : ℕ) (es : List Entry) → IsEnd (last_within n es) es
last_is_end n [] = record { before = []; whole = refl }
last_is_end n (e ∷ es) = go (nat_le (length (block_bytes (e ∷ es))) n) (last_is_end n es)
  where
    go : (b : Bool) → IsEnd (last_within n es) es → IsEnd (cond b (e ∷ es) (last_within n es)) (e ∷ es)
    go true h = record { before = []; whole = refl }
    go false h = end_on e (last_within n es) es h

from_is_end : (text : List ℕ) (es : List Entry) → IsRising es → IsEnd (entries_from text es) es
from_is_end text [] r = record { before = []; whole = refl }
from_is_end text (e ∷ es) r = go (is_le (byte_cmp text e.0)) refl (from_is_end text es (second _ _ r))
  where
    go : (b : Bool) → is_le (byte_cmp text e.0) ≡ b → IsEnd (entries_from text es) es → IsEnd (entries_from text (e ∷ es)) (e ∷ es)
    go true p h = record { before = []; whole = sym (all_from text e es r p) }
    go false p h = subst (λ (l : List Entry). IsEnd l (e ∷ es)) (sym (ap (λ (b : Bool). cond b (e ∷ entries_from text es) (entries_from text es)) p)) (end_on e (entries_from text es) es h)

end_is_last : (more es : List Entry) → IsEnd more es → last_within (length (block_bytes more)) es ≡ more
end_is_last more es h = ap (last_within (length (block_bytes more))) h.whole ∙ last_end h.before more

-- ---- the state of a cursor

-- the remaining blocks, and the rest of its block
pub record IsHeld (told : Option Contents) (name : ℕ) (rows : List BlockRow) (row : Option BlockRow) (block : List ℕ) (at : ℕ) : Type 0 where
  pub later : IsSomeAnd told (λ m. AreBlocksIn m name rows)
  pub small : length block < 2 ^ 32
  pub ahead : drop at block ≡ block_bytes (last_of (length block - at) row)

-- its block is used up
pub used_up : (told : Option Contents) (name : ℕ) (rows : List BlockRow) (row : Option BlockRow) (block : List ℕ) (at : ℕ) → IsHeld told name rows row block at → length block ≤ at → last_of (length block - at) row ≡ []
used_up told name rows row block at h l = no_more _ (sym (drop_of_length-le block l) ∙ h.ahead)

-- the entries at or above a text of two lists are those of the first and those of the second
pub from_both : (text : List ℕ) (xs ys : List Entry) → entries_from text (xs ++ ys) ≡ entries_from text xs ++ entries_from text ys
from_both text [] ys = refl
from_both text (x ∷ xs) ys = go (is_le (byte_cmp text x.0)) (from_both text xs ys)
  where
    go : (b : Bool) → entries_from text (xs ++ ys) ≡ entries_from text xs ++ entries_from text ys
        → cond b (x ∷ entries_from text (xs ++ ys)) (entries_from text (xs ++ ys)) ≡ cond b (x ∷ entries_from text xs) (entries_from text xs) ++ entries_from text ys
    go true e = ap (λ (l : List Entry). x ∷ l) e
    go false e = e

-- the first row is read
pub block_step : (told : Option Contents) (name : ℕ) (row : BlockRow) (rows all : List BlockRow) (X : Type 0) → all ≡ row ∷ rows → IsSomeAnd told (λ m. AreBlocksIn m name all) → ((image : List ℕ) → Tells told name image → IsBlockIn image row → X) → IsSomeAnd told (λ m. AreBlocksIn m name rows) × X
block_step None name row rows all X cut h f = absurd h
block_step (Some m) name row rows all X cut h f =
    let each = subst (λ (l : List BlockRow). AllByRecursion (IsBlockIn h.image) l) cut h.each in
    (record { image = h.image; there = h.there; each = each.1 }, f h.image h.there each.0)

-- the block that was read has these entries ahead
pub block_ahead : (text block : List ℕ) (at : ℕ) (es : List Entry) → IsRising es → drop at block ≡ block_bytes (entries_from text es) → last_within (length block - at) es ≡ entries_from text es
block_ahead text block at es r e =
    ap (λ (n : ℕ). last_within n es) (sym (length-drop at block) ∙ ap length e) ∙ end_is_last (entries_from text es) es (from_is_end text es r)

-- the bytes of a block from a text on are its end
pub rest_ahead : (text block rest : List ℕ) (es : List Entry) → IsRising es → block ≡ block_bytes es → rest ≡ block_bytes (entries_from text es) → drop (length block - length rest) block ≡ rest
rest_ahead text block rest es r e q =
    let h = from_is_end text es r in
    drop_end block (block_bytes h.before) rest (e ∙ ap block_bytes h.whole ∙ flat_map-append spelled h.before (entries_from text es) ∙ ap (λ (l : List ℕ). block_bytes h.before ++ l) (sym q))

-- reading a block leaves the remaining entries unchanged
pub block_read : (text : List ℕ) (row : BlockRow) (rows all : List BlockRow) (old new : List Entry) → all ≡ row ∷ rows → old ≡ [] → new ≡ entries_from text (block_of row)
    → new ++ entries_from text (entries_in (blocks_of rows)) ≡ old ++ entries_from text (entries_in (blocks_of all))
block_read text row rows all old new cut none read =
    ap (λ (l : List Entry). l ++ entries_from text (entries_in (blocks_of rows))) read ∙ sym (from_both text (block_of row) (entries_in (blocks_of rows)))
    ∙ ap (λ (l : List BlockRow). entries_from text (entries_in (blocks_of l))) (sym cut) ∙ ap (λ (l : List Entry). l ++ entries_from text (entries_in (blocks_of all))) (sym none)

pub record IsTaken (row : Option BlockRow) (block : List ℕ) (at end : ℕ) (b : Entry) : Type 0 where
  pub taken : last_of (length block - at) row ≡ b ∷ last_of (length block - end) row
  pub ahead : drop end block ≡ block_bytes (last_of (length block - end) row)

-- an entry is taken
pub entry_taken : (row : Option BlockRow) (block : List ℕ) (at end : ℕ) (b : Entry) → length block < 2 ^ 32 → drop at block ≡ block_bytes (last_of (length block - at) row) → drop at block ≡ spelled b ++ drop end block → IsTaken row block at end b
entry_taken row block at end b small ahead found =
    let fewer = length-drop at block in
    let f = front (drop at block) (drop end block) b (last_of (length block - at) row) (omega (arith, fewer, small)) found ahead in
    let more = go row f.more f.list (sym (length-drop end block) ∙ ap length f.bytes) in
    record { taken = f.list ∙ ap (λ (l : List Entry). b ∷ l) (sym more); ahead = f.bytes ∙ ap block_bytes (sym more) }
  where
    go : (row : Option BlockRow) (more : List Entry) → last_of (length block - at) row ≡ b ∷ more → length block - end ≡ length (block_bytes more) → last_of (length block - end) row ≡ more
    go None more e n = cc
    go (Some row) more e n =
        let whole = last_is_end (length block - at) (block_of row) in
        ap (λ (k : ℕ). last_within k (block_of row)) n
        ∙ end_is_last more (block_of row) (record {
          before = whole.before ++ b ∷ [];
          whole = whole.whole ∙ ap (λ (l : List Entry). whole.before ++ l) e ∙ sym (append_assoc whole.before (b ∷ []) more);
        })
