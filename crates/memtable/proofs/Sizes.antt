-- How many entries there are, how many bytes they have, and how many of them are values of locks.
use Rattle.std.proofs.Common.{◌≡◌, ◌<◌, ◌≤◌, ◌+◌, ◌*◌, ◌^◌, ◌==◌, ℕ, zero, suc, Bool, true, false, cond, List, [], ◌∷◌, length, Option, Some, None, IfSome, is_some, refl, sym, ap, subst, ◌∙◌, arith, length-append}
use Rattle.std.proofs.lemmas.Bool.Decides.{nat_tests}
use Rattle.std.specs.List.{AllByRecursion}
use Rattle.std.specs.Cmp.Lexicographic.{nat_list_cmp_total}
use Rattle.std.specs.FinMap.Entries.{put, length-put}
use Rattle.cell_key.specs.Keys.{byte_cmp, text, qualifier_name}
use Rattle.cell_key.specs.Texts.{escaped, escaped_byte, stamp_text}
use Rattle.cell_key.specs.Entries.{Entry, IsRising, IsEntry, IsEntryList, entry_of_key, entry_len}
use Rattle.cell_key.specs.declared.keys.CellKey.{CellKey}
use Rattle.cell_key.specs.declared.keys.Qualifier.{Qualifier}
use Rattle.cell_key.specs.declared.keys.Qualifier.TheVariants.{Data, Lock, Write}
use Rattle.memtable.specs.Edits.{bytes_of, IsWithinLimits}
use Rattle.memtable.specs.Slots.{is_lock_text, lock_count, one_lock, one_value, over}
use Rattle.memtable.specs.Sizes.{IsSizeOf, stood_size, or_nothing}
use Rattle.memtable.specs.Blocks.{block_entries, AreEntryBlocks, IsKept}
use Rattle.memtable.specs.StampRanges.{IsEntryWithin}
use Rattle.memtable.specs.declared.stamp_range.StampRange.{StampRange}
use Rattle.memtable.specs.declared.blocks.Block.{Block}
use Rattle.memtable.specs.declared.blocks.Blocks.{Blocks}
use Rattle.memtable.specs.declared.size.EntrySize.{EntrySize}
use Rattle.memtable.specs.declared.size.Size.{Size}
use Rattle.memtable.proofs.EntryLists.{stood_len, bytes-put, stood_within, stood_locks, locks-put, stood_locks_within, over_rising, each-over}
use Rattle.memtable.proofs.Values.{one_at_most}

-- ---- the size of one entry

escaped_byte_len : (b : ℕ) → length (escaped_byte b) ≤ 2
escaped_byte_len zero = omega arith
escaped_byte_len (suc b) = let e : (suc b == 0) ≡ false = grind (arith, nat_tests) in rw e (omega arith)

escaped_len : (row : List ℕ) → length (escaped row) ≤ 2 * length row
escaped_len [] = omega arith
escaped_len (b ∷ row) = let one = escaped_byte_len b in let rest = escaped_len row in omega (arith, length-append (escaped_byte b) (escaped row))

name_len : (q : Qualifier) → length (qualifier_name q) ≤ 5
name_len Data = omega arith
name_len Lock = omega arith
name_len Write = omega arith

pub text_len : (key : CellKey) → length key.row ≤ 4000 → length key.family ≤ 64 → length (text key) ≤ 8083
text_len key row family =
    let row_len = escaped_len key.row in
    let name = name_len key.qualifier in
    let stamp : length (stamp_text key.stamp) ≡ 8 = refl in
    simp length-append (omega arith)

value_len : (name : List ℕ) (v : Option (List ℕ)) → IfSome v (λ bytes. length bytes ≤ 65536) → entry_len (name, v) ≤ length name + 65545
value_len name None h = simp length-append (omega arith)
value_len name (Some bytes) h = simp length-append (omega arith)

pub entry_small : (e : Entry) → IsEntry e → entry_len e ≤ 2 ^ 18
entry_small e is =
    let key = text_len is.key is.stored.row.few is.stored.family.few in
    let name = ap length is.named in
    let value = value_len e.0 e.1 is.value in
    omega arith

-- ---- the size of a list

stood_as_len : (name : List ℕ) (o : Option (Option (List ℕ))) → (or_nothing (stood_size name o)).bytes ≡ stood_len name o
stood_as_len name None = refl
stood_as_len name (Some v) = refl

stood_as_locks : (name : List ℕ) (o : Option (Option (List ℕ))) → (or_nothing (stood_size name o)).locks ≡ stood_locks name o
stood_as_locks name None = refl
stood_as_locks name (Some v) = refl

stood_some : (name : List ℕ) (o : Option (Option (List ℕ))) → is_some (stood_size name o) ≡ is_some o
stood_some name None = refl
stood_some name (Some v) = refl

one_lock_most : (e : Entry) → one_lock e ≤ 1
one_lock_most e = go (is_lock_text e.0)
  where
    go : (b : Bool) → cond b (one_value e.1) 0 ≤ 1
    go true = one_at_most e.1
    go false = omega arith

lock_count-within : (es : List Entry) → lock_count es ≤ length es
lock_count-within [] = omega arith
lock_count-within (e ∷ es) = let h = lock_count-within es in let one = one_lock_most e in omega (arith, h, one)

-- no more values of locks than entries
pub locks_within : (size : Size) (es : List Entry) → IsSizeOf size es → size.locks ≤ size.entries
locks_within size es is = let h = lock_count-within es in let a = is.entries in let b = is.locks in omega (arith, h, a, b)

-- one more entry keeps them few
pub locks_fit : (e : Entry) (size : Size) (es : List Entry) → IsSizeOf size es → size.entries ≤ 2 ^ 65 → size.locks + one_lock e < 2 ^ 128
locks_fit e size es is few = let h = locks_within size es is in let one = one_lock_most e in omega (arith, h, one, few)

-- an entry that replaces one of this size
module _ (es : List Entry) (name : List ℕ) (replaced : Option EntrySize) (found : replaced ≡ stood_size name (entry_of_key es name)) where
  stood : (or_nothing replaced).bytes ≡ stood_len name (entry_of_key es name)
  stood = ap (λ (o : Option EntrySize). (or_nothing o).bytes) found ∙ stood_as_len name (entry_of_key es name)

  locked : (or_nothing replaced).locks ≡ stood_locks name (entry_of_key es name)
  locked = ap (λ (o : Option EntrySize). (or_nothing o).locks) found ∙ stood_as_locks name (entry_of_key es name)

  pub replaced_within : (size : Size) → IsSizeOf size es → (or_nothing replaced).bytes ≤ size.bytes
  replaced_within size is = let e = stood in let h = stood_within name es in let b = is.bytes in omega (arith, e, h, b)

  pub replaced_locks : (size : Size) → IsSizeOf size es → (or_nothing replaced).locks ≤ size.locks
  replaced_locks size is = let e = locked in let h = stood_locks_within name es in let b = is.locks in omega (arith, e, h, b)

  pub size_step : (v : Option (List ℕ)) (size new : Size) → IsRising es → IsSizeOf size es → new.entries ≡ cond (is_some replaced) size.entries (size.entries + 1) → new.bytes + (or_nothing replaced).bytes ≡ size.bytes + entry_len (name, v) → new.locks + (or_nothing replaced).locks ≡ size.locks + one_lock (name, v) → IsSizeOf new (put byte_cmp name v es)
  size_step v size new r is count bytes locks =
      record {
        entries =
            count ∙ ap (λ (n : ℕ). cond (is_some replaced) n (n + 1)) is.entries
            ∙ ap (λ (b : Bool). cond b (length es) (length es + 1)) (ap is_some found ∙ stood_some name (entry_of_key es name))
            ∙ sym (length-put byte_cmp nat_list_cmp_total name v es r);
        bytes = let e = stood in let h = bytes-put name v es r in let b = is.bytes in omega (arith, e, h, b, bytes);
        locks = let e = locked in let h = locks-put name v es r in let b = is.locks in omega (arith, e, h, b, locks);
      }

few_left : (b : Bool) (n new r before : ℕ) → new ≡ cond b n (n + 1) → before ≡ suc r → n + before ≤ 2 ^ 65 → new + r ≤ 2 ^ 65
few_left true n new r before e len h = omega arith
few_left false n new r before e len h = omega arith

-- sizes on the way stay small
pub few_more : (replaced : Option EntrySize) (size new : Size) (r before : ℕ) → new.entries ≡ cond (is_some replaced) size.entries (size.entries + 1) → before ≡ suc r → size.entries + before ≤ 2 ^ 65 → new.entries + r ≤ 2 ^ 65
few_more replaced size new r before e len h = few_left (is_some replaced) size.entries new.entries r before e len h

pub small_more : (n new old one r before : ℕ) → new + old ≡ n + one → one ≤ 2 ^ 18 → before ≡ suc r → n + 2 ^ 18 * before ≤ 2 ^ 83 → new + 2 ^ 18 * r ≤ 2 ^ 83
small_more n new old one r before e small len h = omega arith

-- ---- entries put over others

longer : (b : Bool) (n l : ℕ) → l ≡ cond b n (n + 1) → l ≤ n + 1
longer true n l e = omega (arith, e)
longer false n l e = omega (arith, e)

pub over_len : (es base : List Entry) → IsRising base → length (over es base) ≤ length base + length es
over_len [] base r = omega arith
over_len (e ∷ es) base r =
    let h = over_len es base r in
    let one = longer _ (length (over es base)) _ (length-put byte_cmp nat_list_cmp_total e.0 e.1 (over es base) (over_rising es base r)) in
    omega (arith, h, one)

pub over_bytes : (es base : List Entry) → IsRising base → AllByRecursion IsEntry es → bytes_of (over es base) ≤ bytes_of base + 2 ^ 18 * length es
over_bytes [] base r all = omega arith
over_bytes (e ∷ es) base r all =
    let h = over_bytes es base r all.1 in
    let one = bytes-put e.0 e.1 (over es base) (over_rising es base r) in
    let small = entry_small e all.0 in
    omega (arith, h, one, small)

-- ---- the state of a memtable

-- entries put over an entry list make one
pub kept_list : (es staged base : List Entry) → es ≡ over staged base → IsEntryList base → AllByRecursion IsEntry staged → IsEntryList es
kept_list es staged base made list limits =
    record {
      rising = subst (λ (xs : List Entry). IsRising xs) (sym made) (over_rising staged base list.rising);
      each = subst (λ (xs : List Entry). AllByRecursion IsEntry xs) (sym made) (each-over staged base limits list.each);
    }

pub kept : (blocks : Blocks) (staged base : List Entry) (size : Size) → block_entries blocks.filled.items ≡ over staged base → IsEntryList base → AllByRecursion IsEntry staged → IsSizeOf size (over staged base) → IsWithinLimits (over staged base) → AreEntryBlocks blocks → (range : StampRange) → AllByRecursion (IsEntryWithin range) (block_entries blocks.filled.items) → IsKept blocks size.entries size.bytes size.locks range
kept blocks staged base size made list limits is within are range all =
    record {
      list = kept_list (block_entries blocks.filled.items) staged base made list limits;
      limits = subst (λ (xs : List Entry). IsWithinLimits xs) (sym made) within;
      count = is.entries ∙ ap length (sym made);
      bytes = is.bytes ∙ ap bytes_of (sym made);
      locks = is.locks ∙ ap lock_count (sym made);
      stamps = all;
      blocks = are;
    }

-- room was made, and the entries are the same
pub still_kept : (old new : Blocks) (len total locked : ℕ) (range : StampRange) → new.filled.items ≡ old.filled.items → AreEntryBlocks new → IsKept old len total locked range → IsKept new len total locked range
still_kept old new len total locked range same are kept =
    let entries = ap (λ (xs : List Block). block_entries xs) (sym same) in
    record {
      list = subst (λ (es : List Entry). IsEntryList es) entries kept.list;
      limits = subst (λ (es : List Entry). IsWithinLimits es) entries kept.limits;
      count = kept.count ∙ ap length entries;
      bytes = kept.bytes ∙ ap bytes_of entries;
      locks = kept.locks ∙ ap lock_count entries;
      stamps = subst (λ (es : List Entry). AllByRecursion (IsEntryWithin range) es) entries kept.stamps;
      blocks = are;
    }

-- two entries over others, within the limits whatever they replace
pub two_within : (first last : Entry) (base : List Entry) → IsRising base → IsEntry first → IsEntry last → length base + 2 ≤ 100000 → bytes_of base + 2 ^ 19 ≤ 67108864 → IsWithinLimits (over (last ∷ first ∷ []) base)
two_within first last base r one two few small =
    let len = over_len (last ∷ first ∷ []) base r in
    let bytes = over_bytes (last ∷ first ∷ []) base r (two, (one, tt)) in
    record { entries = omega (arith, len, few); bytes = omega (arith, bytes, small) }
