-- Searching the bytes of a block.
use Rattle.std.proofs.Common.{◌≡◌, ◌≢◌, ◌<◌, ◌^◌, ℕ, Bool, true, false, cond, T, List, [], ◌∷◌, ◌++◌, length, Option, Some, None, refl, sym, ap, subst, ◌∙◌, arith, length-append}
use Rattle.std.specs.Borrow.{Bor}
use Rattle.std.specs.Option.{option_copied}
use Rattle.std.specs.Prelude.{is_some}
use Rattle.std.specs.declared.cmp.Ordering.{Ordering}
use Rattle.std.specs.declared.cmp.Ordering.TheVariants.{Less, Equal, Greater}
use Rattle.std.specs.Ordering.{is_le, is_eq}
use Rattle.std.specs.List.{AllByRecursion}
use Rattle.std.specs.FinMap.Entries.{find, below_all}
use Rattle.cell_key.specs.Keys.{byte_cmp}
use Rattle.cell_key.specs.Entries.{Entry, IsEntry, IsRising, entries_from, entry_of_key, spelled}
use Rattle.cell_key.proofs.TextPlaces.{first, second, from_place, find_lower}
use Rattle.sorted_file.specs.Grammar.{block_bytes}
use Rattle.sorted_file.proofs.Joining.{both}
use Rattle.sorted_file.proofs.Spelling.{no_more, short, spelled_length, spelled_split}

-- the entry at the front of entries' bytes is the first of them
pub record IsFront (b : Entry) (after : List ℕ) (es : List Entry) : Type 0 where
  pub more : List Entry
  pub list : es ≡ b ∷ more
  pub bytes : after ≡ block_bytes more

pub front : (rest after : List ℕ) (b : Entry) (es : List Entry) → length rest < 2 ^ 32 → rest ≡ spelled b ++ after → rest ≡ block_bytes es → IsFront b after es
front rest after b [] small r q =
    let l = ap length r ∙ length-append (spelled b) after in
    let z : length rest ≡ 0 = ap length q in
    absurd (omega (arith, l, z, spelled_length b))
front rest after b (e ∷ es) small r q =
    let same = spelled_split b e after (block_bytes es) (short b after rest r small) (short e (block_bytes es) rest q small) (sym r ∙ q) in
    record { more = es; list = ap (λ (z : Entry). z ∷ es) (sym same.0); bytes = same.1 }

-- if no entry is at the front of bytes, they are not the bytes of entries
pub no_front : (rest : List ℕ) (es : List Entry) → length rest ≢ 0 → ((e : Entry) (x : List ℕ) → rest ≢ spelled e ++ x) → rest ≡ block_bytes es → ⊥
no_front rest [] some none q = some (ap length q)
no_front rest (e ∷ es) some none q = none e (block_bytes es) q

pub as_empty : (rest : List ℕ) (es : List Entry) → length rest ≡ 0 → rest ≡ block_bytes es → es ≡ []
as_empty [] es z q = no_more es q
as_empty (x ∷ rest) es z q = absurd (omega (arith, z))

-- ---- entries from a text on

-- the rest has all entries at or above this text
pub record IsPast (text rest : List ℕ) (es : List Entry) : Type 0 where
  pub more : List Entry
  pub rising : IsRising more
  pub bytes : rest ≡ block_bytes more
  pub same : entries_from text es ≡ entries_from text more

passed : (text : List ℕ) (b : Entry) (more : List Entry) → is_le (byte_cmp text b.0) ≡ false → entries_from text (b ∷ more) ≡ entries_from text more
passed text b more e = ap (λ (t : Bool). cond t (b ∷ entries_from text more) (entries_from text more)) e

not_greater : (o : Ordering) → is_le o ≡ true → o ≢ Greater
not_greater Less e p = cc
not_greater Equal e p = cc
not_greater Greater e p = cc

pub all_from : (text : List ℕ) (b : Entry) (more : List Entry) → IsRising (b ∷ more) → is_le (byte_cmp text b.0) ≡ true → entries_from text (b ∷ more) ≡ b ∷ more
all_from text b more r e = from_place text (b ∷ more) 0 r (not_greater _ e)

module _ (text rest : List ℕ) (es : List Entry) (past : IsPast text rest es) where
  pub past_entry : (after : List ℕ) (b : Entry) → length rest < 2 ^ 32 → rest ≡ spelled b ++ after → is_le (byte_cmp text b.0) ≡ false → IsPast text after es
  past_entry after b small r low =
      let f = front rest after b past.more small r past.bytes in
      record {
        more = f.more;
        rising = second _ _ (subst (λ (l : List Entry). IsRising l) f.list past.rising);
        bytes = f.bytes;
        same = past.same ∙ ap (entries_from text) f.list ∙ passed text b f.more low;
      }

  pub past_here : (after : List ℕ) (b : Entry) → length rest < 2 ^ 32 → rest ≡ spelled b ++ after → is_le (byte_cmp text b.0) ≡ true → rest ≡ block_bytes (entries_from text es)
  past_here after b small r here =
      let f = front rest after b past.more small r past.bytes in
      past.bytes ∙ ap block_bytes (f.list ∙ sym (all_from text b f.more (subst (λ (l : List Entry). IsRising l) f.list past.rising) here) ∙ sym (ap (entries_from text) f.list) ∙ sym past.same)

  pub past_end : length rest ≡ 0 → rest ≡ block_bytes (entries_from text es)
  past_end z =
      let none = as_empty rest past.more z past.bytes in
      past.bytes ∙ ap block_bytes (none ∙ sym (ap (entries_from text) none) ∙ sym past.same)

below_from : (name text : List ℕ) (es : List Entry) → T (below_all byte_cmp name es) → T (below_all byte_cmp name (entries_from text es))
below_from name text [] h = tt
below_from name text (e ∷ es) h = go (is_le (byte_cmp text e.0)) (below_from name text es (second _ _ h))
  where
    go : (b : Bool) → T (below_all byte_cmp name (entries_from text es)) → T (below_all byte_cmp name (cond b (e ∷ entries_from text es) (entries_from text es)))
    go true k = both _ _ (first _ _ h) k
    go false k = k

pub rising_from : (text : List ℕ) (es : List Entry) → IsRising es → IsRising (entries_from text es)
rising_from text [] h = tt
rising_from text (e ∷ es) h = go (is_le (byte_cmp text e.0)) (rising_from text es (second _ _ h))
  where
    go : (b : Bool) → IsRising (entries_from text es) → IsRising (cond b (e ∷ entries_from text es) (entries_from text es))
    go true k = both _ _ (below_from e.0 text es (first _ _ h)) k
    go false k = k

pub head_from : (text : List ℕ) (es : List Entry) (b : Entry) (more : List Entry) → entries_from text es ≡ b ∷ more → is_le (byte_cmp text b.0) ≡ true
head_from text [] b more e = cc
head_from text (x ∷ es) b more e = go (is_le (byte_cmp text x.0)) refl e (head_from text es b more)
  where
    go : (t : Bool) → is_le (byte_cmp text x.0) ≡ t → cond t (x ∷ entries_from text es) (entries_from text es) ≡ b ∷ more → (entries_from text es ≡ b ∷ more → is_le (byte_cmp text b.0) ≡ true) → is_le (byte_cmp text b.0) ≡ true
    go true p q rest = let same : x ≡ b = cc in ap (λ (z : Entry). is_le (byte_cmp text z.0)) (sym same) ∙ p
    go false p q rest = rest q

pub each_from : (text : List ℕ) (es : List Entry) → AllByRecursion IsEntry es → AllByRecursion IsEntry (entries_from text es)
each_from text [] h = tt
each_from text (e ∷ es) h = go (is_le (byte_cmp text e.0)) (each_from text es h.1)
  where
    go : (b : Bool) → AllByRecursion IsEntry (entries_from text es) → AllByRecursion IsEntry (cond b (e ∷ entries_from text es) (entries_from text es))
    go true k = (h.0, k)
    go false k = k
