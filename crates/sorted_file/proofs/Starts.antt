-- The offsets of a block's entries, and the list that bytes are read as.
use Rattle.std.proofs.Common.{◌≡◌, ◌≢◌, ◌+◌, ◌-◌, ◌≤◌, ◌<◌, ◌^◌, ℕ, zero, suc, T, List, [], ◌∷◌, ◌++◌, length, drop, slice_get, Option, Some, None, refl, sym, ap, subst, ◌∙◌, arith, length-append, length-drop, append_assoc}
use Rattle.std.specs.Prelude.{IfSome}
use Rattle.std.proofs.lemmas.List.{append-nil, nil_from_length}
use Rattle.std.specs.List.{AllByRecursion}
use Rattle.std.specs.Ordering.{is_lt}
use Rattle.std.specs.declared.cmp.Ordering.{Ordering}
use Rattle.std.specs.declared.cmp.Ordering.TheVariants.{Less}
use Rattle.std.specs.Cmp.Lexicographic.{nat_list_cmp_total}
use Rattle.std.specs.FinMap.Entries.{below_all}
use Rattle.cell_key.specs.Keys.{byte_cmp, qualifier_name}
use Rattle.cell_key.specs.Texts.{ended, escaped, stamp_text}
use Rattle.cell_key.specs.Entries.{Entry, IsEntry, IsEntryList, IsRising, spelled}
use Rattle.cell_key.proofs.TextPlaces.{first, less, second}
use Rattle.sorted_file.specs.Grammar.{block_bytes}
use Rattle.sorted_file.specs.Block.{last_text, starts_from, IsLastText, IsParsed}
use Rattle.cell_key.specs.declared.lent_keys.KeyRef.{KeyRef}
use Rattle.sorted_file.specs.declared.block.Block.{Block}
use Rattle.sorted_file.proofs.Joining.{all_joined, both}
use Rattle.sorted_file.proofs.Spelling.{goes_on, one_spelling, short, spelled_split}

-- ---- the entry at an offset

pub starts_length : (at : ℕ) (es : List Entry) → length (starts_from at es) ≡ length es
starts_length at [] = refl
starts_length at (e ∷ es) = ap suc (starts_length (at + length (spelled e)) es)

pub starts_joined : (at : ℕ) (es : List Entry) (e : Entry) → starts_from at (es ++ e ∷ []) ≡ starts_from at es ++ (at + length (block_bytes es)) ∷ []
starts_joined at [] e = let same : at ≡ at + 0 = omega arith in ap (λ (n : ℕ). n ∷ []) same
starts_joined at (d ∷ es) e =
    let same : at + length (spelled d) + length (block_bytes es) ≡ at + length (block_bytes (d ∷ es)) = omega (arith, length-append (spelled d) (block_bytes es)) in
    ap (λ (l : List ℕ). at ∷ l) (starts_joined (at + length (spelled d)) es e ∙ ap (λ (n : ℕ). starts_from (at + length (spelled d)) es ++ n ∷ []) same)

drop_past : (xs ys : List ℕ) (k : ℕ) → drop (length xs + k) (xs ++ ys) ≡ drop k ys
drop_past [] ys k = let same : 0 + k ≡ k = omega arith in ap (λ (n : ℕ). drop n ys) same
drop_past (x ∷ xs) ys k =
    let same : length (x ∷ xs) + k ≡ suc (length xs + k) = omega arith in
    ap (λ (n : ℕ). drop n (x ∷ (xs ++ ys))) same ∙ drop_past xs ys k

-- an entry of a list, and the bytes behind it
pub record IsEntryAt (es : List Entry) (i from start : ℕ) : Type 0 where
  pub entry : Entry
  pub more : List ℕ
  pub is : slice_get es i ≡ Some entry
  pub behind : from ≤ start
  pub within : start - from ≤ length (block_bytes es)
  pub bytes : drop (start - from) (block_bytes es) ≡ spelled entry ++ more

pub entry_at : (es : List Entry) (i from start : ℕ) → slice_get (starts_from from es) i ≡ Some start → IsEntryAt es i from start
entry_at [] i from start e = cc
entry_at (d ∷ es) zero from start e =
    let same : from ≡ start = cc in
    let none : start - from ≡ 0 = omega (arith, same) in
    record {
      entry = d;
      more = block_bytes es;
      is = refl;
      behind = omega (arith, same);
      within = omega (arith, none);
      bytes = ap (λ (n : ℕ). drop n (block_bytes (d ∷ es))) none;
    }
entry_at (d ∷ es) (suc i) from start e =
    let at = entry_at es i (from + length (spelled d)) start e in
    let behind = at.behind in
    let within = at.within in
    let on : start - from ≡ length (spelled d) + (start - (from + length (spelled d))) = omega (arith, behind) in
    record {
      entry = at.entry;
      more = at.more;
      is = at.is;
      behind = omega (arith, behind);
      within = omega (arith, behind, within, length-append (spelled d) (block_bytes es));
      bytes = ap (λ (n : ℕ). drop n (spelled d ++ block_bytes es)) on ∙ drop_past (spelled d) (block_bytes es) (start - (from + length (spelled d))) ∙ at.bytes;
    }

pub no_entry_at : (es : List Entry) (i from : ℕ) → slice_get (starts_from from es) i ≡ None → slice_get es i ≡ None
no_entry_at [] i from e = refl
no_entry_at (d ∷ es) zero from e = cc
no_entry_at (d ∷ es) (suc i) from e = no_entry_at es i (from + length (spelled d)) e

-- ---- bytes that are read as a list

-- these bytes were read as entries, and these are left
pub record IsDone (bytes rest last starts : List ℕ) : Type 0 where
  pub done : List Entry
  pub list : IsEntryList done
  pub read : bytes ≡ block_bytes done ++ rest
  pub starts_are : starts ≡ starts_from 0 done
  pub last_is : IsLastText done last

pub is_less : (o : Ordering) → o ≡ Less → T (is_lt o)
is_less o e = subst (λ (o : Ordering). T (is_lt o)) (sym e) tt

pub below_last : (name last : List ℕ) (e : Entry) (es : List Entry) → T (below_all byte_cmp name (e ∷ es)) → IsLastText (e ∷ es) last → byte_cmp name last ≡ Less
below_last name last e [] h is = subst (λ (t : List ℕ). byte_cmp name t ≡ Less) (sym is) (less _ (first _ _ h))
below_last name last e (f ∷ es) h is = below_last name last f es (second _ _ h) is

below_on : (name : List ℕ) (es : List Entry) (e : Entry) → T (below_all byte_cmp name es) → byte_cmp name e.0 ≡ Less → T (below_all byte_cmp name (es ++ e ∷ []))
below_on name [] e h p = both _ _ (is_less _ p) tt
below_on name (d ∷ es) e h p = both _ _ (first _ _ h) (below_on name es e (second _ _ h) p)

pub rising_on : (es : List Entry) (e : Entry) (last : List ℕ) → IsRising es → IsLastText es last → byte_cmp last e.0 ≡ Less → IsRising (es ++ e ∷ [])
rising_on [] e last r is p = tt
rising_on (d ∷ []) e last r is p = both _ _ (both _ _ (is_less _ (subst (λ (t : List ℕ). byte_cmp t e.0 ≡ Less) is p)) tt) tt
rising_on (d ∷ f ∷ es) e last r is p =
    let low = nat_list_cmp_total.trans d.0 last e.0 (below_last d.0 last f es (first _ _ r) is) p in
    both _ _ (below_on d.0 (f ∷ es) e (first _ _ r) low) (rising_on (f ∷ es) e last (second _ _ r) is p)

pub last_on : (es : List Entry) (e : Entry) → IsLastText (es ++ e ∷ []) e.0
last_on [] e = refl
last_on (d ∷ []) e = refl
last_on (d ∷ f ∷ es) e = last_on (f ∷ es) e

pub bytes_on : (es : List Entry) (e : Entry) (rest after : List ℕ) → rest ≡ spelled e ++ after → block_bytes es ++ rest ≡ block_bytes (es ++ e ∷ []) ++ after
bytes_on [] e rest after r = r ∙ sym (append_assoc (spelled e) [] after)
bytes_on (d ∷ es) e rest after r =
    append_assoc (spelled d) (block_bytes es) rest ∙ ap (λ (l : List ℕ). spelled d ++ l) (bytes_on es e rest after r)
    ∙ sym (append_assoc (spelled d) (block_bytes (es ++ e ∷ [])) after)

unfoldable pub next_done : (bytes rest last starts after : List ℕ) (e : Entry) → IsDone bytes rest last starts → rest ≡ spelled e ++ after → IsEntry e → byte_cmp last e.0 ≡ Less → IsDone bytes after e.0 (starts ++ (length bytes - length rest) ∷ [])
next_done bytes rest last starts after e d r is p =
    let at : length bytes - length rest ≡ 0 + length (block_bytes d.done) = omega (arith, ap length d.read, length-append (block_bytes d.done) rest) in
    record {
      done = d.done ++ e ∷ [];
      list = record { rising = rising_on d.done e last d.list.rising d.last_is p; each = all_joined IsEntry d.done (e ∷ []) d.list.each (is, tt) };
      read = d.read ∙ bytes_on d.done e rest after r;
      starts_are = ap (λ (l : List ℕ). l ++ (length bytes - length rest) ∷ []) d.starts_are ∙ ap (λ (n : ℕ). starts_from 0 d.done ++ n ∷ []) at ∙ sym (starts_joined 0 d.done e);
      last_is = last_on d.done e;
    }

pub none_below : (xs : List ℕ) → 0 < length xs → byte_cmp [] xs ≡ Less
none_below [] h = absurd (omega (arith, h))
none_below (x ∷ xs) h = refl

pub seam : (es : List Entry) (e : Entry) (more : List Entry) (last : List ℕ) → 0 < length e.0 → IsRising (es ++ e ∷ more) → IsLastText es last → byte_cmp last e.0 ≡ Less
seam [] e more last some r is = subst (λ (t : List ℕ). byte_cmp t e.0 ≡ Less) (sym is) (none_below e.0 some)
seam (d ∷ []) e more last some r is = subst (λ (t : List ℕ). byte_cmp t e.0 ≡ Less) (sym is) (less _ (first _ _ (first _ _ r)))
seam (d ∷ f ∷ es) e more last some r is = seam (f ∷ es) e more last some (second _ _ r) is

pub some_text : (e : Entry) → IsEntry e → 0 < length e.0
some_text e is =
    let key = is.key in
    let named = ap length is.named in
    let whole = length-append (ended (escaped key.row)) (ended key.family ++ (ended (qualifier_name key.qualifier) ++ stamp_text key.stamp)) in
    let row = length-append (escaped key.row) (0 ∷ 0 ∷ []) in
    omega (arith, named, whole, row)

all_at : (done more : List Entry) (e : Entry) → AllByRecursion IsEntry (done ++ e ∷ more) → IsEntry e
all_at [] more e h = h.0
all_at (d ∷ done) more e h = all_at done more e h.1

module _ (bytes rest last starts : List ℕ) (d : IsDone bytes rest last starts) (small : length bytes < 2 ^ 32) (es : List Entry) (list : IsEntryList es) (are : bytes ≡ block_bytes es) where
  -- if the rest doesn't begin with a possible next entry, the bytes are no entry list
  pub stuck_next : length rest ≢ 0 → ((e : Entry) (x : List ℕ) → IsEntry e → byte_cmp last e.0 ≡ Less → rest ≢ spelled e ++ x) → ⊥
  stuck_next some none = let on = goes_on d.done es bytes rest small d.read are in go on.more on.list on.bytes
    where
      go : (more : List Entry) → es ≡ d.done ++ more → rest ≡ block_bytes more → ⊥
      go [] l q = some (ap length q)
      go (f ∷ more) l q =
          let is = all_at d.done more f (subst (AllByRecursion IsEntry) l list.each) in
          none f (block_bytes more) is (seam d.done f more last (some_text f is) (subst (λ (l : List Entry). IsRising l) l list.rising) d.last_is) q

-- a text is above the last key if it is above the key's text
pub above_some : (last : Option KeyRef) (name : List ℕ) → byte_cmp (last_text last) name ≡ Less → IfSome last (λ before. byte_cmp before.text.now name ≡ Less)
above_some None name p = tt
above_some (Some key) name p = p

-- the same, with equal values
unfoldable pub done_as : (bytes rest last starts last' starts' : List ℕ) → IsDone bytes rest last starts → last ≡ last' → starts ≡ starts' → IsDone bytes rest last' starts'
done_as bytes rest last starts last' starts' d e f = record {
  done = d.done;
  list = d.list;
  read = d.read;
  starts_are = sym f ∙ d.starts_are;
  last_is = subst (IsLastText d.done) e d.last_is;
}

-- if nothing is left, all was read
pub all_read : (bytes rest last starts : List ℕ) (d : IsDone bytes rest last starts) → length rest ≡ 0 → bytes ≡ block_bytes d.done
all_read bytes rest last starts d e = d.read ∙ ap (λ (l : List ℕ). block_bytes d.done ++ l) (nil_from_length rest e) ∙ append-nil (block_bytes d.done)

-- the last text of a list is its last entry's
pub last_at : (es : List Entry) (n : ℕ) (e : Entry) → suc n ≡ length es → slice_get es n ≡ Some e → IsLastText es e.0
last_at [] n e is g = cc
last_at (d ∷ []) zero e is g = let same : d ≡ e = cc in ap (λ (x : Entry). x.0) (sym same)
last_at (d ∷ []) (suc n) e is g = absurd (omega (arith, is))
last_at (d ∷ f ∷ es) zero e is g = absurd (omega (arith, is))
last_at (d ∷ f ∷ es) (suc n) e is g = last_at (f ∷ es) n e (omega (arith, is)) g

some_at : (es : List Entry) (n : ℕ) → n < length es → slice_get es n ≡ None → ⊥
some_at [] n low g = absurd (omega (arith, low))
some_at (d ∷ es) zero low g = cc
some_at (d ∷ es) (suc n) low g = some_at es n (omega (arith, low)) g

pub none_last : (es : List Entry) (n : ℕ) → n ≡ length es - 1 → slice_get es n ≡ None → IsLastText es []
none_last [] n is g = refl
none_last (d ∷ es) n is g = absurd (some_at (d ∷ es) n (omega (arith, is)) g)

pub some_last : (es : List Entry) (n : ℕ) (e : Entry) → n ≡ length es - 1 → slice_get es n ≡ Some e → IsLastText es e.0
some_last [] n e is g = cc
some_last (d ∷ es) n e is g = last_at (d ∷ es) n e (omega (arith, is)) g

unfoldable pub nothing_read : (bytes : List ℕ) → IsDone bytes bytes [] []
nothing_read bytes = record { done = []; list = record { rising = tt; each = tt }; read = refl; starts_are = refl; last_is = refl }

-- a parsed block has only one list with its bytes
pub parsed_as : (es fs : List Entry) (block : Block) → IsParsed es block → block_bytes fs ≡ block_bytes es → fs ≡ es
parsed_as es fs block p e = one_spelling es fs p.small (sym e)

-- the bytes of a block at an entry's offset
pub record IsReadAt (es : List Entry) (i : ℕ) (rest : List ℕ) : Type 0 where
  pub entry : Entry
  pub more : List ℕ
  pub is : slice_get es i ≡ Some entry
  pub bytes : rest ≡ spelled entry ++ more
  pub small : length rest < 2 ^ 32

pub read_at : (es : List Entry) (block : Block) (i start n : ℕ) → IsParsed es block → slice_get block.starts.items i ≡ Some start → n ≤ start → (start ≤ length block.bytes.items → n ≡ start) → IsReadAt es i (drop n block.bytes.items)
read_at es block i start n p got low is =
    let at = entry_at es i 0 start (ap (λ (l : List ℕ). slice_get l i) (sym p.starts) ∙ got) in
    let within = at.within in
    let size = ap length p.bytes in
    let same : n ≡ start - 0 = omega (arith, is (omega (arith, within, size))) in
    let rest : drop n block.bytes.items ≡ drop (start - 0) (block_bytes es) = ap (λ (k : ℕ). drop k block.bytes.items) same ∙ ap (drop (start - 0)) p.bytes in
    let len = length-drop (start - 0) (block_bytes es) in
    record { entry = at.entry; more = at.more; is = at.is; bytes = rest ∙ at.bytes; small = omega (arith, p.small, ap length rest, len) }

pub same_entry : (es : List Entry) (i : ℕ) (rest after : List ℕ) (b : Entry) → IsReadAt es i rest → rest ≡ spelled b ++ after → Some b ≡ slice_get es i
same_entry es i rest after b r e =
    let same = spelled_split b r.entry after r.more (short b after rest e r.small) (short r.entry r.more rest r.bytes r.small) (sym e ∙ r.bytes) in
    ap Some same.0 ∙ sym r.is
