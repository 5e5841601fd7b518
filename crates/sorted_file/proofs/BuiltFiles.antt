-- A file that is built entry by entry.
use Rattle.std.proofs.Common.{◌≡◌, ◌≢◌, ◌+◌, ◌≤◌, ◌<◌, ℕ, List, [], ◌∷◌, ◌++◌, length, drop, Some, refl, sym, ap, subst, ◌∙◌, arith, length-append, append_assoc}
use Rattle.std.proofs.Math.Seq.{drop-append_seam}
use Rattle.std.specs.Prelude.{flat_map}
use Rattle.std.specs.Global.{Vec}
use Rattle.file_store.specs.Store.{part}
use Rattle.std.specs.declared.cmp.Ordering.TheVariants.{Less}
use Rattle.std.proofs.lemmas.List.{append-nil}
use Rattle.std.proofs.lemmas.List.Concat.{flat_map-append}
use Rattle.cell_key.specs.Entries.{Entry, IsEntry, IsEntryList, spelled}
use Rattle.cell_key.specs.Keys.{byte_cmp}
use Rattle.cell_key.specs.LentKeys.{IsLentKey}
use Rattle.cell_key.specs.declared.lent_keys.KeyRef.{KeyRef}
use Rattle.sorted_file.specs.Block.{bytes_at, entries_of, IsLastText, IsParsed}
use Rattle.sorted_file.specs.Builder.{built, IsSound, KeepsLast}
use Rattle.sorted_file.specs.Check.{IsFollowed}
use Rattle.sorted_file.specs.Grammar.{block_bytes, body, head, Fits, FitsIn}
use Rattle.sorted_file.specs.Index.{blocks_of, entries_in}
use Rattle.sorted_file.specs.declared.block.Block.{Block}
use Rattle.sorted_file.specs.declared.block.Extent.{Extent}
use Rattle.sorted_file.specs.declared.builder.FileBuilder.{FileBuilder}
use Rattle.sorted_file.specs.declared.builder.LastKey.{LastKey}
use Rattle.sorted_file.specs.declared.format.Format.TheVariants.{Two}
use Rattle.sorted_file.proofs.GrowingBlocks.{block_bytes-last}
use Rattle.sorted_file.proofs.Growth.{body-last, flat-last}
use Rattle.sorted_file.proofs.Joining.{all_back, all_joined, followed_last, last_behind, rising_back}
use Rattle.sorted_file.proofs.Spelling.{body-whole, is_cut}
use Rattle.sorted_file.proofs.Seams.{text_part}
use Rattle.sorted_file.proofs.Starts.{last_on, rising_on, seam, some_text}

-- ---- its entries

-- all its entries are a list
pub is_list : (b : FileBuilder) → IsSound b → IsEntryList (built b)
is_list b s = record { rising = s.rising; each = all_joined IsEntry (entries_in (blocks_of b.opening.rows.items)) (entries_of b.current.block) s.opening.list.each s.parsed.list.each }

-- what it keeps of the closed blocks may be pushed
pub same_sound : (b : FileBuilder) (out : Vec ℕ) → IsSound b → IsSound (record b { out = out })
same_sound b out s = record { opening = s.opening; format = s.format; parsed = s.parsed; columns = s.columns; rising = s.rising; within = s.within }

-- its length in bytes so far
pub reached : (b : FileBuilder) → IsSound b → b.opening.end + length b.current.block.bytes.items ≡ 8 + length (flat_map spelled (built b))
reached b s =
    let end = s.opening.reached in
    let whole = ap length (body-whole (blocks_of b.opening.rows.items)) in
    let block = ap length s.parsed.bytes in
    let all = ap length (flat_map-append spelled (entries_in (blocks_of b.opening.rows.items)) (entries_of b.current.block)) ∙ length-append (flat_map spelled (entries_in (blocks_of b.opening.rows.items))) (flat_map spelled (entries_of b.current.block)) in
    omega (arith, end, whole, block, all)

-- ---- its last key

-- if the open block has no entries, there are none
pub none_built : (blocks : List (List Entry)) (es : List Entry) → IsFollowed blocks es → es ≡ [] → entries_in blocks ++ es ≡ []
none_built blocks es follows none = ap (λ (b : List (List Entry)). entries_in b ++ es) (alone blocks (subst (IsFollowed blocks) none follows)) ∙ none
  where
    alone : (blocks : List (List Entry)) → IsFollowed blocks [] → blocks ≡ []
    alone [] f = refl
    alone (b ∷ []) f = absurd f
    alone (b ∷ c ∷ blocks) f = absurd (no (c ∷ blocks) (λ n. cc) f)
      where
        no : (blocks : List (List Entry)) → blocks ≢ [] → IsFollowed blocks [] → ⊥
        no [] n f = n refl
        no (b ∷ []) n f = f
        no (b ∷ c ∷ blocks) n f = no (c ∷ blocks) (λ n. cc) f

-- else the last text is the open block's
pub last_of_both : (es fs : List Entry) (name : List ℕ) → fs ≢ [] → IsLastText fs name → IsLastText (es ++ fs) name
last_of_both es [] name some h = absurd (some refl)
last_of_both es (f ∷ fs) name some h = last_behind es f fs name h

-- an entry above the last text can be the next of a list
pub goes_on : (es : List Entry) (e : Entry) (last : List ℕ) → IsEntryList es → IsLastText es last → IsEntry e → byte_cmp last e.0 ≡ Less → IsEntryList (es ++ e ∷ [])
goes_on es e last list is one above = record { rising = rising_on es e last list.rising is above; each = all_joined IsEntry es (e ∷ []) list.each (one, tt) }

-- and no other can
pub goes_not : (es : List Entry) (e : Entry) (last : List ℕ) → IsLastText es last → (IsEntry e → byte_cmp last e.0 ≢ Less) → IsEntryList (es ++ e ∷ []) → ⊥
goes_not es e last is none list =
    let one = (all_back IsEntry es (e ∷ []) list.each).0 in
    none one (seam es e [] last (some_text e one) list.rising is)

some_more : (es : List Entry) (e : Entry) → es ++ e ∷ [] ≢ []
some_more [] e n = cc
some_more (d ∷ es) e n = cc

-- the text of a block's last entry is behind the bytes of the others and its own length
text_behind : (es : List Entry) (e : Entry) (old new : Block) (at : Extent) → IsParsed es old → IsParsed (es ++ e ∷ []) new → at.offset ≡ length old.bytes.items + 4 → at.length ≡ length e.0 → bytes_at new.bytes.items at ≡ e.0
text_behind es e old new at before after offset size =
    let n = length old.bytes.items in
    let bytes : new.bytes.items ≡ old.bytes.items ++ spelled e = after.bytes ∙ block_bytes-last es e ∙ ap (λ (l : List ℕ). l ++ spelled e) (sym before.bytes) in
    let behind : drop n new.bytes.items ≡ spelled e ++ [] = ap (drop n) bytes ∙ drop-append_seam old.bytes.items (spelled e) ∙ sym (append-nil (spelled e)) in
    ap (λ (k : ℕ). part new.bytes.items k at.length) offset ∙ ap (part new.bytes.items (n + 4)) size
    ∙ text_part new.bytes.items e.0 [] n (omega (arith, ap length bytes, length-append old.bytes.items (spelled e))) e.1 behind

-- the key of the last entry is kept
pub keeps_last : (es fs : List Entry) (e : Entry) (old new : Block) (key : KeyRef) (last : LastKey) → IsParsed es old → IsParsed fs new → fs ≡ es ++ e ∷ [] → IsLentKey key → key.text.now ≡ e.0
    → last.text.offset ≡ length old.bytes.items + 4 → last.text.length ≡ length e.0 → last.place_len ≡ key.place_len → last.qualifier ≡ key.qualifier → last.stamp ≡ key.stamp → KeepsLast fs new.bytes.items (Some last)
keeps_last es fs e old new key last before after more lent named offset size place qualifier stamp =
    let here = text_behind es e old new last.text before (subst (λ (l : List Entry). IsParsed l new) more after) offset size in
    subst (λ (l : List Entry). KeepsLast l new.bytes.items (Some last)) (sym more) (record {
      some = some_more es e;
      named = subst (IsLastText (es ++ e ∷ [])) (sym here) (last_on es e);
      key = lent.key;
      stored = lent.stored;
      is = here ∙ sym named ∙ lent.is;
      place = place ∙ lent.place;
      qualifier = qualifier ∙ lent.qualifier;
      stamp = stamp ∙ lent.stamp;
    })

-- the entries of the open block and an entry are a list, if all entries and it are
pub next_list : (es fs all : List Entry) (e : Entry) → es ++ fs ≡ all → IsEntryList (all ++ e ∷ []) → IsEntryList (fs ++ e ∷ [])
next_list es fs all e is list =
    let parts : all ++ e ∷ [] ≡ es ++ (fs ++ e ∷ []) = ap (λ (l : List Entry). l ++ e ∷ []) (sym is) ∙ append_assoc es fs (e ∷ []) in
    let parted = subst IsEntryList parts list in
    record { rising = rising_back es (fs ++ e ∷ []) parted.rising; each = all_back IsEntry es (fs ++ e ∷ []) parted.each }

pub next_built : (es fs gs all : List Entry) (e : Entry) → es ++ fs ≡ all → gs ≡ fs ++ e ∷ [] → es ++ gs ≡ all ++ e ∷ []
next_built es fs gs all e is more = ap (λ (l : List Entry). es ++ l) more ∙ sym (append_assoc es fs (e ∷ [])) ∙ ap (λ (l : List Entry). l ++ e ∷ []) is

-- ---- it has room for an entry, or its open block is closed

-- without an index and a foot, a file with this entry has too many bytes
pub no_room : (es more : List Entry) (e : Entry) (limit : ℕ) → limit < 8 + length (flat_map spelled es) + length (spelled e) → FitsIn limit (es ++ e ∷ more) → ⊥
no_room es more e limit h f =
    let all = ap length (flat_map-append spelled es (e ∷ more)) ∙ length-append (flat_map spelled es) (flat_map spelled (e ∷ more)) in
    let one = length-append (spelled e) (flat_map spelled more) in
    let cut = is_cut Two (es ++ e ∷ more) f.image f.form in
    let size = cut.size in
    let within = f.within in
    omega (arith, all, one, size, within, h)

-- a block that has room takes an entry and still follows the others
pub follows_on : (blocks : List (List Entry)) (es : List Entry) (e : Entry) → IsFollowed blocks es → IsFollowed blocks (es ++ e ∷ [])
follows_on [] es e h = tt
follows_on (b ∷ []) [] e h = absurd h
follows_on (b ∷ []) (x ∷ es) e h = h
follows_on (b ∷ c ∷ blocks) es e h = follows_on (c ∷ blocks) es e h

-- a block with this entry first can follow one that has no room for it
pub followed_by : (blocks : List (List Entry)) (es : List Entry) (e : Entry) → ¬ Fits (es ++ e ∷ []) → (small : length (block_bytes es) + length (spelled e) ≤ 4096 → Fits (es ++ e ∷ [])) → IsFollowed (blocks ++ es ∷ []) (e ∷ [])
followed_by blocks es e full small =
    subst (λ (X : Type 0). X) (sym (followed_last blocks es (e ∷ []))) (larger (λ h. full (small h)))
  where
    larger : ¬ (length (block_bytes es) + length (spelled e) ≤ 4096) → 4096 < length (block_bytes es) + length (spelled e)
    larger n = omega (arith, n)

-- closing the open block leaves the entries unchanged
pub closed_built : (blocks new : List (List Entry)) (es next : List Entry) → new ≡ blocks ++ es ∷ [] → next ≡ [] → entries_in new ++ next ≡ entries_in blocks ++ es
closed_built blocks new es next closed none =
    ap (λ (n : List Entry). entries_in new ++ n) none ∙ append-nil (entries_in new) ∙ ap entries_in closed ∙ flat-last blocks es

pub closed_bytes : (blocks new : List (List Entry)) (es : List Entry) (out bytes later : List ℕ) → new ≡ blocks ++ es ∷ [] → out ≡ head Two ++ body blocks → bytes ≡ block_bytes es → later ≡ out ++ bytes → later ≡ head Two ++ body new
closed_bytes blocks new es out bytes later closed was block is =
    is ∙ ap (λ (l : List ℕ). l ++ bytes) was ∙ append_assoc (head Two) (body blocks) bytes ∙ ap (λ (l : List ℕ). head Two ++ (body blocks ++ l)) block
    ∙ ap (λ (l : List ℕ). head Two ++ l) (sym (body-last blocks es)) ∙ ap (λ (b : List (List Entry)). head Two ++ body b) (sym closed)
