-- The entries of one step of a merge of a run of files.
use Rattle.std.proofs.Common.{◌≡◌, ℕ, Bool, true, false, cond, List, [], ◌∷◌, ◌++◌, map, length, take, drop, ◌+◌, ◌≤◌, append_assoc, arith, refl, sym, ap, subst, ◌∙◌}
use Rattle.std.proofs.lemmas.List.{length-append, length-drop, length-map}
use Rattle.std.specs.Prelude.{Option, Some, None, IfSome}
use Rattle.std.specs.List.{AllByRecursion}
use Rattle.std.specs.Ordering.{is_le, ordering_reverse}
use Rattle.std.specs.declared.cmp.Ordering.{Ordering}
use Rattle.std.specs.declared.cmp.Ordering.TheVariants.{Less, Equal, Greater}
use Rattle.cell_key.specs.Keys.{byte_cmp}
use Rattle.cell_key.specs.Entries.{Entry, IsEntryList, entries_from, merged}
use Rattle.cell_key.proofs.EntryLists.{total}
use Rattle.compaction.specs.Ends.{MergesRanges, entries_until}
use Rattle.sorted_file.specs.File.{name_of}
use Rattle.sorted_file.specs.declared.file.SortedFile.{SortedFile}
use Rattle.tablet.specs.RunMerges.{IsRunAt}
use Rattle.tablet.specs.Ranges.{lower_fence, seen, upper_fence}
use Rattle.tablet.specs.Sources.{entries_between}
use Rattle.tablet.specs.declared.ranges.RowRange.{RowRange}
use Rattle.tablet.proofs.NextCells.{le_trans}
use Rattle.tablet.proofs.WrittenFiles.{between_seen}

-- from the later of two texts on there are those that are from both on
narrower : (low past : List ℕ) → is_le (byte_cmp low past) ≡ true → (es : List Entry) → entries_from past es ≡ entries_from past (entries_from low es)
narrower low past up [] = refl
narrower low past up (e ∷ es) = go (narrower low past up es) (is_le (byte_cmp low e.0)) (is_le (byte_cmp past e.0)) refl refl
  where
    go : entries_from past es ≡ entries_from past (entries_from low es) → (a b : Bool) → is_le (byte_cmp low e.0) ≡ a → is_le (byte_cmp past e.0) ≡ b → cond b (e ∷ entries_from past es) (entries_from past es) ≡ entries_from past (cond a (e ∷ entries_from low es) (entries_from low es))
    go same true b p q = ap (λ (xs : List Entry). cond b (e ∷ xs) xs) same ∙ sym (ap (λ (t : Bool). cond t (e ∷ entries_from past (entries_from low es)) (entries_from past (entries_from low es))) q)
    go same false true p q = absurd (let both = le_trans low past e.0 up q in cc)
    go same false false p q = same

wider : (past low : List ℕ) → is_le (byte_cmp past low) ≡ true → (es : List Entry) → entries_from low es ≡ entries_from past (entries_from low es)
wider past low up [] = refl
wider past low up (e ∷ es) = go (wider past low up es) (is_le (byte_cmp low e.0)) refl
  where
    go : entries_from low es ≡ entries_from past (entries_from low es) → (a : Bool) → is_le (byte_cmp low e.0) ≡ a → cond a (e ∷ entries_from low es) (entries_from low es) ≡ entries_from past (cond a (e ∷ entries_from low es) (entries_from low es))
    go same true p = ap (λ (xs : List Entry). e ∷ xs) same ∙ sym (ap (λ (t : Bool). cond t (e ∷ entries_from past (entries_from low es)) (entries_from past (entries_from low es))) (le_trans past low e.0 up p))
    go same false p = same

not_le : (o : Ordering) → is_le o ≡ false → is_le (ordering_reverse o) ≡ true
not_le Less e = cc
not_le Equal e = cc
not_le Greater e = refl

later_part : (low next : List ℕ) (es : List Entry) → entries_from (cond (is_le (byte_cmp low next)) next low) es ≡ entries_from next (entries_from low es)
later_part low next es = go (is_le (byte_cmp low next)) refl
  where
    go : (b : Bool) → is_le (byte_cmp low next) ≡ b → entries_from (cond b next low) es ≡ entries_from next (entries_from low es)
    go true p = narrower low next p es
    go false p = wider next low (ap is_le (total.antisymm next low) ∙ not_le (byte_cmp low next) p) es

-- the sources of a step give what is left of the files' lists, cut at the lower fence
pub step_parts : (low next from : List ℕ) (end : Option (List ℕ)) (lists : List (List Entry)) → from ≡ cond (is_le (byte_cmp low next)) next low
    → map (entries_between from end) lists ≡ map (λ es. entries_until end (entries_from next es)) (map (entries_from low) lists)
step_parts low next from end [] is = refl
step_parts low next from end (es ∷ lists) is =
    (λ i. entries_until end (entries_from (is i) es) ∷ map (entries_between from end) lists)
    ∙ (λ i. entries_until end (later_part low next es i) ∷ step_parts low next from end lists is i)

from_none : (es : List Entry) → entries_from [] es ≡ es
from_none [] = refl
from_none (([], v) ∷ es) = ap (λ (l : List Entry). ([], v) ∷ l) (from_none es)
from_none ((b ∷ x, v) ∷ es) = ap (λ (l : List Entry). (b ∷ x, v) ∷ l) (from_none es)

from_fence : (low : List ℕ) (end : Option (List ℕ)) (lists : List (List Entry)) → map (λ es. entries_until end (entries_from [] es)) (map (entries_from low) lists) ≡ map (entries_between low end) lists
from_fence low end [] = refl
from_fence low end (es ∷ lists) = λ i. entries_until end (from_none (entries_from low es) i) ∷ from_fence low end lists i

-- together they mean what the range sees of the files
pub whole_seen : MergesRanges → (range : RowRange) (lists : List (List Entry)) → AllByRecursion IsEntryList lists
    → entries_until (upper_fence range) (merged (map (entries_from (lower_fence range)) lists)) ≡ merged (map (seen range) lists)
whole_seen law range lists h =
    let cut = map (entries_from (lower_fence range)) lists in
    ap (entries_until (upper_fence range)) (sym (from_none (merged cut)))
    ∙ sym (law [] (upper_fence range) cut)
    ∙ ap merged (from_fence (lower_fence range) (upper_fence range) lists ∙ between_seen range lists h)

pub where_told : {A : Type 0} (o : Option A) (P : A → Type 0) → ((a : A) → o ≡ Some a → P a) → IfSome o P
where_told None P f = tt
where_told (Some a) P f = f a refl

-- one more of a list in two parts
pub one_more : {A : Type 0} (all done left later : List A) (x : A) → all ≡ done ++ left → left ≡ x ∷ later → all ≡ (done ++ x ∷ []) ++ later
one_more all done left later x is front = is ∙ ap (λ (l : List _). done ++ l) front ∙ sym (append_assoc done (x ∷ []) later)

-- a run stands within the files
pub run_within : (files : List SortedFile) (names : List ℕ) (at : ℕ) → IsRunAt files names at → at + length names ≤ length files
run_within files names at h =
    let named = sym (length-map (drop at files) name_of) ∙ ap length h.named.1 ∙ length-append names h.named.0 in
    omega (arith, named, length-drop at files, h.within)
