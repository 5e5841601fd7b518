-- The two parts of a split tablet.
use Rattle.std.proofs.Common.{◌≡◌, ℕ, ◌<◌, Bool, true, false, cond, ◌&&◌, List, [], ◌∷◌, map, refl, sym, ap, subst, ◌∙◌, inl, inr, arith}
use Rattle.std.specs.Prelude.{◌⊎◌, ◌≢◌, Option, Some, None, IfSome, IsSomeAnd, IsTrue}
use Rattle.std.specs.List.{AllByRecursion}
use Rattle.std.specs.Ordering.{is_le, is_lt}
use Rattle.std.specs.Result.{IfOk, OnErr, OnOk}
use Rattle.std.specs.declared.result.Result.{Result}
use Rattle.std.specs.declared.result.Result.TheVariants.{Ok, Err}
use Rattle.std.specs.declared.cmp.Ordering.{Ordering}
use Rattle.std.specs.declared.cmp.Ordering.TheVariants.{Less, Equal, Greater}
use Rattle.std.specs.FinMap.{get}
use Rattle.cell_key.specs.Keys.{byte_cmp}
use Rattle.cell_key.specs.Cells.{Cells}
use Rattle.cell_key.specs.Entries.{Entry, IsEntryList, cells_of}
use Rattle.cell_key.specs.declared.refusals.Refusal.{Refusal}
use Rattle.file_store.specs.Store.{Contents}
use Rattle.sorted_file.specs.File.{HasFile, IsOpen, OneListing, OpenIsThere, listed, name_of}
use Rattle.sorted_file.specs.declared.file.SortedFile.{SortedFile}
use Rattle.cell_key.proofs.TextPlaces.{one_text as same_key}
use Rattle.cell_key.proofs.EntryLists.{total}
use Rattle.tablet.specs.Ranges.{has_row, is_after, is_up_to, seen}
use Rattle.tablet.specs.Compactions.{Flushes, HasPut, LeavesFlushed}
use Rattle.tablet.specs.declared.compactions.Compaction.TheVariants.{Minor}
use Rattle.tablet.specs.Views.{AreParts, Holds, IsBelow, IsPart, IsUnchanged, Keeps, UsesName, cells_at, files_of, lists_of, memory_of, names_of, range_of, with_name}
use Rattle.tablet.specs.Splits.{Cuts, MakesParts}
use Rattle.tablet.specs.declared.ranges.RowRange.{RowRange}
use Rattle.tablet.specs.declared.tablet.Tablet.{Tablet}
use Rattle.tablet.proofs.Held.{held_lists}
use Rattle.tablet.proofs.Seen.{shown}
use Rattle.tablet.proofs.KeptCells.{part_of}
use Rattle.tablet.proofs.MadeTablets.{OthersStay}
use Rattle.tablet.proofs.TabletLaws.{one_names}

-- ---- rows

both_true : (p q : Bool) → (p && q) ≡ true → (p ≡ true) × (q ≡ true)
both_true true q e = (refl, e)
both_true false q e = cc

and_true : (p q : Bool) → p ≡ true → q ≡ true → (p && q) ≡ true
and_true true q e f = f
and_true false q e f = cc

less_of : (o : Ordering) → is_lt o ≡ true → o ≡ Less
less_of Less e = refl
less_of Equal e = cc
less_of Greater e = cc

le_cases : (o : Ordering) → is_le o ≡ true → (o ≡ Less) ⊎ (o ≡ Equal)
le_cases Less e = inl refl
le_cases Equal e = inr refl
le_cases Greater e = cc

below_all : (x row end : List ℕ) → (byte_cmp x row ≡ Less) ⊎ (byte_cmp x row ≡ Equal) → (byte_cmp row end ≡ Less) ⊎ (byte_cmp row end ≡ Equal) → is_le (byte_cmp x end) ≡ true
below_all x row end (inl a) (inl b) = ap is_le (total.trans x row end a b)
below_all x row end (inl a) (inr b) = ap (λ (r : List ℕ). is_le (byte_cmp x r)) (sym (same_key row end b)) ∙ ap is_le a
below_all x row end (inr a) (inl b) = ap is_le (total.congr x row end a ∙ b)
below_all x row end (inr a) (inr b) = ap is_le (total.congr x row end a ∙ b)

up_to_more : (end : Option (List ℕ)) (row x : List ℕ) → is_up_to end row ≡ true → is_up_to (Some row) x ≡ true → is_up_to end x ≡ true
up_to_more None row x e f = refl
up_to_more (Some end) row x e f = below_all x row end (le_cases (byte_cmp x row) f) (le_cases (byte_cmp row end) e)

after_more : (before : Option (List ℕ)) (row x : List ℕ) → is_after before row ≡ true → is_after (Some row) x ≡ true → is_after before x ≡ true
after_more None row x e f = refl
after_more (Some before) row x e f = ap is_lt (total.trans before row x (less_of (byte_cmp before row) e) (less_of (byte_cmp row x) f))

-- the parts of a range at a row are within the range
pub left_inside : (range : RowRange) (row : List ℕ) → has_row range row ≡ true → (x : List ℕ) → has_row record { after = range.after; end = Some row } x ≡ true → has_row range x ≡ true
left_inside range row e x f =
    let whole = both_true (is_after range.after row) (is_up_to range.end row) e in
    let part = both_true (is_after range.after x) (is_up_to (Some row) x) f in
    and_true (is_after range.after x) (is_up_to range.end x) part.0 (up_to_more range.end row x whole.1 part.1)

pub right_inside : (range : RowRange) (row : List ℕ) → has_row range row ≡ true → (x : List ℕ) → has_row record { after = Some row; end = range.end } x ≡ true → has_row range x ≡ true
right_inside range row e x f =
    let whole = both_true (is_after range.after row) (is_up_to range.end row) e in
    let part = both_true (is_after (Some row) x) (is_up_to range.end x) f in
    and_true (is_after range.after x) (is_up_to range.end x) (after_more range.after row x whole.0 part.0) part.1

-- ---- the parts

-- a tablet with the same lists as another has the part of its cells that is in a smaller range
one_part : (m n : Contents) (whole middle part : Tablet) → Holds n middle → range_of middle ≡ range_of whole → cells_at n middle ≡ cells_at m whole → lists_of n part ≡ lists_of n middle → ((x : List ℕ) → has_row (range_of part) x ≡ true → has_row (range_of whole) x ≡ true) → IsPart (range_of part) (cells_at m whole) (cells_at n part)
one_part m n whole middle part h range cells lists inside = λ key.
    (λ i. get (cells_of (shown (range_of part) (lists i))) key)
    ∙ part_of (range_of whole) (range_of part) (lists_of n middle) (held_lists n middle h) inside key
    ∙ (λ i. cond (has_row (range_of part) key.row) (get (((λ j. cells_of (shown (sym range j) (lists_of n middle))) ∙ cells) i) key) None)

-- the parts of a tablet that was split after its minor compaction
pub record IsSplit (whole middle left right : Tablet) (row : List ℕ) : Type 0 where
  pub range : range_of middle ≡ range_of whole
  pub left_range : range_of left ≡ record { after = (range_of whole).after; end = Some row }
  pub right_range : range_of right ≡ record { after = Some row; end = (range_of whole).end }
  pub left_memory : memory_of left ≡ memory_of middle
  pub right_memory : memory_of right ≡ memory_of middle
  pub left_names : names_of left ≡ names_of middle
  pub right_files : files_of right ≡ files_of middle

parts_of : OneListing → (m n : Contents) (after : ℕ) (whole middle left right : Tablet) (row : List ℕ) → IsSplit whole middle left right row → has_row (range_of whole) row ≡ true → Holds n left → Holds n middle → IsBelow after middle → cells_at n middle ≡ cells_at m whole → AreParts m whole n after left right
parts_of law m n after whole middle left right row is inside left_holds h below cells =
    let files = one_names law n (files_of left) (files_of middle) left_holds.files h.files is.left_names in
    let holds : Holds n right = record { memory = subst IsEntryList (sym is.right_memory) h.memory; files = subst (AllByRecursion (IsOpen n)) (sym is.right_files) h.files } in
    record {
      left_holds = left_holds;
      right_holds = holds;
      left_below = subst (AllByRecursion (λ name. name < after)) (sym is.left_names) below;
      right_below = subst (λ (fs : List SortedFile). AllByRecursion (λ name. name < after) (map name_of fs)) (sym is.right_files) below;
      left_cells = one_part m n whole middle left h is.range cells (λ i. is.left_memory i ∷ files i)
          (λ x e. left_inside (range_of whole) row inside x ((λ i. has_row (sym is.left_range i) x) ∙ e));
      right_cells = one_part m n whole middle right h is.range cells (λ i. is.right_memory i ∷ map (listed n) (is.right_files i))
          (λ x e. right_inside (range_of whole) row inside x ((λ i. has_row (sym is.right_range i) x) ∙ e));
    }

pub splits : OneListing → (old mid new : Option Contents) (next after : ℕ) (whole middle left right : Tablet) (row : List ℕ) → IsSplit whole middle left right row → Keeps old next whole mid after middle → IfSome mid (λ n. Holds n left) → new ≡ mid
    → MakesParts old next whole row new after left right
splits law None mid new next after whole middle left right row is keeps holds same = tt
splits law (Some m) None new next after whole middle left right row is keeps holds same = λ h below inside. absurd (keeps h below)
splits law (Some m) (Some n) new next after whole middle left right row is keeps holds same = λ h below inside.
    let kept = keeps h below in
    subst (λ (o : Option Contents). IsSomeAnd o (λ n. AreParts m whole n after left right)) (sym same) (parts_of law m n after whole middle left right row is inside holds kept.0 kept.1 kept.2)

-- an unchanged tablet keeps its cells
pub keeps_itself : (told : Option Contents) (next : ℕ) (t : Tablet) → Keeps told next t told next t
keeps_itself None next t = tt
keeps_itself (Some m) next t = λ h below. (h, below, refl)

-- the parts cut after a minor compaction are parts of the tablet before it
pub parts_after : (old mid new : Option Contents) (next after : ℕ) (whole middle left right : Tablet) (row : List ℕ) → range_of middle ≡ range_of whole → Keeps old next whole mid after middle → MakesParts mid after middle row new after left right → MakesParts old next whole row new after left right
parts_after None mid new next after whole middle left right row range keeps parts = tt
parts_after (Some m) None new next after whole middle left right row range keeps parts = λ h below inside. absurd (keeps h below)
parts_after (Some m) (Some k) new next after whole middle left right row range keeps parts = λ h below inside.
    let kept = keeps h below in
    by new kept.2 (parts kept.0 kept.1 (subst (λ (r : RowRange). IsTrue (has_row r row)) (sym range) inside))
  where
    by : (new : Option Contents) → cells_at k middle ≡ cells_at m whole → IsSomeAnd new (λ n. AreParts k middle n after left right) → IsSomeAnd new (λ n. AreParts m whole n after left right)
    by None same parts = absurd parts
    by (Some n) same parts = record {
      left_holds = parts.left_holds;
      right_holds = parts.right_holds;
      left_below = parts.left_below;
      right_below = parts.right_below;
      left_cells = subst (λ (cells : Cells). IsPart (range_of left) cells (cells_at n left)) same parts.left_cells;
      right_cells = subst (λ (cells : Cells). IsPart (range_of right) cells (cells_at n right)) same parts.right_cells;
    }

-- ---- files that exist

same_there : (m n : Contents) (name : ℕ) → get n name ≡ get m name → HasFile m name → HasFile n name
same_there m n name same h = record { format = h.format; entries = h.entries; image = h.image; list = h.list; there = same ∙ h.there; form = h.form }

apart : (name next : ℕ) → name < next → name ≢ next
apart name next l e = omega arith

others_there : (m n : Contents) (next : ℕ) → OthersStay next m n → (names : List ℕ) → AllByRecursion (λ name. name < next) names → AllByRecursion (HasFile m) names → AllByRecursion (HasFile n) names
others_there m n next others [] below h = tt
others_there m n next others (name ∷ names) below h = (same_there m n name (others name (apart name next below.0)) h.0, others_there m n next others names below.1 h.1)

still_there : (m n : Contents) (next after : ℕ) → UsesName (Some m) next (Some n) after → (names : List ℕ) → AllByRecursion (λ name. name < next) names → AllByRecursion (HasFile m) names → AllByRecursion (HasFile n) names
still_there m n next after (inl e) names below h = let same : n ≡ m = (let is : Some n ≡ Some m = e.1 in cc) in subst (λ (k : Contents). AllByRecursion (HasFile k) names) (sym same) h
still_there m n next after (inr e) names below h = others_there m n next e.1 names below h

-- all files exist, with the one that a minor compaction put
all_there : OpenIsThere → (n : Contents) (next : ℕ) (t u : Tablet) (memory es : List Entry) → names_of u ≡ with_name next memory (names_of t) → (memory ≢ [] → HasPut Minor n es t u) → AllByRecursion (HasFile n) (names_of t) → AllByRecursion (HasFile n) (names_of u)
all_there law n next t u [] es names put there = subst (AllByRecursion (HasFile n)) (sym names) there
all_there law n next t u (e ∷ rest) es names put there =
    let one = put (λ none. absurd (let no : e ∷ rest ≡ [] = none in cc)) in
    subst (λ (fs : List SortedFile). AllByRecursion (HasFile n) (map name_of fs)) (sym one.files) (law n one.file one.written.opened, there)

-- if a file is missing after a minor compaction, one was missing before
pub missing_before : OpenIsThere → (old mid : Option Contents) (limit next after : ℕ) (t u : Tablet) → UsesName old next mid after → Flushes limit old next mid after t u
    → IfSome mid (λ n. ¬ AllByRecursion (HasFile n) (names_of u)) → IfSome old (λ m. IsBelow next t → ¬ AllByRecursion (HasFile m) (names_of t))
missing_before law None mid limit next after t u uses flushed missing = tt
missing_before law (Some m) None limit next after t u (inl e) flushed missing = absurd (let no : None ≡ Some m = e.1 in cc)
missing_before law (Some m) None limit next after t u (inr e) flushed missing = absurd e.1
missing_before law (Some m) (Some n) limit next after t u uses flushed missing =
    λ below there. missing (all_there law n next t u (memory_of t) (seen (range_of t) (memory_of t)) flushed.names flushed.put (still_there m n next after uses (names_of t) below there))

-- the parts of a tablet cut after a minor compaction, in terms of the tablet before it
pub cut_after : (r : Result Tablet Refusal) (names row : List ℕ) (t mid right : Tablet) → range_of mid ≡ range_of t → names_of mid ≡ names
    → IfOk r (λ left. range_of left ≡ record { after = (range_of mid).after; end = Some row }) → OnOk r (range_of right ≡ record { after = Some row; end = (range_of mid).end })
    → IfOk r (λ left. names_of left ≡ names_of mid) → OnOk r (names_of right ≡ names_of mid) → IfOk r (λ left. memory_of left ≡ []) → memory_of right ≡ []
    → IfOk r (λ left. Cuts names row t left right)
cut_after (Err e) names row t mid right range same lr rr ln rn lm rm = tt
cut_after (Ok left) names row t mid right range same lr rr ln rn lm rm =
    let up_to : RowRange → RowRange = λ all. record { after = all.after; end = Some row } in
    let past : RowRange → RowRange = λ all. record { after = Some row; end = all.end } in
    record {
      left_range = lr ∙ ap up_to range;
      right_range = rr ∙ ap past range;
      left_names = ln ∙ same;
      right_names = rn ∙ same;
      left_memory = lm;
      right_memory = rm;
    }

-- the tablet after a minor compaction and a refused cut
pub left_after : (r : Result Tablet Refusal) (next : ℕ) (old mid new : Tablet) → range_of mid ≡ range_of old → (memory_of old ≡ [] → IsUnchanged old mid)
    → memory_of mid ≡ [] → names_of mid ≡ with_name next (memory_of old) (names_of old) → OnErr r (IsUnchanged mid new) → OnErr r (LeavesFlushed next old new)
left_after (Ok left) next old mid new range empty memory names same = tt
left_after (Err e) next old mid new range empty memory names same = record {
  range = same.range ∙ range;
  empty = λ none. let was = empty none in record { range = same.range ∙ was.range; memory = same.memory ∙ was.memory; files = same.files ∙ was.files };
  may = inr (same.memory ∙ memory, ap (map name_of) same.files ∙ names);
}

-- cells that a call kept are still there after a refusal that keeps them
pub keeps_after : {A E : Type 0} (r : Result A E) (old mid new : Option Contents) (next after : ℕ) (t u w : Tablet) → Keeps old next t mid after u → OnErr r ((name : ℕ) → Keeps mid name u new name w) → OnErr r (Keeps old next t new after w)
keeps_after (Ok x) old mid new next after t u w first second = tt
keeps_after (Err e) old mid new next after t u w first second = joined old mid first (second after)
  where
    by : (m k : Contents) (new : Option Contents) → cells_at k u ≡ cells_at m t → IsSomeAnd new (λ n. Holds n w × IsBelow after w × (cells_at n w ≡ cells_at k u)) → IsSomeAnd new (λ n. Holds n w × IsBelow after w × (cells_at n w ≡ cells_at m t))
    by m k None same kept = absurd kept
    by m k (Some n) same kept = (kept.0, kept.1, kept.2 ∙ same)

    joined : (old mid : Option Contents) → Keeps old next t mid after u → Keeps mid after u new after w → Keeps old next t new after w
    joined None mid a b = tt
    joined (Some m) None a b = λ h below. absurd (a h below)
    joined (Some m) (Some k) a b = λ h below. let kept = a h below in by m k new kept.2 (b kept.0 kept.1)
