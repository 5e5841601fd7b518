-- A file that stands for a run of files keeps the cells.
use Rattle.std.proofs.Common.{◌≡◌, ℕ, Bool, true, false, cond, List, [], ◌∷◌, ◌++◌, map, refl, sym, ap, ◌∙◌}
use Rattle.std.specs.Prelude.{Option, Some, None}
use Rattle.std.specs.List.{AllByRecursion}
use Rattle.cell_key.specs.Entries.{Entry, IsEntryList, cells_of, entry_of_key, first_naming, or_else, value_of}
use Rattle.compaction.specs.Writing.{NamesFirst, written}
use Rattle.tablet.specs.Ranges.{seen}
use Rattle.tablet.specs.declared.ranges.RowRange.{RowRange}
use Rattle.tablet.proofs.Seen.{first-append, first-seen, is_seen, shown, shown_same}

or_none : (o : Option (Option (List ℕ))) → or_else o None ≡ o
or_none None = refl
or_none (Some x) = refl

-- what comes behind the first lists decides only if they have no entry
behind : (a b c : Option (Option (List ℕ))) → value_of b ≡ value_of c → value_of (or_else a b) ≡ value_of (or_else a c)
behind None b c h = h
behind (Some x) b c h = refl

at_seen : (b : Bool) (x y : Option (Option (List ℕ))) → (b ≡ true → value_of x ≡ value_of y) → value_of (cond b x None) ≡ value_of (cond b y None)
at_seen true x y h = h refl
at_seen false x y h = refl

if_seen : (b : Bool) (x : Option (Option (List ℕ))) → b ≡ true → cond b x None ≡ x
if_seen b x e = ap (λ (t : Bool). cond t x None) e

-- a text of the range has the same value, found in the file or in the run
stands_in : NamesFirst → (range : RowRange) (run older : List (List Entry)) (keep : Bool) → (keep ≡ false → older ≡ []) → (name : List ℕ) → is_seen range name ≡ true
    → value_of (or_else (entry_of_key (written keep (map (seen range) run)) name) (first_naming older name)) ≡ value_of (first_naming (run ++ older) name)
stands_in law range run older true none name seen_it =
    ap (λ (o : Option (Option (List ℕ))). value_of (or_else o (first_naming older name)))
    ((law (map (seen range) run) name).0 ∙ first-seen range run name ∙ if_seen (is_seen range name) (first_naming run name) seen_it)
    ∙ sym (ap value_of (first-append run older name))
stands_in law range run older false none name seen_it =
    let last = none refl in
    ap (λ (l : List (List Entry)). value_of (or_else (entry_of_key (written false (map (seen range) run)) name) (first_naming l name))) last
    ∙ ap value_of (or_none (entry_of_key (written false (map (seen range) run)) name))
    ∙ (law (map (seen range) run) name).1 false
    ∙ ap value_of (first-seen range run name ∙ if_seen (is_seen range name) (first_naming run name) seen_it ∙ sym (or_none (first_naming run name)))
    ∙ sym (ap (λ (l : List (List Entry)). value_of (or_else (first_naming run name) (first_naming l name))) last)
    ∙ sym (ap value_of (first-append run older name))

-- a tablet's cells are the same with the file in the place of the run
pub run_cells : NamesFirst → (range : RowRange) (newer run older : List (List Entry)) (keep : Bool) → (keep ≡ false → older ≡ [])
    → AllByRecursion IsEntryList (newer ++ written keep (map (seen range) run) ∷ older) → AllByRecursion IsEntryList (newer ++ (run ++ older))
    → cells_of (shown range (newer ++ written keep (map (seen range) run) ∷ older)) ≡ cells_of (shown range (newer ++ (run ++ older)))
run_cells law range newer run older keep none a b =
    let file = written keep (map (seen range) run) in
    shown_same range (newer ++ file ∷ older) (newer ++ (run ++ older)) a b
    (λ name. at_seen (is_seen range name) (first_naming (newer ++ file ∷ older) name) (first_naming (newer ++ (run ++ older)) name)
    (λ seen_it.
    ap value_of (first-append newer (file ∷ older) name)
    ∙ behind (first_naming newer name) (or_else (entry_of_key file name) (first_naming older name)) (first_naming (run ++ older) name) (stands_in law range run older keep none name seen_it)
    ∙ sym (ap value_of (first-append newer (run ++ older) name))))
