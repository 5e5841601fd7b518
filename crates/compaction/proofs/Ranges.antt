-- Parts of lists, selected by texts, and the merge of the parts.
use Rattle.std.proofs.Common.{◌≡◌, ℕ, Bool, true, false, cond, List, [], ◌∷◌, map, refl, sym, ap, ◌∙◌}
use Rattle.std.specs.Prelude.{Option, Some, None, filter}
use Rattle.std.specs.Ordering.{is_le, eq_by_cmp}
use Rattle.std.specs.FinMap.Entries.{same_entries}
use Rattle.cell_key.specs.Keys.{byte_cmp}
use Rattle.cell_key.specs.Entries.{Entry, entries_from, merged, entry_of_key, first_naming, or_else, MergesLists}
use Rattle.cell_key.proofs.EntryLists.{rising-filter, total}
use Rattle.cell_key.proofs.TextPlaces.{equal, one_text as same_key}
use Rattle.compaction.specs.Ends.{is_below, entries_until, MergesRanges}

module _ (test : List ℕ → Bool) where
  abbrev part : List Entry → List Entry
  part es = filter (λ entry. test entry.0) es

  either : (b : Bool) (o : Option (Option (List ℕ))) → o ≡ cond b o o
  either true o = refl
  either false o = refl

  here : (q : List ℕ) (e : Entry) (found rest : Option (Option (List ℕ))) (b t : Bool) → eq_by_cmp byte_cmp q e.0 ≡ b → test e.0 ≡ t → rest ≡ cond (test q) found None → cond t (cond b (Some e.1) rest) rest ≡ cond (test q) (cond b (Some e.1) found) None
  here q e found rest true true p s is = sym (ap (λ c. cond c (Some e.1) None) (ap test (same_key q e.0 (equal _ p)) ∙ s))
  here q e found rest true false p s is = is ∙ ap (λ c. cond c found None) (ap test (same_key q e.0 (equal _ p)) ∙ s) ∙ sym (ap (λ c. cond c (Some e.1) None) (ap test (same_key q e.0 (equal _ p)) ∙ s))
  here q e found rest false true p s is = is
  here q e found rest false false p s is = is

  find-cond : (q : List ℕ) (e : Entry) (es : List Entry) (t : Bool) → entry_of_key (cond t (e ∷ part es) (part es)) q ≡ cond t (cond (eq_by_cmp byte_cmp q e.0) (Some e.1) (entry_of_key (part es) q)) (entry_of_key (part es) q)
  find-cond q e es true = refl
  find-cond q e es false = refl

  find-part : (q : List ℕ) (es : List Entry) → entry_of_key (part es) q ≡ cond (test q) (entry_of_key es q) None
  find-part q [] = either (test q) None
  find-part q (e ∷ es) = find-cond q e es (test e.0) ∙ here q e (entry_of_key es q) (entry_of_key (part es) q) (eq_by_cmp byte_cmp q e.0) (test e.0) refl refl (find-part q es)

  or_else-cond : (b : Bool) (x y : Option (Option (List ℕ))) → or_else (cond b x None) (cond b y None) ≡ cond b (or_else x y) None
  or_else-cond true x y = refl
  or_else-cond false x y = refl

  first_naming-parts : (lists : List (List Entry)) (q : List ℕ) → first_naming (map part lists) q ≡ cond (test q) (first_naming lists q) None
  first_naming-parts [] q = either (test q) None
  first_naming-parts (es ∷ lists) q =
      ap (λ o. or_else o (first_naming (map part lists) q)) (find-part q es)
      ∙ ap (or_else (cond (test q) (entry_of_key es q) None)) (first_naming-parts lists q)
      ∙ or_else-cond (test q) (entry_of_key es q) (first_naming lists q)

  pub merged-parts : MergesLists → (lists : List (List Entry)) → merged (map part lists) ≡ part (merged lists)
  merged-parts merges lists =
      same_entries byte_cmp total same_key (merged (map part lists)) (part (merged lists)) (merges (map part lists)).0 (rising-filter (λ entry. test entry.0) (merged lists) (merges lists).0)
      (λ q. (merges (map part lists)).1 q ∙ first_naming-parts lists q ∙ ap (λ o. cond (test q) o None) (sym ((merges lists).1 q)) ∙ sym (find-part q (merged lists)))

map_twice : (f g : List Entry → List Entry) (lists : List (List Entry)) → map (λ es. g (f es)) lists ≡ map g (map f lists)
map_twice f g [] = refl
map_twice f g (es ∷ lists) = ap (λ l. g (f es) ∷ l) (map_twice f g lists)

pub merges_ranges : MergesLists → MergesRanges
merges_ranges merges from end lists =
    ap merged (map_twice (entries_from from) (entries_until end) lists)
    ∙ merged-parts (is_below end) merges (map (entries_from from) lists)
    ∙ ap (entries_until end) (merged-parts (λ name. is_le (byte_cmp from name)) merges lists)
