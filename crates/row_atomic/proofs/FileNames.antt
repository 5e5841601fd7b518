-- The names of tablets' files, each once and below the next one.
use Rattle.std.proofs.Common.{◌≡◌, ◌≢◌, ◌≤◌, ◌<◌, ◌+◌, inl, inr, ℕ, zero, suc, Bool, true, false, cond, nat_eq, List, [], ◌∷◌, length, drop, get_or, Option, Some, sym, ap, ◌∙◌, subst, arith}
use Rattle.std.proofs.lemmas.Option.{same_Some}
use Rattle.std.specs.List.{AllByRecursion, AllPairs}
use Rattle.cell_key.specs.Entries.{Entry}
use Rattle.file_store.specs.Store.{Contents}
use Rattle.metadata_table.specs.Places.{PlaceView}
use Rattle.metadata_table.specs.Roots.{AreFiles}
use Rattle.metadata_table.specs.Table.{Cuts, HasTablet, moved, with_files}
use Rattle.tablet.specs.Views.{UsesName, memory_of, names_of, with_name}
use Rattle.tablet.specs.declared.tablet.Tablet.{Tablet}
use Rattle.row_atomic.specs.Changes.{IsMade, MeetsBadCount, MeetsFull, WritesNone}
use Rattle.row_atomic.specs.Clusters.{ArePlaced, tablet_numbered}
use Rattle.tablet.specs.declared.compactions.Compaction.{Compaction}
use Rattle.tablet.specs.declared.compactions.Compaction.TheVariants.{Minor, Merge, Major}

abbrev Distinct : List ℕ → Type 0
Distinct names = AllPairs (λ (m n : ℕ). m ≢ n) names

abbrev Named : ℕ → List ℕ → Type 0
Named next names = AllByRecursion (λ (name : ℕ). (1 ≤ name) × (name < next)) names

-- the files of each place
abbrev AllFiles : ℕ → List PlaceView → Type 0
AllFiles next ps = AllByRecursion (λ p. AreFiles next p.files) ps

-- ---- names

pub no_less : (old new : Option Contents) (before after : ℕ) → UsesName old before new after → before ≤ after
no_less old new before after (inl h) = let e = h.0 in omega arith
no_less old new before after (inr h) = let e = h.0 in omega arith

pub no_files : (next : ℕ) → AreFiles next []
no_files next = record { few = omega arith; distinct = λ i j d less below. absurd (omega arith); named = tt }

named_later : (before after : ℕ) → before ≤ after → (names : List ℕ) → Named before names → Named after names
named_later before after more [] named = tt
named_later before after more (name ∷ names) named = let less = named.0.1 in ((named.0.0, omega arith), named_later before after more names named.1)

later : (before after : ℕ) → before ≤ after → (names : List ℕ) → AreFiles before names → AreFiles after names
later before after more names files = record { few = files.few; distinct = files.distinct; named = named_later before after more names files.named }

not_next : (next : ℕ) (names : List ℕ) → Named next names → (k d : ℕ) → k < length names → next ≢ get_or names k d
not_next next [] named k d below = absurd (omega arith)
not_next next (name ∷ names) named zero d below = let less = named.0.1 in λ same. absurd (omega arith)
not_next next (name ∷ names) named (suc k) d below = not_next next names named.1 k d (omega arith)

distinct_with : (next : ℕ) (names : List ℕ) → Named next names → Distinct names → Distinct (next ∷ names)
distinct_with next names named distinct zero zero d less below = absurd (omega arith)
distinct_with next names named distinct zero (suc j) d less below = not_next next names named j d (omega arith)
distinct_with next names named distinct (suc i) zero d less below = absurd (omega arith)
distinct_with next names named distinct (suc i) (suc j) d less below = distinct i j d (omega arith) (omega arith)

-- the next name added to some names
with_next : (next : ℕ) (names : List ℕ) → 1 ≤ next → length names < 64 → Distinct names → Named next names → AreFiles (next + 1) (next ∷ names)
with_next next names from few distinct named = record {
  few = omega arith;
  distinct = distinct_with next names named distinct;
  named = ((from, omega arith), named_later next (next + 1) (omega arith) names named);
}

distinct_from : (count : ℕ) (names : List ℕ) → Distinct names → Distinct (drop count names)
distinct_from zero names distinct = distinct
distinct_from (suc count) [] distinct = distinct
distinct_from (suc count) (name ∷ names) distinct = distinct_from count names (λ i j d less below. distinct (suc i) (suc j) d (omega arith) (omega arith))

named_from : (next count : ℕ) (names : List ℕ) → Named next names → Named next (drop count names)
named_from next zero names named = named
named_from next (suc count) [] named = tt
named_from next (suc count) (name ∷ names) named = named_from next count names named.1

fewer : (count : ℕ) (names : List ℕ) → length (drop count names) ≤ length names
fewer zero names = omega arith
fewer (suc count) [] = omega arith
fewer (suc count) (name ∷ names) = let less = fewer count names in omega arith

-- if two or more of the names are dropped, there is room for another
few_from : (count : ℕ) (names : List ℕ) → 2 ≤ count → length names ≤ 64 → length (drop count names) < 64
few_from zero names two few = absurd (omega arith)
few_from (suc count) [] two few = omega arith
few_from (suc count) (name ∷ names) two few = let less = fewer count names in omega arith

-- ---- a compaction

flushed_files : (before after : ℕ) (memory : List Entry) (names : List ℕ) → 1 ≤ before → before ≤ after → ¬ ((memory ≢ []) × (64 ≤ length names)) → ((memory ≢ []) → after ≡ before + 1)
    → AreFiles before names → AreFiles after (with_name before memory names)
flushed_files before after [] names from more room used files = later before after more names files
flushed_files before after (e ∷ es) names from more room used files =
    let some : (e ∷ es) ≢ [] = λ none. absurd (let is = none in cc) in
    subst (λ (k : ℕ). AreFiles k (before ∷ names)) (sym (used some)) (with_next before names from (less (λ many. room (some, many))) files.distinct files.named)
  where
    less : {m : ℕ} → ¬ (64 ≤ m) → m < 64
    less not = omega arith

-- after a compaction a tablet's names are still valid
pub compacted_files : (compaction : Compaction) (t u : Tablet) (before after : ℕ) → IsMade compaction before t u → ¬ MeetsFull compaction t → ¬ MeetsBadCount compaction t
    → (¬ WritesNone compaction t → after ≡ before + 1) → 1 ≤ before → before ≤ after → AreFiles before (names_of t) → AreFiles after (names_of u)
compacted_files Minor t u before after made room counted used from more files =
    subst (AreFiles after) (sym made.names) (flushed_files before after (memory_of t) (names_of t) from more (λ full. room (record { memory = full.0; files = full.1 })) used files)
compacted_files (Merge count) t u before after made room counted used from more files =
    subst (AreFiles after) (sym made.names) (subst (λ (k : ℕ). AreFiles k (before ∷ drop count (names_of t))) (sym (used (λ none. none)))
    (with_next before (drop count (names_of t)) from (few_from count (names_of t) (two count counted) files.few) (distinct_from count (names_of t) files.distinct) (named_from before count (names_of t) files.named)))
  where
    two : (k : ℕ) → ¬ ¬ ((2 ≤ k) × (k ≤ length (names_of t))) → 2 ≤ k
    two zero not = absurd (not (λ both. let least = both.0 in absurd (omega arith)))
    two (suc zero) not = absurd (not (λ both. let least = both.0 in absurd (omega arith)))
    two (suc (suc k)) not = omega arith
compacted_files Major t u before after made room counted used from more files =
    subst (AreFiles after) (sym made.names) (subst (λ (k : ℕ). AreFiles k (before ∷ [])) (sym (used (λ none. none)))
    (with_next before [] from (omega arith) (λ i j d less below. absurd (omega arith)) tt))

-- ---- places

pub later_files : (before after : ℕ) → before ≤ after → (ps : List PlaceView) → AllFiles before ps → AllFiles after ps
later_files before after more [] files = tt
later_files before after more (p ∷ ps) files = (later before after more p.files files.0, later_files before after more ps files.1)

pub listed_files : (next n : ℕ) (names : List ℕ) → AreFiles next names → (ps : List PlaceView) → AllFiles next ps → AllFiles next (with_files n names ps)
listed_files next n names these [] files = tt
listed_files next n names these (p ∷ ps) files = (one (nat_eq p.tablet n), listed_files next n names these ps files.1)
  where
    one : (b : Bool) → AreFiles next (cond b (record p { files = names }) p).files
    one true = these
    one false = files.0

pub moved_files : (next n to : ℕ) (ps : List PlaceView) → AllFiles next ps → AllFiles next (moved n to ps)
moved_files next n to [] files = tt
moved_files next n to (p ∷ ps) files = (one (nat_eq p.tablet n), moved_files next n to ps files.1)
  where
    one : (b : Bool) → AreFiles next (cond b (record p { server = to }) p).files
    one true = files.0
    one false = files.0

pub cut_files : (next : ℕ) (row : List ℕ) (n : ℕ) (ps ps' : List PlaceView) → Cuts row n ps ps' → AllFiles next ps → AllFiles next ps'
cut_files next row n [] ps' cut files = elim cut [ ]
cut_files next row n (p ∷ []) ps' (Cuts.cuts_last none) files = (files.0, (files.0, tt))
cut_files next row n (p ∷ ps) ps' (Cuts.cuts is less) files = (files.0, (files.0, files.1))
cut_files next row n (p ∷ ps) (q ∷ ps') (Cuts.cuts_later before rest) files = (files.0, cut_files next row n ps ps' rest files.1)

-- the files of a tablet that has a place
pub placed_names : (next : ℕ) (ts : List Tablet) (n : ℕ) (t : Tablet) → tablet_numbered n ts ≡ Some t → (before : Option (List ℕ)) (ps : List PlaceView) → ArePlaced ts before ps → AllFiles next ps → HasTablet n ps
    → AreFiles next (names_of t)
placed_names next ts n t numbered before ps placed files has = at before ps placed files has.1.0 has.1.1 has.1.2
  where
    at : (before : Option (List ℕ)) (ps : List PlaceView) → ArePlaced ts before ps → AllFiles next ps → (i : ℕ) → i < length ps → get_or ps i has.0 ≡ has.0 → AreFiles next (names_of t)
    at before [] placed files i below is = absurd (omega arith)
    at before (p ∷ ps) placed files zero below is =
        let number : p.tablet ≡ n = ap (λ (q : PlaceView). q.tablet) is ∙ has.2 in
        let same : t ≡ placed.0.tablet = same_Some t placed.0.tablet (sym numbered ∙ ap (λ (k : ℕ). tablet_numbered k ts) (sym number) ∙ placed.0.numbered) in
        subst (AreFiles next) (sym (ap names_of same ∙ placed.0.names)) files.0
    at before (p ∷ ps) placed files (suc i) below is = at p.end ps placed.1 files.1 i (omega arith) is
