-- Changes of files that change nothing for a tablet.
use Rattle.std.proofs.Common.{◌≡◌, ◌<◌, ◌≤◌, ℕ, Bool, false, cond, List, [], ◌∷◌, ◌⊎◌, inl, inr, map, Option, None, refl, ap, ◌∙◌, arith}
use Rattle.std.specs.Option.{unwrap_or}
use Rattle.std.specs.List.{AllByRecursion}
use Rattle.std.specs.FinMap.{get}
use Rattle.cell_key.specs.Keys.{IsStored}
use Rattle.cell_key.specs.Entries.{Entry, merged, cells_of}
use Rattle.cell_key.specs.declared.keys.CellKey.{CellKey}
use Rattle.file_store.specs.Store.{Contents}
use Rattle.sorted_file.specs.File.{name_of, listed, IsOpen, HasFile, StaysOpen, OneListing, OpenIsThere}
use Rattle.sorted_file.specs.declared.file.SortedFile.{SortedFile}
use Rattle.tablet.specs.Ranges.{has_row, seen}
use Rattle.tablet.specs.Views.{range_of, memory_of, files_of, names_of, lists_of, cells_at}
use Rattle.tablet.specs.Laws.{StaysInRange, OthersStay, UnnamedMayGo, SameCells, FilesAreThere}
use Rattle.tablet.proofs.Held.{held_lists}
use Rattle.tablet.proofs.Shown.{first_at, shown, view_list, stored_or_hidden}

pub stays_in_range : StaysInRange
stays_in_range m t h = (view_list (range_of t) (lists_of m t) (held_lists m t h), none)
  where
    none : (key : CellKey) → has_row (range_of t) key.row ≡ false → get (cells_at m t) key ≡ None
    none key e = go (stored_or_hidden (range_of t) (lists_of m t) (held_lists m t h) key)
      where
        go : IsStored key ⊎ (get (cells_at m t) key ≡ None) → get (cells_at m t) key ≡ None
        go (inl s) = shown (range_of t) (lists_of m t) (held_lists m t h) key s ∙ ap (λ (b : Bool). cond b (first_at (lists_of m t) key) None) e
        go (inr n) = n

pub files_over : StaysOpen → (m n : Contents) (files : List SortedFile) → AllByRecursion (IsOpen m) files → AllByRecursion (λ name. get n name ≡ get m name) (map name_of files) → AllByRecursion (IsOpen n) files × (map (listed n) files ≡ map (listed m) files)
files_over stays m n [] all same = (tt, refl)
files_over stays m n (file ∷ files) all same =
    let one = stays m n file all.0 same.0 in
    let more = files_over stays m n files all.1 same.1 in
    ((one.0, more.0), λ i. one.1 i ∷ more.1 i)

pub unnamed_may_go : StaysOpen → UnnamedMayGo
unnamed_may_go stays m n t h same =
    let files = files_over stays m n (files_of t) h.files same in
    (record { memory = h.memory; files = files.0 }, ap (λ (lists : List (List Entry)). cells_of (merged (map (seen (range_of t)) (memory_of t ∷ lists)))) files.1)

pub each_same : (m n : Contents) (before : ℕ) (names : List ℕ) → ((name : ℕ) → name < before → get n name ≡ get m name) → AllByRecursion (λ name. name < before) names → AllByRecursion (λ name. get n name ≡ get m name) names
each_same m n before [] same all = tt
each_same m n before (name ∷ names) same all = (same name all.0, each_same m n before names same all.1)

pub still_below : (before after : ℕ) (names : List ℕ) → before ≤ after → AllByRecursion (λ name. name < before) names → AllByRecursion (λ name. name < after) names
still_below before after [] h all = tt
still_below before after (name ∷ names) h all = (let low = all.0 in omega arith, still_below before after names h all.1)

pub others_stay : StaysOpen → OthersStay
others_stay stays m n before after t (inl e) h low =
    let same : n ≡ m = ap (λ (o : Option Contents). unwrap_or o m) e.1 in
    let kept = unnamed_may_go stays m n t h (each_same m n before (names_of t) (λ name _. ap (λ (x : Contents). get x name) same) low) in
    (kept.0, still_below before after (names_of t) (let a = e.0 in omega arith) low, kept.1)
others_stay stays m n before after t (inr e) h low =
    let kept = unnamed_may_go stays m n t h (each_same m n before (names_of t) (λ name l. e.1 name (λ q. absurd (omega arith))) low) in
    (kept.0, still_below before after (names_of t) (let a = e.0 in omega arith) low, kept.1)

pub one_names : OneListing → (m : Contents) (fs gs : List SortedFile) → AllByRecursion (IsOpen m) fs → AllByRecursion (IsOpen m) gs → map name_of fs ≡ map name_of gs → map (listed m) fs ≡ map (listed m) gs
one_names one m [] [] a b e = refl
one_names one m [] (g ∷ gs) a b e = cc
one_names one m (f ∷ fs) [] a b e = cc
one_names one m (f ∷ fs) (g ∷ gs) a b e =
    let first : name_of f ≡ name_of g = cc in
    let rest : map name_of fs ≡ map name_of gs = cc in
    let head = one m f g a.0 b.0 first in
    let tail = one_names one m fs gs a.1 b.1 rest in
    λ i. head i ∷ tail i

pub same_cells : OneListing → SameCells
same_cells one m t u h k range memory names =
    let lists = one_names one m (files_of t) (files_of u) h.files k.files names in
    λ i. cells_of (merged (map (seen (range i)) (memory i ∷ lists i)))

pub files_there : OpenIsThere → (m : Contents) (files : List SortedFile) → AllByRecursion (IsOpen m) files → AllByRecursion (HasFile m) (map name_of files)
files_there there m [] all = tt
files_there there m (file ∷ files) all = (there m file all.0, files_there there m files all.1)

pub files_are_there : OpenIsThere → FilesAreThere
files_are_there there m t h = files_there there m (files_of t) h.files
