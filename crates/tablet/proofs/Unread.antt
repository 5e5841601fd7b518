-- Refused compactions, by the files' bytes, whatever they are.
use Rattle.std.proofs.Common.{◌≡◌, ◌⊎◌, ℕ, Bool, List, length, ap, subst}
use Rattle.std.specs.Prelude.{Option, Some, None, IfSome}
use Rattle.cell_key.specs.Entries.{Entry}
use Rattle.file_store.specs.Store.{Contents}
use Rattle.sorted_file.specs.declared.file.SortedFile.{SortedFile}
use Rattle.compaction.specs.Passing.{MergeBreaks, MergesNoList, MergesTooMuch}
use Rattle.compaction.specs.declared.input.Input.{Input}
use Rattle.compaction.specs.declared.bounded.Bounded.{Bounded}
use Rattle.tablet.specs.Compactions.{files_read, keeps_erasures, memory_read, AreRead, IsUnreadable, ReadsTooMuch}
use Rattle.tablet.specs.Ranges.{lower_fence, upper_fence}
use Rattle.tablet.specs.Sources.{lent_by, AreSourcesOf, Breaks, Steps}
use Rattle.tablet.specs.Views.{files_of, memory_of, range_of, IsUnchanged}
use Rattle.tablet.specs.declared.tablet.Tablet.{Tablet}
use Rattle.tablet.specs.declared.compactions.Compaction.{Compaction}

-- ---- sources

-- the sources of equal texts, memtables and files
pub sources_same : (from low : List ℕ) (end high : Option (List ℕ)) (memory held : Option (List Entry)) (files read : List SortedFile) (ss : List (Bounded Input)) → from ≡ low → end ≡ high → memory ≡ held → files ≡ read → AreSourcesOf from end memory files ss → AreSourcesOf low high held read ss
sources_same from low end high memory held files read ss f e m r h =
    subst (λ (fs : List SortedFile). AreSourcesOf low high held fs ss) r
    (subst (λ (o : Option (List Entry)). AreSourcesOf low high o files ss) m
    (subst (λ (h : Option (List ℕ)). AreSourcesOf low h memory files ss) e
    (subst (λ (l : List ℕ). AreSourcesOf l end memory files ss) f h)))

-- ---- an unchanged tablet

module _ (compaction : Compaction) (disk : Option Contents) (t u : Tablet) (same : IsUnchanged t u) where
  read_same : (ss : List (Bounded Input)) → AreRead compaction u ss → AreRead compaction t ss
  read_same ss h =
      sources_same (lower_fence (range_of u)) (lower_fence (range_of t)) (upper_fence (range_of u)) (upper_fence (range_of t)) (memory_read compaction (memory_of u)) (memory_read compaction (memory_of t)) (files_read compaction (files_of u)) (files_read compaction (files_of t)) ss
      (ap lower_fence same.range) (ap upper_fence same.range) (ap (memory_read compaction) same.memory) (ap (files_read compaction) same.files) h

  keeps_same : keeps_erasures compaction (length (files_of u)) ≡ keeps_erasures compaction (length (files_of t))
  keeps_same = ap (λ (fs : List SortedFile). keeps_erasures compaction (length fs)) same.files

  pub still_too_much : (limit : ℕ) → ReadsTooMuch compaction limit disk u → ReadsTooMuch compaction limit disk t
  still_too_much limit h = record { sources = h.sources; of = read_same h.sources h.of; large = subst (λ (k : Bool). MergesTooMuch (Steps disk) lent_by k limit h.sources) keeps_same h.large }

  damage_same : (ss : List (Bounded Input)) → MergeBreaks (Steps disk) lent_by (Breaks disk) ss ⊎ MergesNoList (Steps disk) lent_by (keeps_erasures compaction (length (files_of u))) ss → MergeBreaks (Steps disk) lent_by (Breaks disk) ss ⊎ MergesNoList (Steps disk) lent_by (keeps_erasures compaction (length (files_of t))) ss
  damage_same ss h = subst (λ (k : Bool). MergeBreaks (Steps disk) lent_by (Breaks disk) ss ⊎ MergesNoList (Steps disk) lent_by k ss) keeps_same h

  pub still_unreadable : IsUnreadable compaction disk u → IsUnreadable compaction disk t
  still_unreadable h = record { sources = h.sources; of = read_same h.sources h.of; damage = damage_same h.sources h.damage }

pub each_unreadable : (compaction : Compaction) (disk : Option Contents) (t u : Tablet) → IsUnchanged t u → IfSome disk (λ m. IsUnreadable compaction (Some m) u) → IfSome disk (λ m. IsUnreadable compaction (Some m) t)
each_unreadable compaction None t u same h = tt
each_unreadable compaction (Some m) t u same h = still_unreadable compaction (Some m) t u same h

-- ---- known contents of files

-- a fact about contents is one about the contents, if they are known
pub told_some : (disk : Option Contents) (P : Option Contents → Type 0) → P disk → IfSome disk (λ m. P (Some m))
told_some None P h = tt
told_some (Some m) P h = h

pub told_map : (disk : Option Contents) (P Q : Contents → Type 0) → ((m : Contents) → P m → Q m) → IfSome disk P → IfSome disk Q
told_map None P Q f h = tt
told_map (Some m) P Q f h = f m h
