-- When the newest files of a tablet are merged without a request, and how many of them.
use Rattle.std.specs.Prelude.{◌≡◌, ◌≤◌, ◌<◌, ◌+◌, ◌^◌, ◌⊎◌, ℕ, List, ◌∷◌, Some, length, map, take, drop, sum, slice_get}
use Rattle.std.specs.List.{AllByRecursion}
use Rattle.sorted_file.specs.File.{count_of}
use Rattle.tablet.specs.Views.{files_of}
use Rattle.tablet.specs.declared.merge_policy.MergePolicy.{MergePolicy}
use Rattle.tablet.specs.declared.merge_policy.MergePolicy.TheVariants.{AtCount, Levels}
use Rattle.tablet.specs.declared.tablet.Tablet.{Tablet}

-- the sizes of a tablet's files in entries, the newest first
abbrev pub sizes_of : Tablet → List ℕ
sizes_of t = map count_of (files_of t)

-- ---- by the number of files

abbrev pub IsOver : ℕ → List ℕ → Type 0
IsOver most sizes = (2 ≤ most) × (most ≤ length sizes)

-- So many of the newest files that fewer than `most` are left, and none if there are fewer.
abbrev pub LeavesFewer : ℕ → List ℕ → ℕ → Type 0
LeavesFewer most sizes count =
    ((count ≡ 0) × ¬ IsOver most sizes)
    ⊎ (IsOver most sizes × (2 ≤ count) × (count ≤ length sizes)
    × (length sizes + 2 ≤ most + count))

-- ---- by levels

-- The file at this index is no larger than all newer ones together. The newest file has no newer ones.
pub record IsSmall (sizes : List ℕ) (index : ℕ) : Type 0 where
  pub size : ℕ
  pub there : slice_get sizes index ≡ Some size
  pub older : 1 ≤ index
  pub small : size ≤ sum (take index sizes)

-- each file is larger than all newer ones together
abbrev pub AreInLevels : List ℕ → Type 0
AreInLevels sizes = (index : ℕ) → ¬ IsSmall sizes index

-- so many of the newest files: those up to the oldest small one
pub record EndsWithSmall (sizes : List ℕ) (count : ℕ) : Type 0 where
  pub last : ℕ
  pub is : count ≡ last + 1
  pub small : IsSmall sizes last
  pub oldest : (index : ℕ) → last < index → ¬ IsSmall sizes index

-- these, and none if all files are in levels
abbrev pub MakesLevels : List ℕ → ℕ → Type 0
MakesLevels sizes count = ((count ≡ 0) × AreInLevels sizes) ⊎ EndsWithSmall sizes count

-- ---- the policies

-- A policy has so many of the newest files merged; 0 means that nothing is to be merged.
abbrev pub IsMergeCount : MergePolicy → Tablet → ℕ → Type 0
IsMergeCount (AtCount most) t count = LeavesFewer most (sizes_of t) count
IsMergeCount Levels t count = MakesLevels (sizes_of t) count

-- ---- laws

-- Files in levels whose sizes are from 1 on and below 2 ^ n are at most n.
abbrev pub FewLevels : Type 0
FewLevels =
    (n : ℕ) (sizes : List ℕ) → AreInLevels sizes
    → AllByRecursion (λ size. (1 ≤ size) × (size < 2 ^ n)) sizes → length sizes ≤ n

-- If the files up to the oldest small one become one, which is no larger than they were together, then all files are
-- in levels.
abbrev pub StayInLevels : Type 0
StayInLevels =
    (sizes : List ℕ) (count whole : ℕ) → EndsWithSmall sizes count
    → whole ≤ sum (take count sizes) → AreInLevels (whole ∷ drop count sizes)
