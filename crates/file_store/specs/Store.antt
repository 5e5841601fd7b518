-- The contents of files, and the effects of calls on them.
use Rattle.std.specs.Prelude.{Option, Some, None, option_map, ◌≡◌, ◌≢◌, ℕ, ◌+◌, ◌-◌, ◌≤◌, ◌^◌, ◌⊎◌, min, List, [], ◌++◌, take, drop, length, Result, IsErrOf, IsNone, IsSomeAnd, unwrap_or}
use Rattle.std.specs.Ordering.{nat_cmp}
use Rattle.std.specs.FinMap as map
use Rattle.std.specs.FinMap.{FinMap}
use Rattle.file_store.specs.declared.files.FileFault.{FileFault}
use Rattle.file_store.specs.declared.files.FileFault.TheVariants.{Device}

-- the bytes under each name
abbrev pub Contents : Type 0
Contents = FinMap nat_cmp (List ℕ)

-- A count of faults has increased. At the greatest number it stays, which counts as increased.
abbrev pub HasRisen : ℕ → ℕ → Type 0
HasRisen before now = min (before + 1) (2 ^ 64 - 1) ≤ now

-- A count never falls. The answer is a device's fault exactly if the count has increased.
pub record HasFaultCause {T : Type 0} (before now : ℕ) (result : Result T FileFault) : Type 0 where
  pub later : before ≤ now
  pub device : IsErrOf result Device → HasRisen before now
  pub told : ¬ IsErrOf result Device → now ≡ before

-- all files but this one are unchanged, if the contents are known, and they are still known
abbrev pub KeepsOthers : ℕ → Option Contents → Option Contents → Type 0
KeepsOthers name None new = IsNone new
KeepsOthers name (Some old) new =
    IsSomeAnd new (λ now. (other : ℕ) → other ≢ name → map.get now other ≡ map.get old other)

-- the contents after a file was made or replaced, and after a file was removed, if they are known
abbrev pub with_file : ℕ → List ℕ → Option Contents → Option Contents
with_file name bytes = option_map (λ m. map.insert m name bytes)

abbrev pub without_file : ℕ → Option Contents → Option Contents
without_file name = option_map (λ m. map.remove m name)

-- the contents are unchanged, or the file has these bytes
abbrev pub MayHaveFile : ℕ → List ℕ → Option Contents → Option Contents → Type 0
MayHaveFile name bytes old new = (new ≡ old) ⊎ (new ≡ with_file name bytes old)

-- the contents are unchanged, or the file was removed
abbrev pub MayLack : ℕ → Option Contents → Option Contents → Type 0
MayLack name old new = (new ≡ old) ⊎ (new ≡ without_file name old)

-- the bytes under a name; empty if there is no file
abbrev pub bytes_of : Contents → ℕ → List ℕ
bytes_of m name = unwrap_or (map.get m name) []

-- the bytes of a file from an offset on, at most this many
abbrev pub part : List ℕ → ℕ → ℕ → List ℕ
part file offset len = take len (drop offset file)

-- a buffer after these bytes were written to its front
abbrev pub with_front : List ℕ → List ℕ → List ℕ
with_front bytes buffer = bytes ++ drop (length bytes) buffer

-- n bytes of a file, from this offset on, were read into a buffer
abbrev pub Reads : List ℕ → ℕ → List ℕ → List ℕ → ℕ → Type 0
Reads file offset old new n =
    let got = part file offset (length old) in
    (n ≡ length got) × (new ≡ with_front got old)
