-- Upper bounds of the memtables' entries and bytes, after calls that change one tablet, and full memtables.
use Rattle.std.proofs.Common.{◌≡◌, ◌≤◌, ℕ, zero, suc, Bool, true, false, IsTrue, nat_le, max, List, [], ◌∷◌, ◌++◌, length, map, filter, set, Option, Some, None, slice_get, ◌||◌, refl, sym, ap, subst, arith}
use Rattle.std.proofs.lemmas.Bool.{le-leb, leb-true}
use Rattle.std.specs.List.{AllByRecursion, AllZip}
use Rattle.file_store.specs.Store.{Contents}
use Rattle.cell_key.specs.Entries.{Entry}
use Rattle.memtable.specs.Edits.{bytes_of}
use Rattle.tablet.specs.Views.{IsSameTablet, memory_of}
use Rattle.tablet.specs.declared.compactions.Compaction.{Compaction}
use Rattle.tablet.specs.declared.compactions.Compaction.TheVariants.{Minor, Merge, Major}
use Rattle.tablet.specs.declared.tablet.Tablet.{Tablet}
use Rattle.row_atomic.specs.Changes.{IsEmptied, IsMade}
use Rattle.row_atomic.specs.Clusters.{ClusterState, tablet_numbered}
use Rattle.row_atomic.specs.Commands.{AnswersAll}
use Rattle.row_atomic.specs.Flushes.{CompactsFull, has_full, numbers_of}
use Rattle.row_atomic.specs.declared.commands.Command.TheVariants as command
use Rattle.row_atomic.specs.declared.fill.Fill.{Fill}
use Rattle.row_atomic.specs.declared.fill.FlushLimits.{FlushLimits}
use Rattle.row_atomic.specs.Memtables.{HasAtMost, HaveAtMost, has_bytes, is_any_full, is_full, largest, longest, reaches}
use Rattle.row_atomic.proofs.Shares.{each_at, each_map, each_set}

-- ---- upper bounds of entries and bytes

emptied_has : (most : Fill) (t : Tablet) → memory_of t ≡ [] → HasAtMost most t
emptied_has most t none =
    let entries = ap (λ (es : List Entry). length es) none in
    let bytes = ap bytes_of none in
    record { entries = omega arith; bytes = omega arith }

same_has : (most : Fill) (t u : Tablet) → memory_of u ≡ memory_of t → HasAtMost most t → HasAtMost most u
same_has most t u same few = record {
  entries = subst (λ (n : ℕ). n ≤ most.entries) (sym (ap (λ (es : List Entry). length es) same)) few.entries;
  bytes = subst (λ (n : ℕ). n ≤ most.bytes) (sym (ap bytes_of same)) few.bytes;
}

pub raised : (least most : Fill) (ts : List Tablet) → least.entries ≤ most.entries → least.bytes ≤ most.bytes → HaveAtMost least ts → HaveAtMost most ts
raised least most ts more larger few = each_map (HasAtMost least) (HasAtMost most) (λ t h. let entries = h.entries in let bytes = h.bytes in record { entries = omega arith; bytes = omega arith }) ts few

pub all_emptied : (most : Fill) (ts : List Tablet) → AllByRecursion IsEmptied ts → HaveAtMost most ts
all_emptied most ts all = each_map IsEmptied (HasAtMost most) (λ t none. emptied_has most t none) ts all

bounds : (most : Fill) (ts : List Tablet) → longest ts ≤ most.entries → largest ts ≤ most.bytes → HaveAtMost most ts
bounds most [] long large = tt
bounds most (t ∷ ts) long large = (record { entries = omega arith; bytes = omega arith }, bounds most ts (omega arith) (omega arith))

pub largest_within : (most : Fill) (ts : List Tablet) → HaveAtMost most ts → largest ts ≤ most.bytes
largest_within most [] few = omega arith
largest_within most (t ∷ ts) few =
    let first = few.0.bytes in
    let rest = largest_within most ts few.1 in
    omega (arith, first, rest)

pub fullest_bounds : (most : Fill) (ts : List Tablet) → most.entries ≡ longest ts → most.bytes ≡ largest ts → HaveAtMost most ts
fullest_bounds most ts long large = bounds most ts (omega arith) (omega arith)

-- ---- one tablet was changed

module _ (most : Fill) (ts : List Tablet) (i : ℕ) (few : HaveAtMost most ts) where
  pub set_emptied : (u : Tablet) → memory_of u ≡ [] → HaveAtMost most (set ts i u)
  set_emptied u none = each_set (HasAtMost most) ts i u few (emptied_has most u none)

  pub set_same : (t u : Tablet) → slice_get ts i ≡ Some t → memory_of u ≡ memory_of t → HaveAtMost most (set ts i u)
  set_same t u there same = each_set (HasAtMost most) ts i u few (same_has most t u same (each_at (HasAtMost most) ts few i t there))

  pub set_made : (compaction : Compaction) (next : ℕ) (t u : Tablet) → slice_get ts i ≡ Some t → IsMade compaction next t u → HaveAtMost most (set ts i u)
  set_made Minor next t u there made = set_emptied u made.memory
  set_made (Merge count) next t u there made = set_same t u there made.memory
  set_made Major next t u there made = set_emptied u made.memory

  -- with the entries and bytes of the new tablet
  pub set_fuller : (now : Fill) (u : Tablet) → now.entries ≡ max most.entries (length (memory_of u)) → now.bytes ≡ max most.bytes (bytes_of (memory_of u)) → HaveAtMost now (set ts i u)
  set_fuller now u longer larger = each_set (HasAtMost now) ts i u (raised most now ts (omega arith) (omega arith) few) (record { entries = omega arith; bytes = omega arith })

-- ---- one more tablet, or each changed

pub with_emptied : (most : Fill) (ts : List Tablet) (u : Tablet) → memory_of u ≡ [] → HaveAtMost most ts → HaveAtMost most (ts ++ u ∷ [])
with_emptied most [] u none few = (emptied_has most u none, tt)
with_emptied most (t ∷ ts) u none few = (few.0, with_emptied most ts u none few.1)

pub each_same : (o : Option Contents) (most : Fill) (ts us : List Tablet) → AllZip (IsSameTablet o) ts us → HaveAtMost most ts → HaveAtMost most us
each_same o most [] [] all few = tt
each_same o most [] (u ∷ us) all few = absurd all
each_same o most (t ∷ ts) [] all few = absurd all
each_same o most (t ∷ ts) (u ∷ us) all few = (same_has most t u all.0.memory few.0, each_same o most ts us all.1 few.1)

-- ---- full memtables

or_none : (a b : Bool) → (a || b) ≡ false → (a ≡ false) × (b ≡ false)
or_none true b e = cc
or_none false b e = (refl, e)

or_first : (a b : Bool) → IsTrue a → IsTrue (a || b)
or_first true b is = refl
or_first false b is = cc

or_second : (a b : Bool) → IsTrue b → IsTrue (a || b)
or_second true b is = refl
or_second false b is = is

by_either : (a b : Bool) (P : Type 0) → (IsTrue a → P) → (IsTrue b → P) → IsTrue (a || b) → P
by_either true b P first second is = first refl
by_either false b P first second is = second is

-- a greater number of entries or bytes reaches the same limit
more_entries : (limit few many : ℕ) → few ≤ many → IsTrue (nat_le limit few) → IsTrue (nat_le limit many)
more_entries limit few many more is = let enough = leb-true limit few is in le-leb limit many (omega arith)

more_bytes : (limit : Option ℕ) (few many : ℕ) → few ≤ many → IsTrue (has_bytes limit few) → IsTrue (has_bytes limit many)
more_bytes None few many more is = is
more_bytes (Some limit) few many more is = more_entries limit few many more is

full_within : (limits : FlushLimits) (most : Fill) (t : Tablet) → HasAtMost most t → IsTrue (is_full limits t) → IsTrue (reaches limits most.entries most.bytes)
full_within limits most t few =
    by_either (nat_le limits.entries (length (memory_of t))) (has_bytes limits.bytes (bytes_of (memory_of t))) _
    (λ is. or_first (nat_le limits.entries most.entries) (has_bytes limits.bytes most.bytes) (more_entries limits.entries _ most.entries few.entries is))
    (λ is. or_second (nat_le limits.entries most.entries) (has_bytes limits.bytes most.bytes) (more_bytes limits.bytes _ most.bytes few.bytes is))

pub may_be_full : (limits : FlushLimits) (most : Fill) (ts : List Tablet) → HaveAtMost most ts → IsTrue (is_any_full limits ts) → IsTrue (reaches limits most.entries most.bytes)
may_be_full limits most [] few full = cc
may_be_full limits most (t ∷ ts) few full = by_either (is_full limits t) (is_any_full limits ts) _ (full_within limits most t few.0) (may_be_full limits most ts few.1) full

-- if `full` implies `may`, and `may` is false, `full` is false
pub none_if : (full may : Bool) → (IsTrue full → IsTrue may) → may ≡ false → full ≡ false
none_if true may makes isnt = let yes = makes refl in cc
none_if false may makes isnt = refl

one_lacks : (limits : FlushLimits) (ts : List Tablet) (i : ℕ) → is_any_full limits ts ≡ false → has_full limits (slice_get ts i) ≡ false
one_lacks limits [] i none = refl
one_lacks limits (t ∷ ts) zero none = (or_none (is_full limits t) (is_any_full limits ts) none).0
one_lacks limits (t ∷ ts) (suc i) none = one_lacks limits ts i (or_none (is_full limits t) (is_any_full limits ts) none).1

lacks : (limits : FlushLimits) (ts : List Tablet) (n : ℕ) → is_any_full limits ts ≡ false → has_full limits (tablet_numbered n ts) ≡ false
lacks limits ts zero none = refl
lacks limits ts (suc i) none = one_lacks limits ts i none

pub none_with : (limits : FlushLimits) (ts : List Tablet) (ns : List ℕ) → is_any_full limits ts ≡ false → filter (λ n. has_full limits (tablet_numbered n ts)) ns ≡ []
none_with limits ts [] none = refl
none_with limits ts (n ∷ ns) none = rw (lacks limits ts n none) (none_with limits ts ns none)

-- if no memtable is full nothing is compacted
pub none_compacted : {F : Type 0} (contents : F → Option Contents) (faults : F → ℕ) (limits : FlushLimits) (start : ClusterState F) → is_any_full limits start.tablets ≡ false → CompactsFull contents faults limits start start
none_compacted contents faults limits start none =
    ([], subst (λ (ns : List ℕ). AnswersAll contents faults start (map command.Minor ns) [] start) (sym (none_with limits start.tablets (numbers_of start.places) none)) refl)
