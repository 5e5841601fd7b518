-- A merge that is under way can go on after the other calls of a cluster.
use Rattle.std.proofs.Common.{◌≡◌, ◌≤◌, ◌⊎◌, inl, inr, ℕ, List, [], ◌∷◌, map, Option, Some, None, IfSome, refl, sym, subst, arith}
use Rattle.std.proofs.lemmas.Bool.{false≢true}
use Rattle.std.specs.FinMap.{get}
use Rattle.std.specs.List.{AllByRecursion}
use Rattle.file_store.specs.Store.{Contents, KeepsOthers}
use Rattle.metadata_table.specs.Places.{PlaceView}
use Rattle.metadata_table.specs.Table.{IsListed}
use Rattle.sorted_file.specs.File.{IsOpen, StaysOpen, name_of}
use Rattle.sorted_file.specs.declared.file.SortedFile.{SortedFile}
use Rattle.tablet.specs.Views.{UsesName}
use Rattle.row_atomic.specs.MergeStates.{CanGoOn, HoldsMerge, IsUsed, MayGiveUp, MergeState}
use Rattle.row_atomic.specs.MergeSteps.{IsListedMerge, sources_of}
use Rattle.row_atomic.specs.Roots.{root_name}
use Rattle.row_atomic.specs.Sweeps.{MayLackUnkept, is_kept}
use Rattle.row_atomic.proofs.KeptRoots.{listed_kept, not_gone}
use Rattle.row_atomic.proofs.Shares.{each_map}

-- a fact of the merge beside one of the tablets
pub beside : {A B C : Type 0} → B → A × C → (A × B) × C
beside merge kept = ((kept.0, merge), kept.1)

-- ---- one merge

open_still : StaysOpen → (m n : Contents) (files : List SortedFile) → AllByRecursion (IsOpen m) files
    → AllByRecursion (λ name. get n name ≡ get m name) (map name_of files) → AllByRecursion (IsOpen n) files
open_still law m n [] opened same = tt
open_still law m n (file ∷ files) opened same = ((law m n file opened.0 same.0).0, open_still law m n files opened.1 same.1)

-- the bytes of its files are unchanged
pub goes_on : StaysOpen → (m n : Contents) (limit before after : ℕ) (merge : MergeState) → before ≤ after
    → AllByRecursion (λ name. get n name ≡ get m name) (sources_of merge) → CanGoOn m limit before merge → CanGoOn n limit after merge
goes_on law m n limit before after merge later same can = record {
  opened = open_still law m n merge.files can.opened same;
  named = each_map (IsUsed before) (IsUsed after) (λ name is. (is.0, (let below = is.1 in omega (arith, below, later)))) (sources_of merge) can.named;
  own = (can.own.0, (let below = can.own.1 in omega (arith, below, later)));
  limited = can.limited;
  part = can.part;
}

-- ---- a merge or none

-- the files are unchanged
pub told_still : (old new : Option Contents) (limit next : ℕ) (merge : Option MergeState) → new ≡ old → HoldsMerge old limit next merge → HoldsMerge new limit next merge
told_still old new limit next merge same holds = subst (λ (o : Option Contents). HoldsMerge o limit next merge) (sym same) holds

-- all files but one are unchanged, and that is not one of the merge's
others_still : StaysOpen → (old new : Option Contents) (limit before after other : ℕ) (merge : MergeState) → before ≤ after → ((name : ℕ) → IsUsed before name → ¬ (name ≡ other))
    → KeepsOthers other old new → IfSome old (λ m. CanGoOn m limit before merge) → IfSome new (λ m. CanGoOn m limit after merge)
others_still law None None limit before after other merge later apart keeps can = tt
others_still law None (Some n) limit before after other merge later apart keeps can = absurd (false≢true (sym keeps))
others_still law (Some m) None limit before after other merge later apart keeps can = absurd keeps
others_still law (Some m) (Some n) limit before after other merge later apart keeps can =
    goes_on law m n limit before after merge later
    (each_map (IsUsed before) (λ name. get n name ≡ get m name) (λ name is. keeps name (apart name is)) (sources_of merge) can.named) can

-- the next name was used, or nothing was written
pub used_still : StaysOpen → (old new : Option Contents) (limit before after : ℕ) (merge : Option MergeState) → UsesName old before new after
    → HoldsMerge old limit before merge → HoldsMerge new limit after merge
used_still law old new limit before after None uses holds = tt
used_still law old new limit before after (Some merge) (inl same) holds =
    subst (λ (k : ℕ). HoldsMerge new limit k (Some merge)) (sym same.0) (told_still old new limit before (Some merge) same.1 holds)
used_still law old new limit before after (Some merge) (inr used) holds =
    let more = used.0 in
    others_still law old new limit before after before merge (omega (arith, more)) (λ name is e. let below = is.1 in absurd (omega (arith, below, e))) used.1 holds

-- only the root's bytes may have changed
pub root_still : StaysOpen → (old new : Option Contents) (limit next : ℕ) (merge : Option MergeState) → (new ≡ old) ⊎ KeepsOthers root_name old new
    → HoldsMerge old limit next merge → HoldsMerge new limit next merge
root_still law old new limit next None may holds = tt
root_still law old new limit next (Some merge) (inl same) holds = told_still old new limit next (Some merge) same holds
root_still law old new limit next (Some merge) (inr others) holds =
    others_still law old new limit next next root_name merge (omega arith) (λ name is e. let from = is.0 in absurd (omega (arith, from, e))) others holds

-- it was given up, or is unchanged
pub given_still : (disk : Option Contents) (limit next : ℕ) (old new : Option MergeState) → MayGiveUp old new → HoldsMerge disk limit next old → HoldsMerge disk limit next new
given_still disk limit next old None may holds = tt
given_still disk limit next old (Some merge) may holds = subst (λ (o : Option MergeState). HoldsMerge disk limit next o) may holds

-- a merge that isn't touched
pub given_none : (merge : Option MergeState) → MayGiveUp merge merge
given_none None = tt
given_none (Some merge) = refl

-- files that need not stay were removed, and the merge's files are all listed
pub swept_still : StaysOpen → (places : List PlaceView) (old new : Option Contents) (limit next : ℕ) (merge : Option MergeState) → MayLackUnkept (is_kept places) old new
    → IsListedMerge merge places → HoldsMerge old limit next merge → HoldsMerge new limit next merge
swept_still law places old new limit next None lacks listed holds = tt
swept_still law places None None limit next (Some merge) lacks listed holds = tt
swept_still law places None (Some n) limit next (Some merge) lacks listed holds = absurd (false≢true (sym lacks))
swept_still law places (Some m) None limit next (Some merge) lacks listed holds = absurd lacks
swept_still law places (Some m) (Some n) limit next (Some merge) lacks listed holds =
    goes_on law m n limit next next merge (omega arith)
    (each_map (λ name. IsListed name places) (λ name. get n name ≡ get m name) (λ name is. not_gone places m n name (listed_kept places name is) (lacks name)) (sources_of merge) listed) holds
