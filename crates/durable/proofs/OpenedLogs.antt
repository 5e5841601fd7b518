-- A server that an opening makes of files, a mark and a log.
use Rattle.std.proofs.Common.{◌≡◌, ◌≤◌, ◌<◌, ◌⊎◌, ℕ, List, [], Option, None, Some, inl, inr, refl, sym, ap, subst, arith}
use Rattle.std.specs.Prelude.{IfSome, IsSome}
use Rattle.std.specs.FinMap.{empty, get}
use Rattle.cell_key.specs.Cells.{after_edits}
use Rattle.cell_key.specs.declared.edits.Edit.{Edit}
use Rattle.file_store.specs.Store.{Contents}
use Rattle.row_atomic.specs.Open.{IsDamaged}
use Rattle.row_atomic.specs.Roots.{root_name}
use Rattle.si_model.specs.Machine.{new_machine, reopened}
use Rattle.si_model.specs.ShowsCells.{ShowsCells}
use Rattle.commit_log.specs.Records.{AreUpTo, IsGreatest, NamesRoots}
use Rattle.durable.specs.Devices.{Covers, CoversWith, most_stamp}
use Rattle.durable.specs.Recovery.{AreWhole, LacksBase, NamesTop}
use Rattle.durable.specs.StoredMarks.{IsMarkOf, MarkView}
use Rattle.metadata_table.specs.Roots.{OneRoot, RootView}
use Rattle.server_loop.specs.Opening.{IsLost, below, damaged}
use Rattle.server_loop.proofs.Opened.{not_below}
use Rattle.server_loop.proofs.SessionSteps.{new_cells}

-- why files and a mark with these records are damaged
abbrev pub DamageWith : List (List ℕ) → Contents → ℕ → Type 0
DamageWith records m n = IsLost m n ⊎ LacksBase m records ⊎ ¬ AreUpTo most_stamp records

pub damage_named : (told : Option Contents) (mark : Option ℕ) (records : List (List ℕ)) → IfSome told (λ m. IsDamaged m ⊎ LacksBase m records) → IfSome told (λ m. IfSome mark (DamageWith records m))
damage_named None mark records is = tt
damage_named (Some m) None records is = tt
damage_named (Some m) (Some n) records (inl is) = inl (damaged is)
damage_named (Some m) (Some n) records (inr is) = inr (inl is)

-- a mark below a root's greatest stamp, or a record whose stamp is none
pub damage_marked : (told : Option Contents) (mark : Option ℕ) (records : List (List ℕ)) (top : ℕ) → IfSome told (λ m. NamesTop (get m root_name) top) → IfSome mark (λ n. (n < top) ⊎ ¬ AreUpTo most_stamp records) → IfSome told (λ m. IfSome mark (DamageWith records m))
damage_marked None mark records top named why = tt
damage_marked (Some m) None records top named why = tt
damage_marked (Some m) (Some n) records top named why = elim why [ inl less ↦ inl (at less (get m root_name) refl named) | inr high ↦ inr (inr high) ]
  where
    at : n < top → (o : Option (List ℕ)) → get m root_name ≡ o → NamesTop o top → IsLost m n
    at less None there named = absurd (omega (arith, named, less))
    at less (Some image) there named = let same = named.2 in below image named.0 there named.1 (omega (arith, same, less))

-- files with their log, and a mark that covers the root, are whole
pub whole_here : OneRoot → (told : Option Contents) (mark : Option ℕ) (records : List (List ℕ)) (top stored : ℕ) → IfSome told (λ m. ¬ IsDamaged m × ¬ LacksBase m records) → IfSome told (λ m. NamesTop (get m root_name) top) → IfSome mark (λ n. stored ≡ n) → top ≤ stored → AreUpTo most_stamp records
    → IfSome told (λ m. IfSome mark (λ n. AreWhole m n records))
whole_here one None mark records top stored whole named is low stamps = tt
whole_here one (Some m) None records top stored whole named is low stamps = tt
whole_here one (Some m) (Some n) records top stored whole named is low stamps = record { kept = lost; over = whole.1; stamps = stamps }
  where
    lost : IsLost m n → ⊥
    lost (damaged damage) = whole.0 damage
    lost (below image root there form less) =
        let at : NamesTop (Some image) top = subst (λ (o : Option (List ℕ)). NamesTop o top) there named in
        let same = ap (λ (r : RootView). r.top) (one at.0 root image at.1 form) in
        let tops = at.2 in
        absurd (omega (arith, same, tops, low, is, less))

-- ---- the mark beside a log

-- a mark below the root's greatest stamp
pub marked_low : (told : Option ℕ) (records : List (List ℕ)) (stored top : ℕ) → IfSome told (λ n. stored ≡ n) → stored < top → IfSome told (λ n. (n < top) ⊎ ¬ AreUpTo most_stamp records)
marked_low None records stored top is less = tt
marked_low (Some n) records stored top is less = inl (omega (arith, is, less))

-- a record whose stamp is above the greatest one
pub marked_high : NamesRoots → (told : Option ℕ) (records : List (List ℕ)) (stored top greatest : ℕ) → stored ≤ most_stamp → IsGreatest stored records greatest → most_stamp < greatest → IfSome told (λ n. (n < top) ⊎ ¬ AreUpTo most_stamp records)
marked_high names None records stored top greatest small is high = tt
marked_high names (Some n) records stored top greatest small is high = inr (λ up. elim is.reached [
  | inl low ↦ absurd (omega (arith, low, small, high))
  | inr at ↦ let low = names.within records greatest most_stamp up at in absurd (omega (arith, low, high))
])

-- no such damage where a root with its log lasts
pub never_marked : (told : Option ℕ) (records : List (List ℕ)) (top named : ℕ) → Covers told top → named ≡ top → AreUpTo most_stamp records → IfSome told (λ n. (n < named) ⊎ ¬ AreUpTo most_stamp records) → ⊥
never_marked None records top named covers same up why = absurd covers
never_marked (Some n) records top named covers same up why = elim why [ inl less ↦ absurd (omega (arith, covers, same, less)) | inr high ↦ high up ]

module _ {M : Type 0} (names : NamesRoots) (told : Option ℕ) (records : List (List ℕ)) (mark : MarkView M) (made : IsMarkOf told records mark) where
  -- the records' stamps are stamps, if the greatest of them is one
  pub marked_stamps : mark.covered ≤ most_stamp → AreUpTo most_stamp records
  marked_stamps limit = names.higher records mark.covered most_stamp limit made.covered.up_to

  -- what the mark and the records cover counts as covered
  pub marked_top : (top : ℕ) → CoversWith told records top → top ≤ mark.covered
  marked_top top (inl covers) =
      let low = not_below told top mark.stored covers made.stored in
      let above = made.covered.above in
      omega (arith, low, above)
  marked_top top (inr reached) = names.within records top mark.covered made.covered.up_to reached

  -- and what counts as covered is covered by them
  pub covers_marked : (new : Option ℕ) (top : ℕ) → new ≡ told → IsSome told → top ≤ mark.covered → CoversWith new records top
  covers_marked new top same known low = elim made.covered.reached [
    | inl at ↦ inl (subst (λ (o : Option ℕ). Covers o top) (sym same) (by told known made.stored (omega (arith, at, low))))
    | inr at ↦ inr (names.lower records top mark.covered low at)
  ]
    where
      by : (o : Option ℕ) → IsSome o → IfSome o (λ n. mark.stored ≡ n) → top ≤ mark.stored → Covers o top
      by None known is at = cc
      by (Some n) known is at = omega (arith, is, at)

-- it is the greatest of the mark and of the records' stamps
pub greatest_told : {M : Type 0} (told : Option ℕ) (records : List (List ℕ)) (mark : MarkView M) → IsMarkOf told records mark → IfSome told (λ n. IsGreatest n records mark.covered)
greatest_told None records mark made = tt
greatest_told (Some n) records mark made = subst (λ (k : ℕ). IsGreatest k records mark.covered) made.stored made.covered

-- a mark that covers a stamp is known
pub known_under : (told : Option ℕ) (top : ℕ) → Covers told top → IsSome told
known_under None top covers = absurd covers
known_under (Some n) top covers = refl

pub covers_none : (old new : Option ℕ) → new ≡ old → IsSome old → Covers new 0
covers_none old new same known = subst (λ (o : Option ℕ). Covers o 0) (sym same) (by old known)
  where
    by : (old : Option ℕ) → IsSome old → Covers old 0
    by None known = cc
    by (Some n) known = omega arith

pub new_shown : (edits : List Edit) → edits ≡ [] → ShowsCells (after_edits empty edits) (reopened new_machine)
new_shown edits none = subst (λ (e : List Edit). ShowsCells (after_edits empty e) (reopened new_machine)) (sym none) new_cells
