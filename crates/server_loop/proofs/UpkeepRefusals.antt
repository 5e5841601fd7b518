-- The refusals of tablets' upkeep and of raw reads, and when they do not come.
use Rattle.std.proofs.Common.{◌≡◌, ◌⊎◌, ◌<◌, ◌≤◌, ℕ, List, Bool, true, false, ltb, inl, inr, refl, arith, lit<}
use Rattle.std.proofs.lemmas.Bool.{ltb-true, ltb-false}
use Rattle.cell_key.specs.Names.{IsRow, IsFamily}
use Rattle.cell_key.specs.Refusals.{refusal_number}
use Rattle.cell_key.specs.declared.keys.Qualifier.{Qualifier}
use Rattle.cell_key.specs.declared.refusals.Refusal.{Refusal}
use Rattle.cell_key.specs.declared.refusals.Refusal.TheVariants.{BadRow, BadColumn, UnknownTablet, BadCount}
use Rattle.si_model.specs.Machine.{State, HasTablet, Minor, Merge, Major, Split, Sweep, Raw, Checkpoint, Status, IsAcceptable}
use Rattle.si_model.specs.Refusing.{Applies, Refuses, applies_first, merges_too_many, minor_unknown, merge_unknown, merge_few, major_unknown, split_row, split_end, split_full, raw_row, raw_family}
use Rattle.si_model.specs.declared.replies.Cell.{Cell}

module _ (st : State) where
  pub minor_unknown_first : (k : ℕ) → ¬ HasTablet st k → Refuses st (Minor k) UnknownTablet
  minor_unknown_first k none = applies_first (record { applies = minor_unknown none; first = first })
    where
      first : (m : Refusal) → Applies st (Minor k) m → (m ≡ UnknownTablet) ⊎ (refusal_number UnknownTablet < refusal_number m)
      first m (minor_unknown n) = inl refl

  pub minor_accepted : (k : ℕ) → HasTablet st k → IsAcceptable st (Minor k)
  minor_accepted k has m (minor_unknown none) = none has

  pub major_unknown_first : (k : ℕ) → ¬ HasTablet st k → Refuses st (Major k) UnknownTablet
  major_unknown_first k none = applies_first (record { applies = major_unknown none; first = first })
    where
      first : (m : Refusal) → Applies st (Major k) m → (m ≡ UnknownTablet) ⊎ (refusal_number UnknownTablet < refusal_number m)
      first m (major_unknown n) = inl refl

  pub major_accepted : (k : ℕ) → HasTablet st k → IsAcceptable st (Major k)
  major_accepted k has m (major_unknown none) = none has

  pub merge_unknown_first : (k n : ℕ) → ¬ HasTablet st k → Refuses st (Merge k n) UnknownTablet
  merge_unknown_first k n none = applies_first (record { applies = merge_unknown none; first = first })
    where
      first : (m : Refusal) → Applies st (Merge k n) m → (m ≡ UnknownTablet) ⊎ (refusal_number UnknownTablet < refusal_number m)
      first m (merge_unknown h) = inl refl
      first m (merge_few h) = inr (lit< tt)

  pub merge_accepted : (k n : ℕ) → HasTablet st k → 2 ≤ n → IsAcceptable st (Merge k n)
  merge_accepted k n has two m (merge_unknown none) = none has
  merge_accepted k n has two m (merge_few few) = omega (arith, few, two)

  -- a count may be bad: it is below two, or the tablet has fewer files, which the machine doesn't know
  pub merge_bad : (k n : ℕ) → HasTablet st k → Refuses st (Merge k n) BadCount
  merge_bad k n has = by_count (ltb n 2) refl
    where
      first : (m : Refusal) → Applies st (Merge k n) m → (m ≡ BadCount) ⊎ (refusal_number BadCount < refusal_number m)
      first m (merge_unknown none) = absurd (none has)
      first m (merge_few h) = inl refl

      by_count : (few : Bool) → ltb n 2 ≡ few → Refuses st (Merge k n) BadCount
      by_count true few = applies_first (record { applies = merge_few (ltb-true n 2 few); first = first })
      by_count false many = merges_too_many (merge_accepted k n has (ltb-false n 2 many))

  pub split_row_first : (row : List ℕ) → ¬ IsRow row → Refuses st (Split row) BadRow
  split_row_first row bad = applies_first (record { applies = split_row bad; first = first })
    where
      first : (m : Refusal) → Applies st (Split row) m → (m ≡ BadRow) ⊎ (refusal_number BadRow < refusal_number m)
      first m (split_row h) = inl refl
      first m (split_end h) = inr (lit< tt)
      first m (split_full h) = inr (lit< tt)

  pub sweep_accepted : IsAcceptable st Sweep
  sweep_accepted m a = elim a [ ]

  pub checkpoint_accepted : IsAcceptable st Checkpoint
  checkpoint_accepted m a = elim a [ ]

  pub status_accepted : (k : ℕ) → IsAcceptable st (Status k)
  status_accepted k m a = elim a [ ]

  pub raw_row_first : (x : Cell) (q : Qualifier) (lo hi : ℕ) → ¬ IsRow x.row → Refuses st (Raw x q lo hi) BadRow
  raw_row_first x q lo hi bad = applies_first (record { applies = raw_row bad; first = first })
    where
      first : (m : Refusal) → Applies st (Raw x q lo hi) m → (m ≡ BadRow) ⊎ (refusal_number BadRow < refusal_number m)
      first m (raw_row h) = inl refl
      first m (raw_family h) = inr (lit< tt)

  pub raw_family_first : (x : Cell) (q : Qualifier) (lo hi : ℕ) → IsRow x.row → ¬ IsFamily x.family → Refuses st (Raw x q lo hi) BadColumn
  raw_family_first x q lo hi good bad = applies_first (record { applies = raw_family bad; first = first })
    where
      first : (m : Refusal) → Applies st (Raw x q lo hi) m → (m ≡ BadColumn) ⊎ (refusal_number BadColumn < refusal_number m)
      first m (raw_row h) = absurd (h good)
      first m (raw_family h) = inl refl

  pub raw_accepted : (x : Cell) (q : Qualifier) (lo hi : ℕ) → IsRow x.row → IsFamily x.family → IsAcceptable st (Raw x q lo hi)
  raw_accepted x q lo hi row family m (raw_row h) = h row
  raw_accepted x q lo hi row family m (raw_family h) = h family
