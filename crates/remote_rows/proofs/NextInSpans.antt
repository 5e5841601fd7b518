-- The next cells in a span are the next cells.
use Rattle.std.proofs.Common.{◌≡◌, ◌≢◌, ◌≤◌, ◌-◌, ℕ, false, List, [], ◌∷◌, length, Option, Some, None, IsSome, IfSome, inl, inr, ◌⊎◌, refl, sym, subst, arith}
use Rattle.std.specs.List.{AllByRecursion}
use Rattle.std.specs.declared.cmp.Ordering.{Ordering}
use Rattle.std.specs.declared.cmp.Ordering.TheVariants.{Less, Equal, Greater}
use Rattle.std.specs.FinMap.{get}
use Rattle.cell_key.specs.Cells.{Cells, version}
use Rattle.cell_key.specs.Places.{AreNextCells, HasCell, IsAfter, IsNextCell, Place, last_or, place_cmp, place_of}
use Rattle.cell_key.specs.declared.keys.CellKey.{CellKey}
use Rattle.rows.specs.Batches.{AreNextVersions, HasNewest, of_column, place_in, places_in}
use Rattle.rows.specs.declared.batches.CellVersions.{CellVersions}
use Rattle.rows.specs.declared.batches.VersionBatch.{VersionBatch}
use Rattle.rows.proofs.Places.{place_cmp_total}
use Rattle.remote_rows.proofs.SameReads.{newest_too}
use Rattle.remote_rows.specs.Pages.{AgreeBetween, IsBefore}

-- a place before a place before an end is before the end
before_before : (end : Option Place) (a b : Place) → place_cmp a b ≡ Less → IsBefore end b → IsBefore end a
before_before None a b less before = tt
before_before (Some end) a b less before = place_cmp_total.trans a b end less before

-- a place after a place after another one
after_after : (after : Option Place) (a b : Place) → IsAfter after a → place_cmp a b ≡ Less → IsAfter after b
after_after None a b behind less = tt
after_after (Some after) a b behind less = place_cmp_total.trans after a b behind less

none_some : {A : Type 0} (o : Option A) → o ≡ None → IsSome o → ⊥
none_some None is some = cc
none_some (Some x) is some = cc

less_or : (o : Ordering) → (o ≡ Less) ⊎ (o ≢ Less)
less_or Less = inl refl
less_or Equal = inr (λ e. cc)
less_or Greater = inr (λ e. cc)

before_or : (end : Option Place) (place : Place) → IsBefore end place ⊎ (¬ IsBefore end place)
before_or None place = inl tt
before_or (Some end) place = less_or (place_cmp place end)

module _ (cells rows : Cells) (end : Option Place) (none : (key : CellKey) → ¬ IsBefore end (place_of key) → get rows key ≡ None) where
  -- whatever the span has is before its end
  is_before : (place : Place) → HasCell rows place → IsBefore end place
  is_before place has = elim (before_or end place) [
    | inl before ↦ before
    | inr behind ↦ absurd (none_some (get rows has.key) (none has.key (subst (λ (p : Place). ¬ IsBefore end p) (sym has.at) behind)) has.some)
  ]

  has_there : (after : Option Place) (place : Place) → AgreeBetween after end cells rows → IsAfter after place → HasCell rows place → HasCell cells place
  has_there after place same behind has = record {
    key = has.key;
    at = has.at;
    some = subst (λ (o : Option (List ℕ)). IsSome o) (same has.key (subst (λ (p : Place). IsAfter after p) (sym has.at) behind) (subst (λ (p : Place). IsBefore end p) (sym has.at) (is_before place has))) has.some;
  }

  has_here : (after : Option Place) (place : Place) → AgreeBetween after end cells rows → IsAfter after place → IsBefore end place → HasCell cells place → HasCell rows place
  has_here after place same behind before has = record {
    key = has.key;
    at = has.at;
    some = subst (λ (o : Option (List ℕ)). IsSome o) (sym (same has.key (subst (λ (p : Place). IsAfter after p) (sym has.at) behind) (subst (λ (p : Place). IsBefore end p) (sym has.at) before))) has.some;
  }

  next_some : (after : Option Place) (found : Place) → AgreeBetween after end cells rows → IsNextCell rows after (Some found) → IsNextCell cells after (Some found)
  next_some after found same (behind, has, least) = (
    behind,
    has_there after found same behind has,
    λ place later less there. least place later less (has_here after place same later (before_before end place found less (is_before found has)) there),
  )

  next_none : (after : Option Place) → AgreeBetween after end cells rows → end ≡ None → IsNextCell rows after None → IsNextCell cells after None
  next_none after same last nothing = λ place behind there. nothing place behind (has_here after place same behind (subst (λ (e : Option Place). IsBefore e place) (sym last) tt) there)

  -- further on the cells agree too
  agree_on : (after : Option Place) (found : Place) → AgreeBetween after end cells rows → IsAfter after found → AgreeBetween (Some found) end cells rows
  agree_on after found same behind key later before = same key (after_after after found (place_of key) behind later) before

  shorter : (found : Place) (rest : List Place) (most : ℕ) → (end ≡ None) ⊎ (length (found ∷ rest) ≡ most) → (end ≡ None) ⊎ (length rest ≡ most - 1)
  shorter found rest most (inl last) = inl last
  shorter found rest most (inr long) = inr (omega (arith, long))

  ended : (most : ℕ) → (end ≡ None) ⊎ (0 ≡ most) → 1 ≤ most → end ≡ None
  ended most (inl last) wanted = last
  ended most (inr long) wanted = absurd (omega (arith, long, wanted))

  pub next_cells : (after : Option Place) (most : ℕ) (found : List Place) → AgreeBetween after end cells rows → (end ≡ None) ⊎ (length found ≡ most) → AreNextCells rows after most found → AreNextCells cells after most found
  next_cells after most [] same enough next = λ wanted. next_none after same (ended most enough wanted) (next wanted)
  next_cells after most (place ∷ found) same enough next = (
    next.0,
    next_some after place same next.1,
    next_cells (Some place) (most - 1) found (agree_on after place same next.1.0) (shorter place found most enough) next.2,
  )

  agree_last : (after : Option Place) (most : ℕ) (found : List Place) → AgreeBetween after end cells rows → AreNextCells rows after most found → AgreeBetween (last_or after found) end cells rows
  agree_last after most [] same next = same
  agree_last after most (place ∷ found) same next = agree_last (Some place) (most - 1) found (agree_on after place same next.1.0) next.2

  newest_there : (after : Option Place) (hi : ℕ) (found : CellVersions) → AgreeBetween after end cells rows → IsAfter after (place_in found) → IsBefore end (place_in found) → HasNewest rows hi found → HasNewest cells hi found
  newest_there after hi found same behind before newest q =
      newest_too rows cells (version found.row found.family q) 0 hi (of_column found q) (λ s. sym (same (version found.row found.family q s) behind before)) (newest q)

  all_newest : (after : Option Place) (hi most : ℕ) (found : List CellVersions) → AgreeBetween after end cells rows → AreNextCells rows after most (places_in found) → AllByRecursion (HasNewest rows hi) found → AllByRecursion (HasNewest cells hi) found
  all_newest after hi most [] same next newest = tt
  all_newest after hi most (one ∷ found) same next newest = (
    newest_there after hi one same next.1.0 (is_before (place_in one) next.1.1) newest.0,
    all_newest (Some (place_in one)) hi (most - 1) found (agree_on after (place_in one) same next.1.0) next.2 newest.1,
  )

  length_places : (found : List CellVersions) → length (places_in found) ≡ length found
  length_places [] = refl
  length_places (one ∷ found) = let rest = length_places found in omega (arith, rest)

  pub next_versions : (after : Option Place) (hi : ℕ) (batch : VersionBatch) → AgreeBetween after end cells rows → (end ≡ None) ⊎ (batch.is_last ≡ false) → AreNextVersions rows after hi batch → AreNextVersions cells after hi batch
  next_versions after hi batch same enough found = record {
    next = next_cells after (length batch.cells.items) (places_in batch.cells.items) same (inr (length_places batch.cells.items)) found.next;
    newest = all_newest after hi (length batch.cells.items) batch.cells.items same found.next found.newest;
    last = λ last. elim enough [
      | inl ended ↦ next_none (last_or after (places_in batch.cells.items)) (agree_last after (length batch.cells.items) (places_in batch.cells.items) same found.next) ended (found.last last)
      | inr more ↦ (let never : ⊥ = cc in absurd never)
    ];
  }

  -- cells that are full, without the word that no cell is left
  full_as : (after : Option Place) (hi : ℕ) (batch full : VersionBatch) → full.cells.items ≡ batch.cells.items → full.is_last ≡ false → AreNextVersions rows after hi batch → AreNextVersions rows after hi full
  full_as after hi batch full same more found = record {
    next = subst (λ (l : List CellVersions). AreNextCells rows after (length l) (places_in l)) (sym same) found.next;
    newest = subst (λ (l : List CellVersions). AllByRecursion (HasNewest rows hi) l) (sym same) found.newest;
    last = λ last. let never : ⊥ = cc in absurd never;
  }

  pub full_too : (after : Option Place) (hi : ℕ) (batch : VersionBatch) (full : Option VersionBatch) → AgreeBetween after end cells rows → IfSome full (λ (b : VersionBatch). b.cells.items ≡ batch.cells.items) → IfSome full (λ (b : VersionBatch). b.is_last ≡ false) → AreNextVersions rows after hi batch → IfSome full (AreNextVersions cells after hi)
  full_too after hi batch None same cs more found = tt
  full_too after hi batch (Some full) same cs more found = next_versions after hi full same (inr more) (full_as after hi batch full cs more found)
