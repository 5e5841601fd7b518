-- Emptying the caches leaves each tablet the same.
use Rattle.std.proofs.Common.{◌≡◌, ◌<◌, ℕ, zero, suc, List, [], ◌∷◌, map, set, get_or, length, slice_get, Option, Some, None, refl, sym, ap, ◌∙◌, subst, arith}
use Rattle.std.specs.List.{AllByRecursion, AllZip}
use Rattle.cell_key.specs.Cells.{Cells}
use Rattle.cell_key.specs.Entries.{Entry, cells_of, merged}
use Rattle.cell_key.specs.declared.edits.Edit.{Edit}
use Rattle.file_store.specs.Store.{Contents}
use Rattle.memtable.specs.Edits.{IsWithinLimits, with_edits}
use Rattle.metadata_table.specs.Places.{PlaceView}
use Rattle.tablet.specs.Ranges.{seen}
use Rattle.tablet.specs.Views.{Holds as HoldsAt, IsBelow, IsSameTablet, cells_at, lists_of, memory_of, range_of}
use Rattle.tablet.specs.declared.ranges.RowRange.{RowRange}
use Rattle.tablet.specs.declared.tablet.Tablet.{Tablet}
use Rattle.row_atomic.specs.Changes.{IsUncached}
use Rattle.row_atomic.specs.Clusters.{ArePlaced, ClusterState, InOrder, IsMatched, IsPlaced, Overfills, cells_in, edits_in, joined, storage_of, tablet_numbered}
use Rattle.row_atomic.specs.Commands.{IsOutcome}
use Rattle.row_atomic.specs.declared.commands.Command.TheVariants as command
use Rattle.row_atomic.specs.declared.commands.Outcome.TheVariants as outcome
use Rattle.row_atomic.proofs.Shares.{cells_told}

-- ---- lists of tablets

same_itself : (o : Option Contents) (t : Tablet) → IsSameTablet o t t
same_itself None t = record { range = refl; memory = refl; names = refl; lists = λ m. refl; still = tt }
same_itself (Some m) t = record { range = refl; memory = refl; names = refl; lists = λ n. refl; still = λ h. h }

same_after : (o : Option Contents) (t u v : Tablet) → IsSameTablet o t u → IsSameTablet o u v → IsSameTablet o t v
same_after None t u v p q = record { range = q.range ∙ p.range; memory = q.memory ∙ p.memory; names = q.names ∙ p.names; lists = λ m. q.lists m ∙ p.lists m; still = tt }
same_after (Some m) t u v p q = record {
  range = q.range ∙ p.range;
  memory = q.memory ∙ p.memory;
  names = q.names ∙ p.names;
  lists = λ n. q.lists n ∙ p.lists n;
  still = λ h. q.still (p.still h);
}

module _ (o : Option Contents) where
  pub all_same : (ts : List Tablet) → AllZip (IsSameTablet o) ts ts
  all_same [] = tt
  all_same (t ∷ ts) = (same_itself o t, all_same ts)

  pub same_set : (ts us : List Tablet) (i : ℕ) (d v : Tablet) → i < length us → AllZip (IsSameTablet o) ts us → IsSameTablet o (get_or us i d) v → AllZip (IsSameTablet o) ts (set us i v)
  same_set [] [] i d v below all is = absurd (omega (arith, below))
  same_set [] (u ∷ us) i d v below all is = absurd all
  same_set (t ∷ ts) [] i d v below all is = absurd all
  same_set (t ∷ ts) (u ∷ us) zero d v below all is = (same_after o t u v all.0 is, all.1)
  same_set (t ∷ ts) (u ∷ us) (suc i) d v below all is = (all.0, same_set ts us i d v (omega (arith, below)) all.1 is)

  below_still : (next : ℕ) (ts us : List Tablet) → AllZip (IsSameTablet o) ts us → AllByRecursion (IsBelow next) ts → AllByRecursion (IsBelow next) us
  below_still next [] [] all each = tt
  below_still next [] (u ∷ us) all each = absurd all
  below_still next (t ∷ ts) [] all each = absurd all
  below_still next (t ∷ ts) (u ∷ us) all each = (subst (λ (names : List ℕ). AllByRecursion (λ name. name < next) names) (sym all.0.names) each.0, below_still next ts us all.1 each.1)

  -- the tablet before
  record Was (ts : List Tablet) (i : ℕ) (u : Tablet) : Type 0 where
    tablet : Tablet
    there : slice_get ts i ≡ Some tablet
    same : IsSameTablet o tablet u

  was_there : (ts us : List Tablet) → AllZip (IsSameTablet o) ts us → (i : ℕ) (u : Tablet) → slice_get us i ≡ Some u → Was ts i u
  was_there [] [] all i u is = cc
  was_there [] (v ∷ us) all i u is = absurd all
  was_there (t ∷ ts) [] all i u is = cc
  was_there (t ∷ ts) (v ∷ us) all zero u is = let that : v ≡ u = cc in record { tablet = t; there = refl; same = subst (IsSameTablet o t) that all.0 }
  was_there (t ∷ ts) (v ∷ us) all (suc i) u is =
      let rest = was_there ts us all.1 i u is in
      record { tablet = rest.tablet; there = rest.there; same = rest.same }

  -- the tablet after
  record Is (us : List Tablet) (i : ℕ) (t : Tablet) : Type 0 where
    tablet : Tablet
    there : slice_get us i ≡ Some tablet
    same : IsSameTablet o t tablet

  is_there : (ts us : List Tablet) → AllZip (IsSameTablet o) ts us → (i : ℕ) (t : Tablet) → slice_get ts i ≡ Some t → Is us i t
  is_there [] us all i t is = cc
  is_there (v ∷ ts) [] all i t is = absurd all
  is_there (v ∷ ts) (u ∷ us) all zero t is = let that : v ≡ t = cc in record { tablet = u; there = refl; same = subst (λ (w : Tablet). IsSameTablet o w u) that all.0 }
  is_there (v ∷ ts) (u ∷ us) all (suc i) t is =
      let rest = is_there ts us all.1 i t is in
      record { tablet = rest.tablet; there = rest.there; same = rest.same }

  as_many_still : (ts us : List Tablet) → AllZip (IsSameTablet o) ts us → length us ≡ length ts
  as_many_still [] [] all = refl
  as_many_still [] (u ∷ us) all = absurd all
  as_many_still (t ∷ ts) [] all = absurd all
  as_many_still (t ∷ ts) (u ∷ us) all = ap suc (as_many_still ts us all.1)

  place_still : (ts us : List Tablet) → AllZip (IsSameTablet o) ts us → (before : Option (List ℕ)) (p : PlaceView) → IsPlaced ts before p → IsPlaced us before p
  place_still ts us all before p placed = go p.tablet refl placed.numbered
    where
      go : (n : ℕ) → p.tablet ≡ n → tablet_numbered n ts ≡ Some placed.tablet → IsPlaced us before p
      go zero number is = cc
      go (suc i) number is =
          let now = is_there ts us all i placed.tablet is in
          record { tablet = now.tablet; numbered = ap (λ (k : ℕ). tablet_numbered k us) number ∙ now.there; range = now.same.range ∙ placed.range; names = now.same.names ∙ placed.names }

  placed_still : (ts us : List Tablet) → AllZip (IsSameTablet o) ts us → (before : Option (List ℕ)) (ps : List PlaceView) → ArePlaced ts before ps → ArePlaced us before ps
  placed_still ts us all before [] placed = tt
  placed_still ts us all before (p ∷ ps) placed = (place_still ts us all before p placed.0, placed_still ts us all p.end ps placed.1)

  pub matched_still : (limit next : ℕ) (places : List PlaceView) (ts us : List Tablet) → AllZip (IsSameTablet o) ts us → IsMatched limit next places ts → IsMatched limit next places us
  matched_still limit next places ts us all matched = record {
    limit = matched.limit;
    named_from = matched.named_from;
    named_to = matched.named_to;
    placed = placed_still ts us all None places matched.placed;
    as_many = as_many_still ts us all ∙ matched.as_many;
    files = matched.files;
  }

  no_fuller : (places : List PlaceView) (ts us : List Tablet) (row : List ℕ) (later : List Edit) → AllZip (IsSameTablet o) ts us → Overfills places us row later → Overfills places ts row later
  no_fuller places ts us row later all over = go over.place.tablet refl over.numbered
    where
      go : (n : ℕ) → over.place.tablet ≡ n → tablet_numbered n us ≡ Some over.tablet → Overfills places ts row later
      go zero number is = cc
      go (suc i) number is =
          let was = was_there ts us all i over.tablet is in
          record {
            place = over.place;
            holder = over.holder;
            tablet = was.tablet;
            numbered = ap (λ (k : ℕ). tablet_numbered k ts) number ∙ was.there;
            over = λ within. over.over (subst (λ (range : RowRange). IsWithinLimits (with_edits (memory_of over.tablet) (edits_in range later))) (sym was.same.range) (subst (λ (es : List Entry). IsWithinLimits (with_edits es (edits_in (range_of was.tablet) later))) (sym was.same.memory) within));
          }

module _ (m : Contents) where
  same_cells : (t u : Tablet) → IsSameTablet (Some m) t u → cells_at m u ≡ cells_at m t
  same_cells t u same =
      ap (λ (range : RowRange). cells_of (merged (map (seen range) (lists_of m u)))) same.range
      ∙ ap (λ (lists : List (List Entry)). cells_of (merged (map (seen (range_of t)) lists))) (same.lists m)

  -- if the tablets were open they still are, with the same cells
  record AreOpen (ts us : List Tablet) : Type 0 where
    each : AllByRecursion (HoldsAt m) us
    cells : map (cells_at m) us ≡ map (cells_at m) ts

  open_still : (ts us : List Tablet) → AllZip (IsSameTablet (Some m)) ts us → AllByRecursion (HoldsAt m) ts → AreOpen ts us
  open_still [] [] all each = record { each = tt; cells = refl }
  open_still [] (u ∷ us) all each = absurd all
  open_still (t ∷ ts) [] all each = absurd all
  open_still (t ∷ ts) (u ∷ us) all each =
      let rest = open_still ts us all.1 each.1 in
      record {
        each = (all.0.still each.0, rest.each);
        cells = ap (λ (c : Cells). c ∷ map (cells_at m) us) (same_cells t u all.0) ∙ ap (λ (cs : List Cells). cells_at m t ∷ cs) rest.cells;
      }

module _ (told : Option Contents) (next : ℕ) (ts us : List Tablet) (all : AllZip (IsSameTablet told) ts us) (order : InOrder told next ts) where
  opened : AreOpen order.contents ts us
  opened = open_still order.contents ts us (subst (λ (o : Option Contents). AllZip (IsSameTablet o) ts us) order.on_disk all) order.each_open

  order_still : InOrder told next us
  order_still = record { contents = order.contents; on_disk = order.on_disk; each_open = opened.each; each_below = below_still told next ts us all order.each_below }

  cells_still : cells_in told us ≡ cells_in told ts
  cells_still = cells_told told order.contents us order.on_disk ∙ ap joined opened.cells ∙ sym (cells_told told order.contents ts order.on_disk)

-- ---- a cluster

module _ {F : Type 0} (contents : F → Option Contents) where
  pub uncached_stored : (old new : ClusterState F) → IsUncached contents old new → storage_of contents new ≡ storage_of contents old
  uncached_stored old new is = ap (storage_of contents) is.rest

  pub uncached : (count : F → ℕ) (old : ClusterState F) (tablets : List Tablet) → AllZip (IsSameTablet (contents old.files)) old.tablets tablets → IsOutcome contents count command.DropCaches outcome.Done old (record old { tablets = tablets })
  uncached count old tablets all = record {
    still = λ held. (order_still (contents old.files) old.next_name old.tablets tablets all held.0, held.1);
    answers = λ held. cells_still (contents old.files) old.next_name old.tablets tablets all held.0;
    upholds = record { tablets = all; rest = refl };
    files = tt;
    lists = λ _ name listed. listed;
    room = λ row later over. no_fuller (contents old.files) old.places old.tablets tablets row later all over;
    cause = tt;
    faults = record { later = omega arith; device = λ is. cc; told = λ _. refl };
  }
