-- Compactions of the tablets with full memtables, in order.
use Rattle.std.proofs.Common.{◌≡◌, ◌≢◌, ◌<◌, ◌≤◌, ◌+◌, ℕ, zero, suc, Bool, true, false, List, [], ◌∷◌, length, map, filter, drop, Option, Some, None, Result, Ok, Err, cond, refl, sym, ap, ◌∙◌, subst, arith, slice_get, slice_index_or, add-one}
use Rattle.std.proofs.lemmas.List.{drop_all, length-map}
use Rattle.std.specs.Bool.{⊤}
use Rattle.std.specs.List.{AllByRecursion}
use Rattle.cell_key.specs.declared.refusals.Refusal.{Refusal}
use Rattle.file_store.specs.Store.{Contents}
use Rattle.metadata_table.specs.Places.{PlaceView, view_of, views}
use Rattle.metadata_table.specs.declared.places.Place.{Place}
use Rattle.metadata_table.specs.Table.{HasTablet, IsTable}
use Rattle.sorted_file.specs.declared.file.SortedFile.{SortedFile}
use Rattle.cell_key.specs.Entries.{Entry}
use Rattle.memtable.specs.Edits.{bytes_of}
use Rattle.tablet.specs.declared.ranges.RowRange.{RowRange}
use Rattle.tablet.specs.declared.tablet.Tablet.{Tablet}
use Rattle.row_atomic.specs.Changes.{Holds, parts_of}
use Rattle.row_atomic.specs.Clusters.{ClusterState, Spot, spot_of, tablet_numbered}
use Rattle.row_atomic.specs.Commands.{AnswersAll, IsOutcome, cells_shown, done_of}
use Rattle.row_atomic.specs.Flushes.{CompactsFull, KeepsShown, has_full, numbers_of}
use Rattle.row_atomic.specs.declared.commands.Command.TheVariants as command
use Rattle.row_atomic.specs.declared.commands.Outcome.{Outcome}
use Rattle.row_atomic.specs.declared.fill.FlushLimits.{FlushLimits}
use Rattle.row_atomic.specs.Memtables.{reaches}
use Rattle.row_atomic.proofs.Numbers.{AreOthers, Differ, differ_of}

-- ---- numbers that differ

abbrev pub AreDistinct : List ℕ → Type 0
AreDistinct [] = ⊤
AreDistinct (n ∷ ns) = AllByRecursion (λ m. m ≢ n) ns × AreDistinct ns

others_in : (n : ℕ) (places : List PlaceView) → AreOthers n places → AllByRecursion (λ m. m ≢ n) (numbers_of places)
others_in n [] h = tt
others_in n (p ∷ ps) h = (h.0, others_in n ps h.1)

distinct_in : (places : List PlaceView) → Differ places → AreDistinct (numbers_of places)
distinct_in [] h = tt
distinct_in (p ∷ ps) h = (others_in p.tablet ps h.0, distinct_in ps h.1)

pub are_distinct : (places : List PlaceView) → IsTable places → AreDistinct (numbers_of places)
are_distinct places table = distinct_in places (differ_of places table.distinct)

pub distinct_from : (i : ℕ) (ns : List ℕ) → AreDistinct ns → AreDistinct (drop i ns)
distinct_from zero ns h = h
distinct_from (suc i) [] h = tt
distinct_from (suc i) (n ∷ ns) h = distinct_from i ns h.1

-- the numbers of places are those of their spots
abbrev number_of : Spot → ℕ
number_of spot = spot.1.0

by_spots : (places : List PlaceView) → numbers_of places ≡ map number_of (map spot_of places)
by_spots [] = refl
by_spots (p ∷ ps) = ap (λ (ns : List ℕ). p.tablet ∷ ns) (by_spots ps)

pub same_numbers : (old new : List PlaceView) → map spot_of new ≡ map spot_of old → numbers_of new ≡ numbers_of old
same_numbers old new same = by_spots new ∙ ap (λ (spots : List Spot). map number_of spots) same ∙ sym (by_spots old)

-- a place of the list, and its number
pub number_there : (places : List Place) (i : ℕ) (d : Place) → i < length places → slice_get (numbers_of (views places)) i ≡ Some (slice_index_or places i d).tablet
number_there [] i d h = absurd (omega arith)
number_there (q ∷ places) zero d h = refl
number_there (q ∷ places) (suc i) d h = number_there places i d (omega arith)

pub place_there : (places : List Place) (i : ℕ) (d : Place) → i < length places → HasTablet (slice_index_or places i d).tablet (views places)
place_there places i d h = (view_of (slice_index_or places i d), (i, within places i h, at places i (view_of (slice_index_or places i d)) h refl), refl)
  where
    within : (ps : List Place) (i : ℕ) → i < length ps → i < length (views ps)
    within ps i h = let same = length-map ps view_of in omega arith

    at : (ps : List Place) (i : ℕ) (v : PlaceView) → i < length ps → view_of (slice_index_or ps i d) ≡ v → slice_index_or (views ps) i v ≡ v
    at [] i v h e = absurd (omega arith)
    at (q ∷ ps) zero v h e = e
    at (q ∷ ps) (suc i) v h e = at ps i v (omega arith) e

-- the number at an index is the first of those from the index on
pub from_there : (ns : List ℕ) (i n : ℕ) → slice_get ns i ≡ Some n → drop i ns ≡ n ∷ drop (i + 1) ns
from_there ns i n there = rw add-one (go ns i there)
  where
    go : (ns : List ℕ) (i : ℕ) → slice_get ns i ≡ Some n → drop i ns ≡ n ∷ drop (suc i) ns
    go [] i there = cc
    go (m ∷ ns) zero there = ap (λ (k : ℕ). k ∷ ns) (let is = there in cc)
    go (m ∷ ns) (suc i) there = go ns i there

pub none_from : (places : List PlaceView) (i : ℕ) → length places ≤ i → drop i (numbers_of places) ≡ []
none_from places i h = drop_all i (numbers_of places) (let same = length-map places (λ (p : PlaceView). p.tablet) in omega arith)

-- ---- unchanged memtables

-- whether a tablet's memtable is full, by the tablet's parts
abbrev full_by : FlushLimits → Option (RowRange × (List Entry × List SortedFile)) → Bool
full_by limits None = false
full_by limits (Some parts) = reaches limits (length parts.1.0) (bytes_of parts.1.0)

abbrev pub part_at : List (RowRange × (List Entry × List SortedFile)) → ℕ → Option (RowRange × (List Entry × List SortedFile))
part_at parts zero = None
part_at parts (suc i) = slice_get parts i

by_index : (limits : FlushLimits) (ts : List Tablet) (i : ℕ) → has_full limits (slice_get ts i) ≡ full_by limits (slice_get (map parts_of ts) i)
by_index limits [] i = refl
by_index limits (t ∷ ts) zero = refl
by_index limits (t ∷ ts) (suc i) = by_index limits ts i

by_parts : (limits : FlushLimits) (ts : List Tablet) (n : ℕ) → has_full limits (tablet_numbered n ts) ≡ full_by limits (part_at (map parts_of ts) n)
by_parts limits ts zero = refl
by_parts limits ts (suc i) = by_index limits ts i

-- whether a tablet's memtable is full
abbrev has_at : {F : Type 0} → FlushLimits → ClusterState F → ℕ → Bool
has_at limits state n = has_full limits (tablet_numbered n state.tablets)

-- for these tablets that is the same as at the start
abbrev pub AreStill : {F : Type 0} → FlushLimits → ClusterState F → ClusterState F → List ℕ → Type 0
AreStill limits start now ns = AllByRecursion (λ n. has_at limits now n ≡ has_at limits start n) ns

pub all_still : {F : Type 0} (limits : FlushLimits) (start : ClusterState F) (ns : List ℕ) → AreStill limits start start ns
all_still limits start [] = tt
all_still limits start (n ∷ ns) = (refl, all_still limits start ns)

-- ---- the state that is kept

module _ {F : Type 0} (contents : F → Option Contents) (faults : F → ℕ) where
  pub keeps_start : (start : ClusterState F) → KeepsShown contents faults start start
  keeps_start start = record { kept = λ holds. (holds, refl); spots = refl; limit = refl; later = omega arith }

  -- the state kept by two calls in sequence
  pub keeps_on : (start now after : ClusterState F) → KeepsShown contents faults start now → KeepsShown contents faults now after → KeepsShown contents faults start after
  keeps_on start now after keeps more = record {
    kept = λ holds. let before = keeps.kept holds in let then = more.kept before.0 in (then.0, then.1 ∙ before.1);
    spots = more.spots ∙ keeps.spots;
    limit = more.limit ∙ keeps.limit;
    later = let a = keeps.later in let b = more.later in omega arith;
  }

module _ {F : Type 0} (contents : F → Option Contents) (faults : F → ℕ) (limits : FlushLimits) where
  abbrev has : ClusterState F → ℕ → Bool
  has state n = has_at limits state n

  -- outcomes for the full ones of these tablets complete the outcomes for all
  abbrev pub Completes : ClusterState F → ClusterState F → List ℕ → Type 0
  Completes start now ns = (outcomes : List Outcome) (state : ClusterState F) → AnswersAll contents faults now (map command.Minor (filter (has start) ns)) outcomes state → CompactsFull contents faults limits start state

  pub none_yet : (start : ClusterState F) → Completes start start (numbers_of start.places)
  none_yet start outcomes state rest = (outcomes, rest)

  pub all_done : (start now : ClusterState F) (ns : List ℕ) → ns ≡ [] → Completes start now ns → CompactsFull contents faults limits start now
  all_done start now ns none completes = completes [] now (subst (λ (ms : List ℕ). AnswersAll contents faults now (map command.Minor (filter (has start) ms)) [] now) (sym none) refl)

  pub skipped : (start now : ClusterState F) (n : ℕ) (ns : List ℕ) → has start n ≡ false → Completes start now (n ∷ ns) → Completes start now ns
  skipped start now n ns lacks completes outcomes state rest =
      completes outcomes state (subst (λ (b : Bool). AnswersAll contents faults now (map command.Minor (cond b (n ∷ filter (has start) ns) (filter (has start) ns))) outcomes state) (sym lacks) rest)

  module _ (start now after : ClusterState F) (n : ℕ) (r : Result (Unit {0}) Refusal) (is : IsOutcome contents faults (command.Minor n) (done_of r) now after) where
    pub compacted : (ns : List ℕ) → has start n ≡ true → Completes start now (n ∷ ns) → Completes start after ns
    compacted ns enough completes outcomes state rest =
        completes (done_of r ∷ outcomes) state (subst (λ (b : Bool). AnswersAll contents faults now (map command.Minor (cond b (n ∷ filter (has start) ns) (filter (has start) ns))) (done_of r ∷ outcomes) state) (sym enough) (after, is, rest))

    one_still : (m : ℕ) → m ≢ n → has after m ≡ has now m
    one_still m other = by_result r is
      where
        by_result : (r : Result (Unit {0}) Refusal) → IsOutcome contents faults (command.Minor n) (done_of r) now after → has after m ≡ has now m
        by_result (Ok _) is = ap (has_full limits) (is.upholds.made.others m other)
        by_result (Err refusal) is = by_parts limits after.tablets m ∙ ap (λ parts. full_by limits (part_at parts m)) is.upholds.1.tablets ∙ sym (by_parts limits now.tablets m)

    pub still_after : (ns : List ℕ) → AllByRecursion (λ m. m ≢ n) ns → AreStill limits start now ns → AreStill limits start after ns
    still_after [] others still = tt
    still_after (m ∷ ns) others still = (one_still m others.0 ∙ still.0, still_after ns others.1 still.1)

    pub keeps_after : KeepsShown contents faults start now → KeepsShown contents faults start after
    keeps_after keeps = keeps_on contents faults start now after keeps (record {
      kept = λ holds. (is.still holds, shown r is holds);
      spots = is.files.1;
      limit = is.files.0.limit;
      later = is.faults.later;
    })
      where
        shown : (r : Result (Unit {0}) Refusal) → IsOutcome contents faults (command.Minor n) (done_of r) now after → Holds contents now → cells_shown contents after ≡ cells_shown contents now
        shown (Ok _) is holds = is.answers holds
        shown (Err refusal) is holds = (is.answers holds).1

-- an index within the first places is within the later ones
pub within_kept : {F : Type 0} (contents : F → Option Contents) (faults : F → ℕ) (start now : ClusterState F) (i : ℕ) → KeepsShown contents faults start now → i < length start.places → i < length now.places
within_kept contents faults start now i keeps within =
    let olds = length-map start.places spot_of in
    let news = length-map now.places spot_of in
    let same = ap (λ (spots : List Spot). length spots) keeps.spots in
    omega arith

-- ---- the loop over the places

-- The tablets before the index are done, and the others are as at the start.
pub record IsReached {F : Type 0} (contents : F → Option Contents) (faults : F → ℕ) (limits : FlushLimits) (start now : ClusterState F) (i : ℕ) : Type 0 where
  pub table : IsTable start.places
  pub keeps : KeepsShown contents faults start now
  pub still : AreStill limits start now (drop i (numbers_of start.places))
  pub completes : Completes contents faults limits start now (drop i (numbers_of start.places))

module _ {F : Type 0} (contents : F → Option Contents) (faults : F → ℕ) (limits : FlushLimits) (start : ClusterState F) where
  pub at_start : IsTable start.places → IsReached contents faults limits start start 0
  at_start table = record {
    table = table;
    keeps = keeps_start contents faults start;
    still = all_still limits start (numbers_of start.places);
    completes = none_yet contents faults limits start;
  }

  module _ (now : ClusterState F) (i : ℕ) (reached : IsReached contents faults limits start now i) where
    pub within_now : i < length start.places → i < length now.places
    within_now within = within_kept contents faults start now i reached.keeps within

    pub at_end : length start.places ≤ i → CompactsFull contents faults limits start now
    at_end past = all_done contents faults limits start now (drop i (numbers_of start.places)) (none_from start.places i past) reached.completes

    -- the tablet with the number at the index
    module _ (n : ℕ) (there : slice_get (numbers_of now.places) i ≡ Some n) where
      first : drop i (numbers_of start.places) ≡ n ∷ drop (i + 1) (numbers_of start.places)
      first = from_there (numbers_of start.places) i n (ap (λ (ns : List ℕ). slice_get ns i) (sym (same_numbers start.places now.places reached.keeps.spots)) ∙ there)

      still_there : AreStill limits start now (n ∷ drop (i + 1) (numbers_of start.places))
      still_there = subst (λ (ns : List ℕ). AreStill limits start now ns) first reached.still

      left : Completes contents faults limits start now (n ∷ drop (i + 1) (numbers_of start.places))
      left = subst (λ (ns : List ℕ). Completes contents faults limits start now ns) first reached.completes

      distinct : AreDistinct (n ∷ drop (i + 1) (numbers_of start.places))
      distinct = subst AreDistinct first (distinct_from i (numbers_of start.places) (are_distinct start.places reached.table))

      pub after_none : has_full limits (tablet_numbered n now.tablets) ≡ false → IsReached contents faults limits start now (i + 1)
      after_none lacks = record {
        table = reached.table;
        keeps = reached.keeps;
        still = still_there.1;
        completes = skipped contents faults limits start now n (drop (i + 1) (numbers_of start.places)) (sym still_there.0 ∙ lacks) left;
      }

      pub after_one : (after : ClusterState F) (r : Result (Unit {0}) Refusal) → has_full limits (tablet_numbered n now.tablets) ≡ true → IsOutcome contents faults (command.Minor n) (done_of r) now after → IsReached contents faults limits start after (i + 1)
      after_one after r has is = record {
        table = reached.table;
        keeps = keeps_after contents faults limits start now after n r is reached.keeps;
        still = still_after contents faults limits start now after n r is (drop (i + 1) (numbers_of start.places)) distinct.0 still_there.1;
        completes = compacted contents faults limits start now after n r is (drop (i + 1) (numbers_of start.places)) (sym still_there.0 ∙ has) left;
      }
