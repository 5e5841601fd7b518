-- The room for a split or a move, reserved before the minor compaction, fits the tablet after it.
use Rattle.std.proofs.Common.{◌≡◌, ◌≢◌, ◌≤◌, ◌+◌, ℕ, zero, suc, Bool, true, false, cond, nat_eq, List, [], ◌∷◌, ◌++◌, length, Option, Some, Result, Ok, Err, is_ok, slice_get, refl, sym, ap, ◌∙◌, subst, arith}
use Rattle.std.specs.List.{AllByRecursion, Contains}
use Rattle.std.specs.Vec.{vec_capacity}
use borrow.Author.Tests.{eqb-true, eqb-false}
use Rattle.cell_key.specs.Entries.{Entry}
use Rattle.metadata_table.specs.Places.{PlaceView, EndsBefore}
use Rattle.metadata_table.specs.Table.{Cuts, HasTablet, IsHolder, IsNumbered, IsTable, cuts, cuts_last, cuts_later, left_part, naming, with_files}
use Rattle.tablet.specs.Views.{memory_of, names_of, range_of, with_name}
use Rattle.tablet.specs.declared.tablet.Tablet.{Tablet}
use Rattle.row_atomic.specs.declared.cluster.split.CutRoom.{CutRoom}
use Rattle.row_atomic.specs.declared.cluster.split.OpenRoom.{OpenRoom}
use Rattle.row_atomic.specs.Changes.{IsFlushed, Numbered, Remakes}
use Rattle.row_atomic.specs.Clusters.{tablet_numbered}
use Rattle.row_atomic.specs.ListRoom.{HasNameRoom, HasOpenRoom, IsEmptyFor, IsRoomToCut}
use Rattle.row_atomic.proofs.ChangedTablets.{numbered_at}
use Rattle.row_atomic.proofs.CutTablets.{holder_first, holder_later, not_below, not_below_none}
use Rattle.row_atomic.proofs.LeftTablets.{same_numbered}
use Rattle.row_atomic.proofs.ListedFiles.{contains_map}
use Rattle.row_atomic.proofs.Numbers.{AreOthers}
use Rattle.row_atomic.proofs.SplitClusters.{holder_listed, length_listed, one_holder, same_end, same_tablet}

-- ---- tablets of a cut table

has_later : (n : ℕ) (p : PlaceView) (ps : List PlaceView) → HasTablet n ps → HasTablet n (p ∷ ps)
has_later n p ps has = (has.0, (suc has.1.0, omega (arith, has.1.1), has.1.2), has.2)

cut_has_left : (row : List ℕ) (n : ℕ) (ps new : List PlaceView) → Cuts row n ps new → HasTablet n new
cut_has_left row n ps new (cuts_last {p = p} e) = (left_part row n p, (0, omega arith, refl), refl)
cut_has_left row n ps new (cuts {p = p} e less) = (left_part row n p, (0, omega arith, refl), refl)
cut_has_left row n ps new (cuts_later {p = p} {ps = rest} {ps' = after} past cut) = has_later n p after (cut_has_left row n rest after cut)

same_first : (n : ℕ) (p : PlaceView) (ps new : List PlaceView) → (HasTablet n ps → HasTablet n new) → HasTablet n (p ∷ ps) → HasTablet n (p ∷ new)
same_first n p ps new rest (q, (zero, below, is), number) = (q, (0, omega arith, is), number)
same_first n p ps new rest (q, (suc k, below, is), number) = has_later n p new (rest (q, (k, omega (arith, below), is), number))

cut_has_others : (row : List ℕ) (n m : ℕ) (ps new : List PlaceView) → Cuts row n ps new → HasTablet m ps → HasTablet m new
cut_has_others row n m ps new (cuts_last e) has = has_later m _ ps has
cut_has_others row n m ps new (cuts e less) has = has_later m _ ps has
cut_has_others row n m ps new (cuts_later {p = p} {ps = rest} {ps' = after} past cut) has = same_first m p rest after (cut_has_others row n m rest after cut) has

pub listed_has : (n : ℕ) (names : List ℕ) (m : ℕ) (ps : List PlaceView) → HasTablet m ps → HasTablet m (with_files n names ps)
listed_has n names m ps has = (naming n names has.0, contains_map (naming n names) ps has.0 has.1, same_tablet n names has.0 ∙ has.2)

-- ---- both parts get the files

naming_this : (n : ℕ) (names : List ℕ) (p : PlaceView) → p.tablet ≡ n → naming n names p ≡ record p { files = names }
naming_this n names p is = go (nat_eq p.tablet n) refl
  where
    go : (b : Bool) → nat_eq p.tablet n ≡ b → cond b (record p { files = names }) p ≡ record p { files = names }
    go true e = refl
    go false e = absurd (eqb-false p.tablet n e is)

naming_other : (n : ℕ) (names : List ℕ) (p : PlaceView) → p.tablet ≢ n → naming n names p ≡ p
naming_other n names p other = go (nat_eq p.tablet n) refl
  where
    go : (b : Bool) → nat_eq p.tablet n ≡ b → cond b (record p { files = names }) p ≡ p
    go true e = absurd (other (eqb-true p.tablet n e))
    go false e = refl

with_files_others : (n : ℕ) (names : List ℕ) (ps : List PlaceView) → AreOthers n ps → with_files n names ps ≡ ps
with_files_others n names [] others = refl
with_files_others n names (p ∷ ps) others =
    let first = naming_other n names p others.0 in
    let rest = with_files_others n names ps others.1 in
    ap (λ (q : PlaceView). q ∷ with_files n names ps) first ∙ ap (λ (qs : List PlaceView). p ∷ qs) rest

others_listed : (n : ℕ) (names : List ℕ) (m : ℕ) (ps : List PlaceView) → AreOthers m ps → AreOthers m (with_files n names ps)
others_listed n names m [] others = tt
others_listed n names m (p ∷ ps) others = ((λ is. others.0 (sym (same_tablet n names p) ∙ is)), others_listed n names m ps others.1)

module _ (row : List ℕ) (n : ℕ) (names : List ℕ) (h : ℕ) where
  -- the table after the cut, once both parts have the files
  abbrev after_both : List PlaceView → List PlaceView
  after_both ps = with_files n names (with_files h names ps)

  -- the two places of the cut tablet, and all others
  both_listed : (p : PlaceView) (ps : List PlaceView) → p.tablet ≡ h → AreOthers n (p ∷ ps)
      → after_both (left_part row n p ∷ p ∷ ps) ≡ (left_part row n (naming h names p) ∷ naming h names p ∷ with_files h names ps)
  both_listed p ps is others =
      let differ : n ≢ h = λ same. others.0 (is ∙ sym same) in
      let right = naming_this h names p is in
      let left : naming n names (naming h names (left_part row n p)) ≡ left_part row n (naming h names p) =
      ap (naming n names) (naming_other h names (left_part row n p) differ) ∙ naming_this n names (left_part row n p) refl ∙ ap (left_part row n) (sym right) in
      let stays = naming_other n names (naming h names p) (λ same. others.0 (sym (same_tablet h names p) ∙ same)) in
      let rest = with_files_others n names (with_files h names ps) (others_listed h names n ps others.1) in
      ap (λ (q : PlaceView). q ∷ naming n names (naming h names p) ∷ after_both ps) left
      ∙ ap (λ (q : PlaceView). left_part row n (naming h names p) ∷ q ∷ after_both ps) stays
      ∙ ap (λ (qs : List PlaceView). left_part row n (naming h names p) ∷ naming h names p ∷ qs) rest

  pub cut_both : (ps new : List PlaceView) (p : PlaceView) → p.tablet ≡ h → IsHolder row ps p → AreOthers n ps → Cuts row n ps new → Cuts row n (with_files h names ps) (after_both new)
  cut_both ps new p is holder others (cuts_last {p = q} none) =
      let same = holder_first row q p [] holder.before holder.after (not_below_none q.end row none) holder.parts holder.past in
      let number = ap (λ (r : PlaceView). r.tablet) (sym same) ∙ is in
      subst (λ (qs : List PlaceView). Cuts row n (naming h names q ∷ []) qs) (sym (both_listed q [] number others)) (cuts_last (same_end h names q ∙ none))
  cut_both ps new p is holder others (cuts {p = q} {end = end} {ps = rest} ends less) =
      let same = holder_first row q p rest holder.before holder.after (not_below q.end row end ends less) holder.parts holder.past in
      let number = ap (λ (r : PlaceView). r.tablet) (sym same) ∙ is in
      subst (λ (qs : List PlaceView). Cuts row n (naming h names q ∷ with_files h names rest) qs) (sym (both_listed q rest number others)) (cuts (same_end h names q ∙ ends) less)
  cut_both ps new p is holder others (cuts_later {p = q} {ps = rest} {ps' = after} ends more) =
      let later = holder_later row q p rest holder.before holder.after ends holder.parts holder.past holder.within in
      let stays = naming_other n names (naming h names q) (λ same. others.0 (sym (same_tablet h names q) ∙ same)) in
      subst (λ (r : PlaceView). Cuts row n (naming h names q ∷ with_files h names rest) (r ∷ after_both after)) (sym stays)
      (cuts_later (subst (λ (e : Option (List ℕ)). EndsBefore e row) (sym (same_end h names q)) ends) (cut_both rest after p is later others.1 more))

-- the number after a table's numbers belongs to no place
not_numbered : (count : ℕ) (ps : List PlaceView) → AllByRecursion (IsNumbered count) ps → AreOthers (count + 1) ps
not_numbered count [] all = tt
not_numbered count (p ∷ ps) all =
    let to = all.0.to in
    ((λ is. omega arith), not_numbered count ps all.1)

-- ---- the room after the minor compaction

one_more : (next : ℕ) (memory : List Entry) (names : List ℕ) → length (with_name next memory names) ≤ length names + 1
one_more next [] names = omega arith
one_more next (e ∷ es) names = omega arith

for_names : {X Z : Type 0} (more count : ℕ) (list : Rattle.std.specs.declared.vec.Vec.Vec X Z) → count ≤ more → IsEmptyFor more list → IsEmptyFor count list
for_names more count list less for =
    let room = for.room in
    record { empty = for.empty; room = omega arith }

module _ (row : List ℕ) (room : CutRoom) (next : ℕ) (places places' : List PlaceView) (ts ts' : List Tablet) (p : PlaceView) (table : IsTable places) (holder : IsHolder row places p) where
  pub room_flushed : Numbered (λ t. places' ≡ with_files p.tablet (names_of t) places) p.tablet ts' → Remakes (IsFlushed next) p.tablet ts ts' → HasTablet p.tablet places → room.left ≡ length places + 1 → Cuts row room.left places room.table
      → Numbered (HasNameRoom room 1) p.tablet ts → IsEmptyFor (length places + 1) room.tablets → IsRoomToCut row room places' ts'
  room_flushed listed made known number cut names tablets =
      let t = listed.tablet in
      let here = same_tablet p.tablet (names_of t) p in
      let many : length places' ≡ length places = ap (λ (ps : List PlaceView). length ps) listed.such ∙ length_listed p.tablet (names_of t) places in
      let is : made.is ≡ t = same_numbered (tablet_numbered p.tablet ts') made.is t made.is_numbered listed.numbered in
      let was : names.tablet ≡ made.was = same_numbered (tablet_numbered p.tablet ts) names.tablet made.was names.numbered made.was_numbered in
      let files : names_of t ≡ with_name next (memory_of made.was) (names_of made.was) = ap names_of (sym is) ∙ made.made.names in
      let more = one_more next (memory_of made.was) (names_of made.was) in
      let count = ap (λ (ns : List ℕ). length ns) files in
      let fewer : length (names_of t) + 0 ≤ length (names_of names.tablet) + 1 =
      subst (λ (v : Tablet). length (names_of t) + 0 ≤ length (names_of v) + 1) (sym was) (omega arith) in
      let others = subst (λ (k : ℕ). AreOthers k places) (sym number) (not_numbered (length places) places table.numbered) in
      record {
        place = naming p.tablet (names_of t) p;
        holder = subst (λ (ps : List PlaceView). IsHolder row ps (naming p.tablet (names_of t) p)) (sym listed.such) (holder_listed p.tablet (names_of t) row places p holder);
        tablet = t;
        numbered = ap (λ (k : ℕ). tablet_numbered k ts') here ∙ listed.numbered;
        number = number ∙ ap (λ (k : ℕ). k + 1) (sym many);
        right = subst (λ (k : ℕ). HasTablet k room.table) (sym here) (cut_has_others row room.left p.tablet places room.table cut known);
        left = cut_has_left row room.left places room.table cut;
        cut = subst (λ (ps : List PlaceView). Cuts row room.left ps (with_files room.left (names_of t) (with_files (naming p.tablet (names_of t) p).tablet (names_of t) room.table))) (sym listed.such)
            (subst (λ (k : ℕ). Cuts row room.left (with_files p.tablet (names_of t) places) (with_files room.left (names_of t) (with_files k (names_of t) room.table))) (sym here)
            (cut_both row room.left (names_of t) p.tablet places room.table p refl holder others cut));
        names = record {
          left = for_names (length (names_of names.tablet) + 1) (length (names_of t) + 0) room.left_names fewer names.such.left;
          right = for_names (length (names_of names.tablet) + 1) (length (names_of t) + 0) room.right_names fewer names.such.right;
        };
        space = subst (λ (k : ℕ). IsEmptyFor (k + 1) room.tablets) (sym many) tablets;
      }

-- the room for a move after the minor compaction
pub open_flushed : (room : OpenRoom) (next n : ℕ) (ts ts' : List Tablet) → Numbered (HasOpenRoom room 1) n ts → Remakes (IsFlushed next) n ts ts' → Remakes (λ t u. range_of u ≡ range_of t) n ts ts' → Numbered (HasOpenRoom room 0) n ts'
open_flushed room next n ts ts' for made ranges =
    let was = same_numbered (tablet_numbered n ts) for.tablet made.was for.numbered made.was_numbered in
    let before = same_numbered (tablet_numbered n ts) ranges.was for.tablet ranges.was_numbered for.numbered in
    let after = same_numbered (tablet_numbered n ts') made.is ranges.is made.is_numbered ranges.is_numbered in
    let more = one_more next (memory_of made.was) (names_of made.was) in
    let count = ap (λ (ns : List ℕ). length ns) (ap names_of (sym after) ∙ made.made.names) in
    let fewer : length (names_of ranges.is) + 0 ≤ length (names_of for.tablet) + 1 =
    subst (λ (v : Tablet). length (names_of ranges.is) + 0 ≤ length (names_of v) + 1) (sym was) (omega arith) in
    record {
      tablet = ranges.is;
      numbered = ranges.is_numbered;
      such = record {
        range = for.such.range ∙ ap range_of (sym before) ∙ sym ranges.made;
        names = for_names (length (names_of for.tablet) + 1) (length (names_of ranges.is) + 0) room.names fewer for.such.names;
      };
    }

-- the room fits the tablet at an index
pub record IsReady (row : List ℕ) (room : CutRoom) (places : List PlaceView) (p : PlaceView) (t : Tablet) : Type 0 where
  pub right : HasTablet p.tablet room.table
  pub cut : Cuts row room.left places (with_files room.left (names_of t) (with_files p.tablet (names_of t) room.table))
  pub names : HasNameRoom room 0 t

pub ready : (row : List ℕ) (room : CutRoom) (places : List PlaceView) (ts : List Tablet) (p : PlaceView) (i : ℕ) (t : Tablet) → IsHolder row places p → p.tablet ≡ i + 1 → slice_get ts i ≡ Some t → IsRoomToCut row room places ts → IsReady row room places p t
ready row room places ts p i t holder number there for =
    let place = one_holder row places for.place p for.holder holder in
    let here = ap (λ (q : PlaceView). tablet_numbered q.tablet ts) (sym place) ∙ for.numbered in
    let tablet : for.tablet ≡ t = same_numbered (tablet_numbered p.tablet ts) for.tablet t here (numbered_at ts p.tablet i t number there) in
    subst (IsReady row room places p) tablet (subst (λ (q : PlaceView). IsReady row room places q for.tablet) place (record { right = for.right; cut = for.cut; names = for.names }))

-- ---- lists with reserved room

-- a successful append to an empty list
pub appended : {A E X : Type 0} (r : Result A E) (x : A) (old more new : List X) → new ≡ cond (is_ok r) (old ++ more) old → r ≡ Ok x → old ≡ [] → new ≡ more
appended (Ok y) x old more new items is none = items ∙ ap (λ (xs : List _). xs ++ more) none
appended (Err e) x old more new items is none = cc
