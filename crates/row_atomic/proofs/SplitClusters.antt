-- The cluster after a split.
use Rattle.std.proofs.Common.{◌≡◌, ◌≤◌, ◌<◌, ◌+◌, ◌^◌, inl, inr, ℕ, zero, suc, Bool, true, false, cond, nat_eq, List, [], ◌∷◌, ◌++◌, map, set, length, get_or, Option, Some, None, IfSome, IsSomeAnd, IsTrue, slice_get, refl, sym, ap, ◌∙◌, subst, arith}
use Rattle.std.proofs.lemmas.Option.{same_Some}
use Rattle.std.proofs.lemmas.List.{length-set}
use Rattle.std.specs.List.{AllByRecursion, Contains}
use Rattle.file_store.specs.Store.{Contents}
use Rattle.metadata_table.specs.Places.{EndsBefore, PlaceView}
use Rattle.metadata_table.specs.Table.{BarsSplit, Cuts, HasTablet, IsHolder, IsTable, naming, with_files}
use Rattle.tablet.specs.Ranges.{has_row}
use Rattle.tablet.specs.Views.{AreParts, Holds, IsBelow, Keeps, UsesName, cells_at, memory_of, names_of, range_of}
use Rattle.tablet.specs.Laws.{OthersStay, StaysInRange}
use Rattle.tablet.specs.declared.tablet.Tablet.{Tablet}
use Rattle.row_atomic.specs.Clusters.{ArePlaced, InOrder, IsMatched, cells_in}
use Rattle.row_atomic.specs.Changes.{IsEmptied, IsFlushed, Numbered, OfHolder, Remakes}
use Rattle.rows.proofs.PushedLists.{each_push}
use Rattle.row_atomic.proofs.FileNames.{cut_files}
use Rattle.row_atomic.proofs.ChangedTablets.{matched_next, numbered_at, stays}
use Rattle.row_atomic.proofs.CutTablets.{cut_placed}
use Rattle.row_atomic.proofs.Numbers.{differ_of}
use Rattle.row_atomic.proofs.Owners.{holder_owns}
use Rattle.row_atomic.proofs.Parts.{parted}
use Rattle.row_atomic.proofs.Shares.{each_at, each_set}

contains_part : (pre : List PlaceView) (p : PlaceView) (post : List PlaceView) → Contains (pre ++ p ∷ post) p
contains_part [] p post = (0, omega arith, refl)
contains_part (q ∷ pre) p post =
    let rest = contains_part pre p post in
    let below = rest.1 in
    (suc rest.0, omega arith, rest.2)

-- the place that holds a row belongs to a tablet
pub holder_known : (row : List ℕ) (places : List PlaceView) (p : PlaceView) → IsHolder row places p → HasTablet p.tablet places
holder_known row places p holder = (p, subst (λ (ps : List PlaceView). Contains ps p) (sym holder.parts) (contains_part holder.before p holder.after), refl)

pub emptied_at : (ts : List Tablet) (n i : ℕ) (t : Tablet) → n ≡ i + 1 → slice_get ts i ≡ Some t → Numbered IsEmptied n ts → memory_of t ≡ []
emptied_at ts n i t e there emptied = subst IsEmptied (same_Some emptied.tablet t (sym emptied.numbered ∙ numbered_at ts n i t e there)) emptied.such

pub stays_over : (ts xs : List Tablet) → xs ≡ ts → (i : ℕ) (t u : Tablet) → slice_get xs i ≡ Some t → OthersStay → (old new : Option Contents) (before after : ℕ) → UsesName old before new after → Keeps old before t new after u → InOrder old before ts
    → InOrder new after (set xs i u) × (cells_in new (set xs i u) ≡ cells_in old ts)
stays_over ts xs e i t u there law old new before after uses keeps order =
    let kept = stays xs i t u there law old new before after uses keeps (subst (λ (ys : List Tablet). InOrder old before ys) (sym e) order) in
    (kept.0, kept.1 ∙ ap (cells_in old) e)

-- ---- the parts

length_push : {A : Type 0} (xs : List A) (x : A) → length (xs ++ x ∷ []) ≡ suc (length xs)
length_push [] x = refl
length_push (y ∷ xs) x = ap suc (length_push xs x)

length_cut : (row : List ℕ) (n : ℕ) (ps ps' : List PlaceView) → Cuts row n ps ps' → length ps' ≡ suc (length ps)
length_cut row n ps ps' (Cuts.cuts_last none) = refl
length_cut row n ps ps' (Cuts.cuts is less) = refl
length_cut row n (p ∷ ps) (q ∷ ps') (Cuts.cuts_later before rest) = ap suc (length_cut row n ps ps' rest)

module _ (places : List PlaceView) (ts : List Tablet) (i : ℕ) (t left right : Tablet) (row : List ℕ) (p : PlaceView)
    (table : IsTable places) (there : slice_get ts i ≡ Some t) (holder : IsHolder row places p) (number : p.tablet ≡ i + 1)
    (left_range : range_of left ≡ record { after = (range_of t).after; end = Some row }) (right_range : range_of right ≡ record { after = Some row; end = (range_of t).end }) where
  pub matched_cut : (limit : ℕ) (old new : Option Contents) (before after : ℕ) (places' : List PlaceView) (n : ℕ) → UsesName old before new after → (before ≤ 2 ^ 63 → after ≤ 2 ^ 63) → names_of left ≡ names_of t → names_of right ≡ names_of t
      → n ≡ length places + 1 → Cuts row n places places' → IsMatched limit before places ts → IsMatched limit after places' (set ts i right ++ left ∷ [])
  matched_cut limit old new before after places' n uses to left_names right_names is cut matched =
      let next = matched_next limit old new before after places ts uses to matched in
      let as_many = matched.as_many in
      let count : n ≡ suc (length ts) = omega arith in
      let index : p.tablet ≡ suc i = omega arith in
      record {
        limit = next.limit;
        named_from = next.named_from;
        named_to = next.named_to;
        placed = cut_placed ts i t left right row there left_range right_range left_names right_names None p places places' index (differ_of places table.distinct) holder matched.placed (subst (λ (k : ℕ). Cuts row k places places') count cut);
        as_many = length_push (set ts i right) left ∙ ap suc (length-set ts i right ∙ matched.as_many) ∙ sym (length_cut row n places places' cut);
        files = cut_files after row n places places' cut next.files;
      }

  pub parts_keep : StaysInRange → OthersStay → (old new : Option Contents) (before after : ℕ) → ArePlaced ts None places → length ts ≡ length places → UsesName old before new after
      → IfSome old (λ m. Holds m t → IsBelow before t → IsTrue (has_row (range_of t) row) → IsSomeAnd new (λ n. AreParts m t n after left right))
      → InOrder old before ts → InOrder new after (set ts i right ++ left ∷ []) × (cells_in new (set ts i right ++ left ∷ []) ≡ cells_in old ts)
  parts_keep law others None new before after placed as_many uses parts order = absurd (not_told order.contents order.on_disk)
    where
      not_told : (m : Contents) → None ≡ Some m → ⊥
      not_told m e = cc
  parts_keep law others (Some m) new before after placed as_many uses parts order = go new uses (parts (each_at (Holds m) ts holds i t there) (each_at (IsBelow before) ts order.each_below i t there) has)
    where
      holds : AllByRecursion (Holds m) ts
      holds = subst (λ (o : Option Contents). IfSome o (λ k. AllByRecursion (Holds k) ts)) (sym order.on_disk) order.each_open

      index : p.tablet ≡ suc i
      index = omega arith

      has : has_row (range_of t) row ≡ true
      has = (holder_owns ts places row p t table placed as_many holder (numbered_at ts p.tablet i t number there)).has

      go : (new : Option Contents) → UsesName (Some m) before new after → IsSomeAnd new (λ n. AreParts m t n after left right)
          → InOrder new after (set ts i right ++ left ∷ []) × (cells_in new (set ts i right ++ left ∷ []) ≡ cells_in (Some m) ts)
      go None uses parts = absurd parts
      go (Some n) uses parts = (
        record {
          contents = n;
          on_disk = refl;
          each_open = each_push (Holds n) (set ts i right) left (each_set (Holds n) ts i right (stay_open ts holds order.each_below) parts.right_holds) parts.left_holds;
          each_below = each_push (IsBelow after) (set ts i right) left (each_set (IsBelow after) ts i right (stay_below ts holds order.each_below) parts.right_below) parts.left_below;
        },
        parted law m n places ts i t left right row table placed as_many holds there (stay_same ts holds order.each_below) left_range right_range parts.left_cells parts.right_cells,
      )
        where
          stay_open : (xs : List Tablet) → AllByRecursion (Holds m) xs → AllByRecursion (IsBelow before) xs → AllByRecursion (Holds n) xs
          stay_open [] hs bs = tt
          stay_open (x ∷ xs) hs bs = ((others m n before after x uses hs.0 bs.0).0, stay_open xs hs.1 bs.1)

          stay_below : (xs : List Tablet) → AllByRecursion (Holds m) xs → AllByRecursion (IsBelow before) xs → AllByRecursion (IsBelow after) xs
          stay_below [] hs bs = tt
          stay_below (x ∷ xs) hs bs = ((others m n before after x uses hs.0 bs.0).1, stay_below xs hs.1 bs.1)

          stay_same : (xs : List Tablet) → AllByRecursion (Holds m) xs → AllByRecursion (IsBelow before) xs → AllByRecursion (λ x. cells_at n x ≡ cells_at m x) xs
          stay_same [] hs bs = tt
          stay_same (x ∷ xs) hs bs = ((others m n before after x uses hs.0 bs.0).2, stay_same xs hs.1 bs.1)

-- ---- one place holds a row

heads : (p q : PlaceView) (ps qs : List PlaceView) → (p ∷ ps) ≡ (q ∷ qs) → p ≡ q
heads p q ps qs e = cc

tails : (p q : PlaceView) (ps qs : List PlaceView) → (p ∷ ps) ≡ (q ∷ qs) → ps ≡ qs
tails p q ps qs e = cc

module _ (row : List ℕ) where
  same_place : (pre : List PlaceView) (p : PlaceView) (post pre' : List PlaceView) (q : PlaceView) (post' : List PlaceView) → (pre ++ p ∷ post) ≡ (pre' ++ q ∷ post')
      → AllByRecursion (λ x. EndsBefore x.end row) pre → AllByRecursion (λ x. EndsBefore x.end row) pre' → ¬ EndsBefore p.end row → ¬ EndsBefore q.end row → p ≡ q
  same_place [] p post [] q post' e past past' within within' = heads p q post post' e
  same_place [] p post (x ∷ pre') q post' e past past' within within' = absurd (within (subst (λ (y : PlaceView). EndsBefore y.end row) (sym (heads p x post (pre' ++ q ∷ post') e)) past'.0))
  same_place (x ∷ pre) p post [] q post' e past past' within within' = absurd (within' (subst (λ (y : PlaceView). EndsBefore y.end row) (heads x q (pre ++ p ∷ post) post' e) past.0))
  same_place (x ∷ pre) p post (y ∷ pre') q post' e past past' within within' = same_place pre p post pre' q post' (tails x y (pre ++ p ∷ post) (pre' ++ q ∷ post') e) past.1 past'.1 within within'

  pub one_holder : (ps : List PlaceView) (p q : PlaceView) → IsHolder row ps p → IsHolder row ps q → p ≡ q
  one_holder ps p q h k = same_place h.before p h.after k.before q k.after (sym h.parts ∙ k.parts) h.past k.past h.within k.within

-- the memtable of the tablet that holds the row is empty
pub holder_emptied : (row : List ℕ) (places : List PlaceView) (ts : List Tablet) (p : PlaceView) (i : ℕ) (t : Tablet) → IsHolder row places p → p.tablet ≡ i + 1 → slice_get ts i ≡ Some t → OfHolder IsEmptied row places ts → memory_of t ≡ []
holder_emptied row places ts p i t holder e there emptied =
    let same = one_holder row places emptied.place p emptied.holder holder in
    emptied_at ts p.tablet i t e there (subst (λ (q : PlaceView). Numbered IsEmptied q.tablet ts) same emptied.tablet)

-- ---- places with other files

module _ (n : ℕ) (names : List ℕ) where
  end_stays : (b : Bool) (p : PlaceView) → (cond b (record p { files = names }) p).end ≡ p.end
  end_stays true p = refl
  end_stays false p = refl

  tablet_stays : (b : Bool) (p : PlaceView) → (cond b (record p { files = names }) p).tablet ≡ p.tablet
  tablet_stays true p = refl
  tablet_stays false p = refl

  pub same_end : (p : PlaceView) → (naming n names p).end ≡ p.end
  same_end p = end_stays (nat_eq p.tablet n) p

  pub same_tablet : (p : PlaceView) → (naming n names p).tablet ≡ p.tablet
  same_tablet p = tablet_stays (nat_eq p.tablet n) p

  map_parts : (pre : List PlaceView) (p : PlaceView) (post : List PlaceView) → map (naming n names) (pre ++ p ∷ post) ≡ (map (naming n names) pre ++ naming n names p ∷ map (naming n names) post)
  map_parts [] p post = refl
  map_parts (q ∷ pre) p post = ap (λ qs. naming n names q ∷ qs) (map_parts pre p post)

  ends_stay : (row : List ℕ) (ps : List PlaceView) → AllByRecursion (λ q. EndsBefore q.end row) ps → AllByRecursion (λ q. EndsBefore q.end row) (map (naming n names) ps)
  ends_stay row [] all = tt
  ends_stay row (p ∷ ps) all = (subst (λ (e : Option (List ℕ)). EndsBefore e row) (sym (same_end p)) all.0, ends_stay row ps all.1)

  pub holder_listed : (row : List ℕ) (ps : List PlaceView) (p : PlaceView) → IsHolder row ps p → IsHolder row (with_files n names ps) (naming n names p)
  holder_listed row ps p h = record {
    before = map (naming n names) h.before;
    after = map (naming n names) h.after;
    parts = ap (map (naming n names)) h.parts ∙ map_parts h.before p h.after;
    past = ends_stay row h.before h.past;
    within = λ ends. h.within (subst (λ (e : Option (List ℕ)). EndsBefore e row) (same_end p) ends);
  }

  -- the place from which this one was made
  record WasEnd (ps : List PlaceView) (end : Option (List ℕ)) : Type 0 where
    place : PlaceView
    there : Contains ps place
    same : place.end ≡ end

  was_end : (ps : List PlaceView) (i : ℕ) (q : PlaceView) → i < length (map (naming n names) ps) → get_or (map (naming n names) ps) i q ≡ q → WasEnd ps q.end
  was_end [] i q below e = absurd (omega arith)
  was_end (p ∷ ps) zero q below e = record { place = p; there = (0, omega arith, refl); same = sym (same_end p) ∙ ap (λ (r : PlaceView). r.end) e }
  was_end (p ∷ ps) (suc i) q below e =
      let rest = was_end ps i q (omega arith) e in
      let there = rest.there.1 in
      record { place = rest.place; there = (suc rest.there.0, omega arith, rest.there.2); same = rest.same }

  pub length_listed : (ps : List PlaceView) → length (map (naming n names) ps) ≡ length ps
  length_listed [] = refl
  length_listed (p ∷ ps) = ap suc (length_listed ps)

  pub bars_before : (row : List ℕ) (ps : List PlaceView) → BarsSplit row (with_files n names ps) → BarsSplit row ps
  bars_before row ps (inl end) =
      let was = was_end ps end.1.0 end.0 end.1.1 end.1.2 in
      inl (was.place, was.there, was.same ∙ end.2)
  bars_before row ps (inr many) =
      let same = length_listed ps in
      inr (omega arith)

-- after a minor compaction of the holder
pub holder_flushed : (next : ℕ) (row : List ℕ) (places places' : List PlaceView) (ts ts' : List Tablet) (p : PlaceView) → IsHolder row places p → Numbered (λ t. places' ≡ with_files p.tablet (names_of t) places) p.tablet ts' → Remakes (IsFlushed next) p.tablet ts ts' → OfHolder IsEmptied row places' ts'
holder_flushed next row places places' ts ts' p holder listed made =
    let names = names_of listed.tablet in
    record {
      place = naming p.tablet names p;
      holder = subst (λ (ps : List PlaceView). IsHolder row ps (naming p.tablet names p)) (sym listed.such) (holder_listed p.tablet names row places p holder);
      tablet = subst (λ (k : ℕ). Numbered IsEmptied k ts') (sym (same_tablet p.tablet names p)) (record { tablet = made.is; numbered = made.is_numbered; such = made.made.memory });
    }

pub free_after : (row : List ℕ) (n : ℕ) (places places' : List PlaceView) (ts' : List Tablet) → Numbered (λ t. places' ≡ with_files n (names_of t) places) n ts' → ¬ BarsSplit row places → ¬ BarsSplit row places'
free_after row n places places' ts' listed free bars = free (bars_before n (names_of listed.tablet) row places (subst (BarsSplit row) listed.such bars))
