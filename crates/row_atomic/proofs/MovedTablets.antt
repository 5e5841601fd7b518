-- Effects on the cluster of reopening a tablet's files.
use Rattle.std.proofs.Common.{◌≡◌, ◌≢◌, ◌<◌, IsTrue, ℕ, zero, suc, Bool, true, false, nat_eq, List, [], ◌∷◌, set, length, get_or, Option, Some, None, IfSome, slice_get, refl, sym, ap, ◌∙◌, subst, arith}
use Rattle.std.specs.List.{AllByRecursion, Contains}
use borrow.Author.Tests.{eqb-true, eqb-false}
use Rattle.file_store.specs.Store.{Contents}
use Rattle.sorted_file.specs.File.{HasFile}
use Rattle.tablet.specs.Views.{Holds, IsBelow, cells_at, memory_of, names_of, range_of}
use Rattle.tablet.specs.Laws.{FilesAreThere, SameCells}
use Rattle.tablet.specs.declared.tablet.Tablet.{Tablet}
use Rattle.metadata_table.specs.Places.{PlaceView}
use Rattle.metadata_table.specs.Table.{HasTablet, IsTable, moved, naming, with_files}
use Rattle.row_atomic.specs.Changes.{IsOn, Numbered}
use Rattle.row_atomic.proofs.FileNames.{moved_files}
use Rattle.row_atomic.proofs.ChangedTablets.{contained}
use Rattle.row_atomic.proofs.Numbers.{Differ, differ_of}
use Rattle.row_atomic.proofs.SplitClusters.{same_tablet}
use Rattle.row_atomic.specs.Clusters.{InOrder, IsMatched, cells_in, joined}
use Rattle.row_atomic.proofs.PlacedTablets.{placed_moved}
use Rattle.row_atomic.proofs.Shares.{each_at, each_set, map_set}

-- a file that can't be opened belongs to no tablet in order
pub not_there : FilesAreThere → (o : Option Contents) (names : List ℕ) (t : Tablet) → names ≡ names_of t → IfSome o (λ m. ¬ AllByRecursion (HasFile m) names) → IfSome o (λ m. ¬ Holds m t)
not_there law None names t e h = tt
not_there law (Some m) names t e h = λ holds. h (subst (λ (ns : List ℕ). AllByRecursion (HasFile m) ns) (sym e) (law m t holds))

each_same : {A B : Type 0} (f : A → B) (xs : List A) → AllByRecursion (λ x. f x ≡ f x) xs
each_same f [] = tt
each_same f (x ∷ xs) = (refl, each_same f xs)

module _ (law : SameCells) (ts : List Tablet) (i : ℕ) (t u : Tablet) (there : slice_get ts i ≡ Some t) (range : range_of u ≡ range_of t) (names : names_of u ≡ names_of t)
    (memory : memory_of t ≡ []) (empty : memory_of u ≡ []) where
  opened : (m : Contents) (next : ℕ) → Holds m u → InOrder (Some m) next ts → AllByRecursion (Holds m) ts → InOrder (Some m) next (set ts i u) × (cells_in (Some m) (set ts i u) ≡ cells_in (Some m) ts)
  opened m next open_u order holds = (
    record {
      contents = m;
      on_disk = refl;
      each_open = each_set (Holds m) ts i u holds open_u;
      each_below = each_set (IsBelow next) ts i u order.each_below (subst (λ (ns : List ℕ). AllByRecursion (λ name. name < next) ns) (sym names) (each_at (IsBelow next) ts order.each_below i t there));
    },
    ap joined (map_set (cells_at m) (cells_at m) ts i t u there (each_same (cells_at m) ts) (law m u t open_u (each_at (Holds m) ts holds i t there) range (empty ∙ sym memory) names)),
  )

  pub opened_keeps : (old new : Option Contents) (next : ℕ) → new ≡ old → IfSome old (λ m. Holds m u) → InOrder old next ts → InOrder new next (set ts i u) × (cells_in new (set ts i u) ≡ cells_in old ts)
  opened_keeps None new next e open_u order = absurd (not_told order.contents order.on_disk)
    where
      not_told : (m : Contents) → None ≡ Some m → ⊥
      not_told m e = cc
  opened_keeps (Some m) new next e open_u order =
      subst (λ (o : Option Contents). InOrder o next (set ts i u) × (cells_in o (set ts i u) ≡ cells_in (Some m) ts)) (sym e)
      (opened m next open_u order (subst (λ (o : Option Contents). IfSome o (λ k. AllByRecursion (Holds k) ts)) (sym order.on_disk) order.each_open))

-- ---- places on other servers

length_moved : (n to : ℕ) (ps : List PlaceView) → length (moved n to ps) ≡ length ps
length_moved n to [] = refl
length_moved n to (p ∷ ps) = ap suc (length_moved n to ps)

pub matched_moved : (limit next n to : ℕ) (places places' : List PlaceView) (ts : List Tablet) → places' ≡ moved n to places → IsMatched limit next places ts → IsMatched limit next places' ts
matched_moved limit next n to places places' ts e matched =
    subst (λ (ps : List PlaceView). IsMatched limit next ps ts) (sym e)
    (record {
      limit = matched.limit;
      named_from = matched.named_from;
      named_to = matched.named_to;
      placed = placed_moved ts n to None places matched.placed;
      as_many = matched.as_many ∙ sym (length_moved n to places);
      files = moved_files next n to places matched.files;
    })

-- a tablet has one place
one_at : (ps : List PlaceView) (i j : ℕ) (p q : PlaceView) → Differ ps → i < length ps → get_or ps i p ≡ p → j < length ps → get_or ps j q ≡ q → p.tablet ≡ q.tablet → p ≡ q
one_at [] i j p q differ below e below' f same = absurd (omega arith)
one_at (x ∷ xs) zero zero p q differ below e below' f same = sym e ∙ f
one_at (x ∷ xs) zero (suc j) p q differ below e below' f same =
    absurd (contained (λ r. r.tablet ≢ x.tablet) xs q differ.0 (j, omega arith, f) (sym same ∙ ap (λ (r : PlaceView). r.tablet) (sym e)))
one_at (x ∷ xs) (suc i) zero p q differ below e below' f same =
    absurd (contained (λ r. r.tablet ≢ x.tablet) xs p differ.0 (i, omega arith, e) (same ∙ ap (λ (r : PlaceView). r.tablet) (sym f)))
one_at (x ∷ xs) (suc i) (suc j) p q differ below e below' f same = one_at xs i j p q differ.1 (omega arith) e (omega arith) f same

elsewhere : (ps : List PlaceView) (p : PlaceView) (n server : ℕ) → IsTable ps → Contains ps p → p.tablet ≡ n → server ≢ p.server → ¬ IsOn n server ps
elsewhere ps p n server table there number other on =
    let same = one_at ps there.0 on.1.0 p on.0 (differ_of ps table.distinct) there.1 there.2 on.1.1 on.1.2 (number ∙ sym on.2) in
    other (sym on.3 ∙ ap (λ (q : PlaceView). q.server) (sym same))

-- it is on its own server only
pub on_same : (ps : List PlaceView) (p : PlaceView) (n server : ℕ) → IsTable ps → Contains ps p → p.tablet ≡ n → (b : Bool) → nat_eq server p.server ≡ b → (IsTrue b → IsOn n server ps) × (IsOn n server ps → IsTrue b)
on_same ps p n server table there number true e = ((λ yes. (p, there, number, sym (eqb-true server p.server e))), (λ on. search))
on_same ps p n server table there number false e = ((λ no. cc), (λ on. absurd (elsewhere ps p n server table there number (eqb-false server p.server e) on)))

listed_at : (n : ℕ) (names : List ℕ) (ps : List PlaceView) (i : ℕ) (p : PlaceView) → i < length ps → get_or ps i p ≡ p → (i < length (with_files n names ps)) × (get_or (with_files n names ps) i (naming n names p) ≡ naming n names p)
listed_at n names [] i p below e = absurd (omega arith)
listed_at n names (x ∷ xs) zero p below e = (omega arith, ap (naming n names) e)
listed_at n names (x ∷ xs) (suc i) p below e =
    let rest = listed_at n names xs i p (omega arith) e in
    let lt = rest.0 in
    (omega arith, rest.1)

pub known_after : (n : ℕ) (places places' : List PlaceView) (ts' : List Tablet) → Numbered (λ t. places' ≡ with_files n (names_of t) places) n ts' → HasTablet n places → HasTablet n places'
known_after n places places' ts' listed has =
    let names = names_of listed.tablet in
    let at = listed_at n names places has.1.0 has.0 has.1.1 has.1.2 in
    subst (HasTablet n) (sym listed.such) (naming n names has.0, (has.1.0, at.0, at.1), same_tablet n names has.0 ∙ has.2)
