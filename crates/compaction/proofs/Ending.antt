-- If a merge comes to its end, its sources do.
use Rattle.std.proofs.Common.{◌≡◌, ℕ, inl, inr, true, false, List, [], ◌∷◌, map, refl, sym, ap, subst, ◌∙◌}
use Rattle.std.specs.Prelude.{Option, Some, None, Bool, IfSome, IsSome, IsSomeAnd, is_some}
use Rattle.std.specs.List.{AllByRecursion, AllZip}
use Rattle.cell_key.specs.Entries.{Entry}
use Rattle.sorted_file.specs.Source.{ComesToEnd, ends, goes_on}
use Rattle.compaction.specs.Order.{IsReady}
use Rattle.compaction.specs.MergeLaw.{none_at}
use Rattle.compaction.specs.OrderLaw.{not_both}
use Rattle.compaction.specs.Merging.{first_lent, goes_past, stays_there, GoesPast, MovesPast, MergeSteps}
use Rattle.compaction.specs.Writing.{is_written, is_written_lent, StepsOn, steps_once, steps_past}

some_is : (o : Option Entry) (e : Entry) → o ≡ Some e → IsSome o
some_is o e is = subst (λ (o : Option Entry). IsSome o) (sym is) refl

-- whether a source's current entry is written
pub written_if : (now keep : Bool) (o : Option Entry) → now ≡ keep → true ≡ is_written_lent now o → IfSome o (λ e. is_written keep e ≡ true)
written_if now keep None k h = tt
written_if now keep (Some e) k h = ap (λ (b : Bool). is_written b e) (sym k) ∙ sym h

pub left_if : (now keep : Bool) (o : Option Entry) → now ≡ keep → is_some o ≡ true → false ≡ is_written_lent now o → IsSomeAnd o (λ e. is_written keep e ≡ false)
left_if now keep None k some h = cc
left_if now keep (Some e) k some h = ap (λ (b : Bool). is_written b e) (sym k) ∙ sym h

pub ended_if : (o : Option Entry) (P : Entry → Type 0) → is_some o ≡ false → IfSome o P
ended_if None P h = tt
ended_if (Some e) P h = cc

module _ {S : Type 0} (steps : S → S → Type 0) (lent : S → Option Entry) where
  -- a source comes to its end, or it has ended already if the merge has a current entry and the source has none
  abbrev Ends : Option Entry → S → Type 0
  Ends None s = ComesToEnd steps lent s
  Ends (Some e) s = IsSome (lent s) → ComesToEnd steps lent s

  last_one : (at : Option Entry) (s t : S) → MovesPast steps lent at s t → lent t ≡ None → Ends at s
  last_one None s t step none = ends step none
  last_one (Some e) s t (goes_past tied step) none = λ _. ends step none
  last_one (Some e) s t (stays_there apart same) none = λ some. absurd (not_both (lent s) some (ap lent (sym same) ∙ none))

  on_to : (s t : S) (o : Option Entry) → lent t ≡ o → steps s t → (IsSome (lent t) → ComesToEnd steps lent t) → ComesToEnd steps lent s
  on_to s t None none step h = ends step none
  on_to s t (Some f) is step h = let some = some_is (lent t) f is in goes_on step some (h some)

  next_one : (at : Option Entry) (s t : S) → MovesPast steps lent at s t → (IsSome (lent t) → ComesToEnd steps lent t) → Ends at s
  next_one None s t step h = on_to s t (lent t) refl step h
  next_one (Some e) s t (goes_past tied step) h = λ _. on_to s t (lent t) refl step h
  next_one (Some e) s t (stays_there apart same) h = λ some. subst (ComesToEnd steps lent) same (h (subst (λ (u : S). IsSome (lent u)) (sym same) some))

  last_all : (at : Option Entry) (xs ys : List S) → AllZip (MovesPast steps lent at) xs ys → AllByRecursion (λ s. lent s ≡ None) ys → AllByRecursion (Ends at) xs
  last_all at [] ys moves none = tt
  last_all at (x ∷ xs) [] moves none = absurd moves
  last_all at (x ∷ xs) (y ∷ ys) moves none = (last_one at x y moves.0 none.0, last_all at xs ys moves.1 none.1)

  next_all : (at : Option Entry) (xs ys : List S) → AllZip (MovesPast steps lent at) xs ys → AllByRecursion (λ t. IsSome (lent t) → ComesToEnd steps lent t) ys → AllByRecursion (Ends at) xs
  next_all at [] ys moves h = tt
  next_all at (x ∷ xs) [] moves h = absurd moves
  next_all at (x ∷ xs) (y ∷ ys) moves h = (next_one at x y moves.0 h.0, next_all at xs ys moves.1 h.1)

  at_entry : (o : Option Entry) (ys : List S) → IsSome o → AllByRecursion (Ends o) ys → AllByRecursion (λ t. IsSome (lent t) → ComesToEnd steps lent t) ys
  at_entry None ys some h = absurd (not_both None some refl)
  at_entry (Some e) ys some h = h

  -- the sources of a merge M, and the order of their places
  module _ {M : Type 0} (sources : M → List S) (order : M → List ℕ) where
    abbrev pub OrderedSteps : M → M → Type 0
    OrderedSteps a b = IsReady (map lent (sources a)) (order a) → MergeSteps steps lent (sources a) (order a) (sources b) (order b)

    all_end : (m : M) → ComesToEnd OrderedSteps (λ a. first_lent lent (sources a) (order a)) m → IsReady (map lent (sources m)) (order m) → AllByRecursion (Ends (first_lent lent (sources m) (order m))) (sources m)
    all_end m (ends {t = b} step none) ready =
        let s = step ready in
        last_all (first_lent lent (sources m) (order m)) (sources m) (sources b) s.past (none_at lent (λ _. []) (λ _. Unit {0}) (sources b) (order b) s.ordered none)
    all_end m (goes_on {t = b} step some h) ready =
        let s = step ready in
        next_all (first_lent lent (sources m) (order m)) (sources m) (sources b) s.past (at_entry (first_lent lent (sources b) (order b)) (sources b) some (all_end b h (inr s.ordered)))

    -- if a merge with an empty order comes to its end, so do its sources
    pub merge_ends : (m : M) → order m ≡ [] → ComesToEnd OrderedSteps (λ a. first_lent lent (sources a) (order a)) m → AllByRecursion (ComesToEnd steps lent) (sources m)
    merge_ends m none h = subst (λ (order : List ℕ). AllByRecursion (Ends (first_lent lent (sources m) order)) (sources m)) none (all_end m h (inl none))

  -- a source without its erasures
  some_and : (o : Option Entry) (P : Entry → Type 0) → IsSomeAnd o P → IsSome o
  some_and None P h = absurd h
  some_and (Some e) P h = refl

  past_end : (keep : Bool) (s t : S) → StepsOn keep steps lent s t → lent t ≡ None → ComesToEnd steps lent s
  past_end keep s t (steps_once step written) none = ends step none
  past_end keep s t (steps_past step out more) none = goes_on step (some_and (lent _) _ out) (past_end keep _ t more none)

  past_on : (keep : Bool) (s t : S) → StepsOn keep steps lent s t → IsSome (lent t) → ComesToEnd steps lent t → ComesToEnd steps lent s
  past_on keep s t (steps_once step written) some h = goes_on step some h
  past_on keep s t (steps_past step out more) some h = goes_on step (some_and (lent _) _ out) (past_on keep _ t more some h)

  -- steps on from the one source are steps on from the other
  abbrev pub GoesOnFrom : Bool → S → S → Type 0
  GoesOnFrom keep now start = (s : S) → StepsOn keep steps lent now s → StepsOn keep steps lent start s

  pub values_end : {V : Type 0} (source : V → S) (keeps : V → Bool) (v : V) → ComesToEnd (λ a b. (keeps b ≡ keeps a) × StepsOn (keeps a) steps lent (source a) (source b)) (λ a. lent (source a)) v → ComesToEnd steps lent (source v)
  values_end source keeps v (ends {t = w} step none) = past_end (keeps v) (source v) (source w) step.1 none
  values_end source keeps v (goes_on {t = w} step some h) = past_on (keeps v) (source v) (source w) step.1 some (values_end source keeps w h)

  -- the steps of a merge's sources, by its current entry
  pub past_none : (o : Option Entry) (xs ys : List S) → false ≡ is_some o → AllZip steps xs ys → AllZip (MovesPast steps lent o) xs ys
  past_none None xs ys e h = h
  past_none (Some e) xs ys p h = cc

  pub past_some : (o : Option Entry) (xs ys : List S) → true ≡ is_some o → AllZip (GoesPast steps lent o) xs ys → AllZip (MovesPast steps lent o) xs ys
  past_some None xs ys e h = cc
  past_some (Some e) xs ys p h = h
