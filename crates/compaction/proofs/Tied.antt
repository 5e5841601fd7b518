-- The sources at the least key make a step, and the others are unchanged.
use Rattle.std.proofs.Common.{◌≡◌, ◌≤◌, ◌<◌, ◌+◌, ◌⊎◌, ℕ, zero, suc, Bool, true, false, T, List, [], ◌∷◌, ◌++◌, map, length, take, drop, get_or, set, refl, sym, ap, subst, ◌∙◌, arith, inl, inr}
use Rattle.std.proofs.lemmas.Grind.{common_steps}
use Rattle.std.proofs.lemmas.List.Elements.{Contains-append_left, Contains-get_or, Contains-push, Contains-push_cases}
use Rattle.std.proofs.lemmas.List.{get_or-set_other, get_or-set_same}
use Rattle.std.specs.Prelude.{Option, Some, None, IsSome, Contains, is_some}
use Rattle.std.specs.List.{AllByRecursion, AllZip}
use Rattle.std.specs.Ordering.{is_eq, is_le, nat_cmp, ordering_then}
use Rattle.std.specs.declared.cmp.Ordering.{Ordering}
use Rattle.std.specs.declared.cmp.Ordering.TheVariants.{Less, Equal, Greater}
use Rattle.cell_key.specs.Keys.{byte_cmp}
use Rattle.cell_key.specs.Entries.{Entry}
use Rattle.cell_key.proofs.EntryLists.{ties_itself, total}
use Rattle.cell_key.proofs.TextPlaces.{one_text}
use Rattle.compaction.specs.Least.{entry_at}
use Rattle.compaction.specs.Order.{InOrder, IsDistinct, IsOrdered, IsReady, first_entry, lent_cmp, place_cmp}
use Rattle.compaction.specs.OrderLaw.{at_index, not_both}
use Rattle.compaction.specs.Ties.{ties}
use Rattle.compaction.specs.Merging.{Advances, BreaksAmong, BreaksAt, GoesPast, HasMoved, HasStarted, HaveStarted, IsMoved, StepsTo, first_lent, lent_at, goes_past, stays_there}
use Rattle.compaction.specs.MergeLaw.{step_tie, step_same}

-- ---- the places that are tied

tie_self : (o : Option Entry) → IsSome o → ties o o ≡ true
tie_self None h = cc
tie_self (Some e) h = ties_itself e.0

pub tie_some : (a b : Option Entry) → ties a b ≡ true → IsSome b
tie_some None b t = cc
tie_some (Some e) None t = cc
tie_some (Some e) (Some f) t = refl

module _ (lents : List (Option Entry)) where
  abbrev AreTied : Option Entry → List ℕ → Type 0
  AreTied o places = AllByRecursion (λ place. ties o (entry_at lents place) ≡ true) places

  pub tie_first : (order : List ℕ) → IsSome (first_entry lents order) → AllByRecursion (λ place. ties (first_entry lents order) (entry_at lents place) ≡ true) (take 1 order)
  tie_first [] some = tt
  tie_first (place ∷ order) some = (tie_self (entry_at lents place) some, tt)

-- ---- which places are tied

-- a key that isn't tied to the first is above it, and so are all later ones
untied_less : (e : Entry) (o : Option Entry) (r : Ordering) → T (is_le (ordering_then (lent_cmp (Some e) o) r)) → ties (Some e) o ≡ false → lent_cmp (Some e) o ≡ Less
untied_less e None r h t = refl
untied_less e (Some f) r h t = by (byte_cmp e.0 f.0) h t
  where
    by : (c : Ordering) → T (is_le (ordering_then c r)) → is_eq c ≡ false → c ≡ Less
    by Less h t = refl
    by Equal h t = cc
    by Greater h t = absurd h

less_untied : (e : Entry) (o : Option Entry) → lent_cmp (Some e) o ≡ Less → ties (Some e) o ≡ false
less_untied e None h = refl
less_untied e (Some f) h = ap is_eq h

less_more : (e : Entry) (a b : Option Entry) (r : Ordering) → lent_cmp (Some e) a ≡ Less → T (is_le (ordering_then (lent_cmp a b) r)) → lent_cmp (Some e) b ≡ Less
less_more e a None r p q = refl
less_more e None (Some g) r p q = absurd q
less_more e (Some f) (Some g) r p q = by (byte_cmp f.0 g.0) refl q
  where
    by : (c : Ordering) → byte_cmp f.0 g.0 ≡ c → T (is_le (ordering_then c r)) → byte_cmp e.0 g.0 ≡ Less
    by Less is q = total.trans e.0 f.0 g.0 p is
    by Equal is q = subst (λ k. byte_cmp e.0 k ≡ Less) (one_text f.0 g.0 is) p
    by Greater is q = absurd q

module _ (lents : List (Option Entry)) (e : Entry) where
  -- behind a place that isn't tied, none is
  behind_all : (order : List ℕ) (k d : ℕ) (p : ℕ) → lent_cmp (Some e) (entry_at lents p) ≡ Less → AllByRecursion (λ later. T (is_le (place_cmp lents p later))) order → k < length order → ties (Some e) (entry_at lents (get_or order k d)) ≡ false
  behind_all order k d p less a l =
      less_untied e (entry_at lents (get_or order k d))
      (less_more e (entry_at lents p) (entry_at lents (get_or order k d)) (nat_cmp p (get_or order k d)) less (at_index (λ later. T (is_le (place_cmp lents p later))) order k d a l))

  from_there : (order : List ℕ) (n k d : ℕ) → InOrder lents order → n < length order → lent_cmp (Some e) (entry_at lents (get_or order n d)) ≡ Less → n ≤ k → k < length order → ties (Some e) (entry_at lents (get_or order k d)) ≡ false
  from_there [] n k d r ln less le l = absurd (omega (arith, l))
  from_there (p ∷ order) zero zero d r ln less le l = less_untied e (entry_at lents p) less
  from_there (p ∷ order) zero (suc k) d r ln less le l = behind_all order k d p less r.0 (omega (arith, l))
  from_there (p ∷ order) (suc n) zero d r ln less le l = absurd (omega (arith, le))
  from_there (p ∷ order) (suc n) (suc k) d r ln less le l = from_there order n k d r.1 (omega (arith, ln)) less (omega (arith, le)) (omega (arith, l))

-- tied places are among the first n
pub tied_front : (lents : List (Option Entry)) (order : List ℕ) (n : ℕ) → IsSome (first_entry lents order) → InOrder lents order → 1 ≤ n
    → ((d : ℕ) → n < length order → ties (first_entry lents order) (entry_at lents (get_or order n d)) ≡ false)
    → (place : ℕ) → Contains order place → ties (first_entry lents order) (entry_at lents place) ≡ true → Contains (take n order) place
tied_front lents [] n some r one last place in' t = cc
tied_front lents (p ∷ order) n some r one last place (k, within, is) t = by_side (side k n)
  where
    side : (k n : ℕ) → (k < n) ⊎ (n ≤ k)
    side k zero = inr (omega arith)
    side zero (suc n) = inl (omega arith)
    side (suc k) (suc n) = next (side k n)
      where
        next : (k < n) ⊎ (n ≤ k) → (suc k < suc n) ⊎ (suc n ≤ suc k)
        next (inl l) = inl (omega (arith, l))
        next (inr l) = inr (omega (arith, l))

    untied : (o : Option Entry) → entry_at lents p ≡ o → n ≤ k → ties (entry_at lents p) (entry_at lents (get_or (p ∷ order) k place)) ≡ false
    untied None o le = subst (λ q. ties q (entry_at lents (get_or (p ∷ order) k place)) ≡ false) (sym o) refl
    untied (Some e) o le =
        let ln : n < length (p ∷ order) = omega (arith, le, within) in
        let apart : ties (Some e) (entry_at lents (get_or (p ∷ order) n place)) ≡ false = subst (λ q. ties q (entry_at lents (get_or (p ∷ order) n place)) ≡ false) o (last place ln) in
        let before : T (is_le (ordering_then (lent_cmp (Some e) (entry_at lents (get_or (p ∷ order) n place))) (nat_cmp p (get_or (p ∷ order) n place)))) = subst (λ q. T (is_le (ordering_then (lent_cmp q (entry_at lents (get_or (p ∷ order) n place))) (nat_cmp p (get_or (p ∷ order) n place))))) o (above n one ln) in
        subst (λ q. ties q (entry_at lents (get_or (p ∷ order) k place)) ≡ false) (sym o)
        (from_there lents e (p ∷ order) n k place r ln (untied_less e (entry_at lents (get_or (p ∷ order) n place)) (nat_cmp p (get_or (p ∷ order) n place)) before apart) le within)
      where
        above : (n : ℕ) → 1 ≤ n → n < length (p ∷ order) → T (is_le (place_cmp lents p (get_or (p ∷ order) n place)))
        above zero one l = absurd (omega (arith, one))
        above (suc n) one l = at_index (λ later. T (is_le (place_cmp lents p later))) order n place r.0 (omega (arith, l))

    by_side : (k < n) ⊎ (n ≤ k) → Contains (take n (p ∷ order)) place
    by_side (inl l) = (k, grind (arith, common_steps), grind (arith, common_steps))
    by_side (inr le) = absurd (clash (sym (untied (entry_at lents p) refl le) ∙ subst (λ q. ties (entry_at lents p) (entry_at lents q) ≡ true) (sym is) t))
      where
        clash : false ≡ true → ⊥
        clash q = cc

-- and only tied ones are
pub front_tied : (P : ℕ → Type 0) (places : List ℕ) (place : ℕ) → AllByRecursion P places → Contains places place → P place
front_tied P places place a (k, within, is) = subst P is (at_index P places k place a within)

-- ---- the sources that moved

pub at_front : {S : Type 0} {moves : S → S → Type 0} {places : List ℕ} {xs ys : List S} → (p : ℕ) (s t : S) → HasMoved moves places xs ys
    → ¬ Contains places p → p < length ys → s ≡ get_or ys p s → moves s t → HasMoved moves (places ++ p ∷ []) xs (set ys p t)
at_front {S} {moves} {places} {xs} {ys} p s t h fresh within is step = record {
  moved = λ place d in' l. moved place d l (Contains-push_cases places p place in');
  stayed = λ place d out.
      get_or-set_other ys p place t d (λ e. out (subst (λ q. Contains (places ++ p ∷ []) q) (sym e) (Contains-push places p)))
      ∙ h.stayed place d (λ in'. out (Contains-append_left places (p ∷ []) place in'));
}
  where
    same : (d : S) → get_or ys p d ≡ s
    same d = grind (arith, common_steps, is, within)

    here : (d : S) → moves (get_or xs p d) (get_or (set ys p t) p d)
    here d = subst (λ u. moves u (get_or (set ys p t) p d)) (sym (same d) ∙ h.stayed p d fresh) (subst (moves s) (sym (get_or-set_same ys p t d within)) step)

    moved : (place : ℕ) (d : S) → place < length xs → Contains places place ⊎ (p ≡ place) → moves (get_or xs place d) (get_or (set ys p t) place d)
    moved place d l (inl in') =
        subst (moves (get_or xs place d)) (sym (get_or-set_other ys p place t d (λ e. fresh (subst (λ q. Contains places q) e in')))) (h.moved place d in' l)
    moved place d l (inr e) = subst (λ q. moves (get_or xs q d) (get_or (set ys p t) q d)) e (here d)

pub none_moved : {S : Type 0} (moves : S → S → Type 0) (xs : List S) → HasMoved moves [] xs xs
none_moved moves xs = record { moved = λ place d in' l. absurd (nowhere place in'); stayed = λ place d out. refl }
  where
    nowhere : (place : ℕ) → Contains {X = ℕ} [] place → ⊥
    nowhere place w = omega (arith, w.1)

-- a place beyond the sources moves none
pub past_all : {S : Type 0} {moves : S → S → Type 0} {places : List ℕ} {xs ys : List S} → (p : ℕ) → HasMoved moves places xs ys → length xs ≤ p → HasMoved moves (places ++ p ∷ []) xs ys
past_all {S} {moves} {places} {xs} {ys} p h long = record {
  moved = λ place d in' l. by place d l (Contains-push_cases places p place in');
  stayed = λ place d out. h.stayed place d (λ in'. out (Contains-append_left places (p ∷ []) place in'));
}
  where
    by : (place : ℕ) (d : S) → place < length xs → Contains places place ⊎ (p ≡ place) → moves (get_or xs place d) (get_or ys place d)
    by place d l (inl in') = h.moved place d in' l
    by place d l (inr e) = absurd (omega (arith, e, l, long))

-- the next of distinct places isn't among the earlier ones
pub not_yet : (places : List ℕ) (i d : ℕ) → IsDistinct places → i < length places → ¬ Contains (take i places) (get_or places i d)
not_yet places i d h l w =
    let lk : w.0 < i = grind (arith, common_steps, w.1) in
    h w.0 i d lk l (grind (arith, common_steps, w.2, lk, l))

pub zip_from : {S : Type 0} (R : S → S → Type 0) (xs ys : List S) → length ys ≡ length xs → ((i : ℕ) (d : S) → i < length xs → R (get_or xs i d) (get_or ys i d)) → AllZip R xs ys
zip_from R [] [] same h = tt
zip_from R [] (y ∷ ys) same h = absurd (omega (arith, same))
zip_from R (x ∷ xs) [] same h = absurd (omega (arith, same))
zip_from R (x ∷ xs) (y ∷ ys) same h = (h 0 x (omega arith), zip_from R xs ys (omega (arith, same)) (λ i d l. h (suc i) d (omega (arith, l))))

pub lent_get : {S : Type 0} (lent : S → Option Entry) (xs : List S) (i : ℕ) (d : S) → i < length xs → lent_at lent xs i ≡ lent (get_or xs i d)
lent_get lent [] i d l = absurd (omega (arith, l))
lent_get lent (x ∷ xs) zero d l = refl
lent_get lent (x ∷ xs) (suc i) d l = lent_get lent xs i d (omega (arith, l))

pub length_lents : {S : Type 0} (lent : S → Option Entry) (xs : List S) → length (map lent xs) ≡ length xs
length_lents lent [] = refl
length_lents lent (x ∷ xs) = ap suc (length_lents lent xs)

-- each source at the first key moved, and the others are unchanged
pub tied_moved : {S : Type 0} (moves : S → S → Type 0) (lent : S → Option Entry) (xs ys : List S) (order : List ℕ) (n : ℕ) → length ys ≡ length xs → IsSome (first_lent lent xs order) → IsOrdered (map lent xs) order → 1 ≤ n
    → AllByRecursion (λ place. ties (first_lent lent xs order) (lent_at lent xs place) ≡ true) (take n order)
    → ((d : ℕ) → n < length order → ties (first_lent lent xs order) (lent_at lent xs (get_or order n d)) ≡ false)
    → HasMoved moves (take n order) xs ys → AllZip (GoesPast moves lent (first_lent lent xs order)) xs ys
tied_moved {S} moves lent xs ys order n same some o one tied last h = zip_from (GoesPast moves lent (first_lent lent xs order)) xs ys same each
  where
    by : (i : ℕ) (d : S) → i < length xs → (b : Bool) → ties (first_lent lent xs order) (lent_at lent xs i) ≡ b → GoesPast moves lent (first_lent lent xs order) (get_or xs i d) (get_or ys i d)
    by i d l true t =
        let in' = tied_front (map lent xs) order n some o.sorted.rises one last i (o.sorted.whole i (tie_some (first_lent lent xs order) (lent_at lent xs i) t)) t in
        goes_past (ap (ties (first_lent lent xs order)) (sym (lent_get lent xs i d l)) ∙ t) (h.moved i d in' l)
    by i d l false t = stays_there (ap (ties (first_lent lent xs order)) (sym (lent_get lent xs i d l)) ∙ t) (h.stayed i d (λ in'. clash (sym t ∙ front_tied (λ place. ties (first_lent lent xs order) (lent_at lent xs place) ≡ true) (take n order) i tied in')))
      where
        clash : false ≡ true → ⊥
        clash q = cc

    each : (i : ℕ) (d : S) → i < length xs → GoesPast moves lent (first_lent lent xs order) (get_or xs i d) (get_or ys i d)
    each i d l = by i d l (ties (first_lent lent xs order) (lent_at lent xs i)) refl

-- a source that breaks off at a tied place is one to be advanced
pub tied_breaks : {S : Type 0} (breaks : S → Type 0) (lent : S → Option Entry) (xs : List S) (o : Option Entry) (places : List ℕ) → AllByRecursion (λ place. ties o (lent_at lent xs place) ≡ true) places → BreaksAt breaks places xs → BreaksAmong breaks (IsMoved lent o) xs
tied_breaks {S} breaks lent xs o places tied b = by xs (lent_at lent xs b.place) refl b.within
  where
    moved_of : (o : Option Entry) (x : S) → ties o (lent x) ≡ true → IsMoved lent o x
    moved_of None x h = tt
    moved_of (Some e) x h = h

    by : (zs : List S) (q : Option Entry) → lent_at lent xs b.place ≡ q → b.place < length xs → BreaksAmong breaks (IsMoved lent o) xs
    by zs q is l = with (first_of xs l)
      where
        first_of : (zs : List S) → b.place < length zs → S
        first_of [] l = absurd (omega (arith, l))
        first_of (z ∷ zs) l = z

        with : S → BreaksAmong breaks (IsMoved lent o) xs
        with d = record {
          source = get_or xs b.place d;
          among = Contains-get_or xs b.place d l;
          moves = moved_of o (get_or xs b.place d) (ap (ties o) (sym (lent_get lent xs b.place d l)) ∙ front_tied (λ place. ties o (lent_at lent xs place) ≡ true) places b.place tied b.among);
          here = b.here d;
        }

-- ---- the sources after the merge's step

module _ {S : Type 0} (steps : S → S → Type 0) (lent : S → Option Entry) (remaining : S → List Entry) (holds : S → Type 0) (at : Option Entry) where
  pub past_all_tied : (xs ys : List S) → AllZip (GoesPast (Advances steps lent remaining holds) lent at) xs ys → AllZip (GoesPast steps lent at) xs ys
  past_all_tied [] [] z = tt
  past_all_tied [] (y ∷ ys) z = absurd z
  past_all_tied (x ∷ xs) [] z = absurd z
  past_all_tied (x ∷ xs) (y ∷ ys) z = (one z.0, past_all_tied xs ys z.1)
    where
      one : GoesPast (Advances steps lent remaining holds) lent at x y → GoesPast steps lent at x y
      one (goes_past tied a) = goes_past tied a.step
      one (stays_there apart same) = stays_there apart same

  pub steps_all_tied : (xs ys : List S) → AllZip (GoesPast (Advances steps lent remaining holds) lent at) xs ys → AllByRecursion holds xs → AllByRecursion (HasStarted lent remaining) xs → AllZip (StepsTo lent remaining holds at) xs ys
  steps_all_tied [] [] z h st = tt
  steps_all_tied [] (y ∷ ys) z h st = absurd z
  steps_all_tied (x ∷ xs) [] z h st = absurd z
  steps_all_tied (x ∷ xs) (y ∷ ys) z h st = (one z.0, steps_all_tied xs ys z.1 h.1 st.1)
    where
      one : GoesPast (Advances steps lent remaining holds) lent at x y → StepsTo lent remaining holds at x y
      one (goes_past tied a) = step_tie lent remaining holds at x y tied (a.still h.0) (a.takes h.0)
      one (stays_there apart same) = subst (StepsTo lent remaining holds at x) (sym same) (step_same lent remaining holds at x apart h.0 st.0)

-- ---- the places after the step

pub first_take : (lents : List (Option Entry)) (order : List ℕ) (n : ℕ) → 1 ≤ n → first_entry lents (take n order) ≡ first_entry lents order
first_take lents order zero one = absurd (omega (arith, one))
first_take lents [] (suc n) one = refl
first_take lents (p ∷ order) (suc n) one = refl

pub distinct_take : (order : List ℕ) (n : ℕ) → IsDistinct order → IsDistinct (take n order)
distinct_take order n h i j d below within same = h i j d below (grind (arith, common_steps, within)) (grind (arith, common_steps, within, below, same))

same_lent : {S : Type 0} (lent : S → Option Entry) (xs ys : List S) (place : ℕ) → length ys ≡ length xs → ((d : S) → get_or ys place d ≡ get_or xs place d) → lent_at lent ys place ≡ lent_at lent xs place
same_lent lent [] [] place size h = refl
same_lent lent [] (y ∷ ys) place size h = absurd (omega (arith, size))
same_lent lent (x ∷ xs) [] place size h = absurd (omega (arith, size))
same_lent lent (x ∷ xs) (y ∷ ys) zero size h = ap lent (h x)
same_lent lent (x ∷ xs) (y ∷ ys) (suc place) size h = same_lent lent xs ys place (omega (arith, size)) h

all_from : (P : ℕ → Type 0) (places : List ℕ) → ((k : ℕ) → k < length places → P (get_or places k 0)) → AllByRecursion P places
all_from P [] h = tt
all_from P (p ∷ places) h = (h 0 (omega arith), all_from P places (λ k l. h (suc k) (omega (arith, l))))

-- the places behind those that moved have the same current entries
behind_same : {S : Type 0} (moves : S → S → Type 0) (lent : S → Option Entry) (xs ys : List S) (order : List ℕ) (n : ℕ) → length ys ≡ length xs → IsDistinct order → HasMoved moves (take n order) xs ys → AllByRecursion (λ place. lent_at lent ys place ≡ lent_at lent xs place) (drop n order)
behind_same moves lent xs ys order n size distinct h = all_from (λ place. lent_at lent ys place ≡ lent_at lent xs place) (drop n order) each
  where
    apart : (k : ℕ) → k < length (drop n order) → ¬ Contains (take n order) (get_or (drop n order) k 0)
    apart k l w =
        let place = get_or (drop n order) k 0 in
        let lk : n + k < length order = grind (arith, common_steps, l) in
        let lm : w.0 < n = grind (arith, common_steps, w.1) in
        let there : get_or order (n + k) place ≡ place = grind (arith, common_steps, l) in
        let here : get_or order w.0 place ≡ place = grind (arith, common_steps, w.2, w.1, lm) in
        distinct w.0 (n + k) place (omega (arith, lm)) lk (here ∙ sym there)

    each : (k : ℕ) → k < length (drop n order) → lent_at lent ys (get_or (drop n order) k 0) ≡ lent_at lent xs (get_or (drop n order) k 0)
    each k l = same_lent lent xs ys (get_or (drop n order) k 0) size (λ d. h.stayed (get_or (drop n order) k 0) d (apart k l))

rises_same : (old new : List (Option Entry)) (places : List ℕ) → AllByRecursion (λ place. entry_at new place ≡ entry_at old place) places → InOrder old places → InOrder new places
rises_same old new [] h r = tt
rises_same old new (p ∷ places) h r = (all places h.1 r.0, rises_same old new places h.1 r.1)
  where
    all : (qs : List ℕ) → AllByRecursion (λ place. entry_at new place ≡ entry_at old place) qs → AllByRecursion (λ later. T (is_le (place_cmp old p later))) qs → AllByRecursion (λ later. T (is_le (place_cmp new p later))) qs
    all [] k a = tt
    all (q ∷ qs) k a = (subst (λ o. T (is_le (ordering_then (lent_cmp o (entry_at new q)) (nat_cmp p q)))) (sym h.0) (subst (λ o. T (is_le (ordering_then (lent_cmp (entry_at old p) o) (nat_cmp p q)))) (sym k.0) a.0), all qs k.1 a.1)

rises_drop : (lents : List (Option Entry)) (order : List ℕ) (n : ℕ) → InOrder lents order → InOrder lents (drop n order)
rises_drop lents order zero r = r
rises_drop lents [] (suc n) r = r
rises_drop lents (p ∷ order) (suc n) r = rises_drop lents order n r.1

-- the places behind those that moved are still in order
pub rest_rises : {S : Type 0} (moves : S → S → Type 0) (lent : S → Option Entry) (xs ys : List S) (order : List ℕ) (n : ℕ) → length ys ≡ length xs → IsOrdered (map lent xs) order → HasMoved moves (take n order) xs ys → InOrder (map lent ys) (drop n order)
rest_rises moves lent xs ys order n size o h = rises_same (map lent xs) (map lent ys) (drop n order) (behind_same moves lent xs ys order n size o.sorted.distinct h) (rises_drop (map lent xs) order n o.sorted.rises)

pub some_within : {S : Type 0} (lent : S → Option Entry) (xs : List S) (place : ℕ) → IsSome (lent_at lent xs place) → place < length xs
some_within lent [] place some = cc
some_within lent (x ∷ xs) zero some = omega arith
some_within lent (x ∷ xs) (suc place) some = omega (arith, some_within lent xs place some)

in_whole : (order : List ℕ) (n place : ℕ) → Contains (take n order) place → Contains order place
in_whole order n place (k, within, is) = (k, grind (arith, common_steps, within), grind (arith, common_steps, within, is))

-- a source with a current entry had one before, or it didn't move
pub still_whole : {S : Type 0} (moves : S → S → Type 0) (lent : S → Option Entry) (xs ys : List S) (order : List ℕ) (n : ℕ) → length ys ≡ length xs → IsOrdered (map lent xs) order → HasMoved moves (take n order) xs ys → (place : ℕ) → IsSome (lent_at lent ys place) → Contains order place
still_whole moves lent xs ys order n size o h place some = by (lent_at lent xs place) refl
  where
    by : (e : Option Entry) → lent_at lent xs place ≡ e → Contains order place
    by (Some e) was = o.sorted.whole place (subst (λ q. IsSome q) (sym was) refl)
    by None was = absurd (not_both (lent_at lent ys place) some (same_lent lent xs ys place size (λ d. h.stayed place d out) ∙ was))
      where
        out : ¬ Contains (take n order) place
        out in' = not_both (lent_at lent xs place) (front_tied (λ p. IsSome (lent_at lent xs p)) order place o.each (in_whole order n place in')) was

-- ---- before the first entry and at one

pub none_behind : (lents : List (Option Entry)) (order : List ℕ) (n : ℕ) → length order ≤ n → InOrder lents (drop n order)
none_behind lents [] zero l = tt
none_behind lents [] (suc n) l = tt
none_behind lents (p ∷ order) zero l = absurd (omega (arith, l))
none_behind lents (p ∷ order) (suc n) l = none_behind lents order n (omega (arith, l))

pub ready_some : (lents : List (Option Entry)) (order : List ℕ) → true ≡ is_some (first_entry lents order) → IsReady lents order → IsOrdered lents order
ready_some lents order some (inl none) = absurd (clash (some ∙ ap (λ l. is_some (first_entry lents l)) none))
  where
    clash : true ≡ false → ⊥
    clash q = cc
ready_some lents order some (inr o) = o

pub some_started : {S : Type 0} (lent : S → Option Entry) (remaining : S → List Entry) (xs : List S) (o : Option Entry) → true ≡ is_some o → HaveStarted lent remaining o xs → AllByRecursion (HasStarted lent remaining) xs
some_started lent remaining xs None some h = cc
some_started lent remaining xs (Some e) some h = h
