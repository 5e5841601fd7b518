-- Changes that keep a list of places a table.
use Rattle.std.proofs.Common.{◌≡◌, ◌≢◌, ◌<◌, ◌≤◌, ◌+◌, ℕ, zero, suc, Bool, true, false, cond, eqb, inl, inr, List, [], ◌∷◌, length, map, ◌++◌, get_or, set, Option, Some, refl, sym, ap, subst, ◌∙◌, arith}
use Rattle.std.proofs.lemmas.Bool.{eqb-true, eq-eqb}
use Rattle.std.proofs.lemmas.List.{length-map}
use Rattle.std.specs.List.{AllByRecursion, AllPairs, insert}
use Rattle.metadata_table.specs.declared.places.Place.{Place}
use Rattle.metadata_table.specs.Places.{PlaceView, view_of, views, EndsBefore, IsLower}
use Rattle.metadata_table.specs.Table.{EndsRise, IsNumbered, IsTable, BarsSplit, Cuts, cuts_last, cuts, cuts_later, left_part, on_server, naming, moved, with_files, first_place, most_servers, most_tablets}
use Rattle.metadata_table.specs.Search.{HoldsRowAt, IsTabletAt}
use Rattle.metadata_table.proofs.Ends.{some_lower}
use Rattle.metadata_table.proofs.Members.{each_member, pairs_first, pairs_rest, pairs_none, pairs_more, all_implied}
use Rattle.metadata_table.proofs.Splits.{tablet_there, cut_at}

abbrev pub Differ : PlaceView → PlaceView → Type 0
Differ p q = p.tablet ≢ q.tablet

pub first_table : IsTable (first_place ∷ [])
first_table = record {
  rising = refl;
  few = omega arith;
  distinct = pairs_more Differ first_place [] tt (pairs_none Differ);
  numbered = (record { from = omega arith; to = omega arith; server = omega arith }, tt);
}

pub new_table : (items ps : List Place) (p : Place) → items ≡ ps ++ p ∷ [] → ps ≡ [] → view_of p ≡ first_place → IsTable (views items)
new_table items ps p made none first =
    let one : views items ≡ view_of p ∷ [] = ap views made ∙ ap (λ (qs : List Place). views (qs ++ p ∷ [])) none in
    subst IsTable (sym (one ∙ ap (λ (q : PlaceView). q ∷ []) first)) first_table

-- ---- a changed place

module _ (f : PlaceView → PlaceView) (same_tablet : (p : PlaceView) → (f p).tablet ≡ p.tablet) (same_end : (p : PlaceView) → (f p).end ≡ p.end) (within : (count : ℕ) (p : PlaceView) → IsNumbered count p → IsNumbered count (f p)) where
  map_rises : (ps : List PlaceView) → EndsRise ps → EndsRise (map f ps)
  map_rises [] r = r
  map_rises (p ∷ []) r = same_end p ∙ r
  map_rises (p ∷ q ∷ ps) r =
      let lower : IsLower p.end (f q).end = subst (λ (end : Option (List ℕ)). IsLower p.end end) (sym (same_end q)) r.0 in
      (subst (λ (end : Option (List ℕ)). IsLower end (f q).end) (sym (same_end p)) lower, map_rises (q ∷ ps) r.1)

  map_other : (n : ℕ) (ps : List PlaceView) → AllByRecursion (λ q. n ≢ q.tablet) ps → AllByRecursion (λ q. n ≢ q.tablet) (map f ps)
  map_other n [] a = tt
  map_other n (p ∷ ps) a = (λ e. a.0 (e ∙ same_tablet p), map_other n ps a.1)

  map_differ : (ps : List PlaceView) → AllPairs Differ ps → AllPairs Differ (map f ps)
  map_differ [] a = pairs_none Differ
  map_differ (p ∷ ps) a =
      pairs_more Differ (f p) (map f ps) (subst (λ (n : ℕ). AllByRecursion (λ q. n ≢ q.tablet) (map f ps)) (sym (same_tablet p)) (map_other p.tablet ps (pairs_first Differ p ps a))) (map_differ ps (pairs_rest Differ p ps a))

  map_numbered : (count : ℕ) (ps : List PlaceView) → AllByRecursion (IsNumbered count) ps → AllByRecursion (IsNumbered count) (map f ps)
  map_numbered count [] a = tt
  map_numbered count (p ∷ ps) a = (within count p a.0, map_numbered count ps a.1)

  map_table : (ps : List PlaceView) → IsTable ps → IsTable (map f ps)
  map_table ps t =
      let len : length (map f ps) ≡ length ps = length-map ps f in
      record {
        rising = map_rises ps t.rising;
        few = subst (λ (n : ℕ). n ≤ most_tablets) (sym len) t.few;
        distinct = map_differ ps t.distinct;
        numbered = subst (λ (n : ℕ). AllByRecursion (IsNumbered n) (map f ps)) (sym len) (map_numbered (length ps) ps t.numbered);
      }

pub server_tablet : (n server : ℕ) (p : PlaceView) → (on_server n server p).tablet ≡ p.tablet
server_tablet n server p = elim (eqb p.tablet n) as (λ b. (cond b (record p { server = server }) p).tablet ≡ p.tablet) [ true ↦ refl | false ↦ refl ]

pub server_end : (n server : ℕ) (p : PlaceView) → (on_server n server p).end ≡ p.end
server_end n server p = elim (eqb p.tablet n) as (λ b. (cond b (record p { server = server }) p).end ≡ p.end) [ true ↦ refl | false ↦ refl ]

pub files_tablet : (n : ℕ) (names : List ℕ) (p : PlaceView) → (naming n names p).tablet ≡ p.tablet
files_tablet n names p = elim (eqb p.tablet n) as (λ b. (cond b (record p { files = names }) p).tablet ≡ p.tablet) [ true ↦ refl | false ↦ refl ]

pub files_end : (n : ℕ) (names : List ℕ) (p : PlaceView) → (naming n names p).end ≡ p.end
files_end n names p = elim (eqb p.tablet n) as (λ b. (cond b (record p { files = names }) p).end ≡ p.end) [ true ↦ refl | false ↦ refl ]

pub moved_table : (n server : ℕ) → server < most_servers → (ps : List PlaceView) → IsTable ps → IsTable (moved n server ps)
moved_table n server few ps t =
    map_table (on_server n server) (server_tablet n server) (server_end n server)
    (λ count p h. elim (eqb p.tablet n) as (λ b. IsNumbered count (cond b (record p { server = server }) p)) [
      | true ↦ record { from = h.from; to = h.to; server = few }
      | false ↦ h
    ])
    ps t

pub filed_table : (n : ℕ) (names : List ℕ) (ps : List PlaceView) → IsTable ps → IsTable (with_files n names ps)
filed_table n names ps t =
    map_table (naming n names) (files_tablet n names) (files_end n names)
    (λ count p h. elim (eqb p.tablet n) as (λ b. IsNumbered count (cond b (record p { files = names }) p)) [
      | true ↦ record { from = h.from; to = h.to; server = h.server }
      | false ↦ h
    ])
    ps t

-- ---- the change at a position

module _ (n : ℕ) (g : PlaceView → PlaceView) where
  abbrev pub changed : PlaceView → PlaceView
  changed p = cond (eqb p.tablet n) (g p) p

  unchanged : (p : PlaceView) → (p.tablet ≡ n → ⊥) → changed p ≡ p
  unchanged p d = go (eqb p.tablet n) refl
    where
      go : (b : Bool) → eqb p.tablet n ≡ b → cond b (g p) p ≡ p
      go true t = absurd (d (eqb-true p.tablet n t))
      go false t = refl

  others_same : (ps : List PlaceView) → AllByRecursion (λ q. n ≢ q.tablet) ps → map changed ps ≡ ps
  others_same [] a = refl
  others_same (p ∷ ps) a = λ i. unchanged p (λ e. a.0 (sym e)) i ∷ others_same ps a.1 i

  pub changed_at : (ps : List Place) (i : ℕ) (x y : Place) → AllPairs Differ (views ps) → IsTabletAt n (views ps) i → x ≡ get_or ps i x → view_of y ≡ g (view_of x) → views (set ps i y) ≡ map changed (views ps)
  changed_at [] i x y a h e s = absurd h
  changed_at (p ∷ ps) zero x y a h e s =
      let here : changed (view_of p) ≡ g (view_of p) = ap (λ (b : Bool). cond b (g (view_of p)) (view_of p)) (eq-eqb p.tablet n h) in
      let head : view_of y ≡ changed (view_of p) = s ∙ (ap (λ (z : Place). g (view_of z)) e ∙ sym here) in
      let apart : AllByRecursion (λ (q : PlaceView). n ≢ q.tablet) (views ps) = subst (λ (m : ℕ). AllByRecursion (λ (q : PlaceView). m ≢ q.tablet) (views ps)) h (pairs_first Differ (view_of p) (views ps) a) in
      let rest : map changed (views ps) ≡ views ps = others_same (views ps) apart in
      λ i. head i ∷ sym rest i
  changed_at (p ∷ ps) (suc i) x y a h e s =
      let there = tablet_there n ps i h in
      let other : p.tablet ≡ n → ⊥ = λ k. each_member (Differ (view_of p)) (views ps) (pairs_first Differ (view_of p) (views ps) a) there.0 there.1 (k ∙ sym there.2) in
      let head : changed (view_of p) ≡ view_of p = unchanged (view_of p) other in
      let rest : views (set ps i y) ≡ map changed (views ps) = changed_at ps i x y (pairs_rest Differ (view_of p) (views ps) a) h e s in
      λ j. sym head j ∷ rest j

-- ---- a cut

module _ (row : List ℕ) (n : ℕ) where
  later_rises : (p : PlaceView) (ps ps' : List PlaceView) → EndsBefore p.end row → EndsRise (p ∷ ps) → Cuts row n ps ps' → EndsRise (p ∷ ps')
  later_rises p _ _ h r (cuts_last {p = q} e) = (some_lower p.end row h, (subst (λ (end : Option (List ℕ)). IsLower (Some row) end) (sym e) tt, e))
  later_rises p _ _ h r (cuts {p = q} {end = end} {ps = ps} e l) = (some_lower p.end row h, (subst (λ (o : Option (List ℕ)). IsLower (Some row) o) (sym e) l, r.1))
  later_rises p _ _ h r (cuts_later {p = q} {ps = ps} {ps' = ps'} k c) = (r.0, later_rises q ps ps' k r.1 c)

  cut_rises : (ps ps' : List PlaceView) → EndsRise ps → Cuts row n ps ps' → EndsRise ps'
  cut_rises _ _ r (cuts_last {p = q} e) = (subst (λ (end : Option (List ℕ)). IsLower (Some row) end) (sym e) tt, r)
  cut_rises _ _ r (cuts {p = q} {end = end} {ps = ps} e l) = (subst (λ (o : Option (List ℕ)). IsLower (Some row) o) (sym e) l, r)
  cut_rises _ _ r (cuts_later {p = q} {ps = ps} {ps' = ps'} k c) = later_rises q ps ps' k r c

  cut_length : (ps ps' : List PlaceView) → Cuts row n ps ps' → length ps' ≡ suc (length ps)
  cut_length _ _ (cuts_last {p = q} e) = refl
  cut_length _ _ (cuts {p = q} {end = end} {ps = ps} e l) = refl
  cut_length _ _ (cuts_later {p = q} {ps = ps} {ps' = ps'} k c) = ap (λ (m : ℕ). suc m) (cut_length ps ps' c)

  cut_each : (P : PlaceView → Type 0) → ((p : PlaceView) → P p → P (left_part row n p)) → (ps ps' : List PlaceView) → AllByRecursion P ps → Cuts row n ps ps' → AllByRecursion P ps'
  cut_each P f _ _ a (cuts_last {p = q} e) = (f q a.0, a)
  cut_each P f _ _ a (cuts {p = q} {end = end} {ps = ps} e l) = (f q a.0, a)
  cut_each P f _ _ a (cuts_later {p = q} {ps = ps} {ps' = ps'} k c) = (a.0, cut_each P f ps ps' a.1 c)

  cut_differ : (ps ps' : List PlaceView) → AllPairs Differ ps → AllByRecursion (λ q. n ≢ q.tablet) ps → Cuts row n ps ps' → AllPairs Differ ps'
  cut_differ _ _ a new (cuts_last {p = q} e) = pairs_more Differ (left_part row n q) (q ∷ []) new a
  cut_differ _ _ a new (cuts {p = q} {end = end} {ps = ps} e l) = pairs_more Differ (left_part row n q) (q ∷ ps) new a
  cut_differ _ _ a new (cuts_later {p = q} {ps = ps} {ps' = ps'} k c) =
      pairs_more Differ q ps' (cut_each (Differ q) (λ p h e. new.0 (sym e)) ps ps' (pairs_first Differ q ps a) c) (cut_differ ps ps' (pairs_rest Differ q ps a) new.1 c)

  pub cut_table : (ps ps' : List PlaceView) → IsTable ps → length ps < most_tablets → n ≡ length ps + 1 → Cuts row n ps ps' → IsTable ps'
  cut_table ps ps' t few next c =
      let len : length ps' ≡ suc (length ps) = cut_length ps ps' c in
      let new : AllByRecursion (λ (q : PlaceView). n ≢ q.tablet) ps = all_implied (IsNumbered (length ps)) (λ (q : PlaceView). n ≢ q.tablet) (λ q h e. no_more q h e) ps t.numbered in
      let more : AllByRecursion (IsNumbered (suc (length ps))) ps = all_implied (IsNumbered (length ps)) (IsNumbered (suc (length ps))) (λ q h. record { from = h.from; to = one_more q h; server = h.server }) ps t.numbered in
      record {
        rising = cut_rises ps ps' t.rising c;
        few = omega (arith, len);
        distinct = cut_differ ps ps' t.distinct new c;
        numbered = subst (λ (m : ℕ). AllByRecursion (IsNumbered m) ps') (sym len) (cut_each (IsNumbered (suc (length ps))) (λ q h. record { from = first_one; to = last_one; server = h.server }) ps ps' more c);
      }
    where
      no_more : (q : PlaceView) → IsNumbered (length ps) q → n ≡ q.tablet → ⊥
      no_more q h e = omega (arith, h.to)

      one_more : (q : PlaceView) → IsNumbered (length ps) q → q.tablet ≤ suc (length ps)
      one_more q h = omega (arith, h.to)

      first_one : 1 ≤ n
      first_one = omega arith

      last_one : n ≤ suc (length ps)
      last_one = omega arith

  -- the places with a left part put before the holder of the row
  pub split : (xs items : List Place) (i : ℕ) (part x : Place) → IsTable (views xs) → (BarsSplit row (views xs) → ⊥) → n ≡ length (views xs) + 1 → HoldsRowAt row (views xs) i → x ≡ get_or xs i x → view_of part ≡ left_part row n (view_of x) → items ≡ insert xs i part → Cuts row n (views xs) (views items) × IsTable (views items)
  split xs items i part x t bars next held is left made =
      let cut : Cuts row n (views xs) (views items) = subst (λ (qs : List Place). Cuts row n (views xs) (views qs)) (sym made) (cut_at row n xs i part x t.rising held (λ e. bars (inl e)) is left) in
      (cut, cut_table (views xs) (views items) t (not_full (length (views xs)) most_tablets (λ full. bars (inr full))) next cut)
    where
      not_full : (a b : ℕ) → (b ≤ a → ⊥) → a < b
      not_full a b h = omega (arith, h)
