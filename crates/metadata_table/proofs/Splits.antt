-- Positions, holders and cuts.
use Rattle.std.proofs.Common.{◌≡◌, ◌<◌, ◌≤◌, ◌+◌, ℕ, zero, suc, Bool, true, false, cond, eqb, ltb, ltb-false, not, ◌||◌, ◌⊎◌, inl, inr, List, [], ◌∷◌, ◌++◌, length, get_or, Option, None, Some, MatchResult, refl, sym, ap, subst, ◌∙◌, arith}
use Rattle.std.proofs.lemmas.Bool.{eqb-true, eqb-false, eq-eqb}
use Rattle.std.specs.List.{Contains, insert, position, position_or_len, list_any}
use Rattle.std.specs.Option.{ok_or}
use Rattle.std.proofs.lemmas.List.Quantifiers.{position-Some}
use Rattle.cell_key.specs.declared.refusals.Refusal.{Refusal}
use Rattle.metadata_table.specs.declared.places.Place.{Place}
use Rattle.metadata_table.specs.Places.{PlaceView, view_of, views, EndsBefore, IsLower}
use Rattle.metadata_table.specs.Table.{EndsRise, IsHolder, HasTablet, IsEnd, IsListed, Cuts, cuts_last, cuts, cuts_later, left_part}
use Rattle.metadata_table.specs.Search.{ends_before, HoldsRowAt, IsTabletAt}
use Rattle.metadata_table.proofs.Ends.{not_self, above, true_before, false_before, before_true, lower_before, lower_all, lower_some, is_last}
use Rattle.metadata_table.proofs.Members.{contains_first, contains_later, contains_none, contains_cases, contains_middle, contains_parts, each_member}

-- ---- the partition

module _ (row : List ℕ) where
  abbrev pub is_past : Place → Bool
  is_past place = ends_before place.end row

  -- if a later end is below the row, so are the earlier ones
  pub parted : (ps : List Place) → EndsRise (views ps) → (i j : ℕ) (d : Place) → i ≤ j → j < length ps → is_past (get_or ps j d) ≡ true → is_past (get_or ps i d) ≡ true
  parted [] r i j d le lt t = absurd (omega arith)
  parted (p ∷ ps) r zero zero d le lt t = t
  parted (p ∷ ps) r zero (suc j) d le lt t = first_past p ps r j d (omega arith) t
    where
      first_past : (p : Place) (ps : List Place) → EndsRise (views (p ∷ ps)) → (j : ℕ) (d : Place) → j < length ps → is_past (get_or ps j d) ≡ true → is_past p ≡ true
      first_past p [] r j d lt t = absurd (omega arith)
      first_past p (q ∷ ps) r zero d lt t = before_true p.end row (lower_before p.end q.end row r.0 (true_before q.end row t))
      first_past p (q ∷ ps) r (suc j) d lt t = before_true p.end row (lower_before p.end q.end row r.0 (true_before q.end row (first_past q ps r.1 j d (omega arith) t)))
  parted (p ∷ ps) r (suc i) zero d le lt t = absurd (omega arith)
  parted (p ∷ []) r (suc i) (suc j) d le lt t = absurd (omega arith)
  parted (p ∷ q ∷ ps) r (suc i) (suc j) d le lt t = parted (q ∷ ps) r.1 i j d (omega arith) (omega arith) t

  pub at_point : (ps : List Place) (i : ℕ) → EndsRise (views ps) → i ≤ length ps → ((k : ℕ) (d : Place) → 0 ≤ k → k < i → is_past (get_or ps k d) ≡ true) → ((k : ℕ) (d : Place) → i ≤ k → k < length ps → is_past (get_or ps k d) ≡ false) → HoldsRowAt row (views ps) i
  at_point [] i r le p q = absurd r
  at_point (x ∷ ps) zero r le p q = false_before x.end row (q 0 x (omega arith) (omega arith))
  at_point (x ∷ []) (suc i) r le p q = absurd (subst (λ (end : Option (List ℕ)). EndsBefore end row) r (true_before x.end row (p 0 x (omega arith) (omega arith))))
  at_point (x ∷ y ∷ ps) (suc i) r le p q = (
    true_before x.end row (p 0 x (omega arith) (omega arith)),
    at_point (y ∷ ps) i r.1 (omega arith) (λ k d a b. p (suc k) d (omega (arith, a)) (omega (arith, b))) (λ k d a b. q (suc k) d (omega (arith, a)) (omega (arith, b))),
  )

  pub held_within : (ps : List Place) (i : ℕ) → HoldsRowAt row (views ps) i → i < length ps
  held_within [] i h = absurd h
  held_within (p ∷ ps) zero h = omega arith
  held_within (p ∷ ps) (suc i) h = let lt = held_within ps i h.1 in omega arith

  pub holder_at : (ps : List Place) (i : ℕ) (x : Place) → HoldsRowAt row (views ps) i → x ≡ get_or ps i x → IsHolder row (views ps) (view_of x)
  holder_at [] i x h e = absurd h
  holder_at (p ∷ ps) zero x h e = record {
    before = [];
    after = views ps;
    parts = ap (λ (z : Place). view_of z ∷ views ps) (sym e);
    past = tt;
    within = subst (λ (z : Place). ¬ EndsBefore z.end row) (sym e) h;
  }
  holder_at (p ∷ ps) (suc i) x h e =
      let rest : IsHolder row (views ps) (view_of x) = holder_at ps i x h.1 e in
      record {
        before = view_of p ∷ rest.before;
        after = rest.after;
        parts = ap (λ (qs : List PlaceView). view_of p ∷ qs) rest.parts;
        past = (h.0, rest.past);
        within = rest.within;
      }

  pub holder_end : (ps : List PlaceView) (p : PlaceView) → IsHolder row ps p → p.end ≡ Some row → IsEnd row ps
  holder_end ps p h e = (p, subst (λ (qs : List PlaceView). Contains qs p) (sym h.parts) (contains_middle h.before h.after p), e)

  suffix_rises : (before after : List PlaceView) (p : PlaceView) → EndsRise (before ++ p ∷ after) → EndsRise (p ∷ after)
  suffix_rises [] after p r = r
  suffix_rises (q ∷ []) after p r = r.1
  suffix_rises (q ∷ w ∷ before) after p r = suffix_rises (w ∷ before) after p r.1

  at_row : (end : Option (List ℕ)) → end ≡ Some row → EndsBefore end row → ⊥
  at_row end e h = not_self row (subst (λ (o : Option (List ℕ)). EndsBefore o row) e h)

  below_row : (end last : Option (List ℕ)) → last ≡ Some row → IsLower end last → EndsBefore end row
  below_row end last e l = lower_some end row (subst (λ (o : Option (List ℕ)). IsLower end o) e l)

  -- a row that is an end is its holder's end
  pub end_holder : (ps : List PlaceView) (p : PlaceView) → EndsRise ps → IsHolder row ps p → IsEnd row ps → p.end ≡ Some row
  end_holder ps p r h w = elim (contains_parts h.before h.after p w.0 (subst (λ (qs : List PlaceView). Contains qs w.0) h.parts w.1)) [
    | inl b ↦ absurd (at_row w.0.end w.2 (each_member (λ q. EndsBefore q.end row) h.before h.past w.0 b))
    | inr c ↦ elim c [
      | inl e ↦ ap (λ (q : PlaceView). q.end) e ∙ w.2
      | inr a ↦ absurd (h.within (below_row p.end w.0.end w.2 (each_member (λ q. IsLower p.end q.end) h.after (lower_all p h.after (suffix_rises h.before h.after p (subst EndsRise h.parts r))) w.0 a)))
    ]
  ]

-- ---- cuts

module _ (row : List ℕ) (n : ℕ) where
  cut_here : (p : PlaceView) (ps : List PlaceView) → EndsRise (p ∷ ps) → (EndsBefore p.end row → ⊥) → (p.end ≡ Some row → ⊥) → Cuts row n (p ∷ ps) (left_part row n p ∷ p ∷ ps)
  cut_here p ps r w d = go p.end refl
    where
      go : (end : Option (List ℕ)) → p.end ≡ end → Cuts row n (p ∷ ps) (left_part row n p ∷ p ∷ ps)
      go None e = subst (λ (qs : List PlaceView). Cuts row n (p ∷ qs) (left_part row n p ∷ p ∷ qs)) (sym (is_last p ps r e)) (cuts_last {p = p} e)
      go (Some end) e = cuts {p = p} {end = end} e (above end row (λ l. w (subst (λ (o : Option (List ℕ)). EndsBefore o row) (sym e) l)) (λ s. d (e ∙ ap (λ (x : List ℕ). Some x) s)))

  pub cut_at : (ps : List Place) (i : ℕ) (part x : Place) → EndsRise (views ps) → HoldsRowAt row (views ps) i → (IsEnd row (views ps) → ⊥) → x ≡ get_or ps i x → view_of part ≡ left_part row n (view_of x) → Cuts row n (views ps) (views (insert ps i part))
  cut_at [] i part x r h d e s = absurd h
  cut_at (p ∷ ps) zero part x r h d e s =
      let left : view_of part ≡ left_part row n (view_of p) = s ∙ ap (λ (z : Place). left_part row n (view_of z)) e in
      subst (λ (q : PlaceView). Cuts row n (views (p ∷ ps)) (q ∷ views (p ∷ ps))) (sym left) (cut_here (view_of p) (views ps) r h (λ k. d (view_of p, contains_first (view_of p) (views ps), k)))
  cut_at (p ∷ []) (suc i) part x r h d e s = absurd h.1
  cut_at (p ∷ q ∷ ps) (suc i) part x r h d e s =
      cuts_later h.0 (cut_at (q ∷ ps) i part x r.1 h.1 (λ k. d (k.0, contains_later (view_of p) k.0 (views (q ∷ ps)) k.1, k.2)) e s)

-- ---- a tablet's place

pub tablet_within : (n : ℕ) (ps : List Place) (i : ℕ) → IsTabletAt n (views ps) i → i < length ps
tablet_within n [] i h = absurd h
tablet_within n (p ∷ ps) zero h = omega arith
tablet_within n (p ∷ ps) (suc i) h = let lt = tablet_within n ps i h in omega arith

pub tablet_at : (n : ℕ) (ps : List Place) (i : ℕ) (x : Place) → IsTabletAt n (views ps) i → x ≡ get_or ps i x → Contains (views ps) (view_of x) × (x.tablet ≡ n)
tablet_at n [] i x h e = absurd h
tablet_at n (p ∷ ps) zero x h e = (subst (λ (z : Place). Contains (view_of p ∷ views ps) (view_of z)) (sym e) (contains_first (view_of p) (views ps)), ap (λ (z : Place). z.tablet) e ∙ h)
tablet_at n (p ∷ ps) (suc i) x h e = let rest = tablet_at n ps i x h e in (contains_later (view_of p) (view_of x) (views ps) rest.0, rest.1)

pub tablet_there : (n : ℕ) (ps : List Place) (i : ℕ) → IsTabletAt n (views ps) i → HasTablet n (views ps)
tablet_there n [] i h = absurd h
tablet_there n (p ∷ ps) zero h = (view_of p, contains_first (view_of p) (views ps), h)
tablet_there n (p ∷ ps) (suc i) h = let rest = tablet_there n ps i h in (rest.0, contains_later (view_of p) rest.0 (views ps) rest.1, rest.2)

named_at : (n : ℕ) (ps : List Place) (i : ℕ) (d : Place) → i < length ps → eqb (get_or ps i d).tablet n ≡ true → IsTabletAt n (views ps) i
named_at n [] i d lt t = absurd (omega arith)
named_at n (p ∷ ps) zero d lt t = eqb-true p.tablet n t
named_at n (p ∷ ps) (suc i) d lt t = named_at n ps i d (omega arith) t

abbrev pub is_tablet : ℕ → Place → Bool
is_tablet n place = eqb place.tablet n

none_named : (n : ℕ) (ps : List Place) → length ps ≤ position_or_len (is_tablet n) ps → (p : PlaceView) → Contains (views ps) p → p.tablet ≡ n → ⊥
none_named n [] le p c e = contains_none p c
none_named n (q ∷ ps) le p c e = go (λ h k. none_named n ps h p k e) (eqb q.tablet n) refl
  where
    go : (length ps ≤ position_or_len (is_tablet n) ps → Contains (views ps) p → ⊥) → (b : Bool) → eqb q.tablet n ≡ b → ⊥
    go rest true t =
        let none : position_or_len (is_tablet n) (q ∷ ps) ≡ 0 = ap (λ (v : Bool). cond (not v) (1 + position_or_len (is_tablet n) ps) 0) t in
        omega (arith, none)
    go rest false t =
        let more : position_or_len (is_tablet n) (q ∷ ps) ≡ 1 + position_or_len (is_tablet n) ps = ap (λ (v : Bool). cond (not v) (1 + position_or_len (is_tablet n) ps) 0) t in
        elim (contains_cases (view_of q) p (views ps) c) [
          | inl f ↦ eqb-false q.tablet n t (ap (λ (v : PlaceView). v.tablet) f ∙ e)
          | inr k ↦ rest (omega (arith, more)) k
        ]

-- the first position of a tablet's number
pub found_tablet : (n : ℕ) (ps : List Place) (o : Option ℕ) (e : Refusal) → o ≡ position (is_tablet n) ps → MatchResult (ok_or o e) (λ i. IsTabletAt n (views ps) i) (λ r. (r ≡ e) × ¬ HasTablet n (views ps))
found_tablet n ps None e s = (refl, λ h. none_named n ps (past (ltb (position_or_len (is_tablet n) ps) (length ps)) refl) h.0 h.1 h.2)
  where
    past : (b : Bool) → ltb (position_or_len (is_tablet n) ps) (length ps) ≡ b → length ps ≤ position_or_len (is_tablet n) ps
    past true t = let some : None ≡ Some (position_or_len (is_tablet n) ps) = s ∙ ap (λ (v : Bool). cond v (Some (position_or_len (is_tablet n) ps)) None) t in cc
    past false t = ltb-false _ _ t
found_tablet n [] (Some i) e s = cc
found_tablet n (p ∷ ps) (Some i) e s = let at = position-Some (is_tablet n) (p ∷ ps) i p (sym s) in named_at n (p ∷ ps) i p at.0 at.1

-- ---- listed files

or_cases : (a b : Bool) → (a || b) ≡ true → (a ≡ true) ⊎ (b ≡ true)
or_cases true b e = inl refl
or_cases false b e = inr e

or_right : (a b : Bool) → b ≡ true → (a || b) ≡ true
or_right true b e = refl
or_right false b e = e

file_there : (name : ℕ) (files : List ℕ) → list_any (λ file. eqb file name) files ≡ true → Contains files name
file_there name [] e = cc
file_there name (file ∷ files) e = elim (or_cases (eqb file name) _ e) [
  | inl t ↦ subst (λ (x : ℕ). Contains (file ∷ files) x) (eqb-true file name t) (contains_first file files)
  | inr t ↦ contains_later file name files (file_there name files t)
]

file_true : (name : ℕ) (files : List ℕ) → Contains files name → list_any (λ file. eqb file name) files ≡ true
file_true name [] h = absurd (contains_none name h)
file_true name (file ∷ files) h = elim (contains_cases file name files h) [
  | inl e ↦ ap (λ (b : Bool). b || list_any (λ file. eqb file name) files) (eq-eqb file name e)
  | inr k ↦ or_right (eqb file name) _ (file_true name files k)
]

abbrev pub has_file : ℕ → Place → Bool
has_file name place = list_any (λ file. eqb file name) place.files.items

pub listed_there : (name : ℕ) (ps : List Place) → list_any (has_file name) ps ≡ true → IsListed name (views ps)
listed_there name [] e = cc
listed_there name (p ∷ ps) e = elim (or_cases (has_file name p) _ e) [
  | inl t ↦ (view_of p, contains_first (view_of p) (views ps), file_there name p.files.items t)
  | inr t ↦ (let rest = listed_there name ps t in (rest.0, contains_later (view_of p) rest.0 (views ps) rest.1, rest.2))
]

pub listed_true : (name : ℕ) (ps : List Place) (v : PlaceView) → Contains (views ps) v → Contains v.files name → list_any (has_file name) ps ≡ true
listed_true name [] v h k = absurd (contains_none v h)
listed_true name (p ∷ ps) v h k = elim (contains_cases (view_of p) v (views ps) h) [
  | inl e ↦ ap (λ (b : Bool). b || list_any (has_file name) ps) (file_true name p.files.items (subst (λ (w : PlaceView). Contains w.files name) (sym e) k))
  | inr r ↦ or_right (has_file name p) _ (listed_true name ps v r k)
]
