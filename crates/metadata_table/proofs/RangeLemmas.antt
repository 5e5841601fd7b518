-- Ranges of places.
use Rattle.std.proofs.Common.{◌≡◌, ◌≢◌, ℕ, inl, inr, List, [], ◌∷◌, ◌++◌, map, Option, None, Some, refl, sym, ap, subst, ◌∙◌}
use Rattle.std.specs.List.{AllByRecursion, AllPairs, Contains}
use Rattle.std.specs.declared.cmp.Ordering.TheVariants.{Less}
use Rattle.std.specs.Cmp.Lexicographic.{nat_list_cmp_total}
use Rattle.cell_key.specs.Keys.{byte_cmp}
use Rattle.metadata_table.specs.Places.{PlaceView, EndsBefore, IsRowAfter}
use Rattle.metadata_table.specs.Table.{EndsRise, Cuts, cuts_last, cuts, cuts_later, on_server, naming, moved, with_files}
use Rattle.metadata_table.specs.Ranges.{TabletRange, HasRow, ranges_after, ranges, CutsRange, PartsRange}
use Rattle.metadata_table.proofs.Ends.{not_both, below_other, is_before, lower_before, before_after, after_before}
use Rattle.metadata_table.proofs.Tables.{Differ, server_tablet, server_end, files_tablet, files_end}
use Rattle.metadata_table.proofs.Members.{contains_first, contains_later, contains_none, contains_cases, pairs_first, pairs_rest}

-- a row in a later range is after the end of each place before
after_all : (p : PlaceView) (ps : List PlaceView) → EndsRise (p ∷ ps) → (r : TabletRange) (row : List ℕ) → Contains (ranges_after p.end ps) r → HasRow r row → EndsBefore p.end row
after_all p [] rise r row c h = absurd (contains_none r c)
after_all p (q ∷ ps) rise r row c h = elim (contains_cases _ r (ranges_after q.end ps) c) [
  | inl e ↦ after_before p.end q.end row rise.0 (subst (λ (s : TabletRange). IsRowAfter s.after row) (sym e) h.past)
  | inr k ↦ lower_before p.end q.end row rise.0 (after_all q ps rise.1 r row k h)
]

pub has_range : (start : Option (List ℕ)) (ps : List PlaceView) → EndsRise ps → (row : List ℕ) → IsRowAfter start row → (r : TabletRange) × Contains (ranges_after start ps) r × HasRow r row
has_range start [] rise row a = absurd rise
has_range start (p ∷ []) rise row a =
    let head : TabletRange = record { tablet = p.tablet; after = start; end = p.end } in
    (head, contains_first head [], record { past = a; within = λ b. subst (λ (end : Option (List ℕ)). EndsBefore end row) rise b })
has_range start (p ∷ q ∷ ps) rise row a =
    let head : TabletRange = record { tablet = p.tablet; after = start; end = p.end } in
    let rest : List TabletRange = ranges_after p.end (q ∷ ps) in
    elim (is_before p.end row) [
      | inl b ↦ (let found : (r : TabletRange) × Contains (ranges_after p.end (q ∷ ps)) r × HasRow r row = has_range p.end (q ∷ ps) rise.1 row (before_after p.end row b) in
          (found.0, contains_later head found.0 rest found.1, found.2))
      | inr n ↦ (head, contains_first head rest, record { past = a; within = n })
    ]

pub only_range : (start : Option (List ℕ)) (ps : List PlaceView) → EndsRise ps → (row : List ℕ) (r s : TabletRange) → Contains (ranges_after start ps) r → HasRow r row → Contains (ranges_after start ps) s → HasRow s row → s ≡ r
only_range start [] rise row r s c h d k = absurd rise
only_range start (p ∷ []) rise row r s c h d k = elim (contains_cases _ r [] c) [
  | inl e ↦ elim (contains_cases _ s [] d) [ inl f ↦ sym f ∙ e | inr f ↦ absurd (contains_none s f) ]
  | inr e ↦ absurd (contains_none r e)
]
only_range start (p ∷ q ∷ ps) rise row r s c h d k = elim (contains_cases _ r (ranges_after p.end (q ∷ ps)) c) [
  | inl e ↦ elim (contains_cases _ s (ranges_after p.end (q ∷ ps)) d) [
    | inl f ↦ sym f ∙ e
    | inr f ↦ absurd ((subst (λ (t : TabletRange). HasRow t row) (sym e) h).within (after_all p (q ∷ ps) rise s row f k))
  ]
  | inr e ↦ elim (contains_cases _ s (ranges_after p.end (q ∷ ps)) d) [
    | inl f ↦ absurd ((subst (λ (t : TabletRange). HasRow t row) (sym f) k).within (after_all p (q ∷ ps) rise r row e h))
    | inr f ↦ only_range p.end (q ∷ ps) rise.1 row r s e h f k
  ]
]

-- the range of the place that holds a row
pub held_range : (start : Option (List ℕ)) (row : List ℕ) (before after : List PlaceView) (p : PlaceView) → IsRowAfter start row → AllByRecursion (λ q. EndsBefore q.end row) before → (EndsBefore p.end row → ⊥) → (r : TabletRange) × Contains (ranges_after start (before ++ p ∷ after)) r × (r.tablet ≡ p.tablet) × (r.end ≡ p.end) × HasRow r row
held_range start row [] after p a past n =
    let head : TabletRange = record { tablet = p.tablet; after = start; end = p.end } in
    (head, contains_first head (ranges_after p.end after), refl, refl, record { past = a; within = n })
held_range start row (q ∷ before) after p a past n =
    let found = held_range q.end row before after p (before_after q.end row past.0) past.1 n in
    (found.0, contains_later _ found.0 (ranges_after q.end (before ++ p ∷ after)) found.1, found.2, found.3, found.4)

-- each range belongs to a place
range_tablet : (P : ℕ → Type 0) (start : Option (List ℕ)) (ps : List PlaceView) → AllByRecursion (λ q. P q.tablet) ps → (r : TabletRange) → Contains (ranges_after start ps) r → P r.tablet
range_tablet P start [] a r c = absurd (contains_none r c)
range_tablet P start (p ∷ ps) a r c = elim (contains_cases _ r (ranges_after p.end ps) c) [
  | inl e ↦ subst (λ (s : TabletRange). P s.tablet) e a.0
  | inr k ↦ range_tablet P p.end ps a.1 r k
]

pub tablet_range : (start : Option (List ℕ)) (ps : List PlaceView) → AllPairs (λ p q. p.tablet ≢ q.tablet) ps → (r s : TabletRange) → Contains (ranges_after start ps) r → Contains (ranges_after start ps) s → r.tablet ≡ s.tablet → r ≡ s
tablet_range start [] a r s c d e = absurd (contains_none r c)
tablet_range start (p ∷ ps) a r s c d e = elim (contains_cases _ r (ranges_after p.end ps) c) [
  | inl f ↦ elim (contains_cases _ s (ranges_after p.end ps) d) [
    | inl g ↦ sym f ∙ g
    | inr g ↦ absurd (range_tablet (λ n. p.tablet ≢ n) p.end ps (pairs_first Differ p ps a) s g (ap (λ (t : TabletRange). t.tablet) f ∙ e))
  ]
  | inr f ↦ elim (contains_cases _ s (ranges_after p.end ps) d) [
    | inl g ↦ absurd (range_tablet (λ n. p.tablet ≢ n) p.end ps (pairs_first Differ p ps a) r f (ap (λ (t : TabletRange). t.tablet) g ∙ sym e))
    | inr g ↦ tablet_range p.end ps (pairs_rest Differ p ps a) r s f g e
  ]
]

infinite : (end : Option (List ℕ)) (row : List ℕ) → end ≡ None → EndsBefore end row → ⊥
infinite end row e h = subst (λ (o : Option (List ℕ)). EndsBefore o row) e h

finite : (end : Option (List ℕ)) (row last : List ℕ) → end ≡ Some last → byte_cmp row last ≡ Less → EndsBefore end row → ⊥
finite end row last e l h = not_both row last l (subst (λ (o : Option (List ℕ)). EndsBefore o row) e h)

pub cut_range : (row : List ℕ) (n : ℕ) (start : Option (List ℕ)) (ps ps' : List PlaceView) → IsRowAfter start row → Cuts row n ps ps' → CutsRange row n (ranges_after start ps) (ranges_after start ps')
cut_range row n start _ _ a (cuts_last {p = p} e) = record {
  before = [];
  range = record { tablet = p.tablet; after = start; end = p.end };
  rest = [];
  was = refl;
  is = refl;
  has = record { past = a; within = infinite p.end row e };
}
cut_range row n start _ _ a (cuts {p = p} {end = end} {ps = ps} e l) = record {
  before = [];
  range = record { tablet = p.tablet; after = start; end = p.end };
  rest = ranges_after p.end ps;
  was = refl;
  is = refl;
  has = record { past = a; within = finite p.end row end e l };
}
cut_range row n start _ _ a (cuts_later {p = p} {ps = ps} {ps' = ps'} h c) =
    let head : TabletRange = record { tablet = p.tablet; after = start; end = p.end } in
    let rest : CutsRange row n (ranges_after p.end ps) (ranges_after p.end ps') = cut_range row n p.end ps ps' (before_after p.end row h) c in
    record {
      before = head ∷ rest.before;
      range = rest.range;
      rest = rest.rest;
      was = ap (λ (rs : List TabletRange). head ∷ rs) rest.was;
      is = ap (λ (rs : List TabletRange). head ∷ rs) rest.is;
      has = rest.has;
    }

-- a range that has a row has every row from its start up to that row
ends_later : (end : Option (List ℕ)) (row other : List ℕ) → (EndsBefore end row → ⊥) → (byte_cmp row other ≡ Less → ⊥) → EndsBefore end other → ⊥
ends_later None row other n m h = h
ends_later (Some last) row other n m h = n (below_other last other row h m)

starts_before : (start : Option (List ℕ)) (row other : List ℕ) → IsRowAfter start row → byte_cmp row other ≡ Less → IsRowAfter start other
starts_before None row other a l = tt
starts_before (Some first) row other a l = nat_list_cmp_total.trans first row other a l

pub parts_range : (row : List ℕ) (n : ℕ) (range : TabletRange) → HasRow range row → PartsRange row n range
parts_range row n range h = record {
  left = λ other. (
    λ k. (record { past = k.past; within = ends_later range.end row other h.within k.within }, k.within),
    λ k. record { past = k.0.past; within = k.1 },
  );
  right = λ other. (
    λ k. (record { past = starts_before range.after row other h.past k.past; within = k.within }, k.past),
    λ k. record { past = k.1; within = k.0.within },
  );
}

pub same_after : (f : PlaceView → PlaceView) → ((p : PlaceView) → (f p).tablet ≡ p.tablet) → ((p : PlaceView) → (f p).end ≡ p.end) → (start : Option (List ℕ)) (ps : List PlaceView) → ranges_after start (map f ps) ≡ ranges_after start ps
same_after f t e start [] = refl
same_after f t e start (p ∷ ps) =
    ap (λ (end : Option (List ℕ)). record { tablet = (f p).tablet; after = start; end = (f p).end } ∷ ranges_after end (map f ps)) (e p)
    ∙ (ap (λ (rs : List TabletRange). record { tablet = (f p).tablet; after = start; end = (f p).end } ∷ rs) (same_after f t e p.end ps)
    ∙ (λ i. record { tablet = t p i; after = start; end = e p i } ∷ ranges_after p.end ps))

pub moved_ranges : (n server : ℕ) (ps : List PlaceView) → ranges (moved n server ps) ≡ ranges ps
moved_ranges n server ps = same_after (on_server n server) (server_tablet n server) (server_end n server) None ps

pub filed_ranges : (n : ℕ) (names : List ℕ) (ps : List PlaceView) → ranges (with_files n names ps) ≡ ranges ps
filed_ranges n names ps = same_after (naming n names) (files_tablet n names) (files_end n names) None ps
