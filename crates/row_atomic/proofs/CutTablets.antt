-- If a tablet is cut, its two parts are placed like the table's two parts.
use Rattle.std.proofs.Common.{◌≡◌, ◌≢◌, ℕ, zero, suc, List, [], ◌∷◌, ◌++◌, set, length, Option, Some, None, slice_get, refl, sym, ap, ◌∙◌, subst}
use Rattle.std.proofs.lemmas.Option.{same_Some}
use Rattle.std.specs.List.{AllByRecursion}
use Rattle.std.specs.Cmp.Lexicographic.{nat_list_cmp_total}
use Rattle.std.specs.Ordering.{ordering_reverse}
use Rattle.std.specs.declared.cmp.Ordering.{Ordering}
use Rattle.std.specs.declared.cmp.Ordering.TheVariants.{Less, Greater}
use Rattle.cell_key.specs.Keys.{byte_cmp}
use Rattle.metadata_table.specs.Places.{PlaceView, EndsBefore}
use Rattle.metadata_table.specs.Table.{IsHolder, Cuts, left_part}
use Rattle.metadata_table.specs.Table.Cuts.{cuts_last, cuts, cuts_later}
use Rattle.tablet.specs.Views.{range_of, names_of}
use Rattle.tablet.specs.declared.tablet.Tablet.{Tablet}
use Rattle.row_atomic.specs.Clusters.{tablet_numbered, ArePlaced}
use Rattle.row_atomic.proofs.Numbers.{AreOthers, Differ}
use Rattle.row_atomic.proofs.Shares.{set_there, set_elsewhere}

pub pushed_before : {A : Type 0} (xs ys : List A) (j : ℕ) (x : A) → slice_get xs j ≡ Some x → slice_get (xs ++ ys) j ≡ Some x
pushed_before [] ys j x e = cc
pushed_before (z ∷ xs) ys zero x e = e
pushed_before (z ∷ xs) ys (suc j) x e = pushed_before xs ys j x e

at_end : {A : Type 0} (zs : List A) (y : A) → slice_get (zs ++ y ∷ []) (length zs) ≡ Some y
at_end [] y = refl
at_end (w ∷ zs) y = at_end zs y

pub pushed_there : {A : Type 0} (xs : List A) (i : ℕ) (x y : A) → slice_get (set xs i x ++ y ∷ []) (length xs) ≡ Some y
pushed_there [] i x y = refl
pushed_there (z ∷ xs) zero x y = at_end xs y
pushed_there (z ∷ xs) (suc i) x y = pushed_there xs i x y

-- the holder of a row is the first place whose end is not below the row
pub holder_first : (row : List ℕ) (p h : PlaceView) (ps before after : List PlaceView) → ¬ EndsBefore p.end row → p ∷ ps ≡ before ++ h ∷ after → AllByRecursion (λ q. EndsBefore q.end row) before → h ≡ p
holder_first row p h ps [] after not parts past = cc
holder_first row p h ps (q ∷ before) after not parts past =
    let same : p ≡ q = cc in
    absurd (not (subst (λ (r : PlaceView). EndsBefore r.end row) (sym same) past.0))

pub holder_later : (row : List ℕ) (p h : PlaceView) (ps before after : List PlaceView) → EndsBefore p.end row → p ∷ ps ≡ before ++ h ∷ after → AllByRecursion (λ q. EndsBefore q.end row) before → ¬ EndsBefore h.end row → IsHolder row ps h
holder_later row p h ps [] after ends parts past within =
    let same : p ≡ h = cc in
    absurd (within (subst (λ (r : PlaceView). EndsBefore r.end row) same ends))
holder_later row p h ps (q ∷ before) after ends parts past within =
    let rest : ps ≡ before ++ h ∷ after = cc in
    record { before = before; after = after; parts = rest; past = past.1; within = within }

in_parts : (P : PlaceView → Type 0) (before : List PlaceView) (h : PlaceView) (after : List PlaceView) → AllByRecursion P (before ++ h ∷ after) → P h
in_parts P [] h after all = all.0
in_parts P (q ∷ before) h after all = in_parts P before h after all.1

pub not_below : (end : Option (List ℕ)) (row e : List ℕ) → end ≡ Some e → byte_cmp row e ≡ Less → ¬ EndsBefore end row
not_below None row e is less ends = ends
not_below (Some d) row e is less ends =
    let same : d ≡ e = same_Some d e is in
    let turned : byte_cmp e row ≡ Greater = nat_list_cmp_total.antisymm e row ∙ ap ordering_reverse less in
    let here : byte_cmp d row ≡ Greater = ap (λ (x : List ℕ). byte_cmp x row) same ∙ turned in
    clash (byte_cmp d row) ends here
  where
    clash : (o : Ordering) → o ≡ Less → o ≡ Greater → ⊥
    clash o e g = cc

pub not_below_none : (end : Option (List ℕ)) (row : List ℕ) → end ≡ None → ¬ EndsBefore end row
not_below_none None row is ends = ends
not_below_none (Some d) row is ends = cc

module _ (ts : List Tablet) (i : ℕ) (t left right : Tablet) (row : List ℕ) (there : slice_get ts i ≡ Some t)
    (left_range : range_of left ≡ record { after = (range_of t).after; end = Some row }) (right_range : range_of right ≡ record { after = Some row; end = (range_of t).end })
    (left_names : names_of left ≡ names_of t) (right_names : names_of right ≡ names_of t) where
  abbrev after_cut : List Tablet
  after_cut = set ts i right ++ left ∷ []

  other_placed : (n : ℕ) (v : Tablet) → n ≢ suc i → tablet_numbered n ts ≡ Some v → tablet_numbered n after_cut ≡ Some v
  other_placed zero v other e = cc
  other_placed (suc j) v other e = pushed_before (set ts i right) (left ∷ []) j v (set_elsewhere ts i j right (λ same. other (ap suc same)) ∙ e)

  others_placed : (before : Option (List ℕ)) (ps : List PlaceView) → AreOthers (suc i) ps → ArePlaced ts before ps → ArePlaced after_cut before ps
  others_placed before [] others placed = tt
  others_placed before (p ∷ ps) others placed = (
    record { tablet = placed.0.tablet; numbered = other_placed p.tablet placed.0.tablet others.0 placed.0.numbered; range = placed.0.range; names = placed.0.names },
    others_placed p.end ps others.1 placed.1,
  )

  this_is : (n : ℕ) (v : Tablet) → n ≡ suc i → tablet_numbered n ts ≡ Some v → t ≡ v
  this_is n v n_i e = same_Some t v (sym there ∙ ap (λ (k : ℕ). tablet_numbered k ts) (sym n_i) ∙ e)

  -- the two parts of the place of the tablet
  two_placed : (before : Option (List ℕ)) (p : PlaceView) (ps : List PlaceView) → p.tablet ≡ suc i → AreOthers (suc i) ps → ArePlaced ts before (p ∷ ps) → ArePlaced after_cut before (left_part row (suc (length ts)) p ∷ p ∷ ps)
  two_placed before p ps number others placed =
      let same = this_is p.tablet placed.0.tablet number placed.0.numbered in
      let range : range_of t ≡ record { after = before; end = p.end } = ap range_of same ∙ placed.0.range in
      let names : names_of t ≡ p.files = ap names_of same ∙ placed.0.names in (
        record {
          tablet = left;
          numbered = pushed_there ts i right left;
          range = left_range ∙ ap (λ r. record { after = r.after; end = Some row }) range;
          names = left_names ∙ names;
        },
        (
          record {
            tablet = right;
            numbered = ap (λ (n : ℕ). tablet_numbered n after_cut) number ∙ pushed_before (set ts i right) (left ∷ []) i right (set_there ts i t right there);
            range = right_range ∙ ap (λ r. record { after = Some row; end = r.end }) range;
            names = right_names ∙ names;
          },
          others_placed p.end ps others placed.1,
        ),
      )

  numbers_differ : (p h : PlaceView) (ps : List PlaceView) → AreOthers p.tablet ps → IsHolder row ps h → h.tablet ≢ p.tablet
  numbers_differ p h ps others holder = in_parts (λ q. q.tablet ≢ p.tablet) holder.before h holder.after (subst (λ (qs : List PlaceView). AllByRecursion (λ q. q.tablet ≢ p.tablet) qs) holder.parts others)

  others_than : (p h : PlaceView) (ps : List PlaceView) → h.tablet ≡ suc i → h ≡ p → AreOthers p.tablet ps → AreOthers (suc i) ps
  others_than p h ps number same others = subst (λ (n : ℕ). AreOthers n ps) (ap (λ (q : PlaceView). q.tablet) (sym same) ∙ number) others

  -- The parts are placed where the table was cut.
  pub cut_placed : (before : Option (List ℕ)) (h : PlaceView) (ps ps' : List PlaceView) → h.tablet ≡ suc i → Differ ps → IsHolder row ps h → ArePlaced ts before ps → Cuts row (suc (length ts)) ps ps' → ArePlaced after_cut before ps'
  cut_placed before h ps ps' number differ holder placed (cuts_last {p = p} none) =
      let same = holder_first row p h [] holder.before holder.after (not_below_none p.end row none) holder.parts holder.past in
      two_placed before p [] (ap (λ (q : PlaceView). q.tablet) (sym same) ∙ number) tt placed
  cut_placed before h ps ps' number differ holder placed (cuts {p = p} {end = end} {ps = rest} is less) =
      let same = holder_first row p h rest holder.before holder.after (not_below p.end row end is less) holder.parts holder.past in
      two_placed before p rest (ap (λ (q : PlaceView). q.tablet) (sym same) ∙ number) (others_than p h rest number same differ.0) placed
  cut_placed before h ps ps' number differ holder placed (cuts_later {p = p} {ps = rest} {ps' = rest'} ends more) =
      let later = holder_later row p h rest holder.before holder.after ends holder.parts holder.past holder.within in
      let other : p.tablet ≢ suc i = λ e. numbers_differ p h rest differ.0 later (number ∙ sym e) in (
        record { tablet = placed.0.tablet; numbered = other_placed p.tablet placed.0.tablet other placed.0.numbered; range = placed.0.range; names = placed.0.names },
        cut_placed p.end h rest rest' number differ.1 later placed.1 more,
      )
