-- The progress of a scan from one cell to the next, and its result at the end.
use Rattle.std.proofs.Common.{◌≡◌, ◌≢◌, ℕ, ◌+◌, ◌-◌, ◌≤◌, ◌⊎◌, inl, inr, Bool, List, [], ◌∷◌, ◌++◌, length, Option, Some, None, IsSome, refl, sym, ap, subst, ◌∙◌, arith}
use Rattle.std.specs.Prelude.{option_map}
use Rattle.std.specs.Cmp.{tied_itself}
use Rattle.std.specs.Ordering.{ordering_reverse, ordering_then}
use Rattle.std.specs.Cmp.Lexicographic.{nat_list_cmp_total}
use Rattle.std.specs.FinMap.{get, nat_cmp-IsAntisymmetric, slice_cmp-IsAntisymmetric}
use Rattle.std.specs.declared.cmp.Ordering.{Ordering}
use Rattle.std.specs.declared.cmp.Ordering.TheVariants.{Less, Equal, Greater}
use Rattle.std.proofs.lemmas.Option.{same_Some}
use Rattle.cell_key.specs.Cells.{Cells}
use Rattle.cell_key.specs.Keys.{byte_cmp}
use Rattle.cell_key.specs.Places.{Place, AreNextCells, HasCell, IsAfter, IsNextCell, place_cmp}
use Rattle.cell_key.specs.declared.keys.Qualifier.{Qualifier}
use Rattle.cell_key.specs.declared.keys.Qualifier.TheVariants.{Lock, Write}
use Rattle.rows.specs.Calls.{IsRowFrom}
use Rattle.rows.proofs.RowsFrom.{from_later, row_after}
use Rattle.si_model.specs.Machine.{Range, Item, ToEnd, UpTo}
use Rattle.si_model.specs.Reads.{cell_of}
use Rattle.si_model.specs.Scans.{IsAfterCell, IsBetween, IsOfFamily, IsUpToRow, Rise, Says, place_at}
use Rattle.si_model.specs.Sets.{◌∈◌, here, there}
use Rattle.si_model.specs.ShowsCells.{at, key_of}
use Rattle.si_model.specs.declared.replies.Cell.{Cell}
use Rattle.si_model.specs.declared.replies.Found.TheVariants.{Nothing}
use Rattle.si_model.proofs.Left.{exact_places, place_cmp_total}
use Rattle.si_model.proofs.Tools.{each_cons}
use Rattle.txn_client.specs.Gathering.{HasGathered}
use Rattle.txn_client.specs.Reads.{IsFound}
use Rattle.txn_client.specs.Scans.{DoesNotFit, IsLastCell, IsReadAs, IsScanFound, LooksAt, begins, goes_on}

-- ---- lists

snoc_in : {A : Type 0} (xs : List A) (x y : A) → y ∈ (xs ++ (x ∷ [])) → (y ∈ xs) ⊎ (y ≡ x)
snoc_in {A} [] x y i = each_cons (λ (n : A). (n ∈ []) ⊎ (n ≡ x)) (inr refl) (λ n j. inl j) y i
snoc_in {A} (z ∷ zs) x y i =
    each_cons (λ (n : A). (n ∈ (z ∷ zs)) ⊎ (n ≡ x)) (inl here) (λ n j. elim (snoc_in zs x n j) [ inl k ↦ inl (there k) | inr e ↦ inr e ]) y i

left_in : {A : Type 0} (xs ys : List A) (y : A) → y ∈ xs → y ∈ (xs ++ ys)
left_in {A} [] ys y i = elim i [ ]
left_in {A} (z ∷ zs) ys y i = each_cons (λ (n : A). n ∈ (z ∷ (zs ++ ys))) here (λ n j. there (left_in zs ys n j)) y i

last_in : {A : Type 0} (xs : List A) (x : A) → x ∈ (xs ++ (x ∷ []))
last_in [] x = here
last_in (z ∷ zs) x = there (last_in zs x)

rise_snoc : (after : Option Cell) (items : List (Cell × Item)) (x : Cell) (item : Item) → IsAfterCell after x → ((named : Cell × Item) → named ∈ items → IsAfterCell (Some named.0) x) → Rise after items
    → Rise after (items ++ ((x, item) ∷ []))
rise_snoc after [] x item later each rises = (later, tt)
rise_snoc after (named ∷ rest) x item later each rises = (rises.0, rise_snoc (Some named.0) rest x item (each named here) (λ n j. each n (there j)) rises.1)

-- ---- the order of cells

after_then : (before : Option Cell) (x y : Cell) → IsAfterCell before x → IsAfterCell (Some x) y → IsAfterCell before y
after_then None x y a b = tt
after_then (Some z) x y a b = place_cmp_total.trans (place_at z) (place_at x) (place_at y) a b

is_after : (last : Option Cell) (x : Cell) → IsAfterCell last x ⊎ (¬ IsAfterCell last x)
is_after None x = inl tt
is_after (Some z) x = by (place_cmp (place_at z) (place_at x)) refl
  where
    by : (o : Ordering) → place_cmp (place_at z) (place_at x) ≡ o → (place_cmp (place_at z) (place_at x) ≡ Less) ⊎ (¬ (place_cmp (place_at z) (place_at x) ≡ Less))
    by Less e = inl e
    by Equal e = inr (λ l. let f : ⊥ = cc in f)
    by Greater e = inr (λ l. let f : ⊥ = cc in f)

-- a cell that isn't after another one is before it, or the same
before_or_same : (x y : Cell) → ¬ IsAfterCell (Some x) y → (place_cmp (place_at y) (place_at x) ≡ Less) ⊎ (y ≡ x)
before_or_same x y not_after = by (place_cmp (place_at y) (place_at x)) refl
  where
    by : (o : Ordering) → place_cmp (place_at y) (place_at x) ≡ o → (place_cmp (place_at y) (place_at x) ≡ Less) ⊎ (y ≡ x)
    by Less e = inl e
    by Equal e = inr (ap (λ (p : Place). cell_of p.0 p.1) (exact_places (place_at y) (place_at x) e))
    by Greater e = absurd (not_after (place_cmp_total.antisymm (place_at x) (place_at y) ∙ ap ordering_reverse e))

not_itself : (x : Cell) → place_cmp (place_at x) (place_at x) ≡ Less → ⊥
not_itself x l = let e = tied_itself place_cmp_total (place_at x) in let f : ⊥ = cc in f

-- a cell that isn't after the last one comes before a cell that is
before_it : (last : Option Cell) (y x : Cell) → ¬ IsAfterCell last y → IsAfterCell last x → IsAfterCell (Some y) x
before_it None y x n a = absurd (n tt)
before_it (Some z) y x n a = elim (before_or_same z y n) [
  | inl l ↦ place_cmp_total.trans (place_at y) (place_at z) (place_at x) l a
  | inr e ↦ subst (λ (w : Cell). IsAfterCell (Some w) x) (sym e) a
]

pub as_after : (last : Option Cell) (x : Cell) → IsAfter (option_map place_at last) (place_at x) → IsAfterCell last x
as_after None x a = tt
as_after (Some z) x a = a

pub after_as : (last : Option Cell) (x : Cell) → IsAfterCell last x → IsAfter (option_map place_at last) (place_at x)
after_as None x a = tt
after_as (Some z) x a = a

first_less : (r o : Ordering) → ordering_then r o ≡ Less → r ≢ Greater
first_less Less o h e = cc
first_less Equal o h e = cc
first_less Greater o h e = cc

-- a cell before a cell up to the end is up to it too
earlier_too : (end : Option (List ℕ)) (x y : Cell) → place_cmp (place_at x) (place_at y) ≡ Less → IsUpToRow end y.row → IsUpToRow end x.row
earlier_too None x y before up = tt
earlier_too (Some e) x y before up = λ past. by past (byte_cmp x.row y.row) refl
  where
    by : byte_cmp e x.row ≡ Less → (o : Ordering) → byte_cmp x.row y.row ≡ o → ⊥
    by past Less f = up (nat_list_cmp_total.trans e x.row y.row past f)
    by past Equal f = up (subst (λ (row : List ℕ). byte_cmp e row ≡ Less) (slice_cmp-IsAntisymmetric nat_cmp-IsAntisymmetric x.row y.row f) past)
    by past Greater f = first_less (byte_cmp x.row y.row) (byte_cmp x.family y.family) before f

-- ---- a cell without a key

some_of : {A : Type 0} (o : Option A) (a : A) → o ≡ Some a → IsSome o
some_of {A} o a e = subst (λ (p : Option A). IsSome p) (sym e) refl

no_key : (cells : Cells) (x : Cell) → ¬ HasCell cells (place_at x) → (q : Qualifier) (n : ℕ) → at cells x q n ≡ None
no_key cells x none q n = by (get cells (key_of x q n)) refl
  where
    by : (o : Option (List ℕ)) → get cells (key_of x q n) ≡ o → get cells (key_of x q n) ≡ None
    by None e = e
    by (Some b) e = absurd (none (record { key = key_of x q n; at = refl; some = some_of (get cells (key_of x q n)) b e }))

has_nothing : (cells : Cells) (x : Cell) (s : ℕ) → ¬ HasCell cells (place_at x) → IsFound cells x s Nothing
has_nothing cells x s none = (λ n lo hi. no_key cells x none Lock n, inl (λ n lo hi. no_key cells x none Write n))

-- ---- the end of the range

-- no cell is left
pub none_left : (cells : Cells) (range : Range) (last : Option Cell) → IsNextCell cells (option_map place_at last) None → IsLastCell cells range last
none_left cells range last none x after has up = none (place_at x) (after_as last x after) has

-- the next cell is after the end
pub past_end : (cells : Cells) (range : Range) (last : Option Cell) (x : Cell) → IsNextCell cells (option_map place_at last) (Some (place_at x)) → ¬ IsUpToRow range.end x.row → IsLastCell cells range last
past_end cells range last x next past y after has up = by (place_cmp (place_at y) (place_at x)) refl
  where
    by : (o : Ordering) → place_cmp (place_at y) (place_at x) ≡ o → ⊥
    by Less e = next.2 (place_at y) (after_as last y after) e has
    by Equal e = past (subst (λ (z : Cell). IsUpToRow range.end z.row) (ap (λ (p : Place). cell_of p.0 p.1) (exact_places (place_at y) (place_at x) e)) up)
    by Greater e = past (earlier_too range.end x y (place_cmp_total.antisymm (place_at x) (place_at y) ∙ ap ordering_reverse e) up)

-- ---- places that are next

pub first_next : (cells : Cells) (after : Option Place) (most : ℕ) (places : List Place) (place : Place) (rest : List Place) → AreNextCells cells after most places → places ≡ place ∷ rest
    → (1 ≤ most) × IsNextCell cells after (Some place) × AreNextCells cells (Some place) (most - 1) rest
first_next cells after most places place rest next is = subst (λ (ps : List Place). AreNextCells cells after most ps) is next

pub rest_next : (cells : Cells) (last : Option Cell) (x : Cell) (most left : ℕ) (rest : List Place) → last ≡ Some x → left ≡ most - 1 → AreNextCells cells (Some (place_at x)) (most - 1) rest → AreNextCells cells (option_map place_at last) left rest
rest_next cells last x most left rest is less next =
    subst (λ (o : Option Cell). AreNextCells cells (option_map place_at o) left rest) (sym is) (subst (λ (k : ℕ). AreNextCells cells (Some (place_at x)) k rest) (sym less) next)

pub none_next : (cells : Cells) (after : Option Place) (most : ℕ) (places : List Place) → AreNextCells cells after most places → length places ≡ 0 → 1 ≤ most → IsNextCell cells after None
none_next cells after most [] next none some = next some
none_next cells after most (p ∷ ps) next none some = absurd (omega arith)

-- ---- the cells that were looked at

-- each cell after the last of them is after the beginning of the range
pub looks_after : (cells : Cells) (range : Range) (n : ℕ) (last : Option Cell) → LooksAt cells range n last → (y : Cell) → IsAfterCell last y → IsAfterCell range.after y
looks_after cells range n last begins y a = a
looks_after cells range n last (goes_on {n = m} {last = before} {x = x} looks next up_to) y a = looks_after cells range m before looks y (after_then before x y (as_after before x next.0) a)

pub looked_between : (cells : Cells) (range : Range) (n : ℕ) (last : Option Cell) → LooksAt cells range n last → 1 ≤ n → (x : Cell) → last ≡ Some x → IsBetween range x
looked_between cells range n last begins some x is = absurd (omega arith)
looked_between cells range n last (goes_on {n = m} {last = before} {x = y} looks next up_to) some x is =
    subst (λ (z : Cell). IsBetween range z) (same_Some y x is) (record { after = looks_after cells range m before looks y (as_after before y next.0); up_to = up_to })

-- each row from the last of them on is a row from the beginning of the range on
pub looks_from : (cells : Cells) (range : Range) (n : ℕ) (last : Option Cell) → LooksAt cells range n last → (row : List ℕ) → IsRowFrom (option_map place_at last) row → IsRowFrom (option_map place_at range.after) row
looks_from cells range n last begins row from = from
looks_from cells range n last (goes_on {n = m} {last = before} {x = x} looks next up_to) row from =
    from_later (option_map place_at range.after) (place_at x) (after_as range.after x (looks_after cells range m before looks x (as_after before x next.0))) row from

-- ---- one more cell

module _ (cells : Cells) (s : ℕ) (range : Range) (keys_only : Bool) where
  -- a cell that isn't named has nothing
  unnamed : (items : List (Cell × Item)) (y : Cell) → ((item : Item) → ¬ ((y, item) ∈ items)) → IsFound cells y s Nothing → (said : Option Item) → Says items y said → IsReadAs cells s keys_only y said
  unnamed items y none nothing None says = nothing
  unnamed items y none nothing (Some item) says = absurd (none item says)

  pub gathers_none : HasGathered cells s range keys_only [] 0 range.after
  gathers_none = record {
    said = λ x after not_after family said says. absurd (not_after after);
    between = λ x item i. elim i [ ];
    family = λ x item i. elim i [ ];
    passed = λ x item i. elim i [ ];
    rises = tt;
    looks = begins;
  }

  module _ (items : List (Cell × Item)) (n : ℕ) (last : Option Cell) (x : Cell) (g : HasGathered cells s range keys_only items n last) (next : IsNextCell cells (option_map place_at last) (Some (place_at x))) (up_to : IsUpToRow range.end x.row) where
    later : IsAfterCell last x
    later = as_after last x next.0

    pub next_between : IsBetween range x
    next_between = record { after = looks_after cells range n last g.looks x later; up_to = up_to }

    -- its row is one from the beginning of the range on
    pub row_from : IsRowFrom (option_map place_at range.after) x.row
    row_from = row_after (option_map place_at range.after) (place_at x) (after_as range.after x next_between.after)

    -- between the last cell and the next one no cell has anything
    nothing_between : (y : Cell) → IsAfterCell last y → place_cmp (place_at y) (place_at x) ≡ Less → IsFound cells y s Nothing
    nothing_between y after before = has_nothing cells y s (next.2 (place_at y) (after_as last y after) before)

    not_passed : (y : Cell) (item : Item) → (y, item) ∈ items → ¬ IsAfterCell (Some x) y
    not_passed y item i after = g.passed y item i (after_then last x y later after)

    pub passes : (IsOfFamily range.family x.family → IsFound cells x s Nothing) → HasGathered cells s range keys_only items (n + 1) (Some x)
    passes nothing = record {
      said = λ y after not_after family said says. elim (is_after last y) [
        | inr before ↦ g.said y after before family said says
        | inl past ↦ unnamed items y (λ item i. g.passed y item i past) (elim (before_or_same x y not_after) [
          | inl less ↦ nothing_between y past less
          | inr same ↦ subst (λ (z : Cell). IsFound cells z s Nothing) (sym same) (nothing (subst (λ (z : Cell). IsOfFamily range.family z.family) same family))
        ]) said says
      ];
      between = g.between;
      family = g.family;
      passed = not_passed;
      rises = g.rises;
      looks = goes_on g.looks next up_to;
    }

    module _ (item : Item) (family : IsOfFamily range.family x.family) (read : IsReadAs cells s keys_only x (Some item)) where
      abbrev more : List (Cell × Item)
      more = items ++ ((x, item) ∷ [])

      -- each named cell was named before, or is this cell
      each_more : (P : Cell → Item → Type 0) → ((y : Cell) (i : Item) → (y, i) ∈ items → P y i) → P x item → (y : Cell) (i : Item) → (y, i) ∈ more → P y i
      each_more P old new y i among = elim (snoc_in items (x, item) (y, i) among) [
        | inl k ↦ old y i k
        | inr e ↦ subst (λ (m : Cell × Item). P m.0 m.1) (sym e) new
      ]

      said_before : (y : Cell) → ¬ IsAfterCell last y → (said : Option Item) → Says more y said → Says items y said
      said_before y before None says = λ i k. says i (left_in items ((x, item) ∷ []) (y, i) k)
      said_before y before (Some i) says = elim (snoc_in items (x, item) (y, i) says) [
        | inl k ↦ k
        | inr e ↦ absurd (before (subst (λ (z : Cell). IsAfterCell last z) (sym (ap (λ (m : Cell × Item). m.0) e)) later))
      ]

      said_of_it : (said : Option Item) → Says more x said → IsReadAs cells s keys_only x said
      said_of_it None says = absurd (says item (last_in items (x, item)))
      said_of_it (Some i) says = elim (snoc_in items (x, item) (x, i) says) [
        | inl k ↦ absurd (g.passed x i k later)
        | inr e ↦ subst (λ (j : Item). IsReadAs cells s keys_only x (Some j)) (sym (ap (λ (m : Cell × Item). m.1) e)) read
      ]

      -- a cell between the two isn't named
      none_between : (y : Cell) → IsAfterCell last y → place_cmp (place_at y) (place_at x) ≡ Less → (i : Item) → ¬ ((y, i) ∈ more)
      none_between y past less i among = elim (snoc_in items (x, item) (y, i) among) [
        | inl k ↦ g.passed y i k past
        | inr e ↦ not_itself x (subst (λ (z : Cell). place_cmp (place_at z) (place_at x) ≡ Less) (ap (λ (m : Cell × Item). m.0) e) less)
      ]

      pub names : HasGathered cells s range keys_only more (n + 1) (Some x)
      names = record {
        said = λ y after not_after wanted said says. elim (is_after last y) [
          | inr before ↦ g.said y after before wanted said (said_before y before said says)
          | inl past ↦ elim (before_or_same x y not_after) [
            | inl less ↦ unnamed more y (none_between y past less) (nothing_between y past less) said says
            | inr same ↦ subst (λ (z : Cell). Says more z said → IsReadAs cells s keys_only z said) (sym same) (said_of_it said) says
          ]
        ];
        between = each_more (λ y i. IsBetween range y) g.between next_between;
        family = each_more (λ y i. IsOfFamily range.family y.family) g.family family;
        passed = each_more (λ y i. ¬ IsAfterCell (Some x) y) not_passed (not_itself x);
        rises = rise_snoc range.after items x item next_between.after (λ named i. before_it last named.0 x (g.passed named.0 named.1 i) later) g.rises;
        looks = goes_on g.looks next up_to;
      }

  -- ---- the end

  module _ (items : List (Cell × Item)) (n count : ℕ) (few : length items ≤ count) (within : n ≤ count) where
    pub ends : (last : Option Cell) → HasGathered cells s range keys_only items n last → IsLastCell cells range last → IsScanFound cells s range keys_only count items ToEnd
    ends last g none = record {
      said = λ y covers said says. elim (is_after last y) [
        | inr before ↦ g.said y covers.between.after before covers.family said says
        | inl past ↦ unnamed items y (λ item i. g.passed y item i past) (has_nothing cells y s (λ has. none y past has covers.between.up_to)) said says
      ];
      covered = λ y item i. record { between = g.between y item i; family = g.family y item i; reached = tt };
      rises = g.rises;
      few = few;
      stops = (n, last, within, g.looks, none);
    }

    pub stops_at : (x : Cell) → HasGathered cells s range keys_only items n (Some x) → 1 ≤ n → (n ≡ count) ⊎ DoesNotFit cells s range keys_only items (Some x) → IsScanFound cells s range keys_only count items (UpTo x)
    stops_at x g some why = record {
      said = λ y covers said says. g.said y covers.between.after covers.reached covers.family said says;
      covered = λ y item i. record { between = g.between y item i; family = g.family y item i; reached = g.passed y item i };
      rises = g.rises;
      few = few;
      stops = (n, some, within, g.looks, why);
    }
