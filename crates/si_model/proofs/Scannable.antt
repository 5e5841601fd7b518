-- A scan to which no refusal applies has an answer: for the next cell alone.
use Rattle.std.proofs.Common.{◌≡◌, ◌≢◌, ℕ, ◌<◌, ◌≤◌, Bool, true, false, List, [], ◌∷◌, length, Option, Some, None, inl, inr, refl, sym, ap, subst, arith}
use Rattle.std.proofs.lemmas.Bool.{cases_lt}
use Rattle.cell_key.specs.Places.{IsAfter}
use Rattle.si_model.specs.Sets.{◌∈◌, here}
use Rattle.si_model.specs.declared.replies.Cell.{Cell}
use Rattle.si_model.specs.Machine.{State, Value, Open, Range, Item, Valued, Locked, Unsent, ToEnd, UpTo, Reply, ScanFrom, InPhase, IsSnapshot, Acts, scans}
use Rattle.si_model.specs.Laws.{OneMark}
use Rattle.si_model.specs.Scans.{place_at, IsBetween, IsOfFamily, IsFreeAt, Covers, IsUpToRow, Says, IsSaid, Rise}
use Rattle.std.specs.Cmp.{tied_itself}
use Rattle.si_model.proofs.Left.{place_cmp_total}
use Rattle.si_model.proofs.Tools.{each_cons}
use Rattle.si_model.proofs.Decided.{mark_of, snapshot_of}
use Rattle.si_model.proofs.Without.{cases_bytes}
use Rattle.si_model.proofs.NextCells.{next_cell, comes_next, only_next, cases_row, none_left}

-- a possible answer for a cell: a value is sent unless only keys are asked for
pub record Sayable (st : State) (s : ℕ) (keys_only : Bool) (x : Cell) : Type 0 where
  pub said : Option Item
  pub is : IsSaid st s x said
  pub unsent : keys_only ≡ true → (value : Value) → said ≢ Some (Valued value)
  pub withheld : said ≡ Some Unsent → keys_only ≡ true

valued : (st : State) (s : ℕ) (x : Cell) (keys_only : Bool) (value : Value) → IsFreeAt st s x → IsSnapshot st.commits s x (Some value) → Sayable st s keys_only x
valued st s x true value free shown = record { said = Some Unsent; is = (free, (value, shown)); unsent = λ e other f. cc; withheld = λ e. refl }
valued st s x false value free shown = record { said = Some (Valued value); is = (free, shown); unsent = λ e other. cc; withheld = λ e. cc }

by_answer : (st : State) (s : ℕ) (x : Cell) (keys_only : Bool) (answer : Option Value) → IsFreeAt st s x → IsSnapshot st.commits s x answer → Sayable st s keys_only x
by_answer st s x keys_only None free shown = record { said = None; is = (free, shown); unsent = λ e other f. cc; withheld = λ e. cc }
by_answer st s x keys_only (Some value) free shown = valued st s x keys_only value free shown

sayable : (st : State) (s : ℕ) (keys_only : Bool) (x : Cell) → OneMark st → Sayable st s keys_only x
sayable st s keys_only x one = let shown = snapshot_of st.commits s x in elim (mark_of st.marks x) [
  | inr none ↦ by_answer st s x keys_only shown.0 (λ t m. absurd (none t m)) shown.1
  | inl (t, m) ↦ elim (cases_lt s t) [
    | inl late ↦ by_answer st s x keys_only shown.0 (λ u n. subst (λ (v : ℕ). s < v) (one x t u m n) late) shown.1
    | inr low ↦ record { said = Some (Locked t); is = (m, low); unsent = λ e value f. cc; withheld = λ e. cc }
  ]
]

-- the named cells, if this is the answer for the only cell
abbrev named : Cell → Option Item → List (Cell × Item)
named x None = []
named x (Some item) = (x, item) ∷ []

-- it is the answer for that cell, and there is no other
says_one : (x : Cell) (said other : Option Item) → Says (named x said) x other → other ≡ said
says_one x None None by = refl
says_one x None (Some item) by = elim by [ ]
says_one x (Some item) None by = absurd (by item here)
says_one x (Some item) (Some other) by = each_cons (λ (n : Cell × Item). n.1 ≡ other → Some other ≡ Some item) (λ e. ap Some (sym e)) (λ n m. elim m [ ]) (x, other) by refl

names_it : (x : Cell) (said : Option Item) (y : Cell) (item : Item) → (y, item) ∈ named x said → (y ≡ x) × (said ≡ Some item)
names_it x None y item m = elim m [ ]
names_it x (Some one) y item m = each_cons (λ (n : Cell × Item). (n.0 ≡ x) × (Some one ≡ Some n.1)) (refl, refl) (λ n k. elim k [ ]) (y, item) m

module _ (st : State) (s n : ℕ) (range : Range) (keys_only : Bool) (one : OneMark st) (h : InPhase st s Open) (some : 1 ≤ n) where
  abbrev Scans : Type 0
  Scans = (r : Reply) × (next : State) × Acts st (ScanFrom s range keys_only n) r next

  abbrev x : Cell
  x = next_cell range.after

  -- nothing is left of the range
  at_end : ((y : Cell) → ¬ IsBetween range y) → Scans
  at_end none = (
    _,
    _,
    scans {items = []} {reach = ToEnd} h (record {
      said = λ y c. absurd (none y c.between);
      covered = λ y item m. elim m [ ];
      rises = tt;
      few = omega arith;
      stops = λ last e. cc;
      unsent = λ e y value m. elim m [ ];
      withheld = λ y m. elim m [ ];
    }),
  )

  -- the next cell is of another family
  passes : IsBetween range x → ¬ IsOfFamily range.family x.family → Scans
  passes between other = (
    _,
    _,
    scans {items = []} {reach = UpTo x} h (record {
      said = λ y c. absurd (other (subst (λ (z : Cell). IsOfFamily range.family z.family) (only_next range.after y c.between.after c.reached) c.family));
      covered = λ y item m. elim m [ ];
      rises = tt;
      few = omega arith;
      stops = λ last e. subst (λ (z : Cell). IsBetween range z) (is_last last e) between;
      unsent = λ e y value m. elim m [ ];
      withheld = λ y m. elim m [ ];
    }),
  )
    where
      is_last : (last : Cell) → UpTo x ≡ UpTo last → x ≡ last
      is_last last e = cc

  says : IsBetween range x → IsOfFamily range.family x.family → Sayable st s keys_only x → Scans
  says between family to = (
    _,
    _,
    scans {items = named x to.said} {reach = UpTo x} h (record {
      said = λ y c other by. let e = only_next range.after y c.between.after c.reached in
          subst (λ (z : Cell). IsSaid st s z other) (sym e)
          (subst (λ (o : Option Item). IsSaid st s x o) (sym (says_one x to.said other (subst (λ (z : Cell). Says (named x to.said) z other) e by))) to.is);
      covered = λ y item m. subst (λ (z : Cell). Covers range (UpTo x) z) (sym (names_it x to.said y item m).0) (record { between = between; family = family; reached = not_after });
      rises = rises to.said;
      few = few to.said;
      stops = λ last e. subst (λ (z : Cell). IsBetween range z) (is_last last e) between;
      unsent = λ e y value m. to.unsent e value (names_it x to.said y (Valued value) m).1;
      withheld = λ y m. inl (to.withheld (names_it x to.said y Unsent m).1);
    }),
  )
    where
      is_last : (last : Cell) → UpTo x ≡ UpTo last → x ≡ last
      is_last last e = cc

      not_after : ¬ IsAfter (Some (place_at x)) (place_at x)
      not_after e = let same = tied_itself place_cmp_total (place_at x) in cc

      rises : (said : Option Item) → Rise range.after (named x said)
      rises None = tt
      rises (Some item) = (comes_next range.after, tt)

      few : (said : Option Item) → length (named x said) ≤ n
      few None = omega arith
      few (Some item) = some

  by_family : IsBetween range x → (family : Option (List ℕ)) → range.family ≡ family → Scans
  by_family between None e = says between (subst (λ (f : Option (List ℕ)). IsOfFamily f x.family) (sym e) tt) (sayable st s keys_only x one)
  by_family between (Some wanted) e = elim (cases_bytes x.family wanted) [
    | inl is ↦ says between (subst (λ (f : Option (List ℕ)). IsOfFamily f x.family) (sym e) is) (sayable st s keys_only x one)
    | inr ne ↦ passes between (λ is. ne (subst (λ (f : Option (List ℕ)). IsOfFamily f x.family) e is))
  ]

  pub can_scan : Scans
  can_scan = elim (cases_row range.end x.row) [
    | inl up ↦ by_family (record { after = comes_next range.after; up_to = up }) range.family refl
    | inr (last, e, low) ↦ at_end (λ y b. subst (λ (end : Option (List ℕ)). IsUpToRow end y.row) e b.up_to (none_left range.after last low y b.after))
  ]
