-- A worked script of scans.
use Rattle.std.proofs.Common.{◌≡◌, ◌≢◌, ℕ, ◌<◌, ◌≤◌, Bool, true, false, List, [], ◌∷◌, Option, Some, None, codes, inl, inr, refl, sym, ap, subst, lit<, lit≤, arith}
use Rattle.std.specs.FinMap.{gets}
use Rattle.std.specs.Prelude.{slice_get}
use Rattle.std.proofs.lemmas.Option.{same_Some}
use Rattle.si_model.specs.Sets.{◌∈◌, here, there}
use Rattle.si_model.specs.declared.replies.Cell.{Cell}
use Rattle.si_model.specs.Machine.{State, Value, Change, Writes, Open, Commit, Range, Item, Valued, Locked, Unsent, Reach, ToEnd, UpTo, InPhase, Names, IsSnapshot, most_scanned, ScanFrom, Scanned, scans, Step, accepts, rests, goes_on, appends}
use Rattle.std.specs.declared.cmp.Ordering.TheVariants.{Less}
use Rattle.cell_key.specs.Names.{IsRow, IsFamily}
use Rattle.cell_key.specs.Places.{IsAfter, place_cmp}
use Rattle.si_model.specs.Scans.{place_at, HasRows, HasFamilies, IsFreeAt, Covers, Says, IsSaid, IsScanned}
use Rattle.si_model.specs.Scripts.{bob, eve, joe, all_cells, up_to_joe, ScannedCells}
use Rattle.si_model.proofs.Tools.{each_cons, put_in}
use Rattle.si_model.proofs.Acceptable.{scan_ok}
use Rattle.si_model.proofs.ScriptSteps.{IsCell, bob_is, joe_is, begin_step, set_step, first_hold_step, draw_step, commit_step, leaves_only, no_marks, other_mark, run_append, newest, skips}
use Rattle.si_model.proofs.Transfers.{fills}

eve_is : IsCell eve
eve_is = record { row = record { some = lit≤ tt; few = lit≤ tt }; family = bob_is.family }

eve_not_bob : eve ≢ bob
eve_not_bob e = let letters : 69 ≡ 66 = same_Some 69 66 (ap (λ (x : Cell). slice_get x.row 0) e) in absurd (omega (arith, letters))

eve_not_joe : eve ≢ joe
eve_not_joe e = let letters : 69 ≡ 74 = same_Some 69 74 (ap (λ (x : Cell). slice_get x.row 0) e) in absurd (omega (arith, letters))

scan_step : (st : State) (s n : ℕ) (range : Range) (keys_only : Bool) (items : List (Cell × Item)) (reach : Reach) → HasRows range → HasFamilies range → 1 ≤ n → n ≤ most_scanned
    → InPhase st s Open → IsScanned st s range keys_only n items reach
    → Step st (ScanFrom s range keys_only n) (Scanned items reach) (record st { scans = record { start = s; range = range; reach = reach; items = items } ∷ st.scans })
scan_step st s n range keys_only items reach rows families some few h is = accepts (scan_ok h rows families some few) (scans h is)

abbrev first : Commit
first = record { start = 1; stamp = 2; writes = (bob, Some (codes "10")) ∷ (joe, Some (codes "2")) ∷ [] }

abbrev hers : Writes
hers = (eve, Some (codes "5")) ∷ []

abbrev second : Commit
second = record { start = 3; stamp = 5; writes = hers }

-- the first commit names two cells
not_named : (x : Cell) → (bob ≢ x) → (joe ≢ x) → ¬ Names first.writes x
not_named x not_bob not_joe (v, (k, puts)) =
    each_cons (λ (u : Cell × Change). u.0 ≡ x → ⊥) not_bob (each_cons (λ (u : Cell × Change). u.0 ≡ x → ⊥) not_joe (λ u h. elim h [ ])) (x, v) (put_in first.writes k x v puts) refl

-- as of 4 the second commit changes nothing
nothing_yet : (x : Cell) → (bob ≢ x) → (joe ≢ x) → IsSnapshot (second ∷ first ∷ []) 4 x None
nothing_yet x not_bob not_joe =
    inr (refl, each_cons (λ (b : Commit). Names b.writes x → 4 < b.stamp) (λ n. lit< tt) (each_cons (λ (b : Commit). Names b.writes x → 4 < b.stamp) (λ n. absurd (not_named x not_bob not_joe n)) (λ b m. elim m [ ])))

of_bob : IsSnapshot (first ∷ []) 4 bob (Some (codes "10"))
of_bob = newest [] _ 4 0 bob (Some (codes "10")) refl (lit≤ tt) (λ b h. elim h [ ])

of_joe : IsSnapshot (first ∷ []) 4 joe (Some (codes "2"))
of_joe = newest [] _ 4 1 joe (Some (codes "2")) refl (lit≤ tt) (λ b h. elim h [ ])

-- a property of two items' cells holds for each named cell
each_of : (P : Cell → Item → Type 0) (a b : Cell × Item) → P a.0 a.1 → P b.0 b.1 → (x : Cell) (item : Item) → ◌∈◌ {A = Cell × Item} (x, item) (a ∷ b ∷ []) → P x item
each_of P a b of_a of_b x item m = each_cons (λ (n : Cell × Item). P n.0 n.1) of_a (each_cons (λ (n : Cell × Item). P n.0 n.1) of_b (λ n k. elim k [ ])) (x, item) m

only_of : (P : Cell → Item → Type 0) (a : Cell × Item) → P a.0 a.1 → (x : Cell) (item : Item) → ◌∈◌ {A = Cell × Item} (x, item) (a ∷ []) → P x item
only_of P a of_a x item m = each_cons (λ (n : Cell × Item). P n.0 n.1) of_a (λ n k. elim k [ ]) (x, item) m

-- a cell that isn't named differs from the named ones
other_than : (items : List (Cell × Item)) (x y : Cell) (item : Item) → ◌∈◌ {A = Cell × Item} (y, item) items → Says items x None → y ≢ x
other_than items x y item m says e = says item (subst (λ (z : Cell). ◌∈◌ {A = Cell × Item} (z, item) items) e m)

-- while Eve's mark is there
module _ (st : State) (commits : st.commits ≡ first ∷ []) (marks : st.marks ≡ (eve, 3) ∷ []) where
  abbrev two : List (Cell × Item)
  two = (bob, Valued (codes "10")) ∷ (eve, Locked 3) ∷ []

  free : (x : Cell) → (eve ≢ x) → IsFreeAt st 4 x
  free x ne t m = absurd (other_mark eve x 3 ne t (subst (λ (ms : List (Cell × ℕ)). ◌∈◌ {A = Cell × ℕ} (x, t) ms) marks m))

  shown : (x : Cell) (answer : Option Value) → IsSnapshot (first ∷ []) 4 x answer → IsSnapshot st.commits 4 x answer
  shown x answer = subst (λ (cs : List Commit). IsSnapshot cs 4 x answer) (sym commits)

  unnamed : (x : Cell) → Covers all_cells (UpTo eve) x → Says two x None → IsSnapshot (first ∷ []) 4 x None
  unnamed x covers says =
      inr (refl, each_cons (λ (b : Commit). Names b.writes x → 4 < b.stamp) (λ n. absurd (not_named x (other_than two x bob _ here says) (λ e. covers.reached (subst (λ (z : Cell). IsAfter (Some (place_at eve)) (place_at z)) e refl)) n)) (λ b m. elim m [ ]))

  said_two : (x : Cell) → Covers all_cells (UpTo eve) x → (said : Option Item) → Says two x said → IsSaid st 4 x said
  said_two x covers None says = (free x (other_than two x eve _ (there here) says), shown x None (unnamed x covers says))
  said_two x covers (Some item) says = each_of (λ y i. IsSaid st 4 y (Some i)) (bob, Valued (codes "10")) (eve, Locked 3) (free bob eve_not_bob, shown bob (Some (codes "10")) of_bob)
      (subst (λ (ms : List (Cell × ℕ)). ◌∈◌ {A = Cell × ℕ} (eve, 3) ms) (sym marks) here, lit≤ tt) x item says

  meets : IsScanned st 4 all_cells false 2 two (UpTo eve)
  meets = record {
    said = said_two;
    covered = each_of (λ y i. Covers all_cells (UpTo eve) y) (bob, Valued (codes "10")) (eve, Locked 3)
        (record { between = record { after = tt; up_to = tt }; family = tt; reached = λ e. cc }) (record { between = record { after = tt; up_to = tt }; family = tt; reached = λ e. cc });
    rises = (tt, (refl, tt));
    few = lit≤ tt;
    stops = λ last e. record { after = tt; up_to = tt };
    unsent = λ e. cc;
    withheld = λ x m. absurd (each_of (λ y i. i ≢ Unsent) (bob, Valued (codes "10")) (eve, Locked 3) (λ e. cc) (λ e. cc) x Unsent m refl);
  }

-- after her commit
module _ (st : State) (commits : st.commits ≡ second ∷ first ∷ []) (marks : st.marks ≡ []) where
  abbrev both : List (Cell × Item)
  both = (bob, Valued (codes "10")) ∷ (joe, Valued (codes "2")) ∷ []

  abbrev key : List (Cell × Item)
  key = (joe, Unsent) ∷ []

  free_now : (x : Cell) → IsFreeAt st 4 x
  free_now x t m = elim (subst (λ (ms : List (Cell × ℕ)). ◌∈◌ {A = Cell × ℕ} (x, t) ms) marks m) [ ]

  shown_now : (x : Cell) (answer : Option Value) → IsSnapshot (second ∷ first ∷ []) 4 x answer → IsSnapshot st.commits 4 x answer
  shown_now x answer = subst (λ (cs : List Commit). IsSnapshot cs 4 x answer) (sym commits)

  bob_now : IsSnapshot st.commits 4 bob (Some (codes "10"))
  bob_now = shown_now bob (Some (codes "10")) (skips (first ∷ []) 3 5 eve (Some (codes "5")) 4 bob (Some (codes "10")) eve_not_bob of_bob)

  joe_now : IsSnapshot st.commits 4 joe (Some (codes "2"))
  joe_now = shown_now joe (Some (codes "2")) (skips (first ∷ []) 3 5 eve (Some (codes "5")) 4 joe (Some (codes "2")) eve_not_joe of_joe)

  said_both : (x : Cell) → Covers all_cells ToEnd x → (said : Option Item) → Says both x said → IsSaid st 4 x said
  said_both x covers None says = (free_now x, shown_now x None (nothing_yet x (other_than both x bob _ here says) (other_than both x joe _ (there here) says)))
  said_both x covers (Some item) says = each_of (λ y i. IsSaid st 4 y (Some i)) (bob, Valued (codes "10")) (joe, Valued (codes "2")) (free_now bob, bob_now) (free_now joe, joe_now) x item says

  skips_her : IsScanned st 4 all_cells false 1000 both ToEnd
  skips_her = record {
    said = said_both;
    covered = each_of (λ y i. Covers all_cells ToEnd y) (bob, Valued (codes "10")) (joe, Valued (codes "2"))
        (record { between = record { after = tt; up_to = tt }; family = tt; reached = tt }) (record { between = record { after = tt; up_to = tt }; family = tt; reached = tt });
    rises = (tt, (refl, tt));
    few = lit≤ tt;
    stops = λ last e. record { after = tt; up_to = tt };
    unsent = λ e. cc;
    withheld = λ x m. absurd (each_of (λ y i. i ≢ Unsent) (bob, Valued (codes "10")) (joe, Valued (codes "2")) (λ e. cc) (λ e. cc) x Unsent m refl);
  }

  not_bob : (x : Cell) → Covers up_to_joe ToEnd x → bob ≢ x
  not_bob x covers e = let itself : place_cmp (place_at bob) (place_at bob) ≡ Less = subst (λ (z : Cell). place_cmp (place_at bob) (place_at z) ≡ Less) (sym e) covers.between.after in cc

  said_key : (x : Cell) → Covers up_to_joe ToEnd x → (said : Option Item) → Says key x said → IsSaid st 4 x said
  said_key x covers None says = (free_now x, shown_now x None (nothing_yet x (not_bob x covers) (other_than key x joe _ here says)))
  said_key x covers (Some item) says = only_of (λ y i. IsSaid st 4 y (Some i)) (joe, Unsent) (free_now joe, (codes "2", joe_now)) x item says

  names_key : IsScanned st 4 up_to_joe true 10 key ToEnd
  names_key = record {
    said = said_key;
    covered = only_of (λ y i. Covers up_to_joe ToEnd y) (joe, Unsent) (record { between = record { after = refl; up_to = λ e. cc }; family = refl; reached = tt });
    rises = (refl, tt);
    few = lit≤ tt;
    stops = λ last e. cc;
    unsent = λ e x value m. only_of (λ y i. i ≢ Valued value) (joe, Unsent) (λ f. cc) x (Valued value) m refl;
    withheld = λ x m. inl refl;
  }

-- the names of the ranges are within their limits
rows_of_all : HasRows all_cells
rows_of_all = (λ before e. cc, λ end e. cc)

families_of_all : HasFamilies all_cells
families_of_all = (λ before e. cc, λ family e. cc)

rows_to_joe : HasRows up_to_joe
rows_to_joe = (λ before e. subst (λ (x : Cell). IsRow x.row) (same_Some bob before e) bob_is.row, λ end e. subst IsRow (same_Some (codes "Joe") end e) joe_is.row)

families_to_joe : HasFamilies up_to_joe
families_to_joe = (λ before e. subst (λ (x : Cell). IsFamily x.family) (same_Some bob before e) bob_is.family, λ family e. subst IsFamily (same_Some (codes "bal") family e) bob_is.family)

pub scanned_cells : ScannedCells
scanned_cells = (
  _,
  run_append (fills (codes "10") (codes "2") (lit≤ tt) (lit≤ tt))
      (goes_on (begin_step _ 3 (simp gets (lit< tt)) (lit< tt, lit< tt))
      (goes_on (set_step _ 3 eve (codes "5") [] hers eve_is (lit≤ tt) (lit< tt) (simp gets refl) (simp gets refl) appends)
      (goes_on (first_hold_step _ 3 hers eve (Some (codes "5")) (simp gets refl) (simp gets refl) refl (lit≤ tt) (no_marks eve) (each_cons (λ b. b.stamp ≤ 3) (lit≤ tt) (λ b h. elim h [ ])))
      (goes_on (begin_step _ 4 (simp gets (lit< tt)) (lit< tt, lit< tt))
      (goes_on (scan_step _ 4 2 all_cells false ((bob, Valued (codes "10")) ∷ (eve, Locked 3) ∷ []) (UpTo eve) rows_of_all families_of_all (lit≤ tt) (lit≤ tt) (simp gets refl) (meets _ refl refl))
      (goes_on (draw_step _ 3 5 hers (simp gets refl) (simp gets refl) (lit≤ tt) (lit< tt, lit< tt))
      (goes_on (commit_step _ 3 5 hers eve (Some (codes "5")) [] (simp gets refl) (λ h. elim h [ ]) (simp gets refl) refl (lit≤ tt) (leaves_only (eve, 3)))
      (goes_on (scan_step _ 4 1000 all_cells false ((bob, Valued (codes "10")) ∷ (joe, Valued (codes "2")) ∷ []) ToEnd rows_of_all families_of_all (lit≤ tt) (lit≤ tt) (simp gets refl) (skips_her _ refl refl))
      (goes_on (scan_step _ 4 10 up_to_joe true ((joe, Unsent) ∷ []) ToEnd rows_to_joe families_to_joe (lit≤ tt) (lit≤ tt) (simp gets refl) (names_key _ refl refl))
      rests))))))))),
)
