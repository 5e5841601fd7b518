-- The effects of visits, and that their answers are true.
use Rattle.std.proofs.Common.{◌≡◌, ◌≢◌, ℕ, ◌+◌, ◌<◌, ◌≤◌, List, [], ◌∷◌, ◌++◌, length, Option, Some, None, Result, Ok, Err, IfOk, ◌⊎◌, inl, inr, refl, sym, ap, subst, ◌∙◌, arith}
use Rattle.std.specs.Prelude.{IsSome, is_some}
use Rattle.std.proofs.lemmas.Option.{none-some}
use Rattle.std.specs.FinMap.{get, remove}
use Rattle.cell_key.specs.Cells.{Cells}
use Rattle.cell_key.specs.Places.{Place}
use Rattle.cell_key.specs.declared.keys.CellKey.{CellKey}
use Rattle.cell_key.specs.declared.keys.Qualifier.{Qualifier}
use Rattle.cell_key.specs.declared.keys.Qualifier.TheVariants.{Data, Lock, Write}
use Rattle.cell_key.specs.declared.refusals.Refusal.{Refusal}
use Rattle.si_model.specs.Collection as model
use Rattle.si_model.specs.Collection.{Collects, FirstPass, GoesFurther, HasCome, IsTidy, IsUnmarkedBelow, SecondPass, collected_cells, dropped_cells, forgotten_cells, left_of, place_at}
use Rattle.si_model.specs.Machine.{State, Commit}
use Rattle.si_model.specs.Sets.{◌∈◌, here, there}
use Rattle.si_model.specs.Servers.{IsReachedByServers}
use Rattle.si_model.specs.ShowsCells.{at, key_of, IsThere, MayLack, NamesAt, ShowsCells}
use Rattle.si_model.specs.declared.replies.Cell.{Cell}
use Rattle.si_model.specs.declared.replies.CollectReply.{CollectReply}
use Rattle.si_model.specs.declared.replies.CollectReply.TheVariants.{More, Blocked, Collected}
use Rattle.si_model.proofs.Collected.{come_collected, may_erase, no_new_key, shows_collected}
use Rattle.si_model.proofs.CollectorProgress.{comes_further}
use Rattle.si_model.proofs.Left.{left_falls}
use Rattle.si_model.proofs.ShownAt.{cases_key, erased_at, erased_off}
use Rattle.version_collector.specs.Versions.{AreOld, AreShown, AreUnnamed, IsLoneDeletion}
use Rattle.version_collector.specs.Visits.{AreVisits, Comes, EndsWith, HasProgress, HasVisited, IsTold, IsVisit, Thins, Visits, ends, erases_data, erases_deletion, erases_records, none, passes, pass_of, position_of, left_by, stops, then, tidies, turns}
use Rattle.version_collector.specs.declared.collector.Collector.{Collector}

-- The effects of at most n visits: sessions read the same, keys of at most n rows are erased, and the collector has
-- made this progress.
pub record VisitsLeave (n : ℕ) (cells : Cells) (c : Collector) (cells' : Cells) (c' : Collector)
    (st : State) : Type 0 where
  pub collects : Collects cells cells' st
  pub thins : Thins n cells cells'
  pub floor : c'.floor ≡ c.floor
  pub come : Comes cells' st c'

-- ---- unchanged keys, and erased keys, when versions of x are erased

other_row : (k : CellKey) (x : Cell) (q : Qualifier) (s : ℕ) → k.row ≢ x.row → k ≢ key_of x q s
other_row k x q s ne e = ne (ap (λ (l : CellKey). l.row) e)

collected_off : (x : Cell) (vs : List (ℕ × ℕ)) (cells : Cells) (k : CellKey) → k.row ≢ x.row → get (collected_cells cells x vs) k ≡ get cells k
collected_off x [] cells k ne = refl
collected_off x (v ∷ vs) cells k ne =
    collected_off x vs (remove (remove cells (key_of x Write v.0)) (key_of x Data v.1)) k ne
    ∙ (erased_off (remove cells (key_of x Write v.0)) (key_of x Data v.1) k (other_row k x Data v.1 ne) ∙ erased_off cells (key_of x Write v.0) k (other_row k x Write v.0 ne))

dropped_off : (x : Cell) (ts : List ℕ) (cells : Cells) (k : CellKey) → k.row ≢ x.row → get (dropped_cells cells x ts) k ≡ get cells k
dropped_off x [] cells k ne = refl
dropped_off x (t ∷ ts) cells k ne = dropped_off x ts (remove cells (key_of x Data t)) k ne ∙ erased_off cells (key_of x Data t) k (other_row k x Data t ne)

removed_none : (cells : Cells) (q k : CellKey) → get cells k ≡ None → get (remove cells q) k ≡ None
removed_none cells q k e = elim (cases_key k q) [
  | inl same ↦ ap (get (remove cells q)) same ∙ erased_at cells q
  | inr ne ↦ erased_off cells q k ne ∙ e
]

collected_none : (x : Cell) (vs : List (ℕ × ℕ)) (cells : Cells) (k : CellKey) → get cells k ≡ None → get (collected_cells cells x vs) k ≡ None
collected_none x [] cells k e = e
collected_none x (v ∷ vs) cells k e = collected_none x vs (remove (remove cells (key_of x Write v.0)) (key_of x Data v.1)) k
    (removed_none (remove cells (key_of x Write v.0)) (key_of x Data v.1) k (removed_none cells (key_of x Write v.0) k e))

dropped_none : (x : Cell) (ts : List ℕ) (cells : Cells) (k : CellKey) → get cells k ≡ None → get (dropped_cells cells x ts) k ≡ None
dropped_none x [] cells k e = e
dropped_none x (t ∷ ts) cells k e = dropped_none x ts (remove cells (key_of x Data t)) k (removed_none cells (key_of x Data t) k e)

first_collected : (x : Cell) (v : ℕ × ℕ) (vs : List (ℕ × ℕ)) (cells : Cells) → get (collected_cells cells x (v ∷ vs)) (key_of x Write v.0) ≡ None
first_collected x v vs cells = collected_none x vs (remove (remove cells (key_of x Write v.0)) (key_of x Data v.1)) (key_of x Write v.0)
    (removed_none (remove cells (key_of x Write v.0)) (key_of x Data v.1) (key_of x Write v.0) (erased_at cells (key_of x Write v.0)))

first_dropped : (x : Cell) (t : ℕ) (ts : List ℕ) (cells : Cells) → get (dropped_cells cells x (t ∷ ts)) (key_of x Data t) ≡ None
first_dropped x t ts cells = dropped_none x ts (remove cells (key_of x Data t)) (key_of x Data t) (erased_at cells (key_of x Data t))

-- ---- one collection after another

pub collects_none : (cells : Cells) (st : State) → Collects cells cells st
collects_none cells st = record {
  locks = λ x t. refl;
  records = λ x c. inl refl;
  values = λ x t. inl refl;
  together = λ x c t was names gone. absurd (none-some names.0 (sym gone ∙ names.2));
}

module _ (a b c : Cells) (st : State) (first : Collects a b st) (second : Collects b c st) where
  still_none : (x : Cell) (t : ℕ) → at b x Data t ≡ None → at c x Data t ≡ None
  still_none x t e = elim (second.values x t) [ inl same ↦ same ∙ e | inr left ↦ left.0 ]

  record_none : (x : Cell) (s : ℕ) → at b x Write s ≡ None → at c x Write s ≡ None
  record_none x s e = elim (second.records x s) [ inl same ↦ same ∙ e | inr left ↦ left.0 ]

  unnamed_still : (x : Cell) (t : ℕ) → ((s : ℕ) → ¬ NamesAt b x s t) → (s : ℕ) → ¬ NamesAt c x s t
  unnamed_still x t unnamed s h = elim (second.records x s) [
    | inl same ↦ unnamed s (h.0, h.1, sym same ∙ h.2, h.3)
    | inr left ↦ none-some h.0 (sym left.0 ∙ h.2)
  ]

  lacks_still : (x : Cell) (d : Commit) → MayLack b st x d → MayLack c st x d
  lacks_still x d (inl replaced) = inl replaced
  lacks_still x d (inr forgotten) = inr (record {
    deletes = forgotten.deletes;
    cleared = forgotten.cleared;
    oldest = λ s less. record_none x s (forgotten.oldest s less);
  })

  pub collects_then : Collects a c st
  collects_then = record {
    locks = λ x t. second.locks x t ∙ first.locks x t;
    records = λ x s. elim (first.records x s) [
      | inl same ↦ elim (second.records x s) [ inl again ↦ inl (again ∙ same) | inr left ↦ inr left ]
      | inr left ↦ inr (record_none x s left.0, λ d i names is. lacks_still x d (left.1 d i names is))
    ];
    values = λ x t. elim (first.values x t) [
      | inl same ↦ elim (second.values x t) [ inl again ↦ inl (again ∙ same) | inr left ↦ inr left ]
      | inr left ↦ inr (still_none x t left.0, left.1, unnamed_still x t left.2)
    ];
    together = λ x s t was names gone. elim (first.records x s) [
      | inl same ↦ elim (first.values x t) [
        | inl stood ↦ second.together x s t (was.0, stood ∙ was.1) (names.0, names.1, same ∙ names.2, names.3) gone
        | inr left ↦ still_none x t left.0
      ]
      | inr left ↦ still_none x t (first.together x s t was names left.0)
    ];
  }

-- each key is unchanged or erased
pub each_key : (cells cells' : Cells) (st : State) → Collects cells cells' st → (k : CellKey) → (get cells' k ≡ get cells k) ⊎ (get cells' k ≡ None)
each_key cells cells' st collects k = by_column k.qualifier (record { row = k.row; family = k.family }) k.stamp
  where
    by_column : (q : Qualifier) (x : Cell) (s : ℕ) → (at cells' x q s ≡ at cells x q s) ⊎ (at cells' x q s ≡ None)
    by_column Data x s = elim (collects.values x s) [ inl same ↦ inl same | inr left ↦ inr left.0 ]
    by_column Lock x s = inl (collects.locks x s)
    by_column Write x s = elim (collects.records x s) [ inl same ↦ inl same | inr left ↦ inr left.0 ]

-- each lock is unchanged
each_lock : (cells cells' : Cells) (st : State) → Collects cells cells' st → (k : CellKey) → k.qualifier ≡ Lock → get cells' k ≡ get cells k
each_lock cells cells' st collects k is =
    let x : Cell = record { row = k.row; family = k.family } in
    subst (λ (q : Qualifier). at cells' x q k.stamp ≡ at cells x q k.stamp) (sym is) (collects.locks x k.stamp)

-- ---- rows whose keys change

pub thins_none : (n : ℕ) (cells : Cells) → Thins n cells cells
thins_none n cells = record { rows = []; few = omega arith; others = λ k out. refl; fewer = λ k. inl refl; locks = λ k is. refl }

thins_row : (cells cells' : Cells) (st : State) (x : Cell) → Collects cells cells' st → ((k : CellKey) → k.row ≢ x.row → get cells' k ≡ get cells k) → Thins 1 cells cells'
thins_row cells cells' st x collects off = record {
  rows = x.row ∷ [];
  few = omega arith;
  others = λ k out. off k (λ e. out (subst (λ (r : List ℕ). r ∈ (x.row ∷ [])) (sym e) here));
  fewer = each_key cells cells' st collects;
  locks = each_lock cells cells' st collects;
}

in_first : {A : Type 0} (r : A) (xs ys : List A) → r ∈ xs → r ∈ (xs ++ ys)
in_first r [] ys i = elim i [ ]
in_first r (a ∷ xs) ys here = here
in_first r (a ∷ xs) ys (there i) = there (in_first r xs ys i)

in_second : {A : Type 0} (r : A) (xs ys : List A) → r ∈ ys → r ∈ (xs ++ ys)
in_second r [] ys i = i
in_second r (a ∷ xs) ys i = there (in_second r xs ys i)

pub together_length : {A : Type 0} (xs ys : List A) → length (xs ++ ys) ≡ length xs + length ys
together_length [] ys = omega arith
together_length (a ∷ xs) ys = let e = together_length xs ys in omega arith

pub thins_then : (m n : ℕ) (a b c : Cells) → Thins m a b → Thins n b c → Thins (m + n) a c
thins_then m n a b c first second = record {
  rows = first.rows ++ second.rows;
  few = let e = together_length first.rows second.rows in let p = first.few in let q = second.few in omega arith;
  others = λ k out. second.others k (λ i. out (in_second k.row first.rows second.rows i)) ∙ first.others k (λ i. out (in_first k.row first.rows second.rows i));
  fewer = λ k. elim (second.fewer k) [
    | inl same ↦ elim (first.fewer k) [ inl again ↦ inl (same ∙ again) | inr gone ↦ inr (same ∙ gone) ]
    | inr gone ↦ inr gone
  ];
  locks = λ k is. second.locks k is ∙ first.locks k is;
}

pub thins_few : (m n : ℕ) (a b : Cells) → m ≤ n → Thins m a b → Thins n a b
thins_few m n a b le p = record { rows = p.rows; few = let few = p.few in omega arith; others = p.others; fewer = p.fewer; locks = p.locks }

-- ---- one visit

-- the meaning of an answer, by pass and position
abbrev ToldAt : CollectReply → Cells → Cells → State → ℕ → model.Pass → Option Place → model.Pass → Option Place → Type 0
ToldAt More cells cells' st floor pass after pass' after' = left_of cells' pass' after' + 1 ≤ left_of cells pass after
ToldAt (Blocked x t) cells cells' st floor pass after pass' after' = IsThere cells' x Lock t × (t < floor)
ToldAt Collected cells cells' st floor pass after pass' after' = IsUnmarkedBelow st floor × ((x : Cell) → IsTidy cells' x floor)

record LeavesAt (cells cells' : Cells) (st : State) (floor : ℕ) (pass : model.Pass) (after : Option Place) (reply : CollectReply) (pass' : model.Pass) (after' : Option Place) : Type 0 where
  collects : Collects cells cells' st
  thins : Thins 1 cells cells'
  come : HasCome cells' st floor pass' after'
  told : ToldAt reply cells cells' st floor pass after pass' after'

module _ (cells : Cells) (st : State) (reached : IsReachedByServers st) (shown : ShowsCells cells st) (floor : ℕ) (low : floor ≤ st.floor) where
  further : (after : Option Place) → GoesFurther cells st floor after
  further = comes_further cells st shown floor

  leaves_cells : (pass : model.Pass) (after : Option Place) (reply : CollectReply) (pass' : model.Pass) (after' : Option Place)
      → HasCome cells st floor pass' after' → ToldAt reply cells cells st floor pass after pass' after' → LeavesAt cells cells st floor pass after reply pass' after'
  leaves_cells pass after reply pass' after' come told = record { collects = collects_none cells st; thins = thins_none 1 cells; come = come; told = told }

  leaves_fewer : (after : Option Place) (x : Cell) (cells' : Cells) (k : CellKey) → Collects cells cells' st → ((q : CellKey) → q.row ≢ x.row → get cells' q ≡ get cells q)
      → IsSome (get cells k) → get cells' k ≡ None → HasCome cells st floor SecondPass after → LeavesAt cells cells' st floor SecondPass after More SecondPass after
  leaves_fewer after x cells' k collects off was gone come = record {
    collects = collects;
    thins = thins_row cells cells' st x collects off;
    come = come_collected cells cells' st shown collects floor SecondPass after come;
    told = (left_falls cells).erased cells' k after (no_new_key cells cells' st collects) was gone;
  }

  leaves_records : (after : Option Place) (x : Cell) (vs : List (ℕ × ℕ)) → AreOld cells x floor vs → vs ≢ [] → HasCome cells st floor SecondPass after
      → LeavesAt cells (collected_cells cells x vs) st floor SecondPass after More SecondPass after
  leaves_records after x [] old some come = absurd (some refl)
  leaves_records after x (v ∷ vs) old some come =
      leaves_fewer after x (collected_cells cells x (v ∷ vs)) (key_of x Write v.0)
      ((may_erase cells st reached shown floor low come.0).old x old.w (v ∷ vs) old.kept.there old.kept.low old.named)
      (collected_off x (v ∷ vs) cells) (ap is_some (old.named v here).there.2) (first_collected x v vs cells) come

  leaves_data : (after : Option Place) (x : Cell) (ts : List ℕ) → AreUnnamed cells x floor ts → ts ≢ [] → HasCome cells st floor SecondPass after
      → LeavesAt cells (dropped_cells cells x ts) st floor SecondPass after More SecondPass after
  leaves_data after x [] old some come = absurd (some refl)
  leaves_data after x (t ∷ ts) old some come =
      leaves_fewer after x (dropped_cells cells x (t ∷ ts)) (key_of x Data t)
      ((may_erase cells st reached shown floor low come.0).unnamed x (t ∷ ts) (λ u i. let is = old.starts.each u i in (is.0, is.2)))
      (dropped_off x (t ∷ ts) cells) (ap is_some (old.starts.each t here).1.1) (first_dropped x t ts cells) come

  leaves_deletion : (after : Option Place) (x : Cell) (s : ℕ) → IsLoneDeletion cells x floor s → HasCome cells st floor SecondPass after
      → LeavesAt cells (forgotten_cells cells x s) st floor SecondPass after More SecondPass after
  leaves_deletion after x s lone come =
      leaves_fewer after x (forgotten_cells cells x s) (key_of x Write s) ((may_erase cells st reached shown floor low come.0).deletion x s lone.low lone.deletion)
      (λ k ne. erased_off cells (key_of x Write s) k (other_row k x Write s ne)) (ap is_some lone.deletion.there) (erased_at cells (key_of x Write s)) come

  visit_leaves : (pass : model.Pass) (after : Option Place) (reply : CollectReply) (cells' : Cells) (pass' : model.Pass) (after' : Option Place)
      → HasCome cells st floor pass after → IsVisit cells floor pass after reply cells' pass' after' → LeavesAt cells cells' st floor pass after reply pass' after'
  visit_leaves _ _ _ _ _ _ come (stops {after} {x} {t} next stands below) = leaves_cells FirstPass after (Blocked x t) FirstPass after come (stands, below)
  visit_leaves _ _ _ _ _ _ come (passes {after} {x} next unlocked) = leaves_cells FirstPass after More FirstPass (Some (place_at x))
      ((further after).past x next unlocked come) ((left_falls cells).moved FirstPass after (place_at x) next.0 next.1)
  visit_leaves _ _ _ _ _ _ come (turns {after} next) = leaves_cells FirstPass after More SecondPass None ((further after).turned next come) ((left_falls cells).turned after)
  visit_leaves _ _ _ _ _ _ come (erases_records {after} {x} {vs} next old some) = leaves_records after x vs old some come
  visit_leaves _ _ _ _ _ _ come (erases_data {after} {x} {ts} next old some) = leaves_data after x ts old some come
  visit_leaves _ _ _ _ _ _ come (erases_deletion {after} {x} {c} next lone) = leaves_deletion after x c lone come
  visit_leaves _ _ _ _ _ _ come (tidies {after} {x} next tidy) = leaves_cells SecondPass after More SecondPass (Some (place_at x))
      ((further after).tidied x next tidy come) ((left_falls cells).moved SecondPass after (place_at x) next.0 next.1)
  visit_leaves _ _ _ _ _ _ come (ends {after} next) = leaves_cells SecondPass after Collected SecondPass after come (come.0, (further after).ended next come)

module _ (st : State) (reached : IsReachedByServers st) where
  told_by : (reply : CollectReply) (cells : Cells) (c : Collector) (cells' : Cells) (c' : Collector)
      → ToldAt reply cells cells' st c.floor (pass_of c.pass) (position_of c.after) (pass_of c'.pass) (position_of c'.after) → IsTold 1 reply cells c cells' c' st
  told_by More cells c cells' c' told = told
  told_by (Blocked x t) cells c cells' c' told = told
  told_by Collected cells c cells' c' told = told

  pub visit_is : (cells : Cells) (c : Collector) (reply : CollectReply) (cells' : Cells) (c' : Collector) → ShowsCells cells st → c.floor ≤ st.floor → Comes cells st c
      → Visits cells c reply cells' c' → VisitsLeave 1 cells c cells' c' st × IsTold 1 reply cells c cells' c' st
  visit_is cells c reply cells' c' shown low come v =
      let l = visit_leaves cells st reached shown c.floor low (pass_of c.pass) (position_of c.after) reply cells' (pass_of c'.pass) (position_of c'.after) come.0 v.visit in (
        record {
          collects = l.collects;
          thins = l.thins;
          floor = v.floor;
          come = (subst (λ (f : ℕ). HasCome cells' st f (pass_of c'.pass) (position_of c'.after)) (sym v.floor) l.come, v.progress);
        },
        told_by reply cells c cells' c' l.told,
      )

  -- ---- visits in sequence

  leaves_then : (m n : ℕ) (a : Cells) (c : Collector) (b : Cells) (d : Collector) (e : Cells) (f : Collector) → VisitsLeave m a c b d st → VisitsLeave n b d e f st → VisitsLeave (m + n) a c e f st
  leaves_then m n a c b d e f first second = record {
    collects = collects_then a b e st first.collects second.collects;
    thins = thins_then m n a b e first.thins second.thins;
    floor = second.floor ∙ first.floor;
    come = second.come;
  }

  pub visits_are : (cells : Cells) (c : Collector) → ShowsCells cells st → c.floor ≤ st.floor → Comes cells st c → (k : ℕ) (cells' : Cells) (c' : Collector) → AreVisits cells c k cells' c'
      → VisitsLeave k cells c cells' c' st × (left_by cells' c' + k ≤ left_by cells c)
  visits_are cells c shown low come _ _ _ none = (record { collects = collects_none cells st; thins = thins_none 0 cells; floor = refl; come = come }, omega arith)
  visits_are cells c shown low come _ _ _ (then {k} {mid} {cells'} {d} {c'} before last) =
      let b = visits_are cells c shown low come k mid d before in
      let l = visit_is mid d More cells' c' (shows_collected cells mid st shown b.0.collects) (subst (λ (f : ℕ). f ≤ st.floor) (sym b.0.floor) low) b.0.come last in
      let n = l.1 in
      let p = b.1 in
      (leaves_then k 1 cells c mid d cells' c' b.0 l.0, omega arith)

  -- ---- a request

  leaves_few : (m n : ℕ) (a : Cells) (c : Collector) (b : Cells) (d : Collector) → m ≤ n → VisitsLeave m a c b d st → VisitsLeave n a c b d st
  leaves_few m n a c b d le l = record {
    collects = l.collects;
    thins = let f = l.thins.few in record { rows = l.thins.rows; few = omega arith; others = l.thins.others; fewer = l.thins.fewer; locks = l.thins.locks };
    floor = l.floor;
    come = l.come;
  }

  -- the request gives the last visit's answer
  last_told : (n : ℕ) (reply : CollectReply) (cells mid : Cells) (c d : Collector) (cells' : Cells) (c' : Collector) → reply ≢ More → d.floor ≡ c.floor
      → IsTold 1 reply mid d cells' c' st → IsTold n reply cells c cells' c' st
  last_told n More cells mid c d cells' c' ne same told = absurd (ne refl)
  last_told n (Blocked x t) cells mid c d cells' c' ne same told = (told.0, subst (λ (f : ℕ). t < f) same told.1)
  last_told n Collected cells mid c d cells' c' ne same told = subst (λ (f : ℕ). IsUnmarkedBelow st f × ((x : Cell) → IsTidy cells' x f)) same told

  ends_with : (cells : Cells) (c : Collector) → ShowsCells cells st → c.floor ≤ st.floor → Comes cells st c → (n : ℕ) (reply : CollectReply) (cells' : Cells) (c' : Collector)
      → reply ≢ More → EndsWith n reply cells c cells' c' → VisitsLeave n cells c cells' c' st × IsTold n reply cells c cells' c' st
  ends_with cells c shown low come n reply cells' c' ne e =
      let k = e.visits.count in
      let b = (visits_are cells c shown low come k e.mid e.before e.visits.visits).0 in
      let l = visit_is e.mid e.before reply cells' c' (shows_collected cells e.mid st shown b.collects) (subst (λ (f : ℕ). f ≤ st.floor) (sym b.floor) low) b.come e.last in
      let few = e.visits.few in
      (leaves_few (k + 1) n cells c cells' c' (omega arith) (leaves_then k 1 cells c e.mid e.before cells' c' b l.0), last_told n reply cells e.mid c e.before cells' c' ne b.floor l.1)

  pub request_is : (cells : Cells) (c : Collector) → ShowsCells cells st → c.floor ≤ st.floor → Comes cells st c → (n : ℕ) (result : Result CollectReply Refusal) (cells' : Cells) (c' : Collector)
      → HasVisited n result cells c cells' c' → VisitsLeave n cells c cells' c' st × IfOk result (λ reply. IsTold n reply cells c cells' c' st)
  request_is cells c shown low come n (Ok More) cells' c' did = visits_are cells c shown low come n cells' c' did
  request_is cells c shown low come n (Ok (Blocked x t)) cells' c' did = ends_with cells c shown low come n (Blocked x t) cells' c' (λ e. cc) did
  request_is cells c shown low come n (Ok Collected) cells' c' did = ends_with cells c shown low come n Collected cells' c' (λ e. cc) did
  request_is cells c shown low come n (Err e) cells' c' did =
      let few = did.few in
      (leaves_few did.count n cells c cells' c' (omega arith) (visits_are cells c shown low come did.count cells' c' did.visits).0, tt)

  -- cells after visits show the same state
  pub still_shown : (cells : Cells) (c : Collector) → ShowsCells cells st → c.floor ≤ st.floor → Comes cells st c → (k : ℕ) (cells' : Cells) (c' : Collector) → AreVisits cells c k cells' c' → AreShown cells'
  still_shown cells c shown low come k cells' c' did = (st, reached, shows_collected cells cells' st shown (visits_are cells c shown low come k cells' c' did).0.collects)

  -- and the collector's progress within a cell is right
  pub still_right : (cells : Cells) (c : Collector) → ShowsCells cells st → c.floor ≤ st.floor → Comes cells st c → (k : ℕ) (cells' : Cells) (c' : Collector) → AreVisits cells c k cells' c' → HasProgress cells' c'
  still_right cells c shown low come k cells' c' did = (visits_are cells c shown low come k cells' c' did).0.come.1
