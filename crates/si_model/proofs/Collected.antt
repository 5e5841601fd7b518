-- The effects of a collection, and the versions that a collector may erase.
use Rattle.std.proofs.Common.{◌≡◌, ◌≢◌, ℕ, ◌<◌, ◌≤◌, ◌^◌, List, [], ◌∷◌, Option, Some, None, ◌⊎◌, inl, inr, refl, sym, ap, subst, ◌∙◌, arith}
use Rattle.std.specs.Prelude.{IsSome, is_some}
use Rattle.std.proofs.lemmas.Option.{none-some, same_Some}
use Rattle.std.specs.FinMap.{get, remove}
use Rattle.cell_key.specs.Cells.{Cells}
use Rattle.cell_key.specs.Places.{Place}
use Rattle.cell_key.specs.declared.keys.CellKey.{CellKey}
use Rattle.cell_key.specs.declared.keys.Qualifier.{Qualifier}
use Rattle.cell_key.specs.declared.keys.Qualifier.TheVariants.{Data, Lock, Write}
use Rattle.cell_key.specs.Columns.{IsRecordText, record_text}
use Rattle.cell_key.proofs.RecordTexts.{same_start, same_write}
use Rattle.cell_key.specs.declared.columns.WriteKind.TheVariants as write
use Rattle.si_model.specs.Sets.{◌∈◌, here, there}
use Rattle.si_model.specs.Machine.{State, Change, Commit, Gives, Names, Wrote, Writes, Marked}
use Rattle.si_model.specs.Servers.{IsReachedByServers}
use Rattle.si_model.specs.declared.replies.Cell.{Cell}
use Rattle.si_model.specs.ShowsCells.{at, key_of, IsThere, IsReplaced, MayLack, NamesAt, ShowsCells, kind_of_change}
use Rattle.si_model.specs.Collection.{Collects, IsNamed, IsTidy, IsUnmarkedBelow, Pass, FirstPass, SecondPass, HasCome, collected_cells, dropped_cells, forgotten_cells, IsOld, IsOldestDeletion, MayEraseBelow, HasNoNewKey, StaysShown}
use Rattle.si_model.proofs.ShownAt.{cases_key, erased_at, erased_off, key_cell, key_stamp, no_lock_data, no_lock_write, no_data_write, no_write_data}
use Rattle.si_model.proofs.Steps.{servers_sound}
use Rattle.si_model.proofs.Bounds.{servers_bounds}
use Rattle.si_model.proofs.CleanerFates.{one_commit}
use Rattle.si_model.proofs.Tools.{one_change, same_entry}
use Rattle.si_model.proofs.ChangeKinds.{is_deletion}

module _ (cells cells' : Cells) (st : State) (shown : ShowsCells cells st) (gone : Collects cells cells' st) where
  record_was : (x : Cell) (c : ℕ) (b : List ℕ) → at cells' x Write c ≡ Some b → at cells x Write c ≡ Some b
  record_was x c b h = elim (gone.records x c) [
    | inl same ↦ sym same ∙ h
    | inr left ↦ absurd (none-some b (sym left.0 ∙ h))
  ]

  value_was : (x : Cell) (t : ℕ) (b : List ℕ) → at cells' x Data t ≡ Some b → at cells x Data t ≡ Some b
  value_was x t b h = elim (gone.values x t) [
    | inl same ↦ sym same ∙ h
    | inr left ↦ absurd (none-some b (sym left.0 ∙ h))
  ]

  -- the data of a mark is kept, and the data of each remaining record
  mark_value : (x : Cell) (t : ℕ) → Marked st x t → IsThere cells x Data t → IsThere cells' x Data t
  mark_value x t m was = elim (gone.values x t) [
    | inl same ↦ (was.0, same ∙ was.1)
    | inr left ↦ absurd (left.1 m)
  ]

  named_value : (x : Cell) (c t : ℕ) → NamesAt cells' x c t → IsThere cells x Data t → IsThere cells' x Data t
  named_value x c t h was = elim (gone.values x t) [
    | inl same ↦ (was.0, same ∙ was.1)
    | inr left ↦ absurd (left.2 c h)
  ]

  lack_stays : (x : Cell) (a : Commit) → MayLack cells st x a → MayLack cells' st x a
  lack_stays x a (inl r) = inl r
  lack_stays x a (inr f) = inr (record {
    deletes = f.deletes;
    cleared = f.cleared;
    oldest = λ c less. elim (gone.records x c) [ inl same ↦ same ∙ f.oldest c less | inr left ↦ left.0 ];
  })

  pub shows_collected : ShowsCells cells' st
  shows_collected = record {
    marks = λ x t m. let k = shown.marks x t m in record {
      first = k.first;
      is_first = k.is_first;
      change = k.change;
      is_change = k.is_change;
      text = k.text;
      lock = gone.locks x t ∙ k.lock;
      is_text = k.is_text;
      value = λ given e. mark_value x t m (k.value given e);
    };
    locks = λ x t b h. shown.locks x t b (sym (gone.locks x t) ∙ h);
    records = λ x c b h. let k = shown.records x c b (record_was x c b h) in record {
      commit = k.commit;
      is_in = k.is_in;
      stamp = k.stamp;
      change = k.change;
      gives = k.gives;
      is_text = k.is_text;
      unmarked = k.unmarked;
      value = λ given e. named_value x c k.commit.start (b, kind_of_change k.change, h, k.is_text) (k.value given e);
    };
    commits = λ a i x names unmarked. elim (shown.commits a i x names unmarked) [
      | inl old ↦ elim (gone.records x a.stamp) [
        | inl same ↦ inl (old.0, same ∙ old.1)
        | inr left ↦ inr (left.1 a i names refl)
      ]
      | inr lack ↦ inr (lack_stays x a lack)
    ];
    given = λ x t b h. let k = shown.given x t b (value_was x t b h) in record { ws = k.ws; wrote = k.wrote; gives = k.gives; late = k.late };
  }

  -- a tidy cell stays tidy, for each floor
  pub tidy_collected : (x : Cell) (floor : ℕ) → IsTidy cells x floor → IsTidy cells' x floor
  tidy_collected x floor tidy = record {
    one = λ c d lc ld hc hd. tidy.one c d lc ld (hc.0, record_was x c hc.0 hc.1) (hd.0, record_was x d hd.0 hd.1);
    named = λ t low h. let was : IsThere cells x Data t = (h.0, value_was x t h.0 h.1) in let n = tidy.named t low was in elim (gone.records x n.0) [
      | inl same ↦ (n.0, (n.1.0, n.1.1, same ∙ n.1.2, n.1.3))
      | inr left ↦ absurd (none-some h.0 (sym (gone.together x n.0 t was n.1 left.0) ∙ h.1))
    ];
    lasting = λ c t low e. tidy.lasting c t low (record_was x c (record_text t write.Delete) e);
  }

  pub come_collected : (floor : ℕ) (pass : Pass) (after : Option Place) → HasCome cells st floor pass after → HasCome cells' st floor pass after
  come_collected floor FirstPass after come = come
  come_collected floor SecondPass after come = (come.0, λ x passed. tidy_collected x floor (come.1 x passed))

-- the fate of one key when records and their data are erased
data Fate (cells cells' : Cells) (k : CellKey) (IsErased : Type 0) : Type 0 where
  stays : get cells' k ≡ get cells k → Fate cells cells' k IsErased
  goes : get cells' k ≡ None → IsErased → Fate cells cells' k IsErased

abbrev IsOf : Cell → List (ℕ × ℕ) → CellKey → Type 0
IsOf x vs k = (v : ℕ × ℕ) × (v ∈ vs) × ((k ≡ key_of x Write v.0) ⊎ (k ≡ key_of x Data v.1))

-- an erased key stays erased
none_stays : (x : Cell) (vs : List (ℕ × ℕ)) (cells : Cells) (k : CellKey) → get cells k ≡ None → get (collected_cells cells x vs) k ≡ None
none_stays x [] cells k e = e
none_stays x (v ∷ vs) cells k e = none_stays x vs (remove (remove cells (key_of x Write v.0)) (key_of x Data v.1)) k (elim (cases_key k (key_of x Data v.1)) [
  | inl same ↦ ap (get (remove (remove cells (key_of x Write v.0)) (key_of x Data v.1))) same ∙ erased_at (remove cells (key_of x Write v.0)) (key_of x Data v.1)
  | inr ne ↦ erased_off (remove cells (key_of x Write v.0)) (key_of x Data v.1) k ne ∙ elim (cases_key k (key_of x Write v.0)) [
    | inl same ↦ ap (get (remove cells (key_of x Write v.0))) same ∙ erased_at cells (key_of x Write v.0)
    | inr ne' ↦ erased_off cells (key_of x Write v.0) k ne' ∙ e
  ]
])

collected_gone : (x : Cell) (vs : List (ℕ × ℕ)) (cells : Cells) (v : ℕ × ℕ) → v ∈ vs
    → (get (collected_cells cells x vs) (key_of x Write v.0) ≡ None) × (get (collected_cells cells x vs) (key_of x Data v.1) ≡ None)
collected_gone x [] cells v i = elim i [ ]
collected_gone x (u ∷ vs) cells v here = (
  none_stays x vs (remove (remove cells (key_of x Write v.0)) (key_of x Data v.1)) (key_of x Write v.0)
      (erased_off (remove cells (key_of x Write v.0)) (key_of x Data v.1) (key_of x Write v.0) (no_write_data x x v.0 v.1) ∙ erased_at cells (key_of x Write v.0)),
  none_stays x vs (remove (remove cells (key_of x Write v.0)) (key_of x Data v.1)) (key_of x Data v.1) (erased_at (remove cells (key_of x Write v.0)) (key_of x Data v.1)),
)
collected_gone x (u ∷ vs) cells v (there i) = collected_gone x vs (remove (remove cells (key_of x Write u.0)) (key_of x Data u.1)) v i

collected_fate : (x : Cell) (vs : List (ℕ × ℕ)) (cells : Cells) (k : CellKey) → Fate cells (collected_cells cells x vs) k (IsOf x vs k)
collected_fate x [] cells k = stays refl
collected_fate x (v ∷ vs) cells k = elim (cases_key k (key_of x Write v.0)) [
  | inl e ↦ goes (ap (get (collected_cells cells x (v ∷ vs))) e ∙ (collected_gone x (v ∷ vs) cells v here).0) (v, here, inl e)
  | inr ne ↦ elim (cases_key k (key_of x Data v.1)) [
    | inl e ↦ goes (ap (get (collected_cells cells x (v ∷ vs))) e ∙ (collected_gone x (v ∷ vs) cells v here).1) (v, here, inr e)
    | inr ne' ↦ elim (collected_fate x vs (remove (remove cells (key_of x Write v.0)) (key_of x Data v.1)) k) [
      | stays same ↦ stays (same ∙ (erased_off (remove cells (key_of x Write v.0)) (key_of x Data v.1) k ne' ∙ erased_off cells (key_of x Write v.0) k ne))
      | goes none of ↦ goes none (of.0, there of.1, of.2)
    ]
  ]
]

-- Records of x older than one at or below the floor, and the data that they name, may be erased if no mark is below the
-- floor.
module _ (cells : Cells) (st : State) (reached : IsReachedByServers st) (shown : ShowsCells cells st) (x : Cell) (floor : ℕ) (below : floor ≤ st.floor) (clear : IsUnmarkedBelow st floor) where
  start_low : (a : Commit) → a ∈ st.commits → a.start < 2 ^ 64
  start_low a i =
      let low = (servers_sound reached).start_low a.start a.writes ((servers_sound reached).fair a i).wrote in
      let top = (servers_bounds reached).top in
      omega arith

  value_low : (y : Cell) (t : ℕ) → IsThere cells y Data t → t < 2 ^ 64
  value_low y t was =
      let g = shown.given y t was.0 was.1 in
      let low = (servers_sound reached).start_low t g.ws g.wrote in
      let top = (servers_bounds reached).top in
      omega arith

  -- the commit that a record names
  named_commit : (y : Cell) (c t : ℕ) → t < 2 ^ 64 → NamesAt cells y c t → (a : Commit) × (a ∈ st.commits) × (a.stamp ≡ c) × Names a.writes y × (a.start ≡ t)
  named_commit y c t low h =
      let k = shown.records y c h.0 h.2 in
      (k.commit, k.is_in, k.stamp, (k.change, k.gives), same_start k.commit.start t (kind_of_change k.change) h.1 h.0 (start_low k.commit k.is_in) low k.is_text h.3)

  -- two records of one start are the same
  one_record : (y : Cell) (c d t : ℕ) → t < 2 ^ 64 → NamesAt cells y c t → NamesAt cells y d t → c ≡ d
  one_record y c d t low h g =
      let a = named_commit y c t low h in
      let b = named_commit y d t low g in
      sym a.2 ∙ (ap (λ (m : Commit). m.stamp) (one_commit st.commits (servers_sound reached).starts_differ a.0 b.0 a.1 b.1 (a.4 ∙ sym b.4)) ∙ b.2)

  module _ (w : ℕ) (text : List ℕ) (newest : at cells x Write w ≡ Some text) (at_most : w ≤ floor) where
    -- the commit at c is older than the one at w, which is cleared
    replaced : (c : ℕ) → c < w → (a : Commit) → a ∈ st.commits → Names a.writes x → a.stamp ≡ c → IsReplaced st x a
    replaced c older a i names is =
        let k = shown.records x w text newest in
        let e = k.stamp in
        (k.commit, k.is_in, (k.change, k.gives), omega arith, (omega arith, λ y t m. let up = clear y t m in omega arith))

    collects_old : (vs : List (ℕ × ℕ)) → ((v : ℕ × ℕ) → v ∈ vs → IsOld cells x w v) → Collects cells (collected_cells cells x vs) st
    collects_old vs old = record {
      locks = λ y t. elim (collected_fate x vs cells (key_of y Lock t)) [
        | stays same ↦ same
        | goes none of ↦ absurd (elim of.2 [ inl e ↦ no_lock_write y x t of.0.0 e | inr e ↦ no_lock_data y x t of.0.1 e ])
      ];
      records = λ y c. elim (collected_fate x vs cells (key_of y Write c)) [
        | stays same ↦ inl same
        | goes none of ↦ inr (
          none,
          elim of.2 [
            | inl e ↦ λ a i names is. inl (gone_record y c of.0 (old of.0 of.1) (key_cell y x Write Write c of.0.0 e) (key_stamp y x Write Write c of.0.0 e) a i names is)
            | inr e ↦ absurd (no_write_data y x c of.0.1 e)
          ],
        )
      ];
      values = λ y t. elim (collected_fate x vs cells (key_of y Data t)) [
        | stays same ↦ inl same
        | goes none of ↦ elim of.2 [
          | inl e ↦ absurd (no_data_write y x t of.0.0 e)
          | inr e ↦ let g = gone_value y t of.0 of.1 (key_cell y x Data Data t of.0.1 e) (key_stamp y x Data Data t of.0.1 e) in inr (none, g.0, g.1)
        ]
      ];
      together = λ y c t was h none. elim (collected_fate x vs cells (key_of y Write c)) [
        | stays same ↦ absurd (none-some h.0 (sym none ∙ (same ∙ h.2)))
        | goes left of ↦ elim of.2 [
          | inl e ↦ with_data y c t of.0 of.1 (key_cell y x Write Write c of.0.0 e) (key_stamp y x Write Write c of.0.0 e) (value_low y t was) h
          | inr e ↦ absurd (no_write_data y x c of.0.1 e)
        ]
      ];
    }
      where
        gone_record : (y : Cell) (c : ℕ) (v : ℕ × ℕ) → IsOld cells x w v → y ≡ x → c ≡ v.0 → (a : Commit) → a ∈ st.commits → Names a.writes y → a.stamp ≡ c → IsReplaced st y a
        gone_record y c v o ey ec a i names is =
            subst (λ (z : Cell). Names a.writes z → IsReplaced st z a) (sym ey) (λ n. replaced v.0 o.older a i n (is ∙ ec)) names

        gone_value : (y : Cell) (t : ℕ) (v : ℕ × ℕ) → v ∈ vs → y ≡ x → t ≡ v.1
            → (¬ Marked st y t) × ((c : ℕ) → ¬ NamesAt (collected_cells cells x vs) y c t)
        gone_value y t v i ey et = subst (λ (p : Cell × ℕ). (¬ Marked st p.0 p.1) × ((c : ℕ) → ¬ NamesAt (collected_cells cells x vs) p.0 c p.1)) (λ j. (sym ey j, sym et j)) (unmarked, unnamed)
          where
            o : IsOld cells x w v
            o = old v i

            unmarked : ¬ Marked st x v.1
            unmarked m =
                let k = named_commit x v.0 v.1 o.low o.there in
                let later = ((servers_sound reached).fair k.0 k.1).later in
                let up = clear x v.1 m in
                let older = o.older in
                let es = k.2 in
                let et = k.4 in
                omega arith

            unnamed : (c : ℕ) → ¬ NamesAt (collected_cells cells x vs) x c v.1
            unnamed c h = elim (collected_fate x vs cells (key_of x Write c)) [
              | stays same ↦
                  let was : NamesAt cells x c v.1 = (h.0, h.1, sym same ∙ h.2, h.3) in
                  let e = one_record x c v.0 v.1 o.low was o.there in
                  none-some h.0 (sym (collected_gone x vs cells v i).0 ∙ (ap (at (collected_cells cells x vs) x Write) (sym e) ∙ h.2))
              | goes none of ↦ none-some h.0 (sym none ∙ h.2)
            ]

        with_data : (y : Cell) (c t : ℕ) (v : ℕ × ℕ) → v ∈ vs → y ≡ x → c ≡ v.0 → t < 2 ^ 64 → NamesAt cells y c t → at (collected_cells cells x vs) y Data t ≡ None
        with_data y c t v i ey ec low h =
            let o = old v i in
            let here_too : at cells y Write c ≡ at cells x Write v.0 = ap (λ (p : Cell × ℕ). at cells p.0 Write p.1) (λ j. (ey j, ec j)) in
            let text : h.0 ≡ o.there.0 = same_Some h.0 o.there.0 (sym h.2 ∙ (here_too ∙ o.there.2)) in
            let e = same_start t v.1 h.1 o.there.1 o.there.0 low o.low (subst (λ (b : List ℕ). IsRecordText t h.1 b) text h.3) o.there.3 in
            ap (λ (p : Cell × ℕ). at (collected_cells cells x vs) p.0 Data p.1) (λ j. (ey j, e j)) ∙ (collected_gone x vs cells v i).1

  -- The record of a deletion may be erased too, if it is the oldest.
  module _ (c : ℕ) (at_most : c ≤ floor) (oldest : IsOldestDeletion cells x c) where
    abbrev without : Cells
    without = forgotten_cells cells x c

    other_record : (y : Cell) (d : ℕ) → key_of y Write d ≢ key_of x Write c → at without y Write d ≡ at cells y Write d
    other_record y d ne = erased_off cells (key_of x Write c) (key_of y Write d) ne

    -- the commit that it names deletes
    deletes : (a : Commit) → a ∈ st.commits → a.stamp ≡ c → Gives a.writes x None
    deletes a i is =
        let k = shown.records x c (record_text oldest.start write.Delete) oldest.there in
        let none : k.change ≡ None = is_deletion k.change (same_write k.commit.start oldest.start (kind_of_change k.change) write.Delete (record_text oldest.start write.Delete) k.is_text (inl refl)) in
        let start : k.commit.start ≡ a.start = (servers_sound reached).stamps_differ k.commit a k.is_in i (k.stamp ∙ sym is) in
        let same : k.commit ≡ a = one_commit st.commits (servers_sound reached).starts_differ k.commit a k.is_in i start in
        subst (λ (p : Commit × Change). Gives p.0.writes x p.1) (λ j. (same j, none j)) k.gives

    forgotten : (a : Commit) → a ∈ st.commits → a.stamp ≡ c → MayLack without st x a
    forgotten a i is = inr (record {
      deletes = deletes a i is;
      cleared = (omega arith, λ y t m. let up = clear y t m in omega arith);
      oldest = λ d less. other_record x d (λ e. let same = key_stamp x x Write Write d c e in absurd (omega arith)) ∙ oldest.oldest d (omega arith);
    })

    -- a deletion has no data
    no_value : (y : Cell) (d t : ℕ) → y ≡ x → d ≡ c → IsThere cells y Data t → NamesAt cells y d t → ⊥
    no_value y d t ey ed was h =
        let k = shown.records y d h.0 h.2 in
        let here_too : at cells y Write d ≡ at cells x Write c = ap (λ (p : Cell × ℕ). at cells p.0 Write p.1) (λ j. (ey j, ed j)) in
        let text : h.0 ≡ record_text oldest.start write.Delete = same_Some h.0 (record_text oldest.start write.Delete) (sym h.2 ∙ (here_too ∙ oldest.there)) in
        let none : k.change ≡ None = is_deletion k.change (same_write k.commit.start oldest.start (kind_of_change k.change) write.Delete h.0 k.is_text (inl text)) in
        let start : k.commit.start ≡ t = same_start k.commit.start t (kind_of_change k.change) h.1 h.0 (start_low k.commit k.is_in) (value_low y t was) k.is_text h.3 in
        let g = shown.given y t was.0 was.1 in
        let wrote : Wrote st t k.commit.writes = subst (λ (u : ℕ). Wrote st u k.commit.writes) start ((servers_sound reached).fair k.commit k.is_in).wrote in
        let gives : Gives g.ws y k.change = subst (λ (l : Writes). Gives l y k.change) (same_entry st.begun t k.commit.writes g.ws wrote g.wrote) k.gives in
        none-some was.0 (sym none ∙ one_change g.ws y k.change (Some was.0) ((servers_sound reached).cells_differ t g.ws g.wrote) gives g.gives)

    collects_deletion : Collects cells without st
    collects_deletion = record {
      locks = λ y t. erased_off cells (key_of x Write c) (key_of y Lock t) (no_lock_write y x t c);
      records = λ y d. elim (cases_key (key_of y Write d) (key_of x Write c)) [
        | inl e ↦ inr (
          ap (get without) e ∙ erased_at cells (key_of x Write c),
          λ a i names is. subst (λ (z : Cell). MayLack without st z a) (sym (key_cell y x Write Write d c e)) (forgotten a i (is ∙ key_stamp y x Write Write d c e)),
        )
        | inr ne ↦ inl (other_record y d ne)
      ];
      values = λ y t. inl (erased_off cells (key_of x Write c) (key_of y Data t) (no_data_write y x t c));
      together = λ y d t was h none. elim (cases_key (key_of y Write d) (key_of x Write c)) [
        | inl e ↦ absurd (no_value y d t (key_cell y x Write Write d c e) (key_stamp y x Write Write d c e) was h)
        | inr ne ↦ absurd (none-some h.0 (sym none ∙ (other_record y d ne ∙ h.2)))
      ];
    }

-- one key of erased data
abbrev IsOfData : Cell → List ℕ → CellKey → Type 0
IsOfData x ts k = (t : ℕ) × (t ∈ ts) × (k ≡ key_of x Data t)

data_none_stays : (x : Cell) (ts : List ℕ) (cells : Cells) (k : CellKey) → get cells k ≡ None → get (dropped_cells cells x ts) k ≡ None
data_none_stays x [] cells k e = e
data_none_stays x (t ∷ ts) cells k e = data_none_stays x ts (remove cells (key_of x Data t)) k (elim (cases_key k (key_of x Data t)) [
  | inl same ↦ ap (get (remove cells (key_of x Data t))) same ∙ erased_at cells (key_of x Data t)
  | inr ne ↦ erased_off cells (key_of x Data t) k ne ∙ e
])

dropped_fate : (x : Cell) (ts : List ℕ) (cells : Cells) (k : CellKey) → Fate cells (dropped_cells cells x ts) k (IsOfData x ts k)
dropped_fate x [] cells k = stays refl
dropped_fate x (t ∷ ts) cells k = elim (cases_key k (key_of x Data t)) [
  | inl e ↦ goes (data_none_stays x ts (remove cells (key_of x Data t)) k (ap (get (remove cells (key_of x Data t))) e ∙ erased_at cells (key_of x Data t))) (t, here, e)
  | inr ne ↦ elim (dropped_fate x ts (remove cells (key_of x Data t)) k) [
    | stays same ↦ stays (same ∙ erased_off cells (key_of x Data t) k ne)
    | goes none of ↦ goes none (of.0, there of.1, of.2)
  ]
]

-- data below the floor that no record names may be erased if no mark is below the floor
module _ (cells : Cells) (st : State) (x : Cell) (floor : ℕ) (clear : IsUnmarkedBelow st floor) where
  collects_unnamed : (ts : List ℕ) → ((t : ℕ) → t ∈ ts → (t < floor) × (¬ IsNamed cells x t)) → Collects cells (dropped_cells cells x ts) st
  collects_unnamed ts old = record {
    locks = λ y t. elim (dropped_fate x ts cells (key_of y Lock t)) [ stays same ↦ same | goes none of ↦ absurd (no_lock_data y x t of.0 of.2) ];
    records = λ y c. elim (dropped_fate x ts cells (key_of y Write c)) [ stays same ↦ inl same | goes none of ↦ absurd (no_write_data y x c of.0 of.2) ];
    values = λ y t. elim (dropped_fate x ts cells (key_of y Data t)) [
      | stays same ↦ inl same
      | goes none of ↦ let o = old of.0 of.1 in let g = gone_value y t of.0 o.0 o.1 (key_cell y x Data Data t of.0 of.2) (key_stamp y x Data Data t of.0 of.2) in inr (none, g.0, g.1)
    ];
    together = λ y c t was h none. elim (dropped_fate x ts cells (key_of y Write c)) [
      | stays same ↦ absurd (none-some h.0 (sym none ∙ (same ∙ h.2)))
      | goes left of ↦ absurd (no_write_data y x c of.0 of.2)
    ];
  }
    where
      record_same : (y : Cell) (c : ℕ) → at (dropped_cells cells x ts) y Write c ≡ at cells y Write c
      record_same y c = elim (dropped_fate x ts cells (key_of y Write c)) [ stays same ↦ same | goes none of ↦ absurd (no_write_data y x c of.0 of.2) ]

      gone_value : (y : Cell) (t u : ℕ) → u < floor → ¬ IsNamed cells x u → y ≡ x → t ≡ u → (¬ Marked st y t) × ((c : ℕ) → ¬ NamesAt (dropped_cells cells x ts) y c t)
      gone_value y t u low unnamed ey et = subst (λ (p : Cell × ℕ). (¬ Marked st p.0 p.1) × ((c : ℕ) → ¬ NamesAt (dropped_cells cells x ts) p.0 c p.1)) (λ j. (sym ey j, sym et j))
          ((λ m. let up = clear x u m in omega arith), (λ c h. unnamed (c, (h.0, h.1, sym (record_same x c) ∙ h.2, h.3))))

pub may_erase : (cells : Cells) (st : State) → IsReachedByServers st → ShowsCells cells st → MayEraseBelow cells st
may_erase cells st reached shown floor below clear = record {
  old = λ x w vs newest low old. collects_old cells st reached shown x floor below clear w newest.0 newest.1 low vs old;
  unnamed = λ x ts old. collects_unnamed cells st x floor clear ts old;
  deletion = λ x c low oldest. collects_deletion cells st reached shown x floor below clear c low oldest;
}

pub stays_shown : (cells : Cells) (st : State) → ShowsCells cells st → StaysShown cells st
stays_shown cells st shown cells' collects = shows_collected cells cells' st shown collects

-- a collection adds no key
pub no_new_key : (cells cells' : Cells) (st : State) → Collects cells cells' st → HasNoNewKey cells cells'
no_new_key cells cells' st gone k = by_column k.qualifier (record { row = k.row; family = k.family }) k.stamp
  where
    was : (x y : Option (List ℕ)) → (y ≡ x) ⊎ (y ≡ None) → IsSome y → IsSome x
    was x y (inl same) some = subst (λ (o : Option (List ℕ)). IsSome o) same some
    was x y (inr none) some = absurd (cc (some, ap is_some none))

    by_column : (q : Qualifier) (x : Cell) (s : ℕ) → IsSome (at cells' x q s) → IsSome (at cells x q s)
    by_column Data x s = was (at cells x Data s) (at cells' x Data s) (elim (gone.values x s) [ inl same ↦ inl same | inr left ↦ inr left.0 ])
    by_column Lock x s = was (at cells x Lock s) (at cells' x Lock s) (inl (gone.locks x s))
    by_column Write x s = was (at cells x Write s) (at cells' x Write s) (elim (gone.records x s) [ inl same ↦ inl same | inr left ↦ inr left.0 ])
