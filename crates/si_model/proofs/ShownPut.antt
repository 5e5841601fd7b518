-- Data and records of a commit, put at once, show the state after it.
use Rattle.std.proofs.Common.{◌≡◌, ◌≢◌, ℕ, ◌≤◌, List, [], ◌∷◌, Some, ◌⊎◌, inl, inr, refl, sym, ap, subst, ◌∙◌, arith}
use Rattle.std.proofs.lemmas.Option.{same_Some}
use Rattle.std.specs.FinMap.{get}
use Rattle.cell_key.specs.Cells.{Cells}
use Rattle.cell_key.specs.declared.keys.Qualifier.TheVariants.{Data, Lock, Write}
use Rattle.cell_key.specs.Columns.{record_text}
use Rattle.si_model.specs.Sets.{◌∈◌, here, there}
use Rattle.si_model.specs.Laws.{Goes, IsCleared}
use Rattle.si_model.specs.Machine.{State, Change, Writes, Commit, Open, InPhase, Wrote, Gives, Names, Marked}
use Rattle.si_model.specs.declared.replies.Cell.{Cell}
use Rattle.si_model.specs.ShowsCells.{key_of, at, IsThere, kind_of_change, HasData, NamesCommit, MayLack, IsGiven, ShowsCells, changed_cells}
use Rattle.si_model.proofs.Tools.{each_cons}
use Rattle.si_model.proofs.ShownAt.{cases_key, put_at, put_off, changed_off, changed_at, changed_there, changed_was, key_cell, key_stamp, no_lock_data, no_lock_write, no_data_write, no_write_data}
use Rattle.si_model.specs.PutCells.{put_cells, all_put_cells}

module _ (s c : ℕ) where
  -- ---- what stands in the cells after all were put

  -- locks stay
  pub lock_stays : (ws : Writes) (cells : Cells) (y : Cell) (u : ℕ) → at (all_put_cells cells ws s c) y Lock u ≡ at cells y Lock u
  lock_stays [] cells y u = refl
  lock_stays (w ∷ ws) cells y u =
      lock_stays ws (put_cells cells w.0 w.1 s c) y u
      ∙ (put_off (changed_cells cells w.0 s w.1) (key_of w.0 Write c) (record_text s (kind_of_change w.1)) (key_of y Lock u) (no_lock_write y w.0 u c)
      ∙ changed_off cells w.0 s w.1 (key_of y Lock u) (no_lock_data y w.0 u s))

  one_data : (cells : Cells) (x : Cell) (v : Change) (y : Cell) (u : ℕ) → at (put_cells cells x v s c) y Data u ≡ at (changed_cells cells x s v) y Data u
  one_data cells x v y u = put_off (changed_cells cells x s v) (key_of x Write c) (record_text s (kind_of_change v)) (key_of y Data u) (no_data_write y x u c)

  -- data that is there stays there
  pub data_stays : (ws : Writes) (cells : Cells) (y : Cell) (u : ℕ) → IsThere cells y Data u → IsThere (all_put_cells cells ws s c) y Data u
  data_stays [] cells y u old = old
  data_stays (w ∷ ws) cells y u old =
      let now = changed_there cells w.0 s w.1 (key_of y Data u) old.0 old.1 in
      data_stays ws (put_cells cells w.0 w.1 s c) y u (now.0, one_data cells w.0 w.1 y u ∙ now.1)

  -- data that is there was there, or one of the writes gave it
  pub data_was : (ws : Writes) (cells : Cells) (y : Cell) (u : ℕ) (b : List ℕ) → at (all_put_cells cells ws s c) y Data u ≡ Some b
      → (at cells y Data u ≡ Some b) ⊎ ((u ≡ s) × ((y, Some b) ∈ ws))
  data_was [] cells y u b h = inl h
  data_was (w ∷ ws) cells y u b h = elim (data_was ws (put_cells cells w.0 w.1 s c) y u b h) [
    | inr new ↦ inr (new.0, there new.1)
    | inl old ↦ elim (changed_was cells w.0 s w.1 (key_of y Data u) b (sym (one_data cells w.0 w.1 y u) ∙ old)) [
      | inl was ↦ inl was
      | inr is ↦ inr (key_stamp y w.0 Data Data u s is.0, subst (λ (m : Cell × Change). m ∈ (w ∷ ws)) (λ i. (sym (key_cell y w.0 Data Data u s is.0) i, is.1 i)) here)
    ]
  ]

  -- each write that gives a value has its data
  pub data_new : (ws : Writes) (cells : Cells) (x : Cell) (v : Change) → (x, v) ∈ ws → HasData (all_put_cells cells ws s c) x s v
  data_new [] cells x v i given e = elim i [ ]
  data_new (w ∷ ws) cells x v i given e = each_cons (λ (m : Cell × Change). m.1 ≡ Some given → IsThere (all_put_cells cells (w ∷ ws) s c) m.0 Data s)
      (λ e. data_stays ws (put_cells cells w.0 w.1 s c) w.0 s (given, one_data cells w.0 w.1 w.0 s ∙ changed_at cells w.0 s w.1 given e))
      (λ m j e. data_new ws (put_cells cells w.0 w.1 s c) m.0 m.1 j given e) (x, v) i e

  one_record : (cells : Cells) (x : Cell) (v : Change) (y : Cell) (d : ℕ) → key_of y Write d ≢ key_of x Write c → at (put_cells cells x v s c) y Write d ≡ at cells y Write d
  one_record cells x v y d ne = put_off (changed_cells cells x s v) (key_of x Write c) (record_text s (kind_of_change v)) (key_of y Write d) ne ∙ changed_off cells x s v (key_of y Write d) (no_write_data y x d s)

  -- records at other stamps stay
  pub record_stays : (ws : Writes) (cells : Cells) (y : Cell) (d : ℕ) → d ≢ c → at (all_put_cells cells ws s c) y Write d ≡ at cells y Write d
  record_stays [] cells y d ne = refl
  record_stays (w ∷ ws) cells y d ne = record_stays ws (put_cells cells w.0 w.1 s c) y d ne ∙ one_record cells w.0 w.1 y d (λ e. ne (key_stamp y w.0 Write Write d c e))

  -- a record that is there stays there
  pub record_there : (ws : Writes) (cells : Cells) (y : Cell) (d : ℕ) → IsThere cells y Write d → IsThere (all_put_cells cells ws s c) y Write d
  record_there [] cells y d old = old
  record_there (w ∷ ws) cells y d old = elim (cases_key (key_of y Write d) (key_of w.0 Write c)) [
    | inl e ↦ record_there ws (put_cells cells w.0 w.1 s c) y d (record_text s (kind_of_change w.1), ap (get (put_cells cells w.0 w.1 s c)) e ∙ put_at (changed_cells cells w.0 s w.1) (key_of w.0 Write c) (record_text s (kind_of_change w.1)))
    | inr ne ↦ record_there ws (put_cells cells w.0 w.1 s c) y d (old.0, one_record cells w.0 w.1 y d ne ∙ old.1)
  ]

  -- each write has its record
  pub record_new : (ws : Writes) (cells : Cells) (x : Cell) (v : Change) → (x, v) ∈ ws → IsThere (all_put_cells cells ws s c) x Write c
  record_new [] cells x v i = elim i [ ]
  record_new (w ∷ ws) cells x v i = each_cons (λ (m : Cell × Change). IsThere (all_put_cells cells (w ∷ ws) s c) m.0 Write c)
      (record_there ws (put_cells cells w.0 w.1 s c) w.0 c (record_text s (kind_of_change w.1), put_at (changed_cells cells w.0 s w.1) (key_of w.0 Write c) (record_text s (kind_of_change w.1))))
      (λ m j. record_new ws (put_cells cells w.0 w.1 s c) m.0 m.1 j) (x, v) i

  -- a record that is there was there, or is that of one of the writes
  pub record_was : (ws : Writes) (cells : Cells) (y : Cell) (d : ℕ) (b : List ℕ) → at (all_put_cells cells ws s c) y Write d ≡ Some b
      → (at cells y Write d ≡ Some b) ⊎ ((d ≡ c) × (v : Change) × ((y, v) ∈ ws) × (b ≡ record_text s (kind_of_change v)))
  record_was [] cells y d b h = inl h
  record_was (w ∷ ws) cells y d b h = elim (record_was ws (put_cells cells w.0 w.1 s c) y d b h) [
    | inr new ↦ inr (new.0, new.1, there new.2, new.3)
    | inl old ↦ elim (cases_key (key_of y Write d) (key_of w.0 Write c)) [
      | inl e ↦ inr (
        key_stamp y w.0 Write Write d c e,
        w.1,
        subst (λ (x : Cell). (x, w.1) ∈ (w ∷ ws)) (sym (key_cell y w.0 Write Write d c e)) here,
        sym (same_Some (record_text s (kind_of_change w.1)) b (sym (put_at (changed_cells cells w.0 s w.1) (key_of w.0 Write c) (record_text s (kind_of_change w.1))) ∙ (ap (get (put_cells cells w.0 w.1 s c)) (sym e) ∙ old))),
      )
      | inr ne ↦ inl (sym (one_record cells w.0 w.1 y d ne) ∙ old)
    ]
  ]

  -- ---- the state after a commit

  module _ (cells : Cells) (st st' : State) (go : Goes st st') (shown : ShowsCells cells st) (ws : Writes) (wrote : Wrote st' s ws) (late : ¬ InPhase st' s Open) where
    abbrev made : Commit
    made = record { start = s; stamp = c; writes = ws }

    abbrev all : Cells
    all = all_put_cells cells ws s c

    -- its cells have no mark, it is a new commit, and its stamp is above what is cleared
    pub shows_put : st'.marks ≡ st.marks → st'.commits ≡ made ∷ st.commits
        → ((x : Cell) → ¬ Marked st x s) → ((w : Cell × Change) → w ∈ ws → Gives ws w.0 w.1)
        → ((x : Cell) (v : Change) → Gives ws x v → (x, v) ∈ ws)
        → ((n : ℕ) → IsCleared st n → n ≤ c) → ShowsCells all st'
    shows_put marks commits none gives are above = record {
      marks = λ y u m. let k = shown.marks y u (old_mark y u m) in record {
        first = k.first;
        is_first = (k.is_first.0, k.is_first.1, go.marked y u k.is_first.0 (old_mark y u m) k.is_first.2, k.is_first.3);
        change = k.change;
        is_change = (k.is_change.0, go.marked y u k.is_change.0 (old_mark y u m) k.is_change.1, k.is_change.2);
        text = k.text;
        lock = lock_stays ws cells y u ∙ k.lock;
        is_text = k.is_text;
        value = λ given e. data_stays ws cells y u (k.value given e);
      };
      locks = λ y u b h. new_mark y u (shown.locks y u b (sym (lock_stays ws cells y u) ∙ h));
      records = λ y d b h. elim (record_was ws cells y d b h) [
        | inl was ↦ old_record y d b (shown.records y d b was)
        | inr new ↦ new_record y d b new.0 new.1 new.2 new.3
      ];
      commits = λ a i y names unmarked. elim (either a i) [
        | inl e ↦ inl (subst (λ (a : Commit). IsThere all y Write a.stamp) (sym e) (let named = subst (λ (a : Commit). Names a.writes y) e names in record_new ws cells y named.0 (are y named.0 named.1)))
        | inr old ↦ elim (shown.commits a old y names (λ m. unmarked (new_mark y a.start m))) [
          | inl old_one ↦ inl (record_there ws cells y a.stamp old_one)
          | inr lack ↦ inr (still_lacks y a lack)
        ]
      ];
      given = λ y u b h. elim (data_was ws cells y u b h) [
        | inl was ↦ let g = shown.given y u b was in record { ws = g.ws; wrote = go.wrote u g.ws g.wrote g.late; gives = g.gives; late = go.late u g.ws g.wrote g.late }
        | inr new ↦ subst (λ (u : ℕ). IsGiven st' y u b) (sym new.0) (record { ws = ws; wrote = wrote; gives = gives (y, Some b) new.1; late = late })
      ];
    }
      where
        old_mark : (y : Cell) (u : ℕ) → Marked st' y u → Marked st y u
        old_mark y u m = subst (λ (ms : List (Cell × ℕ)). (y, u) ∈ ms) marks m

        new_mark : (y : Cell) (u : ℕ) → Marked st y u → Marked st' y u
        new_mark y u m = subst (λ (ms : List (Cell × ℕ)). (y, u) ∈ ms) (sym marks) m

        either : (a : Commit) → a ∈ st'.commits → (a ≡ made) ⊎ (a ∈ st.commits)
        either a i = each_cons (λ (a : Commit). (a ≡ made) ⊎ (a ∈ st.commits)) (inl refl) (λ a i. inr i) a (subst (λ (cs : List Commit). a ∈ cs) commits i)

        more : (a : Commit) → a ∈ st.commits → a ∈ st'.commits
        more a i = subst (λ (cs : List Commit). a ∈ cs) (sym commits) (there i)

        old_record : (y : Cell) (d : ℕ) (b : List ℕ) → NamesCommit cells st y d b → NamesCommit all st' y d b
        old_record y d b k = record {
          commit = k.commit;
          is_in = more k.commit k.is_in;
          stamp = k.stamp;
          change = k.change;
          gives = k.gives;
          is_text = k.is_text;
          unmarked = λ m. k.unmarked (old_mark y k.commit.start m);
          value = λ given e. data_stays ws cells y k.commit.start (k.value given e);
        }

        new_record : (y : Cell) (d : ℕ) (b : List ℕ) → d ≡ c → (v : Change) → (y, v) ∈ ws → b ≡ record_text s (kind_of_change v) → NamesCommit all st' y d b
        new_record y d b e v i text = subst (λ (p : ℕ × List ℕ). NamesCommit all st' y p.0 p.1) (λ j. (sym e j, sym text j)) (record {
          commit = made;
          is_in = subst (λ (cs : List Commit). made ∈ cs) (sym commits) here;
          stamp = refl;
          change = v;
          gives = gives (y, v) i;
          is_text = inl refl;
          unmarked = λ m. none y (old_mark y s m);
          value = data_new ws cells y v i;
        })

        still_lacks : (y : Cell) (a : Commit) → MayLack cells st y a → MayLack all st' y a
        still_lacks y a (inl r) = inl (r.0, more r.0 r.1, r.2, r.3, go.cleared r.0.stamp r.4)
        still_lacks y a (inr f) = let high = above a.stamp f.cleared in inr (record {
          deletes = f.deletes;
          cleared = go.cleared a.stamp f.cleared;
          oldest = λ d less. record_stays ws cells y d (λ e. absurd (omega (arith, e, less, high))) ∙ f.oldest d less;
        })
