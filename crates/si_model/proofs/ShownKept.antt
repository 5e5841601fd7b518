-- A cell map that shows a state shows the next one, by the step's effect on the marks and the commits.
use Rattle.std.proofs.Common.{◌≡◌, ◌≢◌, ℕ, ◌<◌, List, Some, None, ◌⊎◌, inl, inr, refl, sym, ap, subst, ◌∙◌, arith}
use Rattle.std.proofs.lemmas.Option.{none-some, same_Some}
use Rattle.std.specs.FinMap.{get, insert, remove, get-empty}
use Rattle.std.specs.Ordering.{nat_cmp}
use Rattle.cell_key.specs.Cells.{Cells}
use Rattle.cell_key.specs.declared.keys.Qualifier.TheVariants.{Data, Lock, Write}
use Rattle.cell_key.specs.Columns.{lock_text, record_text, IsRecordText}
use Rattle.si_model.specs.Sets.{◌∈◌, IsWithout}
use Rattle.si_model.specs.Laws.{Goes, IsCleared}
use Rattle.si_model.specs.Machine.{reopened, State, Change, Writes, Commit, Open, InPhase, Wrote, Gives, Names, Marked}
use Rattle.si_model.specs.declared.replies.Cell.{Cell}
use Rattle.si_model.specs.ShowsCells.{key_of, at, IsThere, kind_of_change, IsFirstCell, IsChange, HasData, ShowsMark, NamesCommit, MayLack, IsGiven, ShowsCells, changed_cells}
use Rattle.si_model.proofs.Tools.{one_change, same_entry}
use Rattle.si_model.proofs.Invariant.{Sound}
use Rattle.si_model.proofs.ShownAt.{cases_key, put_at, put_off, erased_at, erased_off, changed_off, changed_at, changed_there, changed_was, key_cell, key_stamp, no_lock_data, no_lock_write, no_data_lock, no_data_write, no_write_lock, no_write_data}

-- a mark shows its start's change of the cell
pub mark_change : (cells : Cells) (st : State) → Sound st → (x : Cell) (t : ℕ) → (k : ShowsMark cells st x t) → (v : Change) → IsChange st t x v → k.change ≡ v
mark_change cells st i x t k v (ws, wrote, gives) =
    one_change ws x k.change v (i.cells_differ t ws wrote) (subst (λ (l : Writes). Gives l x k.change) (same_entry st.begun t k.is_change.0 ws k.is_change.1 wrote) k.is_change.2) gives

-- and has its data
pub mark_data : (cells : Cells) (st : State) → Sound st → (x : Cell) (t : ℕ) → ShowsMark cells st x t → (v : Change) → IsChange st t x v → HasData cells x t v
mark_data cells st i x t k v is = subst (λ (w : Change). HasData cells x t w) (mark_change cells st i x t k v is) k.value

module _ (cells : Cells) (st st' : State) (go : Goes st st') (shown : ShowsCells cells st) where
  given_stays : (y : Cell) (u : ℕ) (b : List ℕ) → at cells y Data u ≡ Some b → IsGiven st' y u b
  given_stays y u b h = let g = shown.given y u b h in record { ws = g.ws; wrote = go.wrote u g.ws g.wrote g.late; gives = g.gives; late = go.late u g.ws g.wrote g.late }

  -- the same with other cells, if the entries in question are unchanged
  module _ (cells' : Cells) where
    mark_stays : (y : Cell) (u : ℕ) → Marked st y u → at cells' y Lock u ≡ at cells y Lock u → (IsThere cells y Data u → IsThere cells' y Data u) → ShowsMark cells' st' y u
    mark_stays y u m same value = let k = shown.marks y u m in record {
      first = k.first;
      is_first = (k.is_first.0, k.is_first.1, go.marked y u k.is_first.0 m k.is_first.2, k.is_first.3);
      change = k.change;
      is_change = (k.is_change.0, go.marked y u k.is_change.0 m k.is_change.1, k.is_change.2);
      text = k.text;
      lock = same ∙ k.lock;
      is_text = k.is_text;
      value = λ given e. value (k.value given e);
    }

    record_stays : (y : Cell) (c : ℕ) (b : List ℕ) → (k : NamesCommit cells st y c b) → k.commit ∈ st'.commits → ¬ Marked st' y k.commit.start
        → (IsThere cells y Data k.commit.start → IsThere cells' y Data k.commit.start) → NamesCommit cells' st' y c b
    record_stays y c b k is_in unmarked value = record {
      commit = k.commit;
      is_in = is_in;
      stamp = k.stamp;
      change = k.change;
      gives = k.gives;
      is_text = k.is_text;
      unmarked = unmarked;
      value = λ given e. value (k.value given e);
    }

    -- no record is added below a cleared stamp
    lack_stays : ((b : Commit) → b ∈ st.commits → b ∈ st'.commits) → (y : Cell) (a : Commit) → (IsCleared st a.stamp → (c : ℕ) → c < a.stamp → at cells y Write c ≡ None → at cells' y Write c ≡ None)
        → MayLack cells st y a → MayLack cells' st' y a
    lack_stays more y a none (inl r) = inl (r.0, more r.0 r.1, r.2, r.3, go.cleared r.0.stamp r.4)
    lack_stays more y a none (inr f) = inr (record { deletes = f.deletes; cleared = go.cleared a.stamp f.cleared; oldest = λ c less. none f.cleared c less (f.oldest c less) })

  -- if the step changes no key
  pub shows_beside : ((y : Cell) (u : ℕ) → Marked st' y u → Marked st y u) → ((y : Cell) (u : ℕ) → Marked st y u → Marked st' y u) → st'.commits ≡ st.commits → ShowsCells cells st'
  shows_beside fewer more same = record {
    marks = λ y u m. mark_stays cells y u (fewer y u m) refl (λ there. there);
    locks = λ y u b h. more y u (shown.locks y u b h);
    records = λ y c b h. let k = shown.records y c b h in record_stays cells y c b k (subst (λ cs. k.commit ∈ cs) (sym same) k.is_in) (λ m. k.unmarked (fewer y k.commit.start m)) (λ there. there);
    commits = λ a i y names unmarked. elim (shown.commits a (subst (λ cs. a ∈ cs) same i) y names (λ m. unmarked (more y a.start m))) [
      | inl there ↦ inl there
      | inr lack ↦ inr (lack_stays cells (λ b i. subst (λ cs. b ∈ cs) (sym same) i) y a (λ cleared c less none. none) lack)
    ];
    given = given_stays;
  }

  -- if t's mark on x is added, with its data, if it has any, and its lock
  module _ (x : Cell) (t : ℕ) (v : Change) (first : Cell) where
    abbrev pub with_data : Cells
    with_data = changed_cells cells x t v

    abbrev pub with_lock : Cells
    with_lock = insert with_data (key_of x Lock t) (lock_text first.row first.family (kind_of_change v))

    lock_new : at with_lock x Lock t ≡ Some (lock_text first.row first.family (kind_of_change v))
    lock_new = put_at with_data (key_of x Lock t) (lock_text first.row first.family (kind_of_change v))

    lock_old : (y : Cell) (u : ℕ) → key_of y Lock u ≢ key_of x Lock t → at with_lock y Lock u ≡ at cells y Lock u
    lock_old y u ne = put_off with_data (key_of x Lock t) (lock_text first.row first.family (kind_of_change v)) (key_of y Lock u) ne ∙ changed_off cells x t v (key_of y Lock u) (no_lock_data y x u t)

    write_old : (y : Cell) (c : ℕ) → at with_lock y Write c ≡ at cells y Write c
    write_old y c = put_off with_data (key_of x Lock t) (lock_text first.row first.family (kind_of_change v)) (key_of y Write c) (no_write_lock y x c t) ∙ changed_off cells x t v (key_of y Write c) (no_write_data y x c t)

    data_off : (y : Cell) (u : ℕ) → at with_lock y Data u ≡ at with_data y Data u
    data_off y u = put_off with_data (key_of x Lock t) (lock_text first.row first.family (kind_of_change v)) (key_of y Data u) (no_data_lock y x u t)

    data_new : HasData with_lock x t v
    data_new given e = (given, data_off x t ∙ changed_at cells x t v given e)

    value_stays : (y : Cell) (u : ℕ) → IsThere cells y Data u → IsThere with_lock y Data u
    value_stays y u there = let now = changed_there cells x t v (key_of y Data u) there.0 there.1 in (now.0, data_off y u ∙ now.1)

    pub shows_held : Marked st' x t → ((y : Cell) (u : ℕ) → Marked st' y u → ((y ≡ x) × (u ≡ t)) ⊎ Marked st y u) → ((y : Cell) (u : ℕ) → Marked st y u → Marked st' y u)
        → ((u : ℕ) → ¬ Marked st x u) → st'.commits ≡ st.commits → ((a : Commit) → a ∈ st.commits → a.start ≢ t)
        → IsFirstCell st' t first → (ws : Writes) → Wrote st' t ws → Gives ws x v → ¬ InPhase st' t Open → ShowsCells with_lock st'
    shows_held now each more free same uncommitted is_first ws wrote gives late = record {
      marks = λ y u m. elim (each y u m) [
        | inl e ↦ subst (λ (p : Cell × ℕ). ShowsMark with_lock st' p.0 p.1) (λ i. (sym e.0 i, sym e.1 i)) (record {
          first = first;
          is_first = is_first;
          change = v;
          is_change = (ws, wrote, gives);
          text = lock_text first.row first.family (kind_of_change v);
          lock = lock_new;
          is_text = inl refl;
          value = data_new;
        })
        | inr old ↦ mark_stays with_lock y u old (lock_old y u (λ e. free u (subst (λ (z : Cell). Marked st z u) (key_cell y x Lock Lock u t e) old))) (value_stays y u)
      ];
      locks = λ y u b h. elim (cases_key (key_of y Lock u) (key_of x Lock t)) [
        | inl e ↦ subst (λ (p : Cell × ℕ). Marked st' p.0 p.1) (λ i. (sym (key_cell y x Lock Lock u t e) i, sym (key_stamp y x Lock Lock u t e) i)) now
        | inr ne ↦ more y u (shown.locks y u b (sym (lock_old y u ne) ∙ h))
      ];
      records = λ y c b h. let k = shown.records y c b (sym (write_old y c) ∙ h) in record_stays with_lock y c b k (subst (λ cs. k.commit ∈ cs) (sym same) k.is_in)
          (λ m. elim (each y k.commit.start m) [ inl e ↦ uncommitted k.commit k.is_in e.1 | inr old ↦ k.unmarked old ]) (value_stays y k.commit.start);
      commits = λ a i y names unmarked. elim (shown.commits a (subst (λ cs. a ∈ cs) same i) y names (λ m. unmarked (more y a.start m))) [
        | inl there ↦ inl (there.0, write_old y a.stamp ∙ there.1)
        | inr lack ↦ inr (lack_stays with_lock (λ b i. subst (λ cs. b ∈ cs) (sym same) i) y a (λ cleared c less none. write_old y c ∙ none) lack)
      ];
      given = λ y u b h. elim (changed_was cells x t v (key_of y Data u) b (sym (data_off y u) ∙ h)) [
        | inl old ↦ given_stays y u b old
        | inr new ↦ new_given y u b (key_cell y x Data Data u t new.0) (key_stamp y x Data Data u t new.0) new.1
      ];
    }
      where
        new_given : (y : Cell) (u : ℕ) (b : List ℕ) → y ≡ x → u ≡ t → v ≡ Some b → IsGiven st' y u b
        new_given y u b ey eu ev = subst (λ (p : Cell × ℕ). IsGiven st' p.0 p.1 b) (λ i. (sym ey i, sym eu i)) (record { ws = ws; wrote = wrote; gives = subst (λ (w : Change). Gives ws x w) ev gives; late = late })

  -- if t's mark on x is removed, and its lock is replaced by the record of t's commit
  module _ (x : Cell) (t : ℕ) (a : Commit) (v : Change) where
    abbrev pub with_record : Cells
    with_record = insert cells (key_of x Write a.stamp) (record_text t (kind_of_change v))

    abbrev pub without_lock : Cells
    without_lock = remove with_record (key_of x Lock t)

    lock_gone : at without_lock x Lock t ≡ None
    lock_gone = erased_at with_record (key_of x Lock t)

    other_lock : (y : Cell) (u : ℕ) → key_of y Lock u ≢ key_of x Lock t → at without_lock y Lock u ≡ at cells y Lock u
    other_lock y u ne = erased_off with_record (key_of x Lock t) (key_of y Lock u) ne ∙ put_off cells (key_of x Write a.stamp) (record_text t (kind_of_change v)) (key_of y Lock u) (no_lock_write y x u a.stamp)

    new_record : at without_lock x Write a.stamp ≡ Some (record_text t (kind_of_change v))
    new_record = erased_off with_record (key_of x Lock t) (key_of x Write a.stamp) (no_write_lock x x a.stamp t) ∙ put_at cells (key_of x Write a.stamp) (record_text t (kind_of_change v))

    other_record : (y : Cell) (c : ℕ) → key_of y Write c ≢ key_of x Write a.stamp → at without_lock y Write c ≡ at cells y Write c
    other_record y c ne = erased_off with_record (key_of x Lock t) (key_of y Write c) (no_write_lock y x c t) ∙ put_off cells (key_of x Write a.stamp) (record_text t (kind_of_change v)) (key_of y Write c) ne

    same_value : (y : Cell) (u : ℕ) → at without_lock y Data u ≡ at cells y Data u
    same_value y u = erased_off with_record (key_of x Lock t) (key_of y Data u) (no_data_lock y x u t) ∙ put_off cells (key_of x Write a.stamp) (record_text t (kind_of_change v)) (key_of y Data u) (no_data_write y x u a.stamp)

    value_rests : (y : Cell) (u : ℕ) → IsThere cells y Data u → IsThere without_lock y Data u
    value_rests y u there = (there.0, same_value y u ∙ there.1)

    pub shows_recorded : Marked st x t → IsWithout st.marks (x, t) st'.marks → a ∈ st'.commits → a.start ≡ t → t < a.stamp → Gives a.writes x v → HasData cells x t v
        → ((b : Commit) → b ∈ st.commits → b ∈ st'.commits) → ((b : Commit) → b ∈ st'.commits → (b ∈ st.commits) ⊎ (b ≡ a))
        → ((b : Commit) → b ∈ st'.commits → b.start ≡ t → b ≡ a)
        → ((y : Cell) → Names a.writes y → ¬ Marked st y t → a ∈ st.commits)
        → ShowsCells without_lock st'
    shows_recorded was less now start later gives value more each one_start joined = record {
      marks = λ y u m. let old = (less.same (y, u)).0 m in
          mark_stays without_lock y u old.0 (other_lock y u (λ e. old.1 (λ i. (key_cell y x Lock Lock u t e i, key_stamp y x Lock Lock u t e i)))) (value_rests y u);
      locks = λ y u b h. elim (cases_key (key_of y Lock u) (key_of x Lock t)) [
        | inl e ↦ absurd (none-some b (sym lock_gone ∙ (ap (get without_lock) (sym e) ∙ h)))
        | inr ne ↦ (less.same (y, u)).1 (shown.locks y u b (sym (other_lock y u ne) ∙ h), λ e. ne (ap (λ (p : Cell × ℕ). key_of p.0 Lock p.1) e))
      ];
      records = λ y c b h. elim (cases_key (key_of y Write c) (key_of x Write a.stamp)) [
        | inl e ↦ new_names y c b (key_cell y x Write Write c a.stamp e) (key_stamp y x Write Write c a.stamp e) (same_Some (record_text t (kind_of_change v)) b (sym new_record ∙ (ap (get without_lock) (sym e) ∙ h)))
        | inr ne ↦ let k = shown.records y c b (sym (other_record y c ne) ∙ h) in
            record_stays without_lock y c b k (more k.commit k.is_in) (λ m. k.unmarked ((less.same (y, k.commit.start)).0 m).0) (value_rests y k.commit.start)
      ];
      commits = λ b i y named unmarked. elim (cases_key (key_of y Write b.stamp) (key_of x Write a.stamp)) [
        | inl e ↦ inl (record_text t (kind_of_change v), ap (get without_lock) e ∙ new_record)
        | inr ne ↦ other_commit b i y named unmarked ne (elim (each b i) [
          | inl old ↦ old
          | inr e ↦ subst (λ (b : Commit). b ∈ st.commits) (sym e) (joined y (subst (λ (b : Commit). Names b.writes y) e named) (λ m. unmarked (still b y e ne m)))
        ])
      ];
      given = λ y u b h. given_stays y u b (sym (same_value y u) ∙ h);
    }
      where
        -- a mark of t on another cell than x is unchanged
        still : (b : Commit) (y : Cell) → b ≡ a → key_of y Write b.stamp ≢ key_of x Write a.stamp → Marked st y t → Marked st' y b.start
        still b y e ne m = subst (λ (u : ℕ). Marked st' y u) (sym (ap (λ (b : Commit). b.start) e ∙ start))
            ((less.same (y, t)).1 (m, λ f. ne (λ i. key_of ((ap (λ (p : Cell × ℕ). p.0) f) i) Write ((ap (λ (b : Commit). b.stamp) e) i))))

        -- the new record is above each cleared stamp, since its mark was there
        none_joins : (y : Cell) (n : ℕ) → IsCleared st n → (c : ℕ) → c < n → at cells y Write c ≡ None → at without_lock y Write c ≡ None
        none_joins y n cleared c under none = other_record y c (λ e. apart e) ∙ none
          where
            apart : key_of y Write c ≡ key_of x Write a.stamp → ⊥
            apart e = let up = cleared.1 x t was in let same = key_stamp y x Write Write c a.stamp e in absurd (omega arith)

        other_commit : (b : Commit) → b ∈ st'.commits → (y : Cell) → Names b.writes y → ¬ Marked st' y b.start → key_of y Write b.stamp ≢ key_of x Write a.stamp → b ∈ st.commits
            → IsThere without_lock y Write b.stamp ⊎ MayLack without_lock st' y b
        other_commit b i y named unmarked ne old = elim (shown.commits b old y named (λ m. unmarked ((less.same (y, b.start)).1 (m, λ f. ne (λ i. key_of ((ap (λ (p : Cell × ℕ). p.0) f) i) Write (stamp_same f i)))))) [
          | inl there ↦ inl (there.0, other_record y b.stamp ne ∙ there.1)
          | inr lack ↦ inr (lack_stays without_lock more y b (none_joins y b.stamp) lack)
        ]
          where
            stamp_same : ◌≡◌ {A = Cell × ℕ} (y, b.start) (x, t) → b.stamp ≡ a.stamp
            stamp_same f = ap (λ (b : Commit). b.stamp) (one_start b i (ap (λ (p : Cell × ℕ). p.1) f))

        new_names : (y : Cell) (c : ℕ) (b : List ℕ) → y ≡ x → c ≡ a.stamp → record_text t (kind_of_change v) ≡ b → NamesCommit without_lock st' y c b
        new_names y c b ey ec eb = subst (λ (p : Cell × (ℕ × List ℕ)). NamesCommit without_lock st' p.0 p.1.0 p.1.1) (λ i. (sym ey i, (sym ec i, eb i))) (record {
          commit = a;
          is_in = now;
          stamp = refl;
          change = v;
          gives = gives;
          is_text = subst (λ (u : ℕ). IsRecordText u (kind_of_change v) (record_text t (kind_of_change v))) (sym start) (inl refl);
          unmarked = λ m. ((less.same (x, a.start)).0 m).1 (λ i. (x, start i));
          value = λ given e. value_rests x a.start (subst (λ (u : ℕ). IsThere cells x Data u) (sym start) (value given e));
        })

  -- if t, which has not committed, has its mark on x removed, and its lock is erased
  module _ (x : Cell) (t : ℕ) where
    abbrev pub with_none : Cells
    with_none = remove cells (key_of x Lock t)

    none_there : at with_none x Lock t ≡ None
    none_there = erased_at cells (key_of x Lock t)

    lock_rests : (y : Cell) (u : ℕ) → key_of y Lock u ≢ key_of x Lock t → at with_none y Lock u ≡ at cells y Lock u
    lock_rests y u ne = erased_off cells (key_of x Lock t) (key_of y Lock u) ne

    record_rests : (y : Cell) (c : ℕ) → at with_none y Write c ≡ at cells y Write c
    record_rests y c = erased_off cells (key_of x Lock t) (key_of y Write c) (no_write_lock y x c t)

    data_rests : (y : Cell) (u : ℕ) → at with_none y Data u ≡ at cells y Data u
    data_rests y u = erased_off cells (key_of x Lock t) (key_of y Data u) (no_data_lock y x u t)

    there_rests : (y : Cell) (u : ℕ) → IsThere cells y Data u → IsThere with_none y Data u
    there_rests y u there = (there.0, data_rests y u ∙ there.1)

    pub shows_erased : IsWithout st.marks (x, t) st'.marks → st'.commits ≡ st.commits → ((a : Commit) → a ∈ st.commits → a.start ≢ t) → ShowsCells with_none st'
    shows_erased less same uncommitted = record {
      marks = λ y u m. let old = (less.same (y, u)).0 m in
          mark_stays with_none y u old.0 (lock_rests y u (λ e. old.1 (λ i. (key_cell y x Lock Lock u t e i, key_stamp y x Lock Lock u t e i)))) (there_rests y u);
      locks = λ y u b h. elim (cases_key (key_of y Lock u) (key_of x Lock t)) [
        | inl e ↦ absurd (none-some b (sym none_there ∙ (ap (get with_none) (sym e) ∙ h)))
        | inr ne ↦ (less.same (y, u)).1 (shown.locks y u b (sym (lock_rests y u ne) ∙ h), λ e. ne (ap (λ (p : Cell × ℕ). key_of p.0 Lock p.1) e))
      ];
      records = λ y c b h. let k = shown.records y c b (sym (record_rests y c) ∙ h) in
          record_stays with_none y c b k (subst (λ cs. k.commit ∈ cs) (sym same) k.is_in) (λ m. k.unmarked ((less.same (y, k.commit.start)).0 m).0) (there_rests y k.commit.start);
      commits = λ a i y names unmarked. let old = subst (λ cs. a ∈ cs) same i in elim (shown.commits a old y names (λ m. unmarked ((less.same (y, a.start)).1 (m, λ e. uncommitted a old (ap (λ (p : Cell × ℕ). p.1) e))))) [
        | inl there ↦ inl (there.0, record_rests y a.stamp ∙ there.1)
        | inr lack ↦ inr (lack_stays with_none (λ b j. subst (λ cs. b ∈ cs) (sym same) j) y a (λ cleared c under none. record_rests y c ∙ none) lack)
      ];
      given = λ y u b h. given_stays y u b (sym (data_rests y u) ∙ h);
    }

-- a clean restart leaves the cells unchanged
pub shows_reopened : (cells : Cells) (st : State) → ShowsCells cells st → ShowsCells cells (reopened st)
shows_reopened cells st shown = record {
  marks = λ x t m. let k = shown.marks x t m in record { first = k.first; is_first = k.is_first; change = k.change; is_change = k.is_change; text = k.text; lock = k.lock; is_text = k.is_text; value = k.value };
  locks = shown.locks;
  records = λ x c b h. let k = shown.records x c b h in record { commit = k.commit; is_in = k.is_in; stamp = k.stamp; change = k.change; gives = k.gives; is_text = k.is_text; unmarked = k.unmarked; value = k.value };
  commits = λ a i x names unmarked. elim (shown.commits a i x names unmarked) [ inl there ↦ inl there | inr lack ↦ inr (lack_reopened x a lack) ];
  given = λ x t b h. let k = shown.given x t b h in record { ws = k.ws; wrote = k.wrote; gives = k.gives; late = λ opened. none-some Open (sym (get-empty nat_cmp t) ∙ opened) };
}
  where
    lack_reopened : (x : Cell) (a : Commit) → MayLack cells st x a → MayLack cells (reopened st) x a
    lack_reopened x a (inl r) = inl r
    lack_reopened x a (inr f) = inr (record { deletes = f.deletes; cleared = f.cleared; oldest = f.oldest })
