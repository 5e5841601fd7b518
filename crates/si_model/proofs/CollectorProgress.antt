-- The progress of a collector from cell to cell, and that no step of anyone undoes it.
use Rattle.std.proofs.Common.{◌≡◌, ◌≢◌, ℕ, ◌<◌, ◌≤◌, List, Option, Some, None, ◌⊎◌, inl, inr, refl, sym, ap, subst, ◌∙◌, arith}
use Rattle.std.proofs.Math.Nat.{le_trans}
use Rattle.std.proofs.lemmas.Bool.{cases_lt}
use Rattle.std.proofs.lemmas.Option.{none-some}
use Rattle.std.specs.Prelude.{is_some}
use Rattle.std.specs.declared.cmp.Ordering.{Ordering}
use Rattle.std.specs.declared.cmp.Ordering.TheVariants.{Less, Equal, Greater}
use Rattle.std.specs.Ordering.{ordering_reverse}
use Rattle.std.specs.FinMap.{get, insert}
use Rattle.cell_key.specs.Cells.{Cells}
use Rattle.cell_key.specs.Places.{Place, place_cmp, HasCell, IsAfter, IsNextCell}
use Rattle.cell_key.specs.declared.keys.Qualifier.{Qualifier}
use Rattle.cell_key.specs.declared.keys.Qualifier.TheVariants.{Data, Lock, Write}
use Rattle.cell_key.specs.Columns.{lock_text, record_text}
use Rattle.cell_key.specs.declared.columns.WriteKind.{WriteKind}
use Rattle.si_model.specs.Machine.{State, Change, Stamped, InPhase, Marked, CommittedAt}
use Rattle.si_model.specs.Servers.{IsReachedByServers}
use Rattle.si_model.specs.declared.replies.Cell.{Cell}
use Rattle.si_model.specs.ShowsCells.{at, key_of, IsThere, ShowsCells, kind_of_change, changed_cells, held_cells, recorded_cells, erased_cells}
use Rattle.si_model.specs.Enduring.{Endures}
use Rattle.si_model.specs.Collection.{IsUnmarkedBelow, IsTidy, place_at, Pass, FirstPass, SecondPass, HasCome, ComesFurther, ComeStays, ChangesCells, unchanged, locks_cell, records_commit, erases_lock, erases_versions}
use Rattle.si_model.proofs.Left.{exact_places, place_cmp_total}
use Rattle.si_model.proofs.ShownAt.{cases_key, put_off, erased_off, changed_off, key_stamp, no_data_lock, no_data_write, no_write_lock, no_write_data}
use Rattle.si_model.proofs.Steps.{servers_sound}
use Rattle.si_model.proofs.Floors.{servers_floors}
use Rattle.si_model.proofs.LastingMarks.{servers_endures}
use Rattle.si_model.proofs.Collected.{come_collected}

-- a cell with a key is one
has_key : (cells : Cells) (x : Cell) (q : Qualifier) (s : ℕ) → IsThere cells x q s → HasCell cells (place_at x)
has_key cells x q s there = record { key = key_of x q s; at = refl; some = ap is_some there.1 }

data Where (after : Option Place) (found p : Place) : Type 0 where
  before : ¬ IsAfter after p → Where after found p
  between : IsAfter after p → place_cmp p found ≡ Less → Where after found p
  there : p ≡ found → Where after found p

by_order : (after : Option Place) (found p : Place) (r : Ordering) → place_cmp p found ≡ r → IsAfter after p → ¬ IsAfter (Some found) p → Where after found p
by_order after found p Less e a passed = between a e
by_order after found p Equal e a passed = there (exact_places p found e)
by_order after found p Greater e a passed = absurd (passed (place_cmp_total.antisymm found p ∙ ap ordering_reverse e))

by_after : (after : Option Place) (p : Place) → IsAfter after p ⊎ (¬ IsAfter after p)
by_after None p = inl tt
by_after (Some b) p = by_case (place_cmp b p) refl
  where
    by_case : (r : Ordering) → place_cmp b p ≡ r → (place_cmp b p ≡ Less) ⊎ (¬ (place_cmp b p ≡ Less))
    by_case Less e = inl e
    by_case Equal e = inr (λ f. cc (e, f))
    by_case Greater e = inr (λ f. cc (e, f))

where_is : (after : Option Place) (found p : Place) → ¬ IsAfter (Some found) p → Where after found p
where_is after found p passed = elim (by_after after p) [
  | inl a ↦ by_order after found p (place_cmp p found) refl a passed
  | inr none ↦ before none
]

module _ (cells : Cells) (st : State) (shown : ShowsCells cells st) (floor : ℕ) (after : Option Place) where
  marked_cell : (x : Cell) (t : ℕ) → Marked st x t → HasCell cells (place_at x)
  marked_cell x t m = let k = shown.marks x t m in has_key cells x Lock t (k.text, k.lock)

  -- the first pass moves past a cell without a lock below the floor
  come_past : (x : Cell) → IsNextCell cells after (Some (place_at x)) → ((t : ℕ) → t < floor → at cells x Lock t ≡ None) → HasCome cells st floor FirstPass after → HasCome cells st floor FirstPass (Some (place_at x))
  come_past x next unlocked come y t passed m = elim (where_is after (place_at x) (place_at y) passed) [
    | before b ↦ come y t b m
    | between a less ↦ absurd (next.2 (place_at y) a less (marked_cell y t m))
    | there e ↦ elim (cases_lt t floor) [
      | inl low ↦ absurd (none-some _ (sym (unlocked t low) ∙ (ap (λ (p : Place). at cells (record { row = p.0; family = p.1 }) Lock t) (sym e) ∙ (shown.marks y t m).lock)))
      | inr up ↦ omega arith
    ]
  ]

  -- it ends, and the second begins
  come_turned : IsNextCell cells after None → HasCome cells st floor FirstPass after → HasCome cells st floor SecondPass None
  come_turned none come = (λ x t m. elim (by_after after (place_at x)) [ inl a ↦ absurd (none (place_at x) a (marked_cell x t m)) | inr b ↦ come x t b m ], λ x passed. absurd (passed tt))

  no_key : (x : Cell) → ¬ HasCell cells (place_at x) → IsTidy cells x floor
  no_key x empty = record {
    one = λ c d lc ld hc hd. absurd (empty (has_key cells x Write c hc));
    named = λ t low h. absurd (empty (has_key cells x Data t h));
    lasting = λ c t low e. empty (has_key cells x Write c (_, e));
  }

  -- the second pass moves past a tidy cell
  come_tidy : (x : Cell) → IsNextCell cells after (Some (place_at x)) → IsTidy cells x floor → HasCome cells st floor SecondPass after → HasCome cells st floor SecondPass (Some (place_at x))
  come_tidy x next tidy come = (
    come.0,
    λ y passed. elim (where_is after (place_at x) (place_at y) passed) [
      | before b ↦ come.1 y b
      | between a less ↦ no_key y (next.2 (place_at y) a less)
      | there e ↦ subst (λ (p : Place). IsTidy cells (record { row = p.0; family = p.1 }) floor) (sym e) tidy
    ],
  )

  -- it ends, and all cells are tidy
  come_to_end : IsNextCell cells after None → HasCome cells st floor SecondPass after → (x : Cell) → IsTidy cells x floor
  come_to_end none come x = elim (by_after after (place_at x)) [ inl a ↦ no_key x (none (place_at x) a) | inr b ↦ come.1 x b ]

pub comes_further : (cells : Cells) (st : State) → ShowsCells cells st → ComesFurther cells st
comes_further cells st shown floor after = record {
  past = come_past cells st shown floor after;
  turned = come_turned cells st shown floor after;
  tidied = come_tidy cells st shown floor after;
  ended = come_to_end cells st shown floor after;
}

-- the record that replaces a mark is new, and younger than the start
module _ (cells : Cells) (st : State) (reached : IsReachedByServers st) (shown : ShowsCells cells st) (x : Cell) (t : ℕ) (m : Marked st x t) where
  absent : (c : ℕ) → ((b : List ℕ) → at cells x Write c ≡ Some b → ⊥) → at cells x Write c ≡ None
  absent c never = by_case (at cells x Write c) refl
    where
      by_case : (o : Option (List ℕ)) → at cells x Write c ≡ o → at cells x Write c ≡ None
      by_case None e = e
      by_case (Some b) e = absurd (never b e)

  fresh_committed : (c : ℕ) → CommittedAt st t c → (t < c) × (at cells x Write c ≡ None)
  fresh_committed c (ws, i) = (
    ((servers_sound reached).fair (record { start = t; stamp = c; writes = ws }) i).later,
    absent c (λ b h.
        let k = shown.records x c b h in
        let same : k.commit.start ≡ t = (servers_sound reached).stamps_differ k.commit (record { start = t; stamp = c; writes = ws }) k.is_in i k.stamp in
        k.unmarked (subst (λ (u : ℕ). Marked st x u) (sym same) m)),
  )

  fresh_stamped : (c : ℕ) → InPhase st t (Stamped c) → (t < c) × (at cells x Write c ≡ None)
  fresh_stamped c h =
      let own = (servers_sound reached).drawn t (Stamped c) h c refl in
      (own.later, absent c (λ b g. let k = shown.records x c b g in own.no_commit k.commit k.is_in k.stamp))

-- The progress of a collector is kept by a step of another that changes the cells as a client or a cleaner does.
module _ (cells : Cells) (st st' : State) (floor : ℕ) (low : floor ≤ st.floor) (keeps : Endures st st') where
  unmarked_stays : IsUnmarkedBelow st floor → IsUnmarkedBelow st' floor
  unmarked_stays clear x t m = elim (keeps.joins x t m) [ inl old ↦ clear x t old | inr up ↦ le_trans low up ]

  come_by : (cells' : Cells) → (IsUnmarkedBelow st floor → (x : Cell) → IsTidy cells x floor → IsTidy cells' x floor) → (pass : Pass) (after : Option Place) → HasCome cells st floor pass after → HasCome cells' st' floor pass after
  come_by cells' tidy FirstPass after come = λ x t passed m. elim (keeps.joins x t m) [ inl old ↦ come x t passed old | inr up ↦ le_trans low up ]
  come_by cells' tidy SecondPass after come = (unmarked_stays come.0, λ x passed. tidy come.0 x (come.1 x passed))

  -- nothing changes
  come_beside : (pass : Pass) (after : Option Place) → HasCome cells st floor pass after → HasCome cells st' floor pass after
  come_beside = come_by cells (λ clear x t. t)

  -- a cell is held by an active session
  come_held : (y : Cell) (t : ℕ) (v : Change) (first : Cell) → st.floor ≤ t → (pass : Pass) (after : Option Place) → HasCome cells st floor pass after → HasCome (held_cells cells y t v first) st' floor pass after
  come_held y t v first up = come_by (held_cells cells y t v first) (λ clear x tidy. record {
    one = λ c d lc ld hc hd. tidy.one c d lc ld (hc.0, sym (write_off x c) ∙ hc.1) (hd.0, sym (write_off x d) ∙ hd.1);
    named = λ u less h. elim (cases_key (key_of x Data u) (key_of y Data t)) [
      | inl e ↦ absurd (let same = key_stamp x y Data Data u t e in omega arith)
      | inr ne ↦ let n = tidy.named u less (h.0, sym (data_off x u ne) ∙ h.1) in (n.0, (n.1.0, n.1.1, write_off x n.0 ∙ n.1.2, n.1.3))
    ];
    lasting = λ c u low e. tidy.lasting c u low (sym (write_off x c) ∙ e);
  })
    where
      write_off : (x : Cell) (c : ℕ) → at (held_cells cells y t v first) x Write c ≡ at cells x Write c
      write_off x c = put_off (changed_cells cells y t v) (key_of y Lock t) (lock_text first.row first.family (kind_of_change v)) (key_of x Write c) (no_write_lock x y c t) ∙ changed_off cells y t v (key_of x Write c) (no_write_data x y c t)

      data_off : (x : Cell) (u : ℕ) → key_of x Data u ≢ key_of y Data t → at (held_cells cells y t v first) x Data u ≡ at cells x Data u
      data_off x u ne = put_off (changed_cells cells y t v) (key_of y Lock t) (lock_text first.row first.family (kind_of_change v)) (key_of x Data u) (no_data_lock x y u t) ∙ changed_off cells y t v (key_of x Data u) ne

  -- a lock is replaced by its record, which is younger
  come_recorded : (y : Cell) (t c : ℕ) (kind : WriteKind) → Marked st y t → t < c → at cells y Write c ≡ None → (pass : Pass) (after : Option Place) → HasCome cells st floor pass after → HasCome (recorded_cells cells y t c kind) st' floor pass after
  come_recorded y t c kind mark later fresh = come_by (recorded_cells cells y t c kind) (λ clear x tidy. record {
    one = λ a b la lb ha hb. tidy.one a b la lb (ha.0, sym (write_off x a (old clear x a la)) ∙ ha.1) (hb.0, sym (write_off x b (old clear x b lb)) ∙ hb.1);
    named = λ u less h. let n = tidy.named u less (h.0, sym (data_off x u) ∙ h.1) in elim (cases_key (key_of x Write n.0) (key_of y Write c)) [
      | inl e ↦ absurd (none-some n.1.0 (sym fresh ∙ (sym (ap (get cells) e) ∙ n.1.2)))
      | inr ne ↦ (n.0, (n.1.0, n.1.1, write_off x n.0 ne ∙ n.1.2, n.1.3))
    ];
    lasting = λ a u low e. tidy.lasting a u low (sym (write_off x a (old clear x a low)) ∙ e);
  })
    where
      old : IsUnmarkedBelow st floor → (x : Cell) (a : ℕ) → a ≤ floor → key_of x Write a ≢ key_of y Write c
      old clear x a le e = let up = clear y t mark in let same = key_stamp x y Write Write a c e in omega arith

      write_off : (x : Cell) (a : ℕ) → key_of x Write a ≢ key_of y Write c → at (recorded_cells cells y t c kind) x Write a ≡ at cells x Write a
      write_off x a ne = erased_off (insert cells (key_of y Write c) (record_text t kind)) (key_of y Lock t) (key_of x Write a) (no_write_lock x y a t) ∙ put_off cells (key_of y Write c) (record_text t kind) (key_of x Write a) ne

      data_off : (x : Cell) (u : ℕ) → at (recorded_cells cells y t c kind) x Data u ≡ at cells x Data u
      data_off x u = erased_off (insert cells (key_of y Write c) (record_text t kind)) (key_of y Lock t) (key_of x Data u) (no_data_lock x y u t) ∙ put_off cells (key_of y Write c) (record_text t kind) (key_of x Data u) (no_data_write x y u c)

  -- a lock is erased
  come_erased : (y : Cell) (t : ℕ) → (pass : Pass) (after : Option Place) → HasCome cells st floor pass after → HasCome (erased_cells cells y t) st' floor pass after
  come_erased y t = come_by (erased_cells cells y t) (λ clear x tidy. record {
    one = λ a b la lb ha hb. tidy.one a b la lb (ha.0, sym (off x Write a (no_write_lock x y a t)) ∙ ha.1) (hb.0, sym (off x Write b (no_write_lock x y b t)) ∙ hb.1);
    named = λ u less h. let n = tidy.named u less (h.0, sym (off x Data u (no_data_lock x y u t)) ∙ h.1) in (n.0, (n.1.0, n.1.1, off x Write n.0 (no_write_lock x y n.0 t) ∙ n.1.2, n.1.3));
    lasting = λ a u low e. tidy.lasting a u low (sym (off x Write a (no_write_lock x y a t)) ∙ e);
  })
    where
      off : (x : Cell) (q : Qualifier) (a : ℕ) → key_of x q a ≢ key_of y Lock t → at (erased_cells cells y t) x q a ≡ at cells x q a
      off x q a ne = erased_off cells (key_of y Lock t) (key_of x q a) ne

-- what marks and fates rely on keeps a collector's progress
pub come_on : (cells : Cells) (st next : State) → IsReachedByServers st → ShowsCells cells st → Endures st next → (cells' : Cells) → ChangesCells cells st cells'
    → (floor : ℕ) → floor ≤ st.floor → (pass : Pass) (after : Option Place) → HasCome cells st floor pass after → HasCome cells' next floor pass after
come_on cells st next reached shown keeps cells' changes floor low pass after come = by_change cells' changes
  where
    by_change : (cells' : Cells) → ChangesCells cells st cells' → HasCome cells' next floor pass after
    by_change _ unchanged = come_beside cells st next floor low keeps pass after come
    by_change _ (locks_cell x t p v first h) =
        come_held cells st next floor low keeps x t v first ((servers_floors reached).above t p h) pass after come
    by_change _ (records_commit x t c kind m by) =
        let fresh : (t < c) × (at cells x Write c ≡ None) = elim by [
          | inl committed ↦ fresh_committed cells st reached shown x t m c committed
          | inr stamped ↦ fresh_stamped cells st reached shown x t m c stamped
        ] in
        come_recorded cells st next floor low keeps x t c kind m fresh.0 fresh.1 pass after come
    by_change _ (erases_lock x t) = come_erased cells st next floor low keeps x t pass after come
    by_change _ (erases_versions more collects) =
        come_beside more st next floor low keeps pass after (come_collected cells more st shown collects floor pass after come)

-- no step of anyone undoes a collector's progress
pub come_stays : (cells : Cells) (st : State) → IsReachedByServers st → ShowsCells cells st → ComeStays cells st
come_stays cells st reached shown next q r step = come_on cells st next reached shown (servers_endures st next q r reached step)
