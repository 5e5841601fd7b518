-- The stamps from which on a cell is tidy: after erasures of its versions, and after steps of others.
use Rattle.std.proofs.Common.{◌≡◌, ◌≢◌, ℕ, suc, ◌-◌, ◌<◌, ◌≤◌, ◌^◌, List, [], ◌∷◌, length, map, Option, Some, None, ◌⊎◌, inl, inr, refl, sym, ap, subst, ◌∙◌, arith}
use Rattle.std.specs.Prelude.{slice_get}
use Rattle.std.proofs.lemmas.Bool.{cases_lt}
use Rattle.std.proofs.lemmas.Option.{none-some, same_Some}
use Rattle.std.specs.FinMap.{get, insert, remove}
use Rattle.cell_key.specs.Cells.{Cells, after_edits}
use Rattle.cell_key.specs.Columns.{IsRecordText, lock_text, record_text}
use Rattle.cell_key.specs.declared.columns.WriteKind.{WriteKind}
use Rattle.cell_key.specs.declared.keys.CellKey.{CellKey}
use Rattle.cell_key.specs.declared.keys.Qualifier.{Qualifier}
use Rattle.cell_key.specs.declared.keys.Qualifier.TheVariants.{Data, Lock, Write}
use Rattle.cell_key.proofs.RecordTexts.{same_start}
use Rattle.si_model.specs.Collection.{ChangesCells, Collects, IsNamed, IsOld, IsUnmarkedBelow, erases_lock, erases_versions, locks_cell, records_commit, unchanged}
use Rattle.si_model.specs.Machine.{Change, CommittedAt, InPhase, Marked, Stamped, State}
use Rattle.si_model.specs.Sets.{◌∈◌, here, there}
use Rattle.si_model.specs.Servers.{IsReachedByServers}
use Rattle.si_model.specs.ShowsCells.{IsThere, ShowsCells, at, changed_cells, erased_cells, held_cells, key_of, kind_of_change, recorded_cells}
use Rattle.si_model.specs.declared.replies.Cell.{Cell}
use Rattle.si_model.proofs.Floors.{servers_floors}
use Rattle.si_model.proofs.ShownAt.{cases_key, changed_off, erased_at, erased_off, key_stamp, no_data_lock, no_data_write, no_write_data, no_write_lock, put_off}
use Rattle.si_model.proofs.Steps.{servers_sound}
use Rattle.version_collector.specs.Erasing.{data_erasures, record_erasures}
use Rattle.version_collector.specs.Versions.{AreFound, AreNamedFrom, AreOld, AreShown, AreUnnamed, HasNoOldFrom, IsLatestBelow, IsTidyFrom, last_of}
use Rattle.version_collector.specs.Visits.{IsProgress}
use Rattle.version_collector.specs.declared.erasing.CellProgress.{CellProgress}
use Rattle.version_collector.specs.declared.collector.Pass.{Pass}
use Rattle.version_collector.specs.declared.collector.Pass.TheVariants.{First, Second}
use Rattle.version_collector.specs.declared.versions.TidyFrom.{TidyFrom}
use Rattle.version_collector.proofs.Erasures.{named_or_not}
use Rattle.version_collector.proofs.Thinned.{data_gone, records_gone}

-- the last of some numbers is among them
last_in : (n : ℕ) (ns : List ℕ) → last_of n ns ∈ (n ∷ ns)
last_in n [] = here
last_in n (m ∷ ns) = there (last_in m ns)

last_in_some : (other : ℕ) (ns : List ℕ) → ns ≢ [] → last_of other ns ∈ ns
last_in_some other [] some = absurd (some refl)
last_in_some other (n ∷ ns) some = last_in n ns

-- it is the one before the end
pub last_is : (other : ℕ) (ns : List ℕ) (n : ℕ) → Some n ≡ slice_get ns (length ns - 1) → n ≡ last_of other ns
last_is other [] n e = absurd (none-some n (sym e))
last_is other (m ∷ []) n e = sym (same_Some m n (sym e))
last_is other (m ∷ k ∷ ns) n e = last_is m (k ∷ ns) n (e ∙ ap (slice_get (m ∷ k ∷ ns)) (fewer m k ns))
  where
    fewer : (a b : ℕ) (cs : List ℕ) → length (a ∷ b ∷ cs) - 1 ≡ suc (length (b ∷ cs) - 1)
    fewer a b cs = omega arith

-- nothing is known of a cell
pub tidy_new : (cells : Cells) (x : Cell) (floor : ℕ) → IsTidyFrom cells x floor (record { commit = floor; start = floor })
tidy_new cells x floor = record {
  old = λ c d from less low there_c there_d. omega (arith, from, less, low);
  named = λ t from low there. absurd (omega (arith, from, low));
}

-- ---- with a lesser start

-- there is no data from another stamp on and below the start
pub tidy_absent : (cells : Cells) (x : Cell) (floor : ℕ) (tidy : TidyFrom) (start : ℕ) → ((t : ℕ) → start ≤ t → t < tidy.start → at cells x Data t ≡ None) → IsTidyFrom cells x floor tidy
    → IsTidyFrom cells x floor (record tidy { start = start })
tidy_absent cells x floor tidy start none is = record {
  old = is.old;
  named = λ t up low there. elim (cases_lt t tidy.start) [
    | inl less ↦ absurd (none-some there.0 (sym (none t up less) ∙ there.1))
    | inr more ↦ is.named t more low there
  ];
}

-- the data found below the start is older than a stamp, or there is none
pub tidy_older : (cells : Cells) (x : Cell) (floor : ℕ) (tidy : TidyFrom) (t : ℕ) (b : List ℕ) → IsLatestBelow cells x Data tidy.start (Some (t, b)) → t < tidy.commit → IsTidyFrom cells x floor tidy
    → IsTidyFrom cells x floor (record tidy { start = tidy.commit })
tidy_older cells x floor tidy t b latest older = tidy_absent cells x floor tidy tidy.commit (λ u up less. latest.2 u (omega (arith, up, older)) less)

pub tidy_none : (cells : Cells) (x : Cell) (floor : ℕ) (tidy : TidyFrom) → IsLatestBelow cells x Data tidy.start None → IsTidyFrom cells x floor tidy → IsTidyFrom cells x floor (record tidy { start = tidy.commit })
tidy_none cells x floor tidy none = tidy_absent cells x floor tidy tidy.commit (λ u up less. none u less)

-- a record names the data found
pub tidy_named : (cells : Cells) (x : Cell) (floor : ℕ) (tidy : TidyFrom) (t : ℕ) (b : List ℕ) → IsLatestBelow cells x Data tidy.start (Some (t, b)) → IsNamed cells x t → IsTidyFrom cells x floor tidy
    → IsTidyFrom cells x floor (record tidy { start = t })
tidy_named cells x floor tidy t b latest by is = record {
  old = is.old;
  named = λ u up low there. elim (cases_lt t u) [
    | inl above ↦ elim (cases_lt u tidy.start) [
      | inl less ↦ absurd (none-some there.0 (sym (latest.2 u above less) ∙ there.1))
      | inr more ↦ is.named u more low there
    ]
    | inr most ↦ let same : t ≡ u = omega (arith, up, most) in subst (IsNamed cells x) same by
  ];
}

-- ---- after erasures of its versions

-- an edit's key is unchanged, or it is among the erased ones
records_fate : (x : Cell) (vs : List (ℕ × ℕ)) (cells : Cells) (k : CellKey)
    → (get (after_edits cells (record_erasures x vs)) k ≡ get cells k) ⊎ ((v : ℕ × ℕ) × (v ∈ vs) × ((k ≡ key_of x Write v.0) ⊎ (k ≡ key_of x Data v.1)))
records_fate x [] cells k = inl refl
records_fate x (v ∷ vs) cells k = elim (cases_key k (key_of x Write v.0)) [
  | inl e ↦ inr (v, here, inl e)
  | inr ne ↦ elim (cases_key k (key_of x Data v.1)) [
    | inl e ↦ inr (v, here, inr e)
    | inr ne' ↦ elim (records_fate x vs (remove (remove cells (key_of x Write v.0)) (key_of x Data v.1)) k) [
      | inl same ↦ inl (same ∙ (erased_off (remove cells (key_of x Write v.0)) (key_of x Data v.1) k ne' ∙ erased_off cells (key_of x Write v.0) k ne))
      | inr of ↦ inr (of.0, there of.1, of.2)
    ]
  ]
]

-- an absent key stays absent
records_absent : (x : Cell) (vs : List (ℕ × ℕ)) (cells : Cells) (k : CellKey) → get cells k ≡ None → get (after_edits cells (record_erasures x vs)) k ≡ None
records_absent x vs cells k none = elim ((records_gone x vs cells).fewer k) [ inl same ↦ same ∙ none | inr gone ↦ gone ]

data_absent : (x : Cell) (ts : List ℕ) (cells : Cells) (k : CellKey) → get cells k ≡ None → get (after_edits cells (data_erasures x ts)) k ≡ None
data_absent x ts cells k none = elim ((data_gone x ts cells).fewer k) [ inl same ↦ same ∙ none | inr gone ↦ gone ]

-- each record is erased
record_erased : (x : Cell) (vs : List (ℕ × ℕ)) (cells : Cells) (c : ℕ) → c ∈ map (λ v. v.0) vs → at (after_edits cells (record_erasures x vs)) x Write c ≡ None
record_erased x [] cells c i = elim i [ ]
record_erased x (v ∷ vs) cells c here =
    records_absent x vs (remove (remove cells (key_of x Write v.0)) (key_of x Data v.1)) (key_of x Write v.0)
    (erased_off (remove cells (key_of x Write v.0)) (key_of x Data v.1) (key_of x Write v.0) (no_write_data x x v.0 v.1) ∙ erased_at cells (key_of x Write v.0))
record_erased x (v ∷ vs) cells c (there i) = record_erased x vs (remove (remove cells (key_of x Write v.0)) (key_of x Data v.1)) c i

-- with the data that it names
named_erased : (x : Cell) (vs : List (ℕ × ℕ)) (cells : Cells) (v : ℕ × ℕ) → v ∈ vs → at (after_edits cells (record_erasures x vs)) x Data v.1 ≡ None
named_erased x [] cells v i = elim i [ ]
named_erased x (u ∷ vs) cells v here =
    records_absent x vs (remove (remove cells (key_of x Write v.0)) (key_of x Data v.1)) (key_of x Data v.1) (erased_at (remove cells (key_of x Write v.0)) (key_of x Data v.1))
named_erased x (u ∷ vs) cells v (there i) = named_erased x vs (remove (remove cells (key_of x Write u.0)) (key_of x Data u.1)) v i

data_erased : (x : Cell) (ts : List ℕ) (cells : Cells) (t : ℕ) → t ∈ ts → at (after_edits cells (data_erasures x ts)) x Data t ≡ None
data_erased x [] cells t i = elim i [ ]
data_erased x (u ∷ ts) cells t here = data_absent x ts (remove cells (key_of x Data t)) (key_of x Data t) (erased_at cells (key_of x Data t))
data_erased x (u ∷ ts) cells t (there i) = data_erased x ts (remove cells (key_of x Data u)) t i

-- an erasure of data leaves the records
record_left : (x : Cell) (ts : List ℕ) (cells : Cells) (c : ℕ) → at (after_edits cells (data_erasures x ts)) x Write c ≡ at cells x Write c
record_left x [] cells c = refl
record_left x (t ∷ ts) cells c = record_left x ts (remove cells (key_of x Data t)) c ∙ erased_off cells (key_of x Data t) (key_of x Write c) (no_write_data x x c t)

there_was : (cells cells' : Cells) (x : Cell) (q : Qualifier) (s : ℕ) → (at cells' x q s ≡ at cells x q s) ⊎ (at cells' x q s ≡ None) → IsThere cells' x q s → IsThere cells x q s
there_was cells cells' x q s (inl same) is = (is.0, sym same ∙ is.1)
there_was cells cells' x q s (inr gone) is = absurd (none-some is.0 (sym gone ∙ is.1))

-- old records were erased, down to one of them
module _ (cells : Cells) (x : Cell) (floor : ℕ) (vs : List (ℕ × ℕ)) (old : AreOld cells x floor vs) where
  abbrev left_cells : Cells
  left_cells = after_edits cells (record_erasures x vs)

  was : (q : Qualifier) (s : ℕ) → IsThere left_cells x q s → IsThere cells x q s
  was q s = there_was cells left_cells x q s ((records_gone x vs cells).fewer (key_of x q s))

  none_old : (from : ℕ) → from ∈ map (λ v. v.0) vs → HasNoOldFrom left_cells x floor from
  none_old from last c d up less low there_c there_d =
      let most = old.kept.last d low (was Write d there_d) in
      elim (old.stamps.rest c (was Write c there_c, omega (arith, less, most))) [
        | inl i ↦ none-some there_c.0 (sym (record_erased x vs cells c i) ∙ there_c.1)
        | inr full ↦ let below = full.1 from last in omega (arith, below, up)
      ]

  still_named : (from : ℕ) → floor ≤ 2 ^ 64 → AreNamedFrom cells x floor from → AreNamedFrom left_cells x floor from
  still_named from limit named t up low is =
      let n : IsNamed cells x t = named t up low (was Data t is) in
      elim (records_fate x vs cells (key_of x Write n.0)) [
        | inl same ↦ (n.0, (n.1.0, n.1.1, same ∙ n.1.2, n.1.3))
        | inr of ↦ elim of.2 [
          | inl e ↦ absurd (none-some is.0 (sym (ap (λ (u : ℕ). at left_cells x Data u) (starts_same n of.0 (old.named of.0 of.1) (key_stamp x x Write Write n.0 of.0.0 e)) ∙ named_erased x vs cells of.0 of.1) ∙ is.1))
          | inr e ↦ absurd (no_write_data x x n.0 of.0.1 e)
        ]
      ]
    where
      -- a record names one start
      starts_same : (n : IsNamed cells x t) (v : ℕ × ℕ) → IsOld cells x old.w v → n.0 ≡ v.0 → t ≡ v.1
      starts_same n v o is_at =
          let text : n.1.0 ≡ o.there.0 = same_Some n.1.0 o.there.0 (sym n.1.2 ∙ (ap (at cells x Write) is_at ∙ o.there.2)) in
          same_start t v.1 n.1.1 o.there.1 o.there.0 (omega (arith, low, limit)) o.low (subst (IsRecordText t n.1.1) text n.1.3) o.there.3

-- the progress after an erasure of records
pub tidy_records : (cells : Cells) (x : Cell) (floor : ℕ) (vs : List (ℕ × ℕ)) (before after : TidyFrom) → vs ≢ [] → AreFound cells x floor vs → after.commit ≡ last_of before.commit (map (λ v. v.0) vs)
    → after.start ≡ before.start → floor ≤ 2 ^ 64 → IsTidyFrom cells x floor before → IsTidyFrom (after_edits cells (record_erasures x vs)) x floor after
tidy_records cells x floor [] before after some found is same limit tidy = absurd (some refl)
tidy_records cells x floor (v ∷ vs) before after some found is same limit tidy = record {
  old = none_old cells x floor (v ∷ vs) found after.commit (subst (λ (c : ℕ). c ∈ map (λ u. u.0) (v ∷ vs)) (sym is) (last_in v.0 (map (λ u. u.0) vs)));
  named = still_named cells x floor (v ∷ vs) found after.start limit (subst (AreNamedFrom cells x floor) (sym same) tidy.named);
}

-- the progress after an erasure of data
pub tidy_data : (cells : Cells) (x : Cell) (floor other : ℕ) (ts : List ℕ) (tidy : TidyFrom) → AreShown cells → AreUnnamed cells x floor ts → ts ≢ [] → tidy.start ≡ last_of other ts
    → IsTidyFrom (after_edits cells (data_erasures x ts)) x floor tidy
tidy_data cells x floor other ts tidy shown unnamed some is = record {
  old = λ c d up less low there_c there_d.
      let same = unnamed.one c d (omega (arith, less, low)) low (was Write c there_c) (was Write d there_d) in omega (arith, same, less);
  named = λ t up low held. elim (named_or_not cells shown x t) [
    | inl n ↦ (n.0, (n.1.0, n.1.1, record_left x ts cells n.0 ∙ n.1.2, n.1.3))
    | inr not ↦ absurd (elim (unnamed.starts.rest t (low, was Data t held, not)) [
      | inl i ↦ none-some held.0 (sym (data_erased x ts cells t i) ∙ held.1)
      | inr full ↦ let below = full.1 tidy.start (subst (λ (u : ℕ). u ∈ ts) (sym is) (last_in_some other ts some)) in omega (arith, below, up)
    ])
  ];
}
  where
    was : (q : Qualifier) (s : ℕ) → IsThere (after_edits cells (data_erasures x ts)) x q s → IsThere cells x q s
    was q s = there_was cells (after_edits cells (data_erasures x ts)) x q s ((data_gone x ts cells).fewer (key_of x q s))

-- ---- after steps of others

-- at and below the floor versions are only erased, and data with the records that name it
record OnlyErased (cells cells' : Cells) (floor : ℕ) : Type 0 where
  records : (x : Cell) (c : ℕ) → c ≤ floor → IsThere cells' x Write c → IsThere cells x Write c
  values : (x : Cell) (t : ℕ) → t < floor → IsThere cells' x Data t → IsThere cells x Data t
  named : (x : Cell) (t : ℕ) → t < floor → IsThere cells' x Data t → IsNamed cells x t → IsNamed cells' x t

tidy_stays : (cells cells' : Cells) (floor : ℕ) → OnlyErased cells cells' floor → (x : Cell) (tidy : TidyFrom) → IsTidyFrom cells x floor tidy → IsTidyFrom cells' x floor tidy
tidy_stays cells cells' floor only x tidy is = record {
  old = λ c d up less low there_c there_d. is.old c d up less low (only.records x c (omega (arith, less, low)) there_c) (only.records x d low there_d);
  named = λ t up low there. only.named x t low there (is.named t up low (only.values x t low there));
}

progress_stays : (cells cells' : Cells) (floor : ℕ) → OnlyErased cells cells' floor → (within : Option CellProgress) (pass : Pass) → IsProgress cells floor within pass → IsProgress cells' floor within pass
progress_stays cells cells' floor only None pass is = tt
progress_stays cells cells' floor only (Some progress) First is = is
progress_stays cells cells' floor only (Some progress) Second is = tidy_stays cells cells' floor only progress.cell progress.tidy is

collected_only : (cells cells' : Cells) (st : State) (floor : ℕ) → Collects cells cells' st → OnlyErased cells cells' floor
collected_only cells cells' st floor gone = record {
  records = λ x c low. there_was cells cells' x Write c (elim (gone.records x c) [ inl same ↦ inl same | inr left ↦ inr left.0 ]);
  values = λ x t low. data_was x t;
  named = λ x t low is n. elim (gone.records x n.0) [
    | inl same ↦ (n.0, (n.1.0, n.1.1, same ∙ n.1.2, n.1.3))
    | inr left ↦ absurd (none-some is.0 (sym (gone.together x n.0 t (data_was x t is) n.1 left.0) ∙ is.1))
  ];
}
  where
    data_was : (x : Cell) (t : ℕ) → IsThere cells' x Data t → IsThere cells x Data t
    data_was x t = there_was cells cells' x Data t (elim (gone.values x t) [ inl same ↦ inl same | inr left ↦ inr left.0 ])

-- the progress stays right when versions are collected
pub progress_collected : (cells cells' : Cells) (st : State) (floor : ℕ) → Collects cells cells' st → (within : Option CellProgress) (pass : Pass) → IsProgress cells floor within pass → IsProgress cells' floor within pass
progress_collected cells cells' st floor gone = progress_stays cells cells' floor (collected_only cells cells' st floor gone)

-- a cell is held by a session that began at or above the floor
held_only : (cells : Cells) (floor : ℕ) (y : Cell) (t : ℕ) (v : Change) (first : Cell) → floor ≤ t → OnlyErased cells (held_cells cells y t v first) floor
held_only cells floor y t v first up = record {
  records = λ x c low is. (is.0, sym (write_off x c) ∙ is.1);
  values = λ x u low is. (is.0, sym (data_off x u low) ∙ is.1);
  named = λ x u low is n. (n.0, (n.1.0, n.1.1, write_off x n.0 ∙ n.1.2, n.1.3));
}
  where
    write_off : (x : Cell) (c : ℕ) → at (held_cells cells y t v first) x Write c ≡ at cells x Write c
    write_off x c =
        put_off (changed_cells cells y t v) (key_of y Lock t) (lock_text first.row first.family (kind_of_change v)) (key_of x Write c) (no_write_lock x y c t)
        ∙ changed_off cells y t v (key_of x Write c) (no_write_data x y c t)

    data_off : (x : Cell) (u : ℕ) → u < floor → at (held_cells cells y t v first) x Data u ≡ at cells x Data u
    data_off x u low =
        put_off (changed_cells cells y t v) (key_of y Lock t) (lock_text first.row first.family (kind_of_change v)) (key_of x Data u) (no_data_lock x y u t)
        ∙ changed_off cells y t v (key_of x Data u) (λ e. let same = key_stamp x y Data Data u t e in omega (arith, same, low, up))

-- a lock at or above the floor is replaced by its record, which is younger
recorded_only : (cells : Cells) (floor : ℕ) (y : Cell) (t c : ℕ) (kind : WriteKind) → floor < c → at cells y Write c ≡ None → OnlyErased cells (recorded_cells cells y t c kind) floor
recorded_only cells floor y t c kind up fresh = record {
  records = λ x a low is. (is.0, sym (write_off x a (λ e. let same = key_stamp x y Write Write a c e in omega (arith, same, low, up))) ∙ is.1);
  values = λ x u low is. (is.0, sym (data_off x u) ∙ is.1);
  named = λ x u low is n. elim (cases_key (key_of x Write n.0) (key_of y Write c)) [
    | inl e ↦ absurd (none-some n.1.0 (sym fresh ∙ (sym (ap (get cells) e) ∙ n.1.2)))
    | inr ne ↦ (n.0, (n.1.0, n.1.1, write_off x n.0 ne ∙ n.1.2, n.1.3))
  ];
}
  where
    write_off : (x : Cell) (a : ℕ) → key_of x Write a ≢ key_of y Write c → at (recorded_cells cells y t c kind) x Write a ≡ at cells x Write a
    write_off x a ne =
        erased_off (insert cells (key_of y Write c) (record_text t kind)) (key_of y Lock t) (key_of x Write a) (no_write_lock x y a t)
        ∙ put_off cells (key_of y Write c) (record_text t kind) (key_of x Write a) ne

    data_off : (x : Cell) (u : ℕ) → at (recorded_cells cells y t c kind) x Data u ≡ at cells x Data u
    data_off x u =
        erased_off (insert cells (key_of y Write c) (record_text t kind)) (key_of y Lock t) (key_of x Data u) (no_data_lock x y u t)
        ∙ put_off cells (key_of y Write c) (record_text t kind) (key_of x Data u) (no_data_write x y u c)

-- a lock is erased
unlocked_only : (cells : Cells) (floor : ℕ) (y : Cell) (t : ℕ) → OnlyErased cells (erased_cells cells y t) floor
unlocked_only cells floor y t = record {
  records = λ x a low is. (is.0, sym (off x Write a (no_write_lock x y a t)) ∙ is.1);
  values = λ x u low is. (is.0, sym (off x Data u (no_data_lock x y u t)) ∙ is.1);
  named = λ x u low is n. (n.0, (n.1.0, n.1.1, off x Write n.0 (no_write_lock x y n.0 t) ∙ n.1.2, n.1.3));
}
  where
    off : (x : Cell) (q : Qualifier) (a : ℕ) → key_of x q a ≢ key_of y Lock t → at (erased_cells cells y t) x q a ≡ at cells x q a
    off x q a ne = erased_off cells (key_of y Lock t) (key_of x q a) ne

-- the record that replaces a mark is new, and younger than the start
module _ (cells : Cells) (st : State) (reached : IsReachedByServers st) (shown : ShowsCells cells st) (x : Cell) (t : ℕ) (m : Marked st x t) where
  absent : (o : Option (List ℕ)) → ((b : List ℕ) → o ≡ Some b → ⊥) → o ≡ None
  absent None never = refl
  absent (Some b) never = absurd (never b refl)

  fresh_committed : (c : ℕ) → CommittedAt st t c → (t < c) × (at cells x Write c ≡ None)
  fresh_committed c (ws, i) = (
    ((servers_sound reached).fair (record { start = t; stamp = c; writes = ws }) i).later,
    absent (at cells x Write c) (λ b h.
        let k = shown.records x c b h in
        let same : k.commit.start ≡ t = (servers_sound reached).stamps_differ k.commit (record { start = t; stamp = c; writes = ws }) k.is_in i k.stamp in
        k.unmarked (subst (λ (u : ℕ). Marked st x u) (sym same) m)),
  )

  fresh_stamped : (c : ℕ) → InPhase st t (Stamped c) → (t < c) × (at cells x Write c ≡ None)
  fresh_stamped c h =
      let own = (servers_sound reached).drawn t (Stamped c) h c refl in
      (own.later, absent (at cells x Write c) (λ b g. let k = shown.records x c b g in own.no_commit k.commit k.is_in k.stamp))

changed_only : (cells : Cells) (st : State) → IsReachedByServers st → ShowsCells cells st → (floor : ℕ) → floor ≤ st.floor → IsUnmarkedBelow st floor → (cells' : Cells) → ChangesCells cells st cells' → OnlyErased cells cells' floor
changed_only cells st reached shown floor low clear cells' changes = by_change cells' changes
  where
    by_change : (cells' : Cells) → ChangesCells cells st cells' → OnlyErased cells cells' floor
    by_change _ unchanged = record { records = λ x c low is. is; values = λ x t low is. is; named = λ x t low is n. n }
    by_change _ (locks_cell x t p v first h) = held_only cells floor x t v first (let up = (servers_floors reached).above t p h in omega (arith, up, low))
    by_change _ (records_commit x t c kind m by) =
        let fresh : (t < c) × (at cells x Write c ≡ None) = elim by [
          | inl committed ↦ fresh_committed cells st reached shown x t m c committed
          | inr stamped ↦ fresh_stamped cells st reached shown x t m c stamped
        ] in
        recorded_only cells floor x t c kind (let up = clear x t m in let later = fresh.0 in omega (arith, up, later)) fresh.1
    by_change _ (erases_lock x t) = unlocked_only cells floor x t
    by_change _ (erases_versions more collects) = collected_only cells more st floor collects

-- no step of others undoes the progress within a cell
pub progress_changed : (cells : Cells) (st : State) → IsReachedByServers st → ShowsCells cells st → (floor : ℕ) → floor ≤ st.floor → (within : Option CellProgress) (pass : Pass) → (pass ≡ Second → IsUnmarkedBelow st floor)
    → (cells' : Cells) → ChangesCells cells st cells' → IsProgress cells floor within pass → IsProgress cells' floor within pass
progress_changed cells st reached shown floor low None pass clear cells' changes is = tt
progress_changed cells st reached shown floor low (Some progress) First clear cells' changes is = is
progress_changed cells st reached shown floor low (Some progress) Second clear cells' changes is =
    tidy_stays cells cells' floor (changed_only cells st reached shown floor low (clear refl) cells' changes) progress.cell progress.tidy is
