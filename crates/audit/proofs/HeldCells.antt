-- The map of marks: its members, a mark that is put in, and one that is removed.
use Rattle.std.proofs.Common.{◌≡◌, ◌≢◌, ◌↔◌, inl, inr, ℕ, Bool, true, false, not, cond, List, [], ◌∷◌, map, Option, Some, None, refl, sym, ap, subst, ◌∙◌, is_eq}
use Rattle.std.specs.BTreeMap as btree
use Rattle.std.specs.BTreeMap.{is_at}
use Rattle.std.specs.BTreeMap.Range.{entries_between, range_contains}
use Rattle.std.specs.declared.ops.Bound.{Bound}
use Rattle.std.specs.List.{AllByRecursion, filter}
use Rattle.std.proofs.lemmas.Cmp.{tied_itself}
use Rattle.std.specs.Map.{lookup}
use Rattle.std.proofs.lemmas.Map.Entries.{btree_map_get_place, lookup-filter-keys, place_from_lookup}
use Rattle.std.proofs.lemmas.Option.{none-some, same_Some}
use Rattle.si_model.specs.Machine.{Range, Reach}
use Rattle.si_model.specs.Reads.{cell_of}
use Rattle.si_model.specs.Scans.{Covers}
use Rattle.si_model.specs.Sets.{◌∈◌, here, there, IsWithout}
use Rattle.si_model.specs.declared.replies.Cell.{Cell}
use Rattle.si_model.specs.declared.scans.ScanItem.{ScanItem}
use Rattle.audit.specs.AuditScans.{IsMissedMark}
use Rattle.audit.specs.Histories.{name_cmp}
use Rattle.audit.specs.Audits.{SameMembers}
use Rattle.audit.specs.Marks.{Holders, mark_of}
use Rattle.audit.specs.Spans.{Name, Spans, name_of}
use Rattle.audit.proofs.JudgedScans.{all_of}
use Rattle.audit.proofs.Searches.{member_at, place_of_map, place_of_member}
use Rattle.audit.proofs.SpannedCells.{all_kept, name_total}
use Rattle.audit.proofs.VersionMaps.{cases_cell, exact_names, is_equal}

abbrev pub marks_of : Holders → List (Cell × ℕ)
marks_of m = map mark_of m.entries

-- ---- a mark and its entry

pub mark_at : (m : Holders) (x : Cell) (t : ℕ) → btree.get name_cmp m (name_of x) ≡ Some t → (x, t) ∈ marks_of m
mark_at m x t is =
    let place = place_from_lookup (is_at (name_cmp (name_of x))) m.entries t is in
    let same = exact_names (name_of x) place.1 (is_equal (name_cmp (name_of x) place.1) place.3) in
    subst (λ (n : Name). (cell_of n.0 n.1, t) ∈ marks_of m) (sym same) (member_at mark_of m.entries place.0 (place.1, t) place.2)

pub at_mark : (m : Holders) → btree.IsOrdered name_cmp m → (x : Cell) (t : ℕ) → (x, t) ∈ marks_of m → btree.get name_cmp m (name_of x) ≡ Some t
at_mark m ordered x t h =
    let r = place_of_member mark_of m.entries (x, t) h in
    subst (λ (p : Cell × ℕ). btree.get name_cmp m (name_of p.0) ≡ Some p.1) r.3 (btree_map_get_place name_total m r.0 r.1.0 r.1.1 ordered r.2)

pub held_so : (m : Holders) → btree.IsOrdered name_cmp m → (x : Cell) (o : Option ℕ) → o ≡ btree.get name_cmp m (name_of x) → (t : ℕ) → ((x, t) ∈ marks_of m) ↔ (o ≡ Some t)
held_so m ordered x o is t = (λ h. is ∙ at_mark m ordered x t h, λ e. mark_at m x t (sym is ∙ e))

-- ---- the first entry of a part of the map

same_names : (k name : Name) → name ≡ k → is_eq (name_cmp k name) ≡ true
same_names k name e = ap (λ (n : Name). is_eq (name_cmp k n)) e ∙ ap is_eq (tied_itself name_total k)

other_names : (k name : Name) → ¬ (name ≡ k) → is_eq (name_cmp k name) ≡ false
other_names k name ne = by (is_eq (name_cmp k name)) refl
  where
    by : (b : Bool) → is_eq (name_cmp k name) ≡ b → is_eq (name_cmp k name) ≡ false
    by true e = absurd (ne (sym (exact_names k name (is_equal (name_cmp k name) e))))
    by false e = e

pub is_another : (k name : Name) (r : Bool) → (r ≡ true → name ≡ k) → (name ≡ k → r ≡ true) → not r ≡ not (is_eq (name_cmp k name))
is_another k name true to back = ap not (sym (same_names k name (to refl)))
is_another k name false to back = ap not (sym (other_names k name (λ e. let t = back e in cc)))

module _ (k : Name) (t : ℕ) (s u : List (Name × ℕ)) (o : Option ℕ) (name : Name) (was : lookup (is_at (name_cmp k)) s ≡ o) (is : s ≡ (name, t) ∷ u) where
  pub entry_found : name ≡ k → Some t ≡ o
  entry_found same = sym (ap (λ (b : Bool). cond b (Some t) (lookup (is_at (name_cmp k)) u)) (same_names k name same)) ∙ (sym (ap (lookup (is_at (name_cmp k))) is) ∙ was)

  pub entry_passed : ¬ (name ≡ k) → lookup (is_at (name_cmp k)) u ≡ o
  entry_passed ne = sym (ap (λ (b : Bool). cond b (Some t) (lookup (is_at (name_cmp k)) u)) (other_names k name ne)) ∙ (sym (ap (lookup (is_at (name_cmp k))) is) ∙ was)

turned : (b : Bool) (o : Option ℕ) → cond (not b) o None ≡ cond b None o
turned true o = refl
turned false o = refl

-- the map without a name, by a filter
pub filtered_at : (x : Name) (es : List (Name × ℕ)) (q : Name) → lookup (is_at (name_cmp q)) (filter (λ e. not (is_eq (name_cmp x e.0))) es) ≡ cond (is_eq (name_cmp x q)) None (lookup (is_at (name_cmp q)) es)
filtered_at x es q =
    lookup-filter-keys (is_at (name_cmp q)) (λ (k : Name). not (is_eq (name_cmp x k))) (not (is_eq (name_cmp x q)))
    (λ k e. ap (λ (n : Name). not (is_eq (name_cmp x n))) (sym (exact_names q k (is_equal (name_cmp q k) e)))) es
    ∙ turned (is_eq (name_cmp x q)) (lookup (is_at (name_cmp q)) es)

-- ---- changes

-- whether a name is a cell's
apart : (x y : Cell) → y ≢ x → is_eq (name_cmp (name_of x) (name_of y)) ≡ false
apart x y ne = by (is_eq (name_cmp (name_of x) (name_of y))) refl
  where
    by : (b : Bool) → is_eq (name_cmp (name_of x) (name_of y)) ≡ b → is_eq (name_cmp (name_of x) (name_of y)) ≡ false
    by true e = absurd (ne (sym (ap (λ (n : Name). cell_of n.0 n.1) (exact_names (name_of x) (name_of y) (is_equal (name_cmp (name_of x) (name_of y)) e)))))
    by false e = e

itself : (x : Cell) → is_eq (name_cmp (name_of x) (name_of x)) ≡ true
itself x = ap is_eq (tied_itself name_total (name_of x))

module _ (old new : Holders) (ordered : btree.IsOrdered name_cmp old) (ordered_new : btree.IsOrdered name_cmp new) (x : Cell) (w : Option ℕ)
    (at : (q : Name) → btree.get name_cmp new q ≡ cond (is_eq (name_cmp (name_of x) q)) w (btree.get name_cmp old q)) where
  at_itself : btree.get name_cmp new (name_of x) ≡ w
  at_itself = at (name_of x) ∙ ap (λ (b : Bool). cond b w (btree.get name_cmp old (name_of x))) (itself x)

  at_another : (y : Cell) → y ≢ x → btree.get name_cmp new (name_of y) ≡ btree.get name_cmp old (name_of y)
  at_another y ne = at (name_of y) ∙ ap (λ (b : Bool). cond b w (btree.get name_cmp old (name_of y))) (apart x y ne)

  pub kept_mark : (y : Cell) (u : ℕ) → y ≢ x → (y, u) ∈ marks_of old → (y, u) ∈ marks_of new
  kept_mark y u ne h = mark_at new y u (at_another y ne ∙ at_mark old ordered y u h)

  pub old_mark : (y : Cell) (u : ℕ) → y ≢ x → (y, u) ∈ marks_of new → (y, u) ∈ marks_of old
  old_mark y u ne h = mark_at old y u (sym (at_another y ne) ∙ at_mark new ordered_new y u h)

  pub mark_here : (u : ℕ) → (x, u) ∈ marks_of new → w ≡ Some u
  mark_here u h = sym at_itself ∙ at_mark new ordered_new x u h

  pub mark_put : (t : ℕ) → w ≡ Some t → (x, t) ∈ marks_of new
  mark_put t is = mark_at new x t (at_itself ∙ is)

pub put_in : (old new : Holders) → btree.IsOrdered name_cmp old → btree.IsOrdered name_cmp new → (x : Cell) (t : ℕ)
    → ((q : Name) → btree.get name_cmp new q ≡ cond (is_eq (name_cmp (name_of x) q)) (Some t) (btree.get name_cmp old q))
    → ((u : ℕ) → ¬ ((x, u) ∈ marks_of old)) → SameMembers (marks_of new) ((x, t) ∷ marks_of old)
put_in old new ordered ordered_new x t at free = λ m. (to m.0 m.1, from m.0 m.1)
  where
    to : (y : Cell) (u : ℕ) → (y, u) ∈ marks_of new → (y, u) ∈ ((x, t) ∷ marks_of old)
    to y u h = elim (cases_cell y x) [
      | inl e ↦
          let same = same_Some t u (mark_here old new ordered ordered_new x (Some t) at u (subst (λ (z : Cell). (z, u) ∈ marks_of new) e h)) in
          subst (λ (p : Cell × ℕ). p ∈ ((x, t) ∷ marks_of old)) (λ i. (sym e i, same i)) here
      | inr ne ↦ there (old_mark old new ordered ordered_new x (Some t) at y u ne h)
    ]

    from : (y : Cell) (u : ℕ) → (y, u) ∈ ((x, t) ∷ marks_of old) → (y, u) ∈ marks_of new
    from _ _ here = mark_put old new ordered ordered_new x (Some t) at t refl
    from y u (there h) = elim (cases_cell y x) [
      | inl e ↦ absurd (free u (subst (λ (z : Cell). (z, u) ∈ marks_of old) e h))
      | inr ne ↦ kept_mark old new ordered ordered_new x (Some t) at y u ne h
    ]

pub taken_out : (old new : Holders) → btree.IsOrdered name_cmp old → btree.IsOrdered name_cmp new → (x : Cell)
    → ((q : Name) → btree.get name_cmp new q ≡ cond (is_eq (name_cmp (name_of x) q)) None (btree.get name_cmp old q))
    → (y : Cell) (u : ℕ) → ((y, u) ∈ marks_of new) ↔ (((y, u) ∈ marks_of old) × (y ≢ x))
taken_out old new ordered ordered_new x at y u = (to, λ h. kept_mark old new ordered ordered_new x None at y u h.1 h.0)
  where
    to : (y, u) ∈ marks_of new → ((y, u) ∈ marks_of old) × (y ≢ x)
    to h = elim (cases_cell y x) [
      | inl e ↦ absurd (none-some u (mark_here old new ordered ordered_new x None at u (subst (λ (z : Cell). (z, u) ∈ marks_of new) e h)))
      | inr ne ↦ (old_mark old new ordered ordered_new x None at y u ne h, ne)
    ]

-- of a cell's only mark
pub without_mark : (old new : List (Cell × ℕ)) (x : Cell) (t : ℕ) → ((u : ℕ) → (x, u) ∈ old → u ≡ t) → ((y : Cell) (u : ℕ) → ((y, u) ∈ new) ↔ (((y, u) ∈ old) × (y ≢ x))) → IsWithout old (x, t) new
without_mark old new x t only same = record {
  same = λ n. (
    λ h. let r = (same n.0 n.1).0 h in (r.0, λ e. r.1 (ap (λ (p : Cell × ℕ). p.0) e)),
    λ h. (same n.0 n.1).1 (h.0, λ e. h.1 (λ i. (e i, only n.1 (subst (λ (z : Cell). (z, n.1) ∈ old) e h.0) i))),
  );
}

pub without_none : (old : List (Cell × ℕ)) (m : Cell × ℕ) → ¬ (m ∈ old) → IsWithout old m old
without_none old m none = record { same = λ n. (λ h. (h, λ e. none (subst (λ (z : Cell × ℕ). z ∈ old) e h)), λ h. h.0) }

-- ---- the marks of the cells that a scan covered

module _ {A : Type 0} (P : A → Type 0) (p : A → Bool) where
  pub all_filtered : (xs : List A) → AllByRecursion P xs → AllByRecursion P (filter p xs)
  all_filtered [] all = tt
  all_filtered (x ∷ xs) all = by (p x) (all_filtered xs all.1)
    where
      by : (b : Bool) → AllByRecursion P (filter p xs) → AllByRecursion P (cond b (x ∷ filter p xs) (filter p xs))
      by true rest = (all.0, rest)
      by false rest = rest

module _ (s : ℕ) (range : Range) (reach : Reach) (items : List ScanItem) where
  abbrev IsKept : Name × ℕ → Type 0
  IsKept entry = ¬ IsMissedMark s range reach items (mark_of entry)

  pub all_marks : (ends : Bound Name × Bound Name) → Spans range reach ends → (es : List (Name × ℕ)) → AllByRecursion IsKept (entries_between name_cmp ends.0 ends.1 es)
      → AllByRecursion (λ mark. ¬ IsMissedMark s range reach items mark) (map mark_of es)
  all_marks ends within es all = all_of (λ (mark : Cell × ℕ). ¬ IsMissedMark s range reach items mark) (map mark_of es) (λ k mark at.
      let r = place_of_map mark_of es k mark at in
      subst (λ (m : Cell × ℕ). ¬ IsMissedMark s range reach items m) r.2 (λ missed.
      all_kept IsKept (λ (e : Name × ℕ). range_contains name_cmp ends.0 ends.1 e.0) es all k r.0 r.1 (within (mark_of r.0).0 missed.1) missed))

  each_kept : (es : List (Name × ℕ)) → AllByRecursion (λ mark. ¬ IsMissedMark s range reach items mark) (map mark_of es) → AllByRecursion IsKept es
  each_kept [] all = tt
  each_kept (e ∷ es) all = (all.0, each_kept es all.1)

  pub marks_between : (ends : Bound Name × Bound Name) (es : List (Name × ℕ)) → AllByRecursion (λ mark. ¬ IsMissedMark s range reach items mark) (map mark_of es)
      → AllByRecursion IsKept (entries_between name_cmp ends.0 ends.1 es)
  marks_between ends es all = all_filtered IsKept (λ (e : Name × ℕ). range_contains name_cmp ends.0 ends.1 e.0) es (each_kept es all)

  pub marks_uncovered : ((x : Cell) → ¬ Covers range reach x) → (marks : List (Cell × ℕ)) → AllByRecursion (λ mark. ¬ IsMissedMark s range reach items mark) marks
  marks_uncovered none marks = all_of (λ (mark : Cell × ℕ). ¬ IsMissedMark s range reach items mark) marks (λ k mark at missed. none mark.0 missed.1)
