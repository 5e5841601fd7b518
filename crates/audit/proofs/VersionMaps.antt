-- The map of the versions of each cell, before and after a change.
use Rattle.std.proofs.Common.{◌≡◌, ◌≢◌, ◌⊎◌, ◌↔◌, inl, inr, ℕ, ◌+◌, ◌<◌, Bool, true, false, cond, List, [], ◌∷◌, ◌++◌, Option, Some, None, refl, sym, ap, subst, ◌∙◌, arith, is_eq, Ordering, Less, Equal, Greater}
use Rattle.std.specs.Prelude.{is_some, slice_get}
use Rattle.std.specs.BTreeMap as btree
use Rattle.std.specs.Cmp.Lexicographic.{slice_cmp}
use Rattle.std.specs.Global.{Vec}
use Rattle.std.specs.Ordering.{nat_cmp}
use Rattle.std.proofs.lemmas.Map.Lookups.{CmpEqualImpliesEq, exact_bytes, exact_pairs}
use Rattle.std.proofs.lemmas.Bool.{cases_eq}
use Rattle.std.proofs.lemmas.Option.{same_Some}
use Rattle.si_model.proofs.Without.{cases_mark}
use Rattle.si_model.specs.Sets.{◌∈◌, here, there}
use Rattle.si_model.specs.declared.replies.Cell.{Cell}
use Rattle.audit.specs.Histories.{AreAdded, Histories, IsAdded, IsLater, IsMade, Rises, name_cmp, versions_at, versions_of}
use Rattle.audit.specs.declared.audit.parts.Version.{Version}
use Rattle.audit.specs.declared.audit.parts.Write.{Write}
use Rattle.audit.proofs.SearchesBack.{front_or_back, in_back, in_front}
use Rattle.audit.proofs.Versions.{rises_more}

pub exact_names : CmpEqualImpliesEq name_cmp
exact_names = exact_pairs (slice_cmp nat_cmp) (slice_cmp nat_cmp) exact_bytes exact_bytes

pub is_equal : (o : Ordering) → is_eq o ≡ true → o ≡ Equal
is_equal Less e = absurd (cc)
is_equal Equal e = refl
is_equal Greater e = absurd (cc)

-- the cell of a key
abbrev pub named : List ℕ × List ℕ → Cell
named k = record { row = k.0; family = k.1 }

module _ (old new : Histories) (x : Cell) (vs : Vec Version) where
  pub at_cell : btree.get name_cmp new (x.row, x.family) ≡ Some vs → versions_at new x ≡ vs.items
  at_cell is = ap versions_of is

  pub at_others : ((q : List ℕ × List ℕ) → btree.get name_cmp new q ≡ cond (is_eq (name_cmp (x.row, x.family) q)) (Some vs) (btree.get name_cmp old q)) → (y : Cell) → y ≢ x → versions_at new y ≡ versions_at old y
  at_others at y ne = by (is_eq (name_cmp (x.row, x.family) (y.row, y.family))) refl
    where
      by : (b : Bool) → is_eq (name_cmp (x.row, x.family) (y.row, y.family)) ≡ b → versions_at new y ≡ versions_at old y
      by true e = absurd (ne (sym (ap named (exact_names (x.row, x.family) (y.row, y.family) (is_equal (name_cmp (x.row, x.family) (y.row, y.family)) e)))))
      by false e = ap versions_of (at (y.row, y.family) ∙ ap (λ (b : Bool). cond b (Some vs) (btree.get name_cmp old (y.row, y.family))) e)

-- a version is added at the cell's key
pub added_at : (old new : Histories) (x : Cell) (v : Version) (k : List ℕ × List ℕ) (vs : Vec Version) (before : List Version) → k ≡ (x.row, x.family) → versions_of (btree.get name_cmp old k) ≡ before
    → ((q : List ℕ × List ℕ) → btree.get name_cmp new q ≡ cond (is_eq (name_cmp k q)) (Some vs) (btree.get name_cmp old q)) → btree.get name_cmp new k ≡ Some vs
    → vs.items ≡ before ++ v ∷ [] → IsLater before v → IsAdded old new x v
added_at old new x v k vs before is was at stands items later =
    let was_x : versions_at old x ≡ before = ap (λ (q : List ℕ × List ℕ). versions_of (btree.get name_cmp old q)) (sym is) ∙ was in
    let there_x : btree.get name_cmp new (x.row, x.family) ≡ Some vs = ap (btree.get name_cmp new) (sym is) ∙ stands in
    record {
      here = at_cell old new x vs there_x ∙ (items ∙ ap (λ (l : List Version). l ++ v ∷ []) (sym was_x));
      later = subst (λ (l : List Version). IsLater l v) (sym was_x) later;
      others = at_others old new x vs (subst (λ (r : List ℕ × List ℕ). (q : List ℕ × List ℕ) → btree.get name_cmp new q ≡ cond (is_eq (name_cmp r q)) (Some vs) (btree.get name_cmp old q)) is at);
    }

pub none_versions : (o : Option (Vec Version)) → is_some o ≡ false → versions_of o ≡ []
none_versions None e = refl
none_versions (Some vs) e = absurd (cc)

pub later_none : (v : Version) → IsLater [] v
later_none v k u is at = absurd (omega (arith, is))

pub cases_cell : (x y : Cell) → (x ≡ y) ⊎ (x ≢ y)
cases_cell x y = elim (cases_mark (x, 0) (y, 0)) [ inl e ↦ inl (ap (λ m. m.0) e) | inr ne ↦ inr (λ e. ne (λ i. (e i, 0))) ]

-- ---- the versions of a commit

pub added_none : (histories : Histories) (writes : List Write) (stamp place : ℕ) → AreAdded histories histories writes stamp place 0
added_none histories writes stamp place = record {
  rises = λ x h. h;
  same = λ x v. (λ m. inl m, λ h. elim h [ inl m ↦ m | inr made ↦ absurd (omega (arith, made.0)) ]);
}

module _ (old mid new : Histories) (writes : List Write) (stamp place n : ℕ) (w : Write) (at : slice_get writes n ≡ Some w) (so_far : AreAdded old mid writes stamp place n)
    (now : IsAdded mid new w.cell (record { stamp = stamp; place = place; write = n })) where
  abbrev it : Version
  it = record { stamp = stamp; place = place; write = n }

  is_it : (v : Version) (x : Cell) → IsMade writes stamp place x v → v.write ≡ n → v ≡ it
  is_it v x made same = λ i. record { stamp = made.stamp_is i; place = made.place_is i; write = same i }

  abbrev IsSo : Cell → Version → ℕ → Type 0
  IsSo x v k = (v ∈ versions_at old x) ⊎ ((v.write < k) × IsMade writes stamp place x v)

  more : (x : Cell) (v : Version) → IsSo x v n → IsSo x v (n + 1)
  more x v (inl m) = inl m
  more x v (inr (low, made)) = inr (omega (arith, low), made)

  pub added_more : AreAdded old new writes stamp place (n + 1)
  added_more = record { rises = rises; same = same }
    where
      rises : (x : Cell) → Rises (versions_at old x) → Rises (versions_at new x)
      rises x h = elim (cases_cell x w.cell) [
        | inl e ↦ subst (λ (y : Cell). Rises (versions_at new y)) (sym e)
            (subst (λ (vs : List Version). Rises vs) (sym now.here) (rises_more (versions_at mid w.cell) it (subst (λ (y : Cell). Rises (versions_at mid y)) e (so_far.rises x h)) now.later))
        | inr ne ↦ subst (λ (vs : List Version). Rises vs) (sym (now.others x ne)) (so_far.rises x h)
      ]

      from : (x : Cell) (v : Version) → v ∈ versions_at new x → IsSo x v (n + 1)
      from x v m = elim (cases_cell x w.cell) [
        | inr ne ↦ more x v ((so_far.same x v).0 (subst (λ (vs : List Version). v ∈ vs) (now.others x ne) m))
        | inl e ↦ elim (front_or_back (versions_at mid w.cell) (it ∷ []) v (subst (λ (vs : List Version). v ∈ vs) (ap (versions_at new) e ∙ now.here) m)) [
          | inl k ↦ more x v ((so_far.same x v).0 (subst (λ (vs : List Version). v ∈ vs) (ap (versions_at mid) (sym e)) k))
          | inr k ↦ inr (of_it x v e (only v it k))
        ]
      ]
        where
          only : (v u : Version) → v ∈ (u ∷ []) → v ≡ u
          only _ u here = refl
          only v u (there h) = elim h [ ]

          of_it : (x : Cell) (v : Version) → x ≡ w.cell → v ≡ it → (v.write < n + 1) × IsMade writes stamp place x v
          of_it x v e is = subst (λ (u : Version). (u.write < n + 1) × IsMade writes stamp place x u) (sym is) (omega arith, record { stamp_is = refl; place_is = refl; write = w; there = at; cell = sym e })

      kept : (x : Cell) (v : Version) → v ∈ versions_at mid x → v ∈ versions_at new x
      kept x v m = elim (cases_cell x w.cell) [
        | inr ne ↦ subst (λ (vs : List Version). v ∈ vs) (sym (now.others x ne)) m
        | inl e ↦ subst (λ (vs : List Version). v ∈ vs) (sym (ap (versions_at new) e ∙ now.here)) (in_front (versions_at mid w.cell) (it ∷ []) v (subst (λ (vs : List Version). v ∈ vs) (ap (versions_at mid) e) m))
      ]

      to : (x : Cell) (v : Version) → IsSo x v (n + 1) → v ∈ versions_at new x
      to x v (inl m) = kept x v ((so_far.same x v).1 (inl m))
      to x v (inr (low, made)) = elim (cases_eq v.write n) [
        | inr ne ↦ kept x v ((so_far.same x v).1 (inr (omega arith, made)))
        | inl e ↦
            let same_write = same_Some made.write w (sym made.there ∙ (ap (slice_get writes) e ∙ at)) in
            let is_cell : x ≡ w.cell = sym made.cell ∙ ap (λ (z : Write). z.cell) same_write in
            subst (λ (y : Cell). v ∈ versions_at new y) (sym is_cell) (subst (λ (vs : List Version). v ∈ vs) (sym now.here) (in_back (versions_at mid w.cell) (it ∷ []) v (subst (λ (u : Version). v ∈ (u ∷ [])) (is_it v x made e) here)))
      ]

      same : (x : Cell) (v : Version) → (v ∈ versions_at new x) ↔ IsSo x v (n + 1)
      same x v = (from x v, to x v)
