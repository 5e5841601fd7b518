-- The part of a map by cells in which the cells lie that a scan covered.
use Rattle.std.proofs.Common.{◌≡◌, ◌≢◌, ℕ, zero, suc, Bool, true, false, not, ◌&&◌, cond, List, [], ◌∷◌, ◌++◌, map, Option, Some, None, refl, sym, ap, subst, ◌∙◌, Ordering, Less, Equal, Greater}
use Rattle.std.specs.Prelude.{slice_get, IfSome}
use Rattle.std.specs.BTreeMap as btree
use Rattle.std.specs.BTreeMap.{is_at}
use Rattle.std.specs.BTreeMap.Range.{entries_between, is_from_start, is_past_end, range_contains}
use Rattle.std.specs.declared.ops.Bound.{Bound}
use Rattle.std.specs.Cmp.{IsTotalOrder}
use Rattle.std.specs.Cmp.Lexicographic.{slice_cmp}
use Rattle.std.specs.Global.{Vec}
use Rattle.std.specs.List.{AllByRecursion, filter}
use Rattle.std.specs.Ordering.{is_gt, is_lt, nat_cmp, ordering_reverse, ordering_then}
use Rattle.std.proofs.lemmas.Cmp.{nat_list_cmp_total, on_total, then_total}
use Rattle.std.proofs.lemmas.Map.Entries.{place_from_lookup}
use Rattle.std.proofs.lemmas.Option.{none-some, same_Some}
use Rattle.cell_key.specs.Keys.{byte_cmp}
use Rattle.si_model.specs.Machine.{Range, Reach, UpTo}
use Rattle.si_model.specs.Reads.{cell_of}
use Rattle.si_model.specs.Scans.{Covers}
use Rattle.si_model.specs.Sets.{◌∈◌}
use Rattle.si_model.specs.declared.replies.Cell.{Cell}
use Rattle.si_model.specs.declared.scans.ScanItem.{ScanItem}
use Rattle.audit.specs.Audits.{commit_of}
use Rattle.audit.specs.AuditScans.{AreSoUnnamed, IsSoUnnamed}
use Rattle.audit.specs.Histories.{AreHistories, Histories, IsVersion, name_cmp, versions_of}
use Rattle.audit.specs.Spans.{BeginsBefore, EndsBehind, Name, Spans, after, name_of, up_to}
use Rattle.audit.specs.declared.audit.parts.Commit.{Commit}
use Rattle.audit.specs.declared.audit.parts.Version.{Version}
use Rattle.audit.specs.declared.audit.parts.Write.{Write}
use Rattle.audit.proofs.JudgedScans.{all_of, each_unnamed}
use Rattle.audit.proofs.VersionMaps.{exact_names, is_equal}

-- ---- the order of names

pub name_total : IsTotalOrder name_cmp
name_total = then_total (on_total (λ (p : Name). p.0) nat_list_cmp_total) (on_total (λ (p : Name). p.1) nat_list_cmp_total)

is_greater : (o : Ordering) → is_gt o ≡ true → o ≡ Greater
is_greater Less e = absurd (cc)
is_greater Equal e = absurd (cc)
is_greater Greater e = refl

pub no_less : (o : Ordering) → ¬ (o ≡ Less) → is_lt o ≡ false
no_less Less ne = absurd (ne refl)
no_less Equal ne = refl
no_less Greater ne = refl

-- no name is after a and up to b, if a is after b
pub empty_part : (a b : Name) → is_gt (name_cmp a b) ≡ true → (k : Name) → (is_lt (name_cmp a k) && not (is_lt (name_cmp b k))) ≡ false
empty_part a b gt k = by (name_cmp a k) refl
  where
    down : name_cmp b a ≡ Less
    down = name_total.antisymm b a ∙ ap ordering_reverse (is_greater (name_cmp a b) gt)

    by : (o : Ordering) → name_cmp a k ≡ o → (is_lt (name_cmp a k) && not (is_lt (name_cmp b k))) ≡ false
    by Less e = ap (λ (o : Ordering). is_lt o && not (is_lt (name_cmp b k))) e ∙ ap (λ (o : Ordering). not (is_lt o)) (name_total.trans b a k down e)
    by Equal e = ap (λ (o : Ordering). is_lt o && not (is_lt (name_cmp b k))) e
    by Greater e = ap (λ (o : Ordering). is_lt o && not (is_lt (name_cmp b k))) e

-- a row with a byte 0 behind it is after all rows up to it
pub behind_row : (end row : List ℕ) → byte_cmp end row ≢ Less → slice_cmp nat_cmp (end ++ 0 ∷ []) row ≡ Greater
behind_row [] [] ne = refl
behind_row [] (y ∷ ys) ne = absurd (ne refl)
behind_row (x ∷ xs) [] ne = refl
behind_row (x ∷ xs) (y ∷ ys) ne = by (nat_cmp x y) refl (behind_row xs ys)
  where
    by : (o : Ordering) → nat_cmp x y ≡ o → (byte_cmp xs ys ≢ Less → slice_cmp nat_cmp (xs ++ 0 ∷ []) ys ≡ Greater) → ordering_then (nat_cmp x y) (slice_cmp nat_cmp (xs ++ 0 ∷ []) ys) ≡ Greater
    by Less e rest = absurd (ne (ap (λ (o : Ordering). ordering_then o (slice_cmp nat_cmp xs ys)) e))
    by Equal e rest = ap (λ (o : Ordering). ordering_then o (slice_cmp nat_cmp (xs ++ 0 ∷ []) ys)) e ∙ rest (λ l. ne (ap (λ (o : Ordering). ordering_then o (slice_cmp nat_cmp xs ys)) e ∙ l))
    by Greater e rest = ap (λ (o : Ordering). ordering_then o (slice_cmp nat_cmp (xs ++ 0 ∷ []) ys)) e

pub begins_after : (name : Name) (before : Cell) → name ≡ name_of before → BeginsBefore (Some before) (Some name)
begins_after name before is x comes = ap (λ (n : Name). is_lt (name_cmp n (name_of x))) is ∙ ap is_lt comes

pub ends_at : (name : Name) (end : Option (List ℕ)) (last : Cell) → name ≡ name_of last → EndsBehind end (UpTo last) (Some name)
ends_at name end last is x low has = ap (λ (n : Name). is_lt (name_cmp n (name_of x))) is ∙ no_less (name_cmp (name_of last) (name_of x)) has

pub ends_behind : (name : Name) (end : List ℕ) (reach : Reach) → name.0 ≡ end ++ 0 ∷ [] → EndsBehind (Some end) reach (Some name)
ends_behind name end reach is x low has =
    ap (λ (row : List ℕ). is_lt (ordering_then (slice_cmp nat_cmp row x.row) (slice_cmp nat_cmp name.1 x.family))) is
    ∙ ap (λ (o : Ordering). is_lt (ordering_then o (slice_cmp nat_cmp name.1 x.family))) (behind_row end x.row low)

-- the same of a name that there may be no memory for

pub begins_if : (before : Cell) (o : Option Name) → IfSome o (λ name. name ≡ name_of before) → BeginsBefore (Some before) o
begins_if before None is = λ x comes. refl
begins_if before (Some name) is = begins_after name before is

pub ends_if : (end : Option (List ℕ)) (last : Cell) (o : Option Name) → IfSome o (λ name. name ≡ name_of last) → EndsBehind end (UpTo last) o
ends_if end last None is = λ x low has. refl
ends_if end last (Some name) is = ends_at name end last is

pub ends_behind_if : (end : List ℕ) (reach : Reach) (o : Option Name) → IfSome o (λ name. name.0 ≡ end ++ 0 ∷ []) → EndsBehind (Some end) reach o
ends_behind_if end reach None is = λ x low has. refl
ends_behind_if end reach (Some name) is = ends_behind name end reach is

both : (a b : Bool) → a ≡ true → b ≡ false → (a && not b) ≡ true
both a b t f = ap (λ (c : Bool). c && not b) t ∙ ap not f

pub spans : (range : Range) (reach : Reach) (first last : Option Name) → BeginsBefore range.after first → EndsBehind range.end reach last → Spans range reach (after first, up_to last)
spans range reach first last begins ends x covers =
    both (is_from_start name_cmp (after first) (name_of x)) (is_past_end name_cmp (up_to last) (name_of x)) (begins x covers.between.after) (ends x covers.between.up_to covers.reached)

pub covers_none : (range : Range) (reach : Reach) (first last : Option Name) → Spans range reach (after first, up_to last) → ((k : Name) → range_contains name_cmp (after first) (up_to last) k ≡ false) → (x : Cell) → ¬ Covers range reach x
covers_none range reach first last within empty x covers = let t = within x covers in let f = empty (name_of x) in cc

-- ---- a property of each entry of a part

module _ {A : Type 0} (P : A → Type 0) (p : A → Bool) where
  pub all_kept : (xs : List A) → AllByRecursion P (filter p xs) → (i : ℕ) (e : A) → slice_get xs i ≡ Some e → p e ≡ true → P e
  all_kept [] all i e at t = absurd (none-some e at)
  all_kept (x ∷ xs) all i e at t = by (p x) refl i at (λ rest j there. all_kept xs rest j e there t)
    where
      by : (b : Bool) → p x ≡ b → (i : ℕ) → slice_get (x ∷ xs) i ≡ Some e → (AllByRecursion P (filter p xs) → (j : ℕ) → slice_get xs j ≡ Some e → P e) → P e
      by true is zero at more = subst P (same_Some x e at) (subst (λ (b : Bool). AllByRecursion P (cond b (x ∷ filter p xs) (filter p xs))) is all).0
      by true is (suc i) at more = more (subst (λ (b : Bool). AllByRecursion P (cond b (x ∷ filter p xs) (filter p xs))) is all).1 i at
      by false is zero at more = absurd (let same = same_Some x e at in let u = ap p same in cc)
      by false is (suc i) at more = more (subst (λ (b : Bool). AllByRecursion P (cond b (x ∷ filter p xs) (filter p xs))) is all) i at

-- ---- the versions of the cells in a part

some_versions : (o : Option (Vec Version)) (v : Version) → v ∈ versions_of o → (vs : Vec Version) × (o ≡ Some vs)
some_versions None v m = elim m [ ]
some_versions (Some vs) v m = (vs, refl)

module _ (commits : List Commit) (histories : Histories) (h : AreHistories commits histories) (s : ℕ) (range : Range) (reach : Reach) (items : List ScanItem) where
  abbrev IsSo : Name × Vec Version → Type 0
  IsSo entry = IsSoUnnamed (map commit_of commits) s range reach items (cell_of entry.0.0 entry.0.1)

  its_entry : (k j : ℕ) (commit : Commit) (write : Write) → slice_get commits k ≡ Some commit → slice_get commit.writes.items j ≡ Some write
      → (i : ℕ) × (name : Name) × (vs : Vec Version) × (slice_get histories.entries i ≡ Some (name, vs)) × (name_of write.cell ≡ name)
  its_entry k j commit write at there =
      let v : Version = record { stamp = commit.stamp; place = k; write = j } in
      let is : IsVersion commits write.cell v = (commit, at, record { stamp_is = refl; place_is = refl; write = write; there = there; cell = refl }) in
      let found = some_versions (btree.get name_cmp histories (name_of write.cell)) v (((h write.cell).same v).1 is) in
      let place = place_from_lookup (is_at (name_cmp (name_of write.cell))) histories.entries found.0 found.1 in
      (place.0, place.1, found.0, place.2, exact_names (name_of write.cell) place.1 (is_equal (name_cmp (name_of write.cell) place.1) place.3))

  pub all_commits : (ends : Bound Name × Bound Name) → Spans range reach ends → AllByRecursion IsSo (entries_between name_cmp ends.0 ends.1 histories.entries)
      → AllByRecursion (λ commit. AreSoUnnamed (map commit_of commits) s range reach items commit) commits
  unfolding AreSoUnnamed IsSoUnnamed
  all_commits ends within all = all_of (λ (commit : Commit). AreSoUnnamed (map commit_of commits) s range reach items commit) commits (λ k commit at.
      all_of (λ (write : Write). IsSoUnnamed (map commit_of commits) s range reach items write.cell) commit.writes.items (λ j write there covers lacks.
      let r = its_entry k j commit write at there in
      let inside = ap (range_contains name_cmp ends.0 ends.1) (sym r.4) ∙ within write.cell covers in
      let so = all_kept IsSo (λ (e : Name × Vec Version). range_contains name_cmp ends.0 ends.1 e.0) histories.entries all r.0 (r.1, r.2) r.3 inside in
      let cell : cell_of r.1.0 r.1.1 ≡ write.cell = ap (λ (n : Name). cell_of n.0 n.1) (sym r.4) in
      subst (λ (y : Cell). IsSoUnnamed (map commit_of commits) s range reach items y) cell so covers lacks))

  pub all_between : (es : List (Name × Vec Version)) → AllByRecursion (λ commit. AreSoUnnamed (map commit_of commits) s range reach items commit) commits → AllByRecursion IsSo es
  all_between es all = all_of IsSo es (λ i e at. each_unnamed commits s range reach items all (cell_of e.0.0 e.0.1))

  pub all_uncovered : ((x : Cell) → ¬ Covers range reach x) → AllByRecursion (λ commit. AreSoUnnamed (map commit_of commits) s range reach items commit) commits
  unfolding AreSoUnnamed IsSoUnnamed
  all_uncovered none = all_of (λ (commit : Commit). AreSoUnnamed (map commit_of commits) s range reach items commit) commits (λ k commit at.
      all_of (λ (write : Write). IsSoUnnamed (map commit_of commits) s range reach items write.cell) commit.writes.items (λ j write there covers lacks. absurd (none write.cell covers)))
