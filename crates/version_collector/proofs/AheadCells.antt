-- The cells ahead of a position, after a place is taken and after keys of a cell are erased.
use Rattle.std.proofs.Common.{◌≡◌, ◌≢◌, ◌<◌, ◌≤◌, ◌+◌, ◌-◌, ℕ, Bool, true, false, List, [], ◌∷◌, ◌++◌, length, Option, Some, None, IsSome, inl, inr, refl, sym, ap, ◌∙◌, subst, arith}
use Rattle.std.specs.Option.{option_to_list}
use Rattle.std.specs.Prelude.{IfSome, if◌then◌else◌, is_some}
use Rattle.std.specs.Ordering.{ordering_reverse}
use Rattle.std.specs.declared.cmp.Ordering.{Ordering}
use Rattle.std.specs.declared.cmp.Ordering.TheVariants.{Less, Equal, Greater}
use Rattle.std.specs.Cmp.{IsTotalOrder, on_total, then_total}
use Rattle.std.specs.Cmp.Lexicographic.{nat_list_cmp_total}
use Rattle.std.specs.FinMap.{get, remove, nat_cmp-IsAntisymmetric, slice_cmp-IsAntisymmetric}
use Rattle.cell_key.specs.Cells.{Cells, IsNewest, after_edits}
use Rattle.cell_key.specs.Keys.{byte_cmp}
use Rattle.cell_key.specs.Places.{AreNext, AreNextCells, HasCell, IsAfter, IsNextCell, Place, place_cmp, place_of}
use Rattle.cell_key.specs.declared.edits.Edit.{Edit}
use Rattle.cell_key.specs.declared.keys.CellKey.{CellKey}
use Rattle.cell_key.specs.declared.keys.Qualifier.{Qualifier}
use Rattle.cell_key.specs.declared.keys.Qualifier.TheVariants.{Data, Write}
use Rattle.cell_key.proofs.KeyLaws.{both_Equal}
use Rattle.rows.specs.Laws.{OneNextCell}
use Rattle.si_model.specs.Collection.{place_at}
use Rattle.rows.specs.Reads.{HasVersion}
use Rattle.si_model.specs.ShowsCells.{key_of}
use Rattle.si_model.specs.declared.replies.Cell.{Cell}
use Rattle.si_model.proofs.ShownAt.{cases_key, erased_at, erased_off}
use Rattle.version_collector.specs.Ahead.{AreAhead, Follow, IsFirst, IsStill}
use Rattle.version_collector.specs.Visits.{position_of}
use Rattle.version_collector.specs.Erasing.{Erases, data_erasures, record_erasures}

-- ---- the order of places

total : IsTotalOrder place_cmp
total = then_total (on_total (λ (p : Place). p.0) nat_list_cmp_total) (on_total (λ (p : Place). p.1) nat_list_cmp_total)

exact : (a b : Place) → place_cmp a b ≡ Equal → a ≡ b
exact a b e =
    let both = both_Equal (byte_cmp a.0 b.0) (byte_cmp a.1 b.1) e in
    let row = slice_cmp-IsAntisymmetric nat_cmp-IsAntisymmetric a.0 b.0 both.0 in
    let family = slice_cmp-IsAntisymmetric nat_cmp-IsAntisymmetric a.1 b.1 both.1 in
    λ i. (row i, family i)

not_below : (p : Place) → place_cmp p p ≡ Less → ⊥
not_below p e = go (place_cmp p p) (total.antisymm p p) e
  where
    go : (o : Ordering) → o ≡ ordering_reverse o → o ≡ Less → ⊥
    go Less e f = cc
    go Equal e f = cc
    go Greater e f = cc

after_after : (start : Option Place) (p q : Place) → IsAfter start p → IsAfter (Some p) q → IsAfter start q
after_after None p q h k = tt
after_after (Some start) p q h k = total.trans start p q h k

-- ---- places after a position

follow_nothing : (cells : Cells) (after : Option Place) → Follow cells after [] false
follow_nothing cells after = λ wanted. absurd (omega (arith, wanted))

pub nothing_ahead : (cells : Cells) (after : Option Place) (doubted : Option Cell) (places : List Place) → doubted ≡ None → places ≡ [] → AreAhead cells after doubted places false
nothing_ahead cells after doubted places none empty = rw none (rw empty (follow_nothing cells after))

module _ (IsNext : Option Place → Option Place → Type 0) where
  next_fewer : (most m : ℕ) (after : Option Place) (places : List Place) → length places ≤ m → (length places < m → length places < most) → AreNext IsNext after most places → AreNext IsNext after m places
  next_fewer most m after [] few less some = λ wanted. some (let more = less (omega (arith, wanted)) in omega (arith, more))
  next_fewer most m after (p ∷ places) few less some = (
    omega (arith, few),
    some.1,
    next_fewer (most - 1) (m - 1) (Some p) places (omega (arith, few)) (λ wanted. let more = less (omega (arith, wanted)) in omega (arith, more)) some.2,
  )

-- the places found follow; they reach the end if there are fewer than were asked for
pub follow_found : (cells : Cells) (after : Option Place) (most : ℕ) (places : List Place) (is_end : Bool) → AreNextCells cells after most places → (is_end ≡ true → length places < most) → Follow cells after places is_end
follow_found cells after most places true some ends = next_fewer (IsNextCell cells) most (length places + 1) after places (omega arith) (λ wanted. ends refl) some
follow_found cells after most places false some ends = next_fewer (IsNextCell cells) most (length places + 0) after places (omega arith) (λ wanted. absurd (omega (arith, wanted))) some

-- if there are none, there is no next cell
pub follow_none : (cells : Cells) (after : Option Place) (places : List Place) (is_end : Bool) → places ≡ [] → is_end ≡ true → Follow cells after places is_end → IsNextCell cells after None
follow_none cells after places is_end empty ends h = let at_end : AreNextCells cells after 1 [] = subst (λ (ps : List Place). AreNextCells cells after 1 ps) empty (more ends h) in at_end (omega arith)
  where
    more : is_end ≡ true → Follow cells after places is_end → AreNextCells cells after 1 places
    more ends h =
        let whole = subst (λ (b : Bool). AreNextCells cells after (length places + (if b then 1 else 0)) places) ends h in
        let one : length places + 1 ≡ 1 = ap (λ (ps : List Place). length ps + 1) empty in
        subst (λ (n : ℕ). AreNextCells cells after n places) one whole

-- the first of them is the next cell, and the others follow it
pub follow_first : (cells : Cells) (after : Option Place) (p : Place) (places all : List Place) (is_end : Bool) → all ≡ p ∷ places → Follow cells after all is_end → IsNextCell cells after (Some p) × Follow cells (Some p) places is_end
follow_first cells after p places all is_end whole h =
    let here = subst (λ (ps : List Place). Follow cells after ps is_end) whole h in
    let count : length (p ∷ places) + (if is_end then 1 else 0) - 1 ≡ length places + (if is_end then 1 else 0) = omega arith in
    (here.1, subst (λ (n : ℕ). AreNextCells cells (Some p) n places) count here.2)

-- ---- a doubted cell

far_behind : (cells : Cells) (after : Option Place) (x : Place) → IsFirst cells after x → ¬ (HasCell cells x) → (place : Place) → IsAfter after place → HasCell cells place → IsAfter (Some x) place
far_behind cells after x first none place behind cell = go (place_cmp place x) refl
  where
    go : (o : Ordering) → place_cmp place x ≡ o → IsAfter (Some x) place
    go Less e = absurd (first.none place behind e cell)
    go Equal e = absurd (none (subst (HasCell cells) (exact place x e) cell))
    go Greater e = total.antisymm x place ∙ ap ordering_reverse e

begin_before : (cells : Cells) (after : Option Place) (x : Place) → IsAfter after x → ((place : Place) → IsAfter after place → HasCell cells place → IsAfter (Some x) place) → (n : ℕ) (places : List Place) → AreNextCells cells (Some x) n places → AreNextCells cells after n places
begin_before cells after x behind far n [] some = λ wanted place back cell. some wanted place (far place back cell) cell
begin_before cells after x behind far n (p ∷ places) some = (
  some.0,
  (after_after after x p behind some.1.0, some.1.1, λ place back less cell. some.1.2 place (far place back cell) less cell),
  some.2,
)

module _ (cells : Cells) (after : Option Place) (x : Cell) where
  -- the cell of a version has a key
  pub has_of_version : (q : Qualifier) (lo hi : ℕ) → HasVersion cells (key_of x q) lo hi true → HasCell cells (place_at x)
  has_of_version q lo hi has = by has.found has.newest has.is
    where
      by : (found : Option (ℕ × List ℕ)) → IsNewest cells (key_of x q) lo hi found → true ≡ is_some found → HasCell cells (place_at x)
      by None newest is = cc
      by (Some found) newest is = record { key = key_of x q found.0; at = refl; some = subst (λ (o : Option (List ℕ)). IsSome o) (sym newest.2) refl }

  module _ (first : IsFirst cells after (place_at x)) where
    -- it is the next cell if it has a key
    pub next_of_has : HasCell cells (place_at x) → IsNextCell cells after (Some (place_at x))
    next_of_has has = (first.behind, has, first.none)

    pub is_next : OneNextCell → (found : Option Place) → IsNextCell cells after found → HasCell cells (place_at x) → found ≡ Some (place_at x)
    is_next law found next has = law cells after found (Some (place_at x)) next (next_of_has has)

    -- if it has none, the places after it follow the position
    pub doubted_gone : (places : List Place) (is_end : Bool) → ¬ HasCell cells (place_at x) → Follow cells (Some (place_at x)) places is_end → Follow cells after places is_end
    doubted_gone places is_end none follow = begin_before cells after (place_at x) first.behind (far_behind cells after (place_at x) first none) (length places + (if is_end then 1 else 0)) places follow

pub doubted_none : (cells : Cells) (after : Option Place) (doubted : Option Cell) (places : List Place) (is_end : Bool) → doubted ≡ None → AreAhead cells after doubted places is_end → Follow cells after places is_end
doubted_none cells after doubted places is_end none h = subst (λ (o : Option Cell). AreAhead cells after o places is_end) none h

-- ---- erased keys of a cell

-- keys of other places are unchanged, and no key is new
record OnlyErases (x : Cell) (old new : Cells) : Type 0 where
  others : (k : CellKey) → place_of k ≢ place_at x → get new k ≡ get old k
  fewer : (k : CellKey) → IsSome (get new k) → IsSome (get old k)

none_some : {A : Type 0} (o : Option A) → o ≡ None → IsSome o → ⊥
none_some None e h = cc
none_some (Some a) e h = cc

erases_key : (x : Cell) (q : Qualifier) (s : ℕ) (cells : Cells) → OnlyErases x cells (remove cells (key_of x q s))
erases_key x q s cells = record {
  others = λ k ne. erased_off cells (key_of x q s) k (λ same. ne (ap place_of same));
  fewer = λ k some. elim (cases_key k (key_of x q s)) [
    | inl same ↦ absurd (none_some (get (remove cells (key_of x q s)) k) (ap (get (remove cells (key_of x q s))) same ∙ erased_at cells (key_of x q s)) some)
    | inr ne ↦ subst (λ (o : Option (List ℕ)). IsSome o) (erased_off cells (key_of x q s) k ne) some
  ];
}

erases_then : (x : Cell) (a b c : Cells) → OnlyErases x a b → OnlyErases x b c → OnlyErases x a c
erases_then x a b c first second = record {
  others = λ k ne. second.others k ne ∙ first.others k ne;
  fewer = λ k some. first.fewer k (second.fewer k some);
}

erases_none : (x : Cell) (cells : Cells) → OnlyErases x cells cells
erases_none x cells = record { others = λ k ne. refl; fewer = λ k some. some }

erases_records : (x : Cell) (vs : List (ℕ × ℕ)) (cells : Cells) → OnlyErases x cells (after_edits cells (record_erasures x vs))
erases_records x [] cells = erases_none x cells
erases_records x (v ∷ vs) cells =
    let once = remove cells (key_of x Write v.0) in
    let twice = remove once (key_of x Data v.1) in
    erases_then x cells twice _ (erases_then x cells once twice (erases_key x Write v.0 cells) (erases_key x Data v.1 once)) (erases_records x vs twice)

erases_data : (x : Cell) (ts : List ℕ) (cells : Cells) → OnlyErases x cells (after_edits cells (data_erasures x ts))
erases_data x [] cells = erases_none x cells
erases_data x (t ∷ ts) cells = erases_then x cells (remove cells (key_of x Data t)) _ (erases_key x Data t cells) (erases_data x ts (remove cells (key_of x Data t)))

only_erases : (Holds : Type 0) (x : Cell) (floor : ℕ) (edits : List Edit) (shown cells new : Cells) → Erases Holds shown x floor edits → new ≡ after_edits cells edits → OnlyErases x cells new
only_erases Holds x floor edits shown cells new (inl r) made = subst (OnlyErases x cells) (sym (made ∙ ap (after_edits cells) r.are)) (erases_records x r.vs cells)
only_erases Holds x floor edits shown cells new (inr (inl r)) made = subst (OnlyErases x cells) (sym (made ∙ ap (after_edits cells) r.are)) (erases_data x r.ts cells)
only_erases Holds x floor edits shown cells new (inr (inr r)) made = subst (OnlyErases x cells) (sym (made ∙ ap (after_edits cells) r.are)) (erases_key x Write r.c cells)

module _ (x : Cell) (old new : Cells) (erases : OnlyErases x old new) where
  had : (place : Place) → HasCell new place → HasCell old place
  had place cell = record { key = cell.key; at = cell.at; some = erases.fewer cell.key cell.some }

  still : (place : Place) → IsAfter (Some (place_at x)) place → HasCell old place → HasCell new place
  still place far cell = record {
    key = cell.key;
    at = cell.at;
    some = subst (λ (o : Option (List ℕ)). IsSome o) (sym (erases.others cell.key (λ same. not_below (place_at x) (subst (λ (p : Place). place_cmp (place_at x) p ≡ Less) (sym cell.at ∙ same) far)))) cell.some;
  }

  follow_still : (after : Option Place) → ((place : Place) → IsAfter after place → IsAfter (Some (place_at x)) place) → (n : ℕ) (places : List Place) → AreNextCells old after n places → AreNextCells new after n places
  follow_still after far n [] some = λ wanted place behind cell. some wanted place behind (had place cell)
  follow_still after far n (p ∷ places) some = (
    some.0,
    (some.1.0, still p (far p some.1.0) some.1.1, λ place behind less cell. some.1.2 place behind less (had place cell)),
    follow_still (Some p) (λ place behind. after_after (Some (place_at x)) p place (far p some.1.0) behind) (n - 1) places some.2,
  )

  first_still : (after : Option Place) → IsNextCell old after (Some (place_at x)) → IsFirst new after (place_at x)
  first_still after next = record { behind = next.0; none = λ place behind less cell. next.2 place behind less (had place cell) }

-- the cell is doubted then, and the places still follow it
pub erased_ahead : (Holds : Type 0) (x : Cell) (floor : ℕ) (edits : List Edit) (shown old new : Cells) → Erases Holds shown x floor edits → new ≡ after_edits old edits → (after : Option Place) (places : List Place) (is_end : Bool)
    → IsNextCell old after (Some (place_at x)) → Follow old (Some (place_at x)) places is_end → AreAhead new after (Some x) places is_end
erased_ahead Holds x floor edits shown old new erased made after places is_end next follow =
    let erases = only_erases Holds x floor edits shown old new erased made in
    (first_still x old new erases after next, follow_still x old new erases (Some (place_at x)) (λ place far. far) (length places + (if is_end then 1 else 0)) places follow)

-- ---- taking the first

pub none_left : (o : Option Place) (places : List Place) (len : ℕ) → len ≡ length places → (0 < len → IsSome o) → o ≡ None → places ≡ []
none_left o [] len e some none = refl
none_left o (p ∷ places) len e some none = absurd (none_some o none (some (omega (arith, e))))

pub is_some_place : (places : List Place) (len : ℕ) → len ≡ length places → 0 < len → places ≡ [] → ⊥
is_some_place places len e some empty = let none : length places ≡ 0 = ap length empty in omega (arith, e, some, none)

pub first_next : (cells : Cells) (after : Option Place) (old new : List Place) (is_end : Bool) (o : Option Place) → old ≡ option_to_list o ++ new → (o ≡ None → old ≡ []) → (old ≡ [] → is_end ≡ true) → Follow cells after old is_end → IsNextCell cells after o
first_next cells after old new is_end None whole none ends follow = follow_none cells after old is_end (none refl) (ends (none refl)) follow
first_next cells after old new is_end (Some p) whole none ends follow = (follow_first cells after p new old is_end whole follow).0

pub first_left : (cells : Cells) (after : Option Place) (old new : List Place) (is_end : Bool) (found : Option Cell) (o : Option Place) → position_of found ≡ o → old ≡ option_to_list o ++ new → Follow cells after old is_end → IfSome found (λ cell. Follow cells (Some (place_at cell)) new is_end)
first_left cells after old new is_end None o is whole follow = tt
first_left cells after old new is_end (Some x) o is whole follow = (follow_first cells after (place_at x) new old is_end (whole ∙ ap (λ (q : Option Place). option_to_list q ++ new) (sym is)) follow).1

pub same_cell : (x y : Cell) → Some (place_at x) ≡ Some (place_at y) → x ≡ y
same_cell x y e = let same : place_at x ≡ place_at y = cc in λ i. record { row = (same i).0; family = (same i).1 }

pub still_next : (cells : Cells) (after : Option Place) (found : Option Cell) (o : Option Place) → position_of found ≡ o → IsNextCell cells after o → IsNextCell cells after (position_of found)
still_next cells after found o is next = subst (IsNextCell cells after) (sym is) next

pub still_left : (cells : Cells) (after : Option Place) (places : List Place) (is_end : Bool) (x : Cell) → IsStill cells after places is_end (Some x) → IsNextCell cells after (Some (place_at x)) × Follow cells (Some (place_at x)) places is_end
still_left cells after places is_end x still = still
