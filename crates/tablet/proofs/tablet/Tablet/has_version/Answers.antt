use Rattle.std.proofs.Common.{◌≡◌, ◌≤◌, ◌<◌, ◌+◌, ◌-◌, ◌^◌, ℕ, zero, suc, Bool, true, false, List, Option, Some, None, Bor, option_map, refl, sym, subst, ◌∙◌, arith}
use Rattle.std.specs.Prelude.{IfSome, IsTrue, is_some, nat_lt}
use Rattle.std.specs.Option.{option_or}
use Rattle.std.specs.FinMap.{get}
use Rattle.std.specs.declared.vec.Vec.{Vec}
use Rattle.std.proofs.lemmas.Bool.Decides.{nat_tests}
use Rattle.cell_key.specs.Cells.{Cells, IsNewest, version}
use Rattle.cell_key.specs.Entries.{cells_of}
use Rattle.cell_key.specs.Versions.{stamped}
use Rattle.cell_key.specs.declared.keys.CellKey.{CellKey}
use Rattle.cell_key.specs.declared.keys.Qualifier.{Qualifier}
use Rattle.file_store.specs.Store.{Contents}
use Rattle.memtable.specs.Slots.{lent_version}
use Rattle.tablet.specs.Ranges.{has_row}
use Rattle.rows.specs.Reads.{HasVersion}
use Rattle.tablet.specs.Views.{range_of, memory_of, cells_at, Holds, IsSameTablet}
use Rattle.tablet.specs.declared.tablet.Tablet.{Tablet}
use Rattle.tablet.proofs.InMemory.{by_files, by_memory, still_there, with_equal}
use Rattle.tablet.proofs.Lookups.{if_one}
use Rattle.tablet.proofs.Passed.{over_any}
use Rattle.tablet.proofs.tablet.Tablet.has_version.Goals as goal

module _ (cells : Cells) (at : ℕ → CellKey) where
  -- if there is a version, there is a newest one
  newest_from : (s : ℕ) (value : List ℕ) → get cells (at s) ≡ Some value → (more : ℕ) → (found : ℕ × List ℕ) × IsNewest cells at s (s + more) (Some found)
  newest_from s value is zero = ((s, value), (omega arith, omega arith, is, λ t a b. absurd (omega (arith, a, b))))
  newest_from s value is (suc more) = go (newest_from s value is more) (get cells (at (s + suc more))) refl
    where
      go : (found : ℕ × List ℕ) × IsNewest cells at s (s + more) (Some found) → (there : Option (List ℕ)) → get cells (at (s + suc more)) ≡ there → (found : ℕ × List ℕ) × IsNewest cells at s (s + suc more) (Some found)
      go below (Some last) e = ((s + suc more, last), (omega arith, omega arith, e, λ t a b. absurd (omega (arith, a, b))))
      go below None e =
          let high = below.1.1 in
          (below.0, (below.1.0, omega (arith, high), below.1.2, λ t a b. above t b (nat_lt (s + more) t) refl (below.1.3 t a)))
        where
          above : (t : ℕ) → t ≤ s + suc more → (c : Bool) → nat_lt (s + more) t ≡ c → (t ≤ s + more → get cells (at t) ≡ None) → get cells (at t) ≡ None
          above t b true lt none =
              let up : s + more < t = grind (arith, nat_tests, lt) in
              let same : s + suc more ≡ t = omega (arith, up, b) in
              subst (λ (k : ℕ). get cells (at k) ≡ None) same e
          above t b false lt none = let down : t ≤ s + more = grind (arith, nat_tests, lt) in none down

  -- so a version within the range has a newest one there
  has_one : (lo hi s : ℕ) (value : List ℕ) → lo ≤ s → s ≤ hi → get cells (at s) ≡ Some value → HasVersion cells at lo hi true
  has_one lo hi s value low high is =
      let more : (n : ℕ) × (s + n ≡ hi) = (hi - s, omega (arith, high)) in
      let newest = newest_from s value is more.0 in
      let from = newest.1.0 in
      record {
        found = Some newest.0;
        newest = subst (λ (k : ℕ). IsNewest cells at lo k (Some newest.0)) more.1 (omega (arith, low, from), newest.1.1, newest.1.2, newest.1.3);
        is = refl;
      }

  none_lent : (lo hi : ℕ) (lent : Option (ℕ × Bor (List ℕ))) → is_some lent ≡ false → IsNewest cells at lo hi (option_map lent_version lent) → IsNewest cells at lo hi None
  none_lent lo hi None e none = none
  none_lent lo hi (Some found) e newest = let no : true ≡ false = e in cc

same_some : {Z : Type 0} (later : Option (ℕ × Vec ℕ Z)) → is_some later ≡ is_some (option_map stamped (option_or later None))
same_some None = refl
same_some (Some found) = refl

module _ (o : Option Contents) (t : Tablet) (row family : List ℕ) (q : Qualifier) (lo hi : ℕ) where
  abbrev at : ℕ → CellKey
  at s = version row family q s

  abbrev Says : Bool → Type 0
  Says has = IfSome o (λ m. Holds m t → IsTrue (has_row (range_of t) row) → HasVersion (cells_at m t) at lo hi has)

  -- the memtable's values are shown
  in_memory : (lent : Option (ℕ × Bor (List ℕ))) → is_some lent ≡ true → IsNewest (cells_of (memory_of t)) at lo hi (option_map lent_version lent) → Says true
  in_memory None e none = let no : false ≡ true = e in cc
  in_memory (Some found) e newest =
      let there = lent_version found in
      over_any o _ (λ m held has.
      has_one (cells_at m t) at lo hi there.0 there.1 newest.0 newest.1 (still_there m t held row family q has there.0 there.1 newest.2))

pub returns-then-is_some-clause-found : goal.returns-then-is_some-clause-found
returns-then-is_some-clause-found g c =
    in_memory (g.F.Files.contents c.args.files.now) c.args.self.now c.args.row.now c.args.family.now c.args.qualifier c.args.lo c.args.hi
    c.newest.result (sym c.is_some.ensures ∙ c.if-is_some.true) c.newest.ensures.found

pub returns-then-not-may_be_in_files-clause-found : goal.returns-then-not-may_be_in_files-clause-found
returns-then-not-may_be_in_files-clause-found g c =
    let from = c.max-from.ensures in
    let to = c.min-to.ensures in
    let o = g.F.Files.contents c.args.files.now in
    let t = c.args.self.now in
    let memory = none_lent (cells_of (memory_of t)) (version c.args.row.now c.args.family.now c.args.qualifier) c.args.lo c.args.hi c.newest.result (sym c.is_some.ensures ∙ c.if-is_some.false) c.newest.ensures.found in
    let first : (s : ℕ) → 1 ≤ s → c.args.lo ≤ s → c.max-from.result ≤ s = λ s one later. omega (arith, one, later) in
    let last : (s : ℕ) → s < 2 ^ 63 → s ≤ c.args.hi → s ≤ c.min-to.result = λ s small high. omega (arith, small, high) in
    let none = c.may_be_in_files.ensures c.if-not-may_be_in_files.true in
    if_one o (by_memory o t c.args.row.now c.args.family.now c.args.qualifier c.args.lo c.args.hi None memory
    c.max-from.result c.min-to.result (omega arith) first (omega arith) last {Z = ℕ} None refl none) (λ m newest held has.
    record { found = None; newest = newest held has; is = refl })

pub returns-clause-found : goal.returns-clause-found
returns-clause-found g c =
    let from = c.max-from.ensures in
    let to = c.min-to.ensures in
    let o = g.F.Files.contents c.args.files.now in
    let t = c.args.self.now in
    let memory = none_lent (cells_of (memory_of t)) (version c.args.row.now c.args.family.now c.args.qualifier) c.args.lo c.args.hi c.newest.result (sym c.is_some.ensures ∙ c.if-is_some.false) c.newest.ensures.found in
    let first : (s : ℕ) → 1 ≤ s → c.args.lo ≤ s → c.max-from.result ≤ s = λ s one later. omega (arith, one, later) in
    let last : (s : ℕ) → s < 2 ^ 63 → s ≤ c.args.hi → s ≤ c.min-to.result = λ s small high. omega (arith, small, high) in
    let at = version c.args.row.now c.args.family.now c.args.qualifier in
    let same = with_equal t c.newest.follows.lender-at-none c.newest.follows.holds-at-none in
    let later = subst (λ (t : Tablet). IfSome o (λ m. Holds m t → IsTrue (has_row (range_of t) c.args.row.now) → IsNewest (cells_of (memory_of t)) at c.max-from.result c.min-to.result None → IsNewest (cells_at m t) at c.max-from.result c.min-to.result (option_map stamped c.in_ok-found.found))) same c.in_ok-found.ensures.found in
    if_one o (by_files o t c.args.row.now c.args.family.now c.args.qualifier c.args.lo c.args.hi None memory
    c.max-from.result c.min-to.result (omega arith) first (omega arith) last c.in_ok-found.found None refl later) (λ m newest held has.
    record {
      found = option_map stamped (option_or c.in_ok-found.found None);
      newest = newest held has;
      is = c.is_some-2.ensures ∙ same_some c.in_ok-found.found;
    })

pub returns-in_err-found-clause-stays : goal.returns-in_err-found-clause-stays
returns-in_err-found-clause-stays g c =
    let o = g.F.Files.contents c.args.files.now in
    let t = c.args.self.now in
    let same = with_equal t c.newest.follows.lender-at-none c.newest.follows.holds-at-none in
    subst (λ (t : Tablet). IsSameTablet o t c.newest_in_files.new.self) same c.in_err-found.ensures.stays

pub returns-clause-stays : goal.returns-clause-stays
returns-clause-stays g c =
    let o = g.F.Files.contents c.args.files.now in
    let t = c.args.self.now in
    let same = with_equal t c.newest.follows.lender-at-none c.newest.follows.holds-at-none in
    subst (λ (t : Tablet). IsSameTablet o t c.newest_in_files.new.self) same c.in_ok-found.ensures.stays
