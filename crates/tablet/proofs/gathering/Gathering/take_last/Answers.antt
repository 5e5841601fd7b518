use Rattle.std.proofs.Common.{◌≡◌, ◌-◌, ◌++◌, ◌∙◌, ℕ, List, Option, Some, None, length, refl, sym, ap, subst}
use Rattle.std.specs.Prelude.{IfSome}
use Rattle.std.specs.Vec.{with_item}
use Rattle.std.proofs.lemmas.Bool.Decides.{Decides-eqb}
use Rattle.std.proofs.lemmas.Slice.Eq.{strip_prefix_is}
use Rattle.cell_key.specs.Entries.{cells_of}
use Rattle.rows.specs.Batches.{place_in, HasNewest}
use Rattle.tablet.specs.Gathering.{last_of, HasPlaceText}
use Rattle.rows.specs.declared.batches.CellVersions.{CellVersions}
use Rattle.tablet.proofs.GatheredCells.{above_newest, has_last, kept_newest, not_key, read_last, taken_named, was_last, write_last}
use Rattle.tablet.proofs.gathering.Gathering.take_last.Goals as goal

of_each : {A P : Type 0} (o : Option A) → P → IfSome o (λ x. P)
of_each None p = tt
of_each (Some x) p = p

pub returns-in_default-clause-other : goal.returns-in_default-clause-other
returns-in_default-clause-other c =
    let none = rw c.in_default.is at (strip_prefix_is Decides-eqb c.args.text.now c.as_slice.result.now c.strip_prefix.result c.strip_prefix.ensures.cases) in
    (refl, of_each (last_of c.args.self.now.cells.items) (λ begins. none begins.0 (begins.1 ∙ ap (λ (start : List ℕ). start ++ begins.0) (sym c.as_slice.ensures.value))))

pub returns-in_default-version_of-clause-damaged : goal.returns-in_default-version_of-clause-damaged
returns-in_default-version_of-clause-damaged c = λ es gathers damaged.
    let some = rw c.in-Some.is at (strip_prefix_is Decides-eqb c.args.text.now c.as_slice.result.now c.strip_prefix.result c.strip_prefix.ensures.cases) in
    let s = has_last c.args.self.now.cells.items c.in-Some-last_mut.ensures.item.3.0 in
    not_key c.args.self.now.place.items s.last (was_last es c.args.self.now gathers s).text c.args.text.now c.in-Some.rest.now (some ∙ ap (λ (start : List ℕ). start ++ c.in-Some.rest.now) c.as_slice.ensures.value) (rw c.in_default-version_of.is at c.version_of.ensures.none)

pub returns-in_ok-keep-clause-taken : goal.returns-in_ok-keep-clause-taken
returns-in_ok-keep-clause-taken c = λ es list gathers.
    let g = c.args.self.now in
    let some = rw c.in-Some.is at (strip_prefix_is Decides-eqb c.args.text.now c.as_slice.result.now c.strip_prefix.result c.strip_prefix.ensures.cases) in
    let begins = some ∙ ap (λ (start : List ℕ). start ++ c.in-Some.rest.now) c.as_slice.ensures.value in
    let s = has_last g.cells.items c.in-Some-last_mut.ensures.item.3.0 in
    let len : g.cells.len ≡ length g.cells.items = g.cells.ok.0 in
    let found = c.in-Some-last_mut.last.now in
    let same = read_last g.cells.items s g.cells.len len found c.in-Some-last_mut.ensures.value in
    let was = was_last es g gathers s in
    taken_named es c.args.text.now c.args.value.now g gathers list s c.keep.new.self (c.in_ok-keep.ensures.ok.place ∙ ap place_in same) (c.in-Some.rest.now, begins)
    (kept_newest g.place.items found (subst (λ (cell : CellVersions). HasPlaceText cell g.place.items) (sym same) was.text) c.args.text.now c.in-Some.rest.now begins
    c.in-Some-version_of.qualifier c.in-Some-version_of.stamp (rw c.in-Some-version_of.is at c.version_of.ensures.found) (rw c.in-Some-version_of.is at c.version_of.ensures.small)
    es c.args.value.now g.hi list c.if-stamp-self.true c.keep.new.self c.in_ok-keep.ensures.ok (subst (HasNewest (cells_of es) g.hi) (sym same) was.shown.newest))
    (record g { cells = with_item g.cells (g.cells.len - 1) c.keep.new.self }) (write_last g.cells.items s g.cells.len len c.keep.new.self) refl refl

pub returns-else-stamp-self-clause-taken : goal.returns-else-stamp-self-clause-taken
returns-else-stamp-self-clause-taken c = λ es list gathers.
    let g = c.args.self.now in
    let some = rw c.in-Some.is at (strip_prefix_is Decides-eqb c.args.text.now c.as_slice.result.now c.strip_prefix.result c.strip_prefix.ensures.cases) in
    let begins = some ∙ ap (λ (start : List ℕ). start ++ c.in-Some.rest.now) c.as_slice.ensures.value in
    let s = has_last g.cells.items c.in-Some-last_mut.ensures.item.3.0 in
    let len : g.cells.len ≡ length g.cells.items = g.cells.ok.0 in
    let found = c.in-Some-last_mut.last.now in
    let same = read_last g.cells.items s g.cells.len len found c.in-Some-last_mut.ensures.value in
    let was = was_last es g gathers s in
    taken_named es c.args.text.now c.args.value.now g gathers list s found (ap place_in same) (c.in-Some.rest.now, begins)
    (above_newest g.place.items found (subst (λ (cell : CellVersions). HasPlaceText cell g.place.items) (sym same) was.text) c.args.text.now c.in-Some.rest.now begins
    c.in-Some-version_of.qualifier c.in-Some-version_of.stamp (rw c.in-Some-version_of.is at c.version_of.ensures.found) (rw c.in-Some-version_of.is at c.version_of.ensures.small)
    es c.args.value.now g.hi list c.if-stamp-self.false (subst (HasNewest (cells_of es) g.hi) (sym same) was.shown.newest))
    (record g { cells = with_item g.cells (g.cells.len - 1) found }) (write_last g.cells.items s g.cells.len len found) refl refl
