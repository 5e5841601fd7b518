use Rattle.std.proofs.Common.{◌≡◌, ◌∷◌, ◌++◌, ◌∙◌, ℕ, List, [], Option, Some, Bor, false, sym, ap, subst}
use Rattle.std.specs.Option.{option_copied}
use Rattle.cell_key.specs.Entries.{IsEntryList}
use Rattle.tablet.specs.Gathering.{AreVersionsIn, Begins, Gathers}
use Rattle.rows.specs.declared.batches.CellVersions.{CellVersions}
use Rattle.tablet.specs.declared.gathering.Gathering.{Gathering}
use Rattle.tablet.proofs.GatheredCells.{begun_named, gathers_erased, on_false, stopped_named}
use Rattle.tablet.proofs.gathering.Gathering.take.Goals as goal

pub returns-in_default-clause-gathers : goal.returns-in_default-clause-gathers
returns-in_default-clause-gathers c = λ es.
    let g = c.args.self.now in
    let name = c.args.entry.key.now in
    subst (λ (v : Option (Bor (List ℕ))). IsEntryList (es ++ (name, option_copied v) ∷ []) → Gathers es g → Gathers (es ++ (name, option_copied v) ∷ []) g) (sym c.in_default.is)
    (λ list gathers. gathers_erased es name g list gathers)

pub returns-then-len-self-clause-stops : goal.returns-then-len-self-clause-stops
returns-then-len-self-clause-stops c = λ es more.
    let g = c.args.self.now in
    let name = c.args.entry.key.now in
    let other = on_false c.in_ok-take_last.field-0 c.if-branch.false c.in_ok-take_last.ensures.other in
    subst (λ (v : Option (Bor (List ℕ))). IsEntryList (es ++ (name, option_copied v) ∷ more) → Gathers es g → AreVersionsIn (es ++ (name, option_copied v) ∷ more) g.hi c.take_last.new.self.cells.items false) (sym c.in-Some.is)
    (λ list gathers. subst (λ (cells : List CellVersions). AreVersionsIn (es ++ (name, Some c.in-Some.value.now) ∷ more) g.hi cells false) (sym (ap (λ (x : Gathering). x.cells.items) other.0))
    (stopped_named es name c.in-Some.value.now g gathers more other.1 list))

pub returns-clause-gathers : goal.returns-clause-gathers
returns-clause-gathers c = λ es.
    let g = c.args.self.now in
    let name = c.args.entry.key.now in
    let value = c.in-Some.value.now in
    let new = c.begin.new.self in
    let other = on_false c.in_ok-take_last.field-0 c.if-branch.false c.in_ok-take_last.ensures.other in
    let begins = subst (λ (x : Gathering). Begins name value x new) other.0 c.in_ok-begin.ensures.begins in
    let hi : new.hi ≡ g.hi = c.begin.ensures.limits.hi ∙ c.take_last.ensures.limits.hi in
    subst (λ (v : Option (Bor (List ℕ))). IsEntryList (es ++ (name, option_copied v) ∷ []) → Gathers es g → Gathers (es ++ (name, option_copied v) ∷ []) (record new { room = c.room_left-room.result })) (sym c.in-Some.is)
    (λ list gathers. let h = begun_named es name value g gathers other.1 list new begins hi in record { next = h.next; none = h.none; whole = h.whole; last = h.last })
