use Rattle.std.proofs.Common.{◌≡◌, ◌++◌, ◌∷◌, ◌∙◌, [], subst}
use Rattle.rows.specs.declared.batches.CellVersions.{CellVersions}
use Rattle.tablet.proofs.GatheredCells.{begins_above, begins_kept, place_part}
use Rattle.tablet.proofs.gathering.Gathering.begin.Goals as goal
use Rattle.tablet.proofs.gathering.Gathering.begin.Goals.{then-key-self+in_ok-keep, else-key-self}

pub returns-clause-begins : goal.returns-clause-begins
returns-clause-begins c =
    let text = rw c.in-Some.is at c.in_ok-key.ensures.found in
    let stored = rw c.in-Some.is at c.in_ok-key.ensures.stored in
    let place = rw c.clear.ensures.items at c.in_ok-extend_from_slice.ensures.items ∙ place_part c.args.text.now c.in-Some.key c.name.result.now text c.name.ensures in
    let new = record c.args.self.now { cells = c.push.new.self; place = c.extend_from_slice.new.self } in
    let after = λ (cell : CellVersions). c.push.new.self.items ≡ c.args.self.now.cells.items ++ cell ∷ [] in
    elim c.if-key-self.branch [
      | then-key-self+in_ok-keep w ↦
          begins_kept c.args.text.now c.args.value.now c.args.self.now new c.in-Some.key stored text place w.if-key-self.true w.keep.new.self w.in_ok-keep.ensures.ok
          (subst after w.cell-is c.in_ok-push.ensures.items)
      | else-key-self w ↦
          begins_above c.args.text.now c.args.value.now c.args.self.now new c.in-Some.key stored text place w.if-key-self.false
          (subst after w.cell-is c.in_ok-push.ensures.items)
    ]
