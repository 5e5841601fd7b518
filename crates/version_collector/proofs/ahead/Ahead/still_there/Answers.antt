use Rattle.std.proofs.Common.{Option, Bool, false, ◌≡◌, sym, ◌∙◌, subst}
use Rattle.std.specs.Prelude.{IsTrue}
use Rattle.std.specs.Vec.Iter.{into_iter_items}
use Rattle.si_model.specs.declared.replies.Cell.{Cell}
use Rattle.version_collector.specs.Ahead.{AreAhead}
use Rattle.version_collector.specs.Visits.{position_of}
use Rattle.version_collector.proofs.AheadCells.{doubted_gone}
use Rattle.version_collector.proofs.ahead.Ahead.still_there.Goals as goal

not_both : (b : Bool) → IsTrue b → ¬ (b ≡ false)
not_both b is not = cc

pub returns-clause-found : goal.returns-clause-found
returns-clause-found g c = λ held ahead.
    let cells = g.R.Rows.seen.cells c.args.rows.now in
    let after = position_of c.args.after.now in
    let places = into_iter_items c.args.self.now.places in
    let is_end = c.args.self.now.is_end in
    let some = subst (λ (o : Option Cell). AreAhead cells after o places is_end) (sym c.take.ensures.value ∙ c.in-Some.is) ahead in
    let has = c.in_ok-has_key.ensures.has held some.0 in
    doubted_gone cells after c.in-Some.cell some.0 places is_end (λ cell. not_both c.in_ok-has_key.field-0 (has.1 cell) c.if-branch.false) some.1
