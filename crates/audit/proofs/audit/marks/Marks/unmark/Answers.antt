use Rattle.std.proofs.Common.{◌∙◌, Some, sym, ap}
use Rattle.std.proofs.lemmas.Option.{none-some, same_Some}
use Rattle.si_model.specs.Reads.{cell_of}
use Rattle.audit.proofs.HeldCells.{without_mark, without_none}
use Rattle.audit.proofs.audit.marks.Marks.unmark.Goals as goal

pub returns-in_default : goal.returns-in_default
returns-in_default c =
    without_none c.args.self.now (cell_of c.args.row.now c.args.family.now, c.args.start) (λ m. none-some c.args.start (sym c.in_default.is ∙ (c.start_of.ensures c.args.start).0 m))

pub returns-then-holder-start : goal.returns-then-holder-start
returns-then-holder-start c =
    without_none c.args.self.now (cell_of c.args.row.now c.args.family.now, c.args.start)
    (λ m. c.if-holder-start.true (same_Some c.in-Some.holder c.args.start (sym c.in-Some.is ∙ (c.start_of.ensures c.args.start).0 m)))

pub returns : goal.returns
returns c =
    without_mark c.args.self.now c.free.new.self (cell_of c.args.row.now c.args.family.now) c.args.start
    (λ u m. same_Some u c.args.start (sym ((c.start_of.ensures u).0 m) ∙ (c.in-Some.is ∙ ap Some c.if-holder-start.false))) c.free.ensures
