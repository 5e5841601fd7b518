use Rattle.std.proofs.Common.{length, refl, arith}
use Rattle.std.proofs.lemmas.Option.{slice_get_read}
use Rattle.audit.proofs.ToldCells.{next_few, next_told, other_length}
use Rattle.audit.proofs.audit.Audit.may_tell_all.Goals as goal

pub returns-then-cells-found-clause-told : goal.returns-then-cells-found-clause-told
returns-then-cells-found-clause-told c = other_length c.args.self.now c.args.start c.args.cells.now c.args.found.now c.if-cells-found.true

pub loop-index-preserved : goal.loop-index-preserved
loop-index-preserved c =
    let may = c.in_ok-may_tell.ensures.told.0 (cc) in
    let is = slice_get_read c.args.found.now (length c.args.found.now) c.loop-index.index c.index-found-index.result refl (omega (arith, c.loop-index-test.true, c.if-cells-found.false)) c.index-found-index.is in
    record {
      rest = next_told c.args.self.now c.args.start c.args.cells.now c.args.found.now c.loop-index.used c.loop-index.index c.told_bytes.result _ c.index-found-index.result c.loop-index-test.true c.if-cells-found.false is may c.told_bytes.ensures c.loop-index.invariant.rest;
      few = next_few c.args.self.now c.args.start c.args.cells.now c.args.found.now c.loop-index.used c.loop-index.index c.told_bytes.result _ c.index-found-index.result may c.told_bytes.ensures c.loop-index.invariant.few;
    }
