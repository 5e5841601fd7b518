use Rattle.std.proofs.Common.{◌∙◌, ap}
use Rattle.cell_key.specs.declared.keys.Qualifier.TheVariants.{Data}
use Rattle.si_model.specs.ShowsCells.{key_of}
use Rattle.version_collector.proofs.Erasures.{data_next, erases_in, under_next}
use Rattle.version_collector.proofs.erasing.data_edits.Goals as goal

pub loop-start-preserved : goal.loop-start-preserved
loop-start-preserved c =
    let x = c.args.cell.now in
    let t = c.start-item.result in
    let key = c.in_ok-data.ensures.key ∙ ap (key_of x Data) c.stamp.ensures.stamp in
    record {
      edits = data_next x c.args.starts.now c.loop-start.start-index t c.loop-start.edits.items c.push.new.self.items c.in_ok-data.data
          c.loop-start-test.true c.start-item.is c.loop-start.invariant.edits key c.in_ok-push.ensures.items;
      under = under_next x.row c.loop-start.edits.items c.push.new.self.items _ c.loop-start.invariant.under (erases_in x Data t c.in_ok-data.data key c.stamp.ensures.from c.stamp.ensures.to) c.in_ok-push.ensures.items;
    }
