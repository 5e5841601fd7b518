use Rattle.std.proofs.Common.{◌∙◌, ap}
use Rattle.cell_key.specs.declared.keys.Qualifier.TheVariants.{Data, Write}
use Rattle.si_model.specs.ShowsCells.{key_of}
use Rattle.version_collector.proofs.Erasures.{erases_in, records_next, under_next}
use Rattle.version_collector.proofs.erasing.record_edits.Goals as goal

pub loop-commit-preserved : goal.loop-commit-preserved
loop-commit-preserved c =
    let x = c.args.cell.now in
    let v = c.loop-commit-item.result in
    let record_key = c.in_ok-record.ensures.key ∙ ap (key_of x Write) c.stamp.ensures.stamp in
    let data_key = c.in_ok-data.ensures.key ∙ ap (key_of x Data) c.stamp-in-loop-commit.ensures.stamp in
    record {
      edits = records_next x c.args.records.now c.loop-commit.commit-index v c.loop-commit.edits.items c.push.new.self.items c.push-in-loop-commit.new.self.items c.in_ok-record.record c.in_ok-data.data
          c.loop-commit-test.true c.loop-commit-item.is c.loop-commit.invariant.edits record_key data_key c.in_ok-push.ensures.items c.in_ok-push-2.ensures.items;
      under = under_next x.row c.push.new.self.items c.push-in-loop-commit.new.self.items _
          (under_next x.row c.loop-commit.edits.items c.push.new.self.items _ c.loop-commit.invariant.under (erases_in x Write v.0 c.in_ok-record.record record_key c.stamp.ensures.from c.stamp.ensures.to) c.in_ok-push.ensures.items)
          (erases_in x Data v.1 c.in_ok-data.data data_key c.stamp-in-loop-commit.ensures.from c.stamp-in-loop-commit.ensures.to) c.in_ok-push-2.ensures.items;
    }
