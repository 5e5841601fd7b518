use Rattle.std.proofs.Common.{arith}
use Rattle.version_collector.proofs.Starts.{one_start}
use Rattle.version_collector.proofs.versions.write_of.Goals.{in_default-via-in-Some+then-record-ge1+else-record-le-MOST_STAMP, in_default-via-in-Some+else-record-ge1, in_default-via-in_default}
use Rattle.version_collector.proofs.versions.write_of.Goals as goal

pub returns-in_default-clause-damaged : goal.returns-in_default-clause-damaged
returns-in_default-clause-damaged c = λ t from to names. elim c.in_default.branch [
  | in_default-via-in-Some+then-record-ge1+else-record-le-MOST_STAMP w ↦
      let same = one_start c.args.text.now w.in-Some.record.start t w.in-Some.record.kind w.in-Some.ensures.named names in
      let past = w.if-record-le-MOST_STAMP.false in
      omega arith
  | in_default-via-in-Some+else-record-ge1 w ↦
      let same = one_start c.args.text.now w.in-Some.record.start t w.in-Some.record.kind w.in-Some.ensures.named names in
      let zero = w.if-record-ge1.false in
      omega arith
  | in_default-via-in_default w ↦ w.in_default.ensures.none t names.0 names.1
]
