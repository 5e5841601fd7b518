use Rattle.std.proofs.Common.{◌≡◌, rules, ap, arith, length}
use Rattle.commit_log.specs.Numbered.{numbered}
use Rattle.commit_log.specs.Records.{spelled_record}
use Rattle.commit_log.proofs.Naming.{length-record}
use Rattle.commit_log.proofs.Numbering.{fits}
use Rattle.commit_log.proofs.numbered.numbered_frame.Goals as goal

pub frame_of-requires : goal.frame_of-requires
frame_of-requires c =
    let is : c.deref.result.now ≡ numbered c.args.number (spelled_record c.args.kind c.args.stamp c.args.body.now) = search rules in
    omega (arith, ap length is, fits c.args.number (spelled_record c.args.kind c.args.stamp c.args.body.now) (omega (arith, c.requires, length-record c.args.kind c.args.stamp c.args.body.now)))
