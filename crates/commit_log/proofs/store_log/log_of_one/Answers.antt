use Rattle.std.proofs.Common.{◌≡◌, ◌++◌, ◌∙◌, rules}
use Rattle.commit_log.specs.Frames.{frame}
use Rattle.commit_log.specs.Numbered.{numbered, store_head}
use Rattle.commit_log.specs.Records.{spelled_record}
use Rattle.commit_log.proofs.Storing.{log_of_one}
use Rattle.commit_log.proofs.store_log.log_of_one.Goals as goal

pub returns : goal.returns
returns c =
    let is : c.extend_from_slice-2.new.self.items ≡ store_head c.args.store ++ frame (numbered c.args.number (spelled_record c.args.kind c.args.stamp c.args.body.now)) = search rules in
    is ∙ log_of_one c.args.store c.args.number (spelled_record c.args.kind c.args.stamp c.args.body.now)
