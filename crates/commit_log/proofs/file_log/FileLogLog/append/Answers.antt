use Rattle.std.proofs.Common.{◌∙◌, ap, List, ℕ}
use Rattle.commit_log.specs.Files.{with_more}
use Rattle.commit_log.specs.Records.{spelled_record}
use Rattle.commit_log.proofs.Holding.{gains, may_gain, wrote_part}
use Rattle.commit_log.proofs.Results.{on_err}
use Rattle.commit_log.proofs.Storing.{short_record}
use Rattle.commit_log.proofs.file_log.FileLogLog.append.Goals as goal

pub returns-in_err-write-clause-err : goal.returns-in_err-write-clause-err
returns-in_err-write-clause-err g c =
    on_err c.from_residual-in_err-write.result _
    (may_gain (g.F.LogFile.bytes c.args.self.now.file) (g.F.LogFile.bytes c.write.new.self) (g.F.LogFile.is_stopped c.args.self.now.file) (g.F.LogFile.is_stopped c.write.new.self) c.args.self.now.store c.args.self.now.next
    (spelled_record c.args.kind c.args.stamp c.args.body.now) (short_record c.args.kind c.args.stamp c.args.body.now c.requires) c.in_ok-frame.ensures.plain
    (wrote_part (g.F.LogFile.bytes c.args.self.now.file) (g.F.LogFile.bytes c.write.new.self) c.deref.result.now _ (c.deref.ensures.value ∙ c.in_ok-frame.ensures.ok) c.in_err-write.ensures.err) c.in_err-write.ensures.still c.in_err-write.ensures.stops)

pub returns-clause-ok : goal.returns-clause-ok
returns-clause-ok g c =
    gains (g.F.LogFile.bytes c.args.self.now.file) (g.F.LogFile.bytes c.write.new.self) (g.F.LogFile.is_stopped c.args.self.now.file) (g.F.LogFile.is_stopped c.write.new.self) c.args.self.now.store c.args.self.now.next
    (spelled_record c.args.kind c.args.stamp c.args.body.now) (short_record c.args.kind c.args.stamp c.args.body.now c.requires)
    (c.in_ok-write.ensures.ok ∙ ap (λ (m : List ℕ). with_more m (g.F.LogFile.bytes c.args.self.now.file)) (c.deref.ensures.value ∙ c.in_ok-frame.ensures.ok)) (λ st. let h = c.in_ok-write.ensures.refused st in cc)
