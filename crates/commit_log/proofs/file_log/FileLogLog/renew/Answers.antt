use Rattle.std.proofs.Common.{◌∙◌, ap, arith, subst, List, ℕ}
use Rattle.commit_log.specs.Files.{MayBeAll, with_all}
use Rattle.commit_log.specs.Records.{spelled_record}
use Rattle.commit_log.proofs.Holding.{may_renew, renews}
use Rattle.commit_log.proofs.Results.{on_err}
use Rattle.commit_log.proofs.Storing.{short_record}
use Rattle.commit_log.proofs.file_log.FileLogLog.renew.Goals as goal

pub returns-in_err-renew-clause-err : goal.returns-in_err-renew-clause-err
returns-in_err-renew-clause-err g c =
    on_err c.from_residual-in_err-renew.result _
    (may_renew (g.F.LogFile.bytes c.args.self.now.file) (g.F.LogFile.bytes c.renew.new.self) (g.F.LogFile.is_stopped c.args.self.now.file) (g.F.LogFile.is_stopped c.renew.new.self) c.args.self.now.store c.args.self.now.next
    (spelled_record c.args.kind c.args.stamp c.args.body.now) (short_record c.args.kind c.args.stamp c.args.body.now c.requires) (omega (arith, c.if-self-ge-NO_NUMBER.false))
    (subst (λ (m : List ℕ). MayBeAll m (g.F.LogFile.bytes c.args.self.now.file) (g.F.LogFile.bytes c.renew.new.self)) (c.deref.ensures.value ∙ c.in_ok-all.ensures) c.in_err-renew.ensures.err) c.in_err-renew.ensures.stops)

pub returns-clause-ok : goal.returns-clause-ok
returns-clause-ok g c =
    renews (g.F.LogFile.bytes c.args.self.now.file) (g.F.LogFile.bytes c.renew.new.self) (g.F.LogFile.is_stopped c.args.self.now.file) (g.F.LogFile.is_stopped c.renew.new.self) c.args.self.now.store c.args.self.now.next
    (spelled_record c.args.kind c.args.stamp c.args.body.now) (short_record c.args.kind c.args.stamp c.args.body.now c.requires) (omega (arith, c.if-self-ge-NO_NUMBER.false))
    (c.in_ok-renew.ensures.ok ∙ ap (λ (m : List ℕ). with_all m (g.F.LogFile.bytes c.args.self.now.file)) (c.deref.ensures.value ∙ c.in_ok-all.ensures))
