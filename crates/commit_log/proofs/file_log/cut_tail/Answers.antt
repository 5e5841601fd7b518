use Rattle.std.proofs.Common.{◌∙◌, rules, ap, sym, take}
use Rattle.commit_log.proofs.Holding.{has_records, may_open_from, no_log, opens_clean, opens_from, seen}
use Rattle.commit_log.proofs.Results.{on_err, passed}
use Rattle.commit_log.proofs.file_log.cut_tail.Goals as goal

pub returns-in_err-found-clause-damaged : goal.returns-in_err-found-clause-damaged
returns-in_err-found-clause-damaged g c = λ e.
    no_log (g.F.LogFile.bytes c.args.file.now) c.deref.result.now (seen _ _ _ c.deref.ensures.value c.in_ok-bytes.ensures.ok)
    (c.in_err-found.ensures.damaged (passed c.from_residual-in_err-found.result c.in_err-found.field-0.0 _ c.from_residual-in_err-found.ensures.1 e))

pub returns-then-found-len-clause-held : goal.returns-then-found-len-clause-held
returns-then-found-len-clause-held g c =
    opens_clean (g.F.LogFile.bytes c.args.file.now) (g.F.LogFile.bytes c.read.new.self) (g.F.LogFile.is_stopped c.read.new.self) c.deref.result.now _ _ _ _ _
    (seen _ _ _ c.deref.ensures.value c.in_ok-bytes.ensures.ok) c.in_ok-found.ensures.ok (search rules) c.read.ensures.same (search rules)

pub returns-then-found-len-clause-is_log : goal.returns-then-found-len-clause-is_log
returns-then-found-len-clause-is_log g c =
    has_records (g.F.LogFile.bytes c.args.file.now) c.deref.result.now _ _ _ _ (seen _ _ _ c.deref.ensures.value c.in_ok-bytes.ensures.ok) c.in_ok-found.ensures.ok

pub returns-in_err-renew-clause-kept : goal.returns-in_err-renew-clause-kept
returns-in_err-renew-clause-kept g c =
    on_err c.from_residual-in_err-renew.result _
    (may_open_from (g.F.LogFile.bytes c.args.file.now) (g.F.LogFile.bytes c.read.new.self) (g.F.LogFile.bytes c.renew.new.self) c.deref.result.now _ _ _ _ _ c.read.ensures.same (seen _ _ _ c.deref.ensures.value c.in_ok-bytes.ensures.ok) c.in_ok-found.ensures.ok
    (ap (take c.in_ok-found.found.end) (c.deref-2.ensures.value ∙ sym c.deref.ensures.value)) c.in_err-renew.ensures.err)

pub returns-clause-held : goal.returns-clause-held
returns-clause-held g c =
    opens_from (g.F.LogFile.bytes c.args.file.now) (g.F.LogFile.bytes c.read.new.self) (g.F.LogFile.bytes c.renew.new.self) (g.F.LogFile.is_stopped c.renew.new.self) c.deref.result.now _ _ _ _ _ _ c.read.ensures.same
    (seen _ _ _ c.deref.ensures.value c.in_ok-bytes.ensures.ok) c.in_ok-found.ensures.ok (search rules) (ap (take c.in_ok-found.found.end) (c.deref-2.ensures.value ∙ sym c.deref.ensures.value)) c.in_ok-renew.ensures.ok

pub returns-clause-is_log : goal.returns-clause-is_log
returns-clause-is_log g c =
    has_records (g.F.LogFile.bytes c.args.file.now) c.deref.result.now _ _ _ _ (seen _ _ _ c.deref.ensures.value c.in_ok-bytes.ensures.ok) c.in_ok-found.ensures.ok
