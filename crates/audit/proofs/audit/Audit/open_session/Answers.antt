use Rattle.audit.proofs.OpenedSessions.{begins_session, is_named, not_opening}
use Rattle.audit.proofs.KeptMaps.{stays_itself}
use Rattle.audit.proofs.audit.Audit.open_session.Goals as goal

pub returns-then-not-may_open : goal.returns-then-not-may_open
returns-then-not-may_open c = (not_opening c.args.self.now c.args.start c.args.session (λ may. cc (c.may_open.ensures.1 may, c.if-not-may_open.true)), stays_itself c.args.self.now)

pub returns-then-start-ne0 : goal.returns-then-start-ne0
returns-then-start-ne0 c = is_named c.args.self.now c.args.start c.args.session c.if-start-ne0.true (c.may_open.ensures.0 (cc))

pub returns : goal.returns
returns c = begins_session c.args.self.now c.begin.new.self c.args.start c.args.session c.if-start-ne0.false (c.may_open.ensures.0 (cc)) c.begin.result c.begin.ensures
