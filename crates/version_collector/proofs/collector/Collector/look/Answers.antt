use Rattle.std.proofs.Common.{ℕ, Option, subst}
use Rattle.version_collector.specs.Locks.{IsLowLock}
use Rattle.version_collector.proofs.OneVisit.{look_blocked, look_past}
use Rattle.version_collector.proofs.collector.Collector.look.Goals as goal

pub returns-in-Some-clause-visit : goal.returns-in-Some-clause-visit
returns-in-Some-clause-visit g c = λ held pass right next.
    look_blocked (g.R.Rows.seen.cells c.args.rows.now) c.args.self.now c.args.cell pass right next c.in-Some.start
    (subst (λ (o : Option ℕ). IsLowLock (g.R.Rows.seen.cells c.args.rows.now) c.args.cell c.args.self.now.floor o) c.in-Some.is (c.in_ok-start.ensures.found held))

pub returns-clause-visit : goal.returns-clause-visit
returns-clause-visit g c = λ held pass right next.
    look_past (g.R.Rows.seen.cells c.args.rows.now) c.args.self.now c.args.cell pass right next
    (subst (λ (o : Option ℕ). IsLowLock (g.R.Rows.seen.cells c.args.rows.now) c.args.cell c.args.self.now.floor o) c.in_default.is (c.in_ok-start.ensures.found held))
