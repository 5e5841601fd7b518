use Rattle.std.proofs.Common.{◌≡◌, ◌<◌, ◌+◌, ℕ, subst, sym}
use Rattle.si_model.specs.Machine.{end_of_stamps}
use Rattle.server_loop.specs.Server.{ShowsNoSession}
use Rattle.durable.proofs.FromLogs.{serves_from}
use Rattle.durable.proofs.recovery.server_over.Goals as goal

pub returns-clause-from : goal.returns-clause-from
returns-clause-from g c = λ mark root base edits st follows reached placed covered shows next_tablet below.
    let same : c.last-last.result ≡ c.args.oracle.last = c.last-last.ensures.last in
    serves_from g.F.Files c.recovers.ensures c.shows_reopened.ensures c.args.rows c.without_sessions.result c.args.oracle.last mark root base edits st follows reached placed covered shows next_tablet below (subst (λ (n : ℕ). n < end_of_stamps) same c.last-last.ensures.limit)
    c.without_sessions.ensures.rows c.without_sessions.ensures.last
    (λ now s. c.without_sessions.ensures.shown now (subst (λ (n : ℕ). ShowsNoSession g.F.Files.contents c.args.rows c.args.oracle.last n (n + 1) now) (sym same) s))
