use Rattle.std.proofs.Common.{ℕ, not, ◌&&◌, ◌||◌, refl, ap, ◌∙◌}
use Rattle.std.specs.Prelude.{nat_eq, unwrap_or}
use Rattle.ownership.specs.Names.{is_session}
use Rattle.ownership.specs.Tables.{heir_of, owns, table_of}
use Rattle.server_loop.proofs.client_server.ClientServer.leave.Goals as goal

pub returns-clause-ends : goal.returns-clause-ends
returns-clause-ends g c =
    let mid = c.stop_all.new.self in
    let stopped = c.stop_all.ensures.stopped in
    record {
      starts = stopped.0;
      mid = mid;
      stopped = stopped.1;
      none = c.stop_all.ensures.none;
      server = refl;
      passed = λ other name.
          c.pass.ensures other name
          ∙ ap (λ (heir : ℕ). (owns (table_of mid.owners) other name && (is_session name || not (nat_eq c.args.client other))) || (nat_eq heir other && owns (table_of mid.owners) c.args.client name && not (is_session name)))
          (c.unwrap_or.ensures ∙ ap heir_of c.stop_all.ensures.admin);
    }
