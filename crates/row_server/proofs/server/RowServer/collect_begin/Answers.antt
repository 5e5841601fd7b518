use Rattle.std.proofs.Common.{Ok, Err, inl, inr, refl, arith}
use Rattle.rows.proofs.Calls.{reads_none}
use Rattle.rows.specs.Sources.{IsDrawRefusal}
use Rattle.si_model.proofs.ByServers.{by_servers}
use Rattle.si_model.specs.Machine.{refuses}
use Rattle.si_model.specs.Refusing.{gives_up}
use Rattle.server_loop.proofs.SessionSteps.{as_err, never, not_done, undamaged}
use Rattle.txn_client.proofs.Refused.{draw_storage}
use Rattle.version_collector.specs.Refusals.{IsBeginRefusal}
use Rattle.row_server.specs.Answers.{begins_collector}
use Rattle.row_server.specs.Server.{stays}
use Rattle.row_server.proofs.Floors.{none_below, not_begun}
use Rattle.row_server.proofs.PartSteps.{collector_steps, known_published}
use Rattle.row_server.proofs.Told.{begun_undamaged}
use Rattle.row_server.proofs.Attempts.{same_cleaners, same_clients, same_collectors, low_by_same}
use Rattle.row_server.proofs.server.RowServer.collect_begin.Goals as goal

pub returns-in-Err : goal.returns-in-Err
returns-in-Err g c = let told = c.in-Err.ensures in
    let stores = draw_storage _ told.refusal in
    record {
      served = record {
        serves = begins_collector (record {
          published = 0;
          may = none_below _;
          floor = 0;
          low = omega arith;
          result = Err c.in-Err.refusal;
          allowed = tt;
          begins = not_begun _ c.in-Err.refusal stores;
          replies = refl;
          cells = refl;
          clients = refl;
          cleaners = refl;
        });
        refusal = inr told.refusal;
        leaves = record { reads = reads_none; clients = same_clients; cleaners = same_cleaners; collectors = same_collectors; rises = low_by_same told.last };
        told = λ st shown. tt;
        device = λ is. inr (told.reason.device (as_err _ _ _ refl is));
      };
      still = λ holds. holds;
      step = collector_steps _ _ _ _ _ _ (λ holds. holds) (λ st reached shown. undamaged IsDrawRefusal _ told.refusal (λ h. h)) refl refl refl told.last (known_published _ _ _ told.last told.known)
          (λ st reached shown. (st, refuses (gives_up stores), shown.store, shown.memory.collectors, λ known. known));
      limits = tt;
    }

pub returns-in-Ok-begin : goal.returns-in-Ok-begin
returns-in-Ok-begin g c =
    let floor = c.in-Ok.ensures in
    let told = c.in-Ok-begin.ensures in
    record {
      served = record {
        serves = begins_collector (record {
          published = floor.low.0;
          may = floor.low.1;
          floor = c.in-Ok.floor;
          low = floor.low.2;
          result = Ok c.in-Ok-begin.collector;
          allowed = floor.allowed;
          begins = told.begins;
          replies = refl;
          cells = refl;
          clients = refl;
          cleaners = refl;
        });
        refusal = tt;
        leaves = tt;
        told = λ st shown. tt;
        device = λ is. absurd (not_done _ _ tt is);
      };
      still = λ holds. holds;
      step = collector_steps _ _ _ _ _ _ (λ holds. holds) (λ st reached shown. begun_undamaged _ _) refl refl refl floor.last (known_published _ _ _ floor.last floor.known)
          (λ st reached shown. told.step _ st (by_servers reached) shown.store shown.memory.collectors (floor.alone (shown.known _ stays) st (by_servers reached) shown.memory.sessions shown.knows_top));
      limits = tt;
    }

pub returns-in-Err-begin : goal.returns-in-Err-begin
returns-in-Err-begin g c =
    let floor = c.in-Ok.ensures in
    let told = c.in-Err-begin.ensures in
    record {
      served = record {
        serves = begins_collector (record {
          published = floor.low.0;
          may = floor.low.1;
          floor = c.in-Ok.floor;
          low = floor.low.2;
          result = Err c.in-Err-begin.refusal;
          allowed = tt;
          begins = told.begins;
          replies = refl;
          cells = refl;
          clients = refl;
          cleaners = refl;
        });
        refusal = inl told.refusal;
        leaves = record { reads = reads_none; clients = same_clients; cleaners = same_cleaners; collectors = told.err; rises = low_by_same floor.last };
        told = λ st shown. tt;
        device = λ is. absurd (never IsBeginRefusal _ _ told.refusal (λ h. h) is);
      };
      still = λ holds. holds;
      step = collector_steps _ _ _ _ _ _ (λ holds. holds) (λ st reached shown. undamaged IsBeginRefusal _ told.refusal (λ h. h)) refl refl refl floor.last (known_published _ _ _ floor.last floor.known)
          (λ st reached shown. told.step _ st (by_servers reached) shown.store shown.memory.collectors (floor.alone (shown.known _ stays) st (by_servers reached) shown.memory.sessions shown.knows_top));
      limits = tt;
    }
