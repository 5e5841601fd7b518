use Rattle.si_model.proofs.ByServers.{by_servers}
use Rattle.server_loop.proofs.server.Server.counts.Goals as goal

pub returns : goal.returns
returns g c =
    let last = c.last.ensures.last in
    let collected = c.greatest_floor.ensures.floor in
    let sessions = c.len.ensures.count in
    let cleaners = c.len-2.ensures.count in
    let collectors = c.len-3.ensures.count in
    let buffered = c.buffered.ensures in
    let written = c.written_bytes.ensures in
    let tablets = c.tablet_count.ensures in
    record {
      floor = c.floor.result;
      is_floor = λ st reached shown. c.floor.ensures.floor st (by_servers reached) shown.shows.sessions shown.alone.0;
      counts = cc;
    }
