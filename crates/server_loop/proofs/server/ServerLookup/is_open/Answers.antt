use Rattle.std.proofs.Common.{rules, ◌≡◌, is_some}
use Rattle.server_loop.proofs.server.ServerLookup.is_open.Goals as goal

pub returns-in-Collector : goal.returns-in-Collector
returns-in-Collector g c = λ st shown.
    let is = c.is_open-in-Collector.ensures _ st shown.collectors in
    search rules
