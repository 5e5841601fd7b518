use Rattle.std.proofs.Common.{rules}
use Rattle.row_server.proofs.handler.RowServerLookup.is_open.Goals as goal

pub returns-in-Collector : goal.returns-in-Collector
returns-in-Collector g c = λ st shown.
    let is = c.is_open-in-Collector.ensures _ st shown.memory.collectors in
    search rules
