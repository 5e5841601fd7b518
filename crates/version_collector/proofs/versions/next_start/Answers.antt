use Rattle.std.proofs.Common.{◌+◌, ◌-◌, ◌^◌, option_map}
use Rattle.cell_key.specs.Versions.{stamped}
use Rattle.version_collector.specs.Versions.{AreShown, NamesNone}
use Rattle.version_collector.proofs.PassedRefusals.{refused_named}
use Rattle.version_collector.proofs.Starts.{none_named, oldest_there}
use Rattle.version_collector.proofs.versions.next_start.Goals as goal

pub returns-clause-refusal : goal.returns-clause-refusal
returns-clause-refusal g c =
    let cells = g.R.Rows.seen.cells c.args.rows.now in
    let found = option_map stamped c.in_ok-next.next in
    refused_named (g.R.Rows.seen.readable c.args.rows.now c.args.cell.now.row × AreShown cells) (NamesNone found) c.named_by.result c.named_by.ensures.refusal c.named_by.ensures.damaged
    (λ none was. none_named cells c.args.cell.now found (oldest_there cells c.args.cell.now (c.args.floor + 1) (2 ^ 64 - 1) found (c.in_ok-next.ensures.found was.0)) none was.1)
