-- The tablet's number is checked first, and then its number of files.
use Rattle.cell_key.specs.declared.refusals.Refusal.TheVariants.{BadCount, UnknownTablet}
use Rattle.tablet.specs.declared.compactions.Compaction.TheVariants.{Merge}
use Rattle.row_atomic.proofs.Outcomes.{refused_done, uncounted, unknown}
use Rattle.row_atomic.proofs.cluster.Cluster.merge.Goals as goal

pub returns-in_err-check_tablet : goal.returns-in_err-check_tablet
returns-in_err-check_tablet g c =
    refused_done g.F.Files.contents g.F.Files.faults _ c.from_residual.result c.in_err-check_tablet.field-0.0 UnknownTablet _ _ c.from_residual.ensures.1 c.in_err-check_tablet.ensures.refusal
    (unknown g.F.Files.contents g.F.Files.faults c.args.tablet c.args.self.now (Merge c.args.count) c.in_err-check_tablet.ensures.unknown)

pub returns-in_err-check_count : goal.returns-in_err-check_count
returns-in_err-check_count g c =
    refused_done g.F.Files.contents g.F.Files.faults _ c.from_residual-in_err-check_count.result c.in_err-check_count.field-0.0 BadCount _ _ c.from_residual-in_err-check_count.ensures.1 c.in_err-check_count.ensures.refusal
    (uncounted g.F.Files.contents g.F.Files.faults c.args.tablet c.args.self.now c.args.count c.in_ok-check_tablet.ensures.known c.in_err-check_count.ensures.bad)

pub returns : goal.returns
returns g c = c.compact_tablet.ensures.outcome
