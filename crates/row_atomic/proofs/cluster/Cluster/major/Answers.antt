-- The tablet's number is checked first.
use Rattle.cell_key.specs.declared.refusals.Refusal.TheVariants.{UnknownTablet}
use Rattle.tablet.specs.declared.compactions.Compaction.TheVariants.{Major}
use Rattle.row_atomic.proofs.Outcomes.{refused_done, unknown}
use Rattle.row_atomic.proofs.cluster.Cluster.major.Goals as goal

pub compact_tablet-requires-clause-counted : goal.compact_tablet-requires-clause-counted
compact_tablet-requires-clause-counted g c = λ bad. absurd bad.such

pub returns-in_err-check_tablet : goal.returns-in_err-check_tablet
returns-in_err-check_tablet g c =
    refused_done g.F.Files.contents g.F.Files.faults _ c.from_residual.result c.in_err-check_tablet.field-0.0 UnknownTablet _ _ c.from_residual.ensures.1 c.in_err-check_tablet.ensures.refusal
    (unknown g.F.Files.contents g.F.Files.faults c.args.tablet c.args.self.now Major c.in_err-check_tablet.ensures.unknown)

pub returns : goal.returns
returns g c = c.compact_tablet.ensures.outcome
