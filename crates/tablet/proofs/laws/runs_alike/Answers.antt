use Rattle.std.proofs.Common.{ap}
use Rattle.tablet.proofs.Seen.{shown}
use Rattle.tablet.proofs.TabletLaws.{one_names}
use Rattle.tablet.proofs.laws.runs_alike.Goals as goal

pub returns : goal.returns
returns c = λ range m run other a b e. ap (shown range) (one_names c.one_listing.ensures m run other a b e)
