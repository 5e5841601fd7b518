-- Only the tablet of the place that holds the row has the row.
use Rattle.row_atomic.proofs.Owners.{holder_owns, index_of}
use Rattle.row_atomic.proofs.Shares.{cells_of_row}
use Rattle.row_atomic.proofs.cluster.laws.cells_by_tablet.Goals as goal

pub returns : goal.returns
returns c = λ m limit next places tablets row p t table matched holder numbered key e.
    cells_of_row m tablets row (index_of p.tablet) t
    (holder_owns tablets places row p t table matched.placed matched.as_many holder numbered) key e
