use Rattle.sorted_file.proofs.Bounded.{by_kind}
use Rattle.sorted_file.proofs.bounds.ColumnBounds.joined.Goals as goal

pub returns-clause-first : goal.returns-clause-first
returns-clause-first c = by_kind c.args.self _ c.joined.ensures.first c.joined-2.ensures.first c.joined-3.ensures.first

pub returns-clause-second : goal.returns-clause-second
returns-clause-second c = by_kind c.args.other _ c.joined.ensures.second c.joined-2.ensures.second c.joined-3.ensures.second
