use Rattle.std.proofs.Common.{sym, subst}
use Rattle.compaction.proofs.OnlyPlace.{breaks_there, lent_there}
use Rattle.compaction.proofs.merge.advance_at.Goals as goal

pub returns-then-place-sources-clause-more : goal.returns-then-place-sources-clause-more
returns-then-place-sources-clause-more g c =
    rw (lent_there c.args.sources.now c.args.place c.index-sources-place.result c.advance.new.self c.if-place-sources.true c.index-sources-place.is g.S.Source.lent) c.advance.ensures.more

pub returns-then-place-sources-clause-broken : goal.returns-then-place-sources-clause-broken
returns-then-place-sources-clause-broken g c = λ err.
    let P = g.S.Source.breaks (g.F.Files.contents c.args.files.now) in
    breaks_there c.args.sources.now c.args.place c.index-sources-place.result c.advance.new.self c.if-place-sources.true c.index-sources-place.is P
    (subst P (sym c.index-sources-place.is) (c.advance.ensures.broken err))
