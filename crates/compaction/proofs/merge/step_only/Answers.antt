use Rattle.std.proofs.Common.{refl, sym, ◌∙◌}
use Rattle.cell_key.proofs.Passed.{passed_on}
use Rattle.compaction.specs.Merging.{Advances}
use Rattle.compaction.proofs.OnlyPlace.{none_ordered, only_breaks, only_ordered, only_past}
use Rattle.compaction.proofs.merge.step_only.Goals as goal

pub returns-in_err-more-clause-broken : goal.returns-in_err-more-clause-broken
returns-in_err-more-clause-broken g c = λ err o.
    let told = g.F.Files.contents c.args.files.now in
    let Adv = Advances (g.S.Source.steps told) g.S.Source.lent (g.S.Source.remaining told) (g.S.Source.holds told) in
    only_breaks Adv g.S.Source.lent c.args.sources.now c.args.sources.now c.args.order.now.items c.requires refl o _ c.index.ensures (g.S.Source.breaks told)
    (c.in_err-more.ensures.broken (passed_on c.from_residual.result _ c.in_err-more.field-0.0 _ c.from_residual.ensures.1 refl err))

pub returns-then-not-more-clause-past : goal.returns-then-not-more-clause-past
returns-then-not-more-clause-past g c = λ o.
    let told = g.F.Files.contents c.args.files.now in
    let Adv = Advances (g.S.Source.steps told) g.S.Source.lent (g.S.Source.remaining told) (g.S.Source.holds told) in
    only_past Adv g.S.Source.lent c.args.sources.now c.advance_at.new.sources c.args.order.now.items c.requires c.advance_at.auto.sources o _ c.index.ensures c.in_ok-more.ensures.moves

pub returns-else-not-more-clause-past : goal.returns-else-not-more-clause-past
returns-else-not-more-clause-past g c = λ o.
    let told = g.F.Files.contents c.args.files.now in
    let Adv = Advances (g.S.Source.steps told) g.S.Source.lent (g.S.Source.remaining told) (g.S.Source.holds told) in
    only_past Adv g.S.Source.lent c.args.sources.now c.advance_at.new.sources c.args.order.now.items c.requires c.advance_at.auto.sources o _ c.index.ensures c.in_ok-more.ensures.moves

pub returns-then-not-more-clause-ordered : goal.returns-then-not-more-clause-ordered
returns-then-not-more-clause-ordered g c = λ o.
    let told = g.F.Files.contents c.args.files.now in
    let Adv = Advances (g.S.Source.steps told) g.S.Source.lent (g.S.Source.remaining told) (g.S.Source.holds told) in
    rw c.clear.ensures.items
    (none_ordered Adv g.S.Source.lent c.args.sources.now c.advance_at.new.sources c.args.order.now.items c.requires c.advance_at.auto.sources o _ c.index.ensures c.in_ok-more.ensures.moves (sym c.if-not-more.true ∙ c.in_ok-more.ensures.more))

pub returns-else-not-more-clause-ordered : goal.returns-else-not-more-clause-ordered
returns-else-not-more-clause-ordered g c = λ o.
    let told = g.F.Files.contents c.args.files.now in
    let Adv = Advances (g.S.Source.steps told) g.S.Source.lent (g.S.Source.remaining told) (g.S.Source.holds told) in
    only_ordered Adv g.S.Source.lent c.args.sources.now c.advance_at.new.sources c.args.order.now.items c.requires c.advance_at.auto.sources o _ c.index.ensures c.in_ok-more.ensures.moves (sym c.if-not-more.false ∙ c.in_ok-more.ensures.more)
