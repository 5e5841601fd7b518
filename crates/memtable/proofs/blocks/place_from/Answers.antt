use Rattle.std.proofs.Common.{◌≡◌, ◌<◌, ◌-◌, length, get_or, sym, ap, subst, ◌∙◌, arith}
use Rattle.std.proofs.lemmas.List.{get_or_default}
use Rattle.memtable.specs.declared.blocks.Block.{Block}
use Rattle.memtable.specs.Blocks.{IsPlaceAmong, ends_below, list_of}
use Rattle.memtable.proofs.BlockFacts.{place_after, some_at}
use Rattle.memtable.proofs.blocks.place_from.Goals as goal

pub returns-then-at-eq0 : goal.returns-then-at-eq0
returns-then-at-eq0 g c =
    let name = g.S.Sought.name c.args.sought in
    let xs = c.args.blocks.now in
    let r = c.requires in
    let first : c.args.at ≡ 0 = c.if-at-eq0.true in
    subst (λ (at : _). IsPlaceAmong name xs (record { block = at; slot = 0 })) first
    (place_after name xs r.rising r.blocks c.args.at 0 r.within r.above (λ d. some_at name xs r.rising r.blocks c.args.at 0 r.within r.above d) (λ k d e. absurd (omega (arith, first, e))))

pub returns : goal.returns
returns g c =
    let name = g.S.Sought.name c.args.sought in
    let xs = c.args.blocks.now in
    let r = c.requires in
    let prior = c.index-blocks-at.result in
    let within : c.args.at < length xs = r.within in
    place_after name xs r.rising r.blocks c.args.at 0 r.within r.above (λ d. some_at name xs r.rising r.blocks c.args.at 0 r.within r.above d)
    (λ k d e.
    let same : k ≡ c.args.at - 1 = omega (arith, e) in
    ap (λ (b : Block). ends_below name (list_of b))
    (get_or_default xs k d prior (omega (arith, e, within)) ∙ ap (λ (i : _). get_or xs i prior) same ∙ sym c.index-blocks-at.is) ∙ sym c.ends_below.ensures ∙ c.if-not-ends_below.false)
