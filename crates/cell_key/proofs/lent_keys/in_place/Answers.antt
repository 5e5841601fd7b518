use Rattle.std.proofs.Common.{◌++◌, refl, sym, ap, ◌∙◌}
use Rattle.cell_key.specs.Keys.{byte_cmp}
use Rattle.cell_key.proofs.LentPlaces.{beside, front_is_place, order_beside, text_beside}
use Rattle.cell_key.proofs.Order.{after_place, plain_family}
use Rattle.cell_key.proofs.PartEnds.{if_none}
use Rattle.cell_key.proofs.TextPlaces.{clash}
use Rattle.cell_key.proofs.lent_keys.in_place.Goals as goal

pub returns-in_err-qualifier-clause-none : goal.returns-in_err-qualifier-clause-none
returns-in_err-qualifier-clause-none c =
    let last = c.requires.last in
    let whole = c.requires.place ∙ ap (λ t. t ++ c.args.tail.now) (front_is_place c.args.last last) in
    if_none c.from_residual.result (λ k below.
    c.in_err-qualifier.ensures.none k.key.qualifier k.key.stamp k.stored.from k.stored.to
    (after_place c.args.bytes.now last.key.row last.key.family c.args.tail.now (plain_family last.key.family last.stored.family.bytes) whole k))

pub returns-then-not-is_before-clause-none : goal.returns-then-not-is_before-clause-none
returns-then-not-is_before-clause-none c = λ k below.
    let part = c.in_ok-qualifier in
    let is = text_beside c.args.last c.requires.last c.args.bytes.now c.args.tail.now part.qualifier part.stamp c.requires.place part.ensures.found in
    let order = sym (order_beside c.args.last c.requires.last part.qualifier part.stamp part.ensures.to) ∙ (ap (byte_cmp c.args.last.text.now) (sym is) ∙ below) in
    clash _ (c.is_before.ensures.1 order) c.if-not-is_before.true

pub returns-clause-found : goal.returns-clause-found
returns-clause-found c =
    let last = c.requires.last in
    let part = c.in_ok-qualifier in
    record {
      key = beside last part.qualifier part.stamp;
      stored = record { row = last.stored.row; family = last.stored.family; from = part.ensures.from; to = part.ensures.to };
      is = text_beside c.args.last last c.args.bytes.now c.args.tail.now part.qualifier part.stamp c.requires.place part.ensures.found;
      place = last.place;
      qualifier = refl;
      stamp = refl;
    }

pub returns-clause-above : goal.returns-clause-above
returns-clause-above c =
    let part = c.in_ok-qualifier in
    let is = text_beside c.args.last c.requires.last c.args.bytes.now c.args.tail.now part.qualifier part.stamp c.requires.place part.ensures.found in
    ap (byte_cmp c.args.last.text.now) is ∙ (order_beside c.args.last c.requires.last part.qualifier part.stamp part.ensures.to ∙ c.is_before.ensures.0 c.if-not-is_before.false)
