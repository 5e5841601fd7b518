use Rattle.std.proofs.Common.{◌++◌, sym, ◌∙◌}
use Rattle.cell_key.specs.Keys.{qualifier_name}
use Rattle.cell_key.specs.Texts.{ended, stamp_text}
use Rattle.cell_key.proofs.Order.{after_place, part_rest, plain_family, plain_name, text_of_place}
use Rattle.cell_key.proofs.PartEnds.{if_none}
use Rattle.cell_key.proofs.decoding.split_key.Goals as goal

pub returns-in_err-row_len-clause-none : goal.returns-in_err-row_len-clause-none
returns-in_err-row_len-clause-none c = if_none c.from_residual.result (λ k.
    c.in_err-row_len.ensures.none k.key.row k.key.family (ended (qualifier_name k.key.qualifier) ++ stamp_text k.key.stamp) k.stored.row k.stored.family (k.is ∙ text_of_place k.key))

pub returns-in_err-name-clause-none : goal.returns-in_err-name-clause-none
returns-in_err-name-clause-none c =
    let place = c.in_ok-row_len in
    let read = place.ensures.found in
    if_none c.from_residual-in_err-name.result (λ k.
    c.in_err-name.ensures.none (qualifier_name k.key.qualifier) (stamp_text k.key.stamp) (plain_name k.key.qualifier)
    (after_place c.args.bytes.now read.0 place.family.now place.after_place.now (plain_family place.family.now place.ensures.family.bytes) read.2 k))

pub returns-in_err-qualifier-clause-none : goal.returns-in_err-qualifier-clause-none
returns-in_err-qualifier-clause-none c =
    let place = c.in_ok-row_len in
    let read = place.ensures.found in
    let part = c.in_ok-name in
    if_none c.from_residual-in_err-qualifier.result (λ k.
    c.in_err-qualifier.ensures.none k.key.qualifier
    (part_rest part.name.now (qualifier_name k.key.qualifier) part.after_name.now (stamp_text k.key.stamp) part.ensures.whole (plain_name k.key.qualifier)
    (sym part.ensures.found ∙ after_place c.args.bytes.now read.0 place.family.now place.after_place.now (plain_family place.family.now place.ensures.family.bytes) read.2 k)).0)

pub returns-in_err-stamp-clause-none : goal.returns-in_err-stamp-clause-none
returns-in_err-stamp-clause-none c =
    let place = c.in_ok-row_len in
    let read = place.ensures.found in
    let part = c.in_ok-name in
    if_none c.from_residual-in_err-stamp.result (λ k.
    c.in_err-stamp.ensures.none k.key.stamp k.stored.from k.stored.to
    (part_rest part.name.now (qualifier_name k.key.qualifier) part.after_name.now (stamp_text k.key.stamp) part.ensures.whole (plain_name k.key.qualifier)
    (sym part.ensures.found ∙ after_place c.args.bytes.now read.0 place.family.now place.after_place.now (plain_family place.family.now place.ensures.family.bytes) read.2 k)).1)
