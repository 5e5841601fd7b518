use Rattle.std.proofs.Common.{◌++◌, length, refl, sym, ap, ◌∙◌, arith}
use Rattle.std.proofs.lemmas.List.{length-append}
use Rattle.cell_key.specs.Cells.{version}
use Rattle.cell_key.specs.Keys.{qualifier_name}
use Rattle.cell_key.specs.Texts.{ended, place_text, stamp_text}
use Rattle.cell_key.proofs.Order.{after_place, plain_family, text_of_place}
use Rattle.cell_key.proofs.PartEnds.{if_none}
use Rattle.cell_key.proofs.lent_keys.lend_key.Goals as goal

pub returns-in_err-tail-clause-none : goal.returns-in_err-tail-clause-none
returns-in_err-tail-clause-none c = if_none c.from_residual.result (λ k.
    c.in_err-tail.ensures.none k.key.row k.key.family (ended (qualifier_name k.key.qualifier) ++ stamp_text k.key.stamp) k.stored.row k.stored.family (k.is ∙ text_of_place k.key))

pub returns-in_err-qualifier-clause-none : goal.returns-in_err-qualifier-clause-none
returns-in_err-qualifier-clause-none c =
    let place = c.in_ok-tail in
    let read = place.ensures.found in
    let family = place.field-0-1.now in
    if_none c.from_residual-in_err-qualifier.result (λ k.
    c.in_err-qualifier.ensures.none k.key.qualifier k.key.stamp k.stored.from k.stored.to
    (after_place c.args.bytes.now read.0 family place.tail.now (plain_family family place.ensures.family.bytes) read.2 k))

pub returns-clause-found : goal.returns-clause-found
returns-clause-found c =
    let place = c.in_ok-tail in
    let read = place.ensures.found in
    let family = place.field-0-1.now in
    let part = c.in_ok-qualifier in
    let key = version read.0 family part.qualifier part.stamp in
    let whole = length-append (place_text read.0 family) place.tail.now in
    let long = ap length read.2 in
    record {
      key = key;
      stored = record { row = read.3; family = place.ensures.family; from = part.ensures.from; to = part.ensures.to };
      is = read.2 ∙ (ap (λ t. place_text read.0 family ++ t) part.ensures.found ∙ sym (text_of_place key));
      place = omega (arith, whole, long);
      qualifier = refl;
      stamp = refl;
    }
