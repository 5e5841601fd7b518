use Rattle.std.proofs.Common.{◌==◌, ℕ, List, [], ◌++◌, length, sym, ap, ◌∙◌, append_assoc}
use Rattle.std.proofs.lemmas.List.{append-nil}
use Rattle.cell_key.specs.Texts.{escaped, ended, place_text}
use Rattle.cell_key.proofs.TextPlaces.{clash}
use Rattle.cell_key.proofs.Order.{one_place, plain_family}
use Rattle.cell_key.proofs.decoding.decode_place.Goals as goal

pub returns-in_default-clause-none : goal.returns-in_default-clause-none
returns-in_default-clause-none c = λ p.
    c.in_default.ensures.none p.row p.family [] p.is_row p.is_family (p.is ∙ sym (append-nil (place_text p.row p.family)))

pub returns-then-not-is_empty-clause-none : goal.returns-then-not-is_empty-clause-none
returns-then-not-is_empty-clause-none c = λ p.
    let place = c.in-Some in
    let read = place.ensures.found in
    let rest = place.rest.now in
    let same = one_place c.args.bytes.now read.0 place.family.now rest p.row p.family [] (plain_family place.family.now place.ensures.family.bytes) (plain_family p.family p.is_family.bytes)
    (read.2 ∙ append_assoc (ended (escaped read.0)) (ended place.family.now) rest) (p.is ∙ ap (λ (t : List ℕ). ended (escaped p.row) ++ t) (sym (append-nil (ended p.family)))) in
    clash _ (c.is_empty.ensures ∙ ap (λ (t : List ℕ). length t == 0) same.1.1) c.if-not-is_empty.true
