use Rattle.std.proofs.Common.{◌∙◌, arith}
use Rattle.std.proofs.lemmas.List.{length-map}
use Rattle.si_model.specs.Answers.{told_item, told_items}
use Rattle.request_codec.proofs.Fields.{on_err}
use Rattle.request_codec.proofs.OneAnswer.{reads_only, reads_is, reads_needs}
use Rattle.request_codec.proofs.Told.{all_told_fit}
use Rattle.request_codec.proofs.answers.decode_read.Goals as goal

pub returns-in_default-clause-none : goal.returns-in_default-clause-none
returns-in_default-clause-none c = λ answer is.
    let g = reads_only answer c.args.fields.now is in
    let short = g.short in
    c.in_default.ensures.none g.start g.said (all_told_fit g.said g.starts (omega (arith, short))) (g.few, g.short) g.fields

pub returns-in_err-found-clause-needed : goal.returns-in_err-found-clause-needed
returns-in_err-found-clause-needed c =
    let found = c.in-Some.ensures in
    on_err c.from_residual.result
    (reads_needs c.args.fields.now c.in-Some.rest.now c.in-Some.start c.in-Some.count found.found found.start found.few found.short found.told c.in_err-found.ensures.needed)

pub returns-clause-found : goal.returns-clause-found
returns-clause-found c =
    let found = c.in-Some.ensures in
    let own = c.in_ok-found.ensures in
    let items = c.in_ok-found.found.items in
    reads_is c.args.fields.now c.in-Some.rest.now c.in-Some.start c.in-Some.count (told_items items) found.found found.start found.few found.short (length-map items told_item ∙ own.count) own.fit own.ok
