use Rattle.std.proofs.Common.{map, ◌∙◌, inl, inr}
use Rattle.std.proofs.lemmas.List.{length-map}
use Rattle.si_model.specs.Replies.{item_of, reach_of}
use Rattle.request_codec.specs.Scans.{lent_reach}
use Rattle.request_codec.proofs.Fields.{on_err}
use Rattle.request_codec.proofs.OneReply.{scanned_only}
use Rattle.request_codec.proofs.ScanBodies.{scanned_is, scanned_needs}
use Rattle.request_codec.proofs.Scans.{all_fit}
use Rattle.request_codec.proofs.decode_replies.decode_scan.Goals as goal

pub returns-in_default-clause-none : goal.returns-in_default-clause-none
returns-in_default-clause-none c = λ reply is.
    let b = scanned_only reply c.args.fields.now is in
    c.in_default.ensures.none b.items b.reach (all_fit b.items b.starts b.fits.names b.fits.bytes) b.fits b.fields

pub returns-in_err-reach-clause-needed : goal.returns-in_err-reach-clause-needed
returns-in_err-reach-clause-needed c =
    let found = c.in-Some.ensures in
    on_err c.from_residual.result
    (scanned_needs c.args.fields.now c.in-Some.rest.now (lent_reach c.in-Some.reach) c.in-Some.count found.found found.reach found.items found.few (inl c.in_err-reach.ensures.needed))

pub returns-in_err-items-clause-needed : goal.returns-in_err-items-clause-needed
returns-in_err-items-clause-needed c =
    let found = c.in-Some.ensures in
    on_err c.from_residual-in_err-items.result
    (scanned_needs c.args.fields.now c.in-Some.rest.now (lent_reach c.in-Some.reach) c.in-Some.count found.found found.reach found.items found.few (inr c.in_err-items.ensures.needed))

pub returns-clause-found : goal.returns-clause-found
returns-clause-found c =
    let found = c.in-Some.ensures in
    let own = c.in_ok-items.ensures in
    let items = c.in_ok-items.items.items in
    scanned_is c.args.fields.now c.in-Some.rest.now (map item_of items) (lent_reach c.in-Some.reach) (reach_of c.in_ok-reach.reach) c.in-Some.count found.found found.reach c.in_ok-reach.ensures.ok
    (length-map items item_of ∙ own.count) own.fit own.ok found.few
