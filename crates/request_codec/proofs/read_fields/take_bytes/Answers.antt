use Rattle.std.proofs.Common.{◌∙◌}
use Rattle.request_codec.proofs.Fields.{field-append, if_none, cut_field, no_bytes}
use Rattle.request_codec.proofs.read_fields.take_bytes.Goals as goal

pub returns-in_err-len-clause-none : goal.returns-in_err-len-clause-none
returns-in_err-len-clause-none c =
    if_none c.from_residual.result (λ bytes after fits e. c.in_err-len.ensures.none _ _ (e ∙ field-append bytes after))

pub returns-clause-found : goal.returns-clause-found
returns-clause-found c = cut_field c.take_front.result c.args.rest.now.now c.in_ok-len.len c.take_u32.new.rest.now c.take_front.new.rest.now c.in_ok-len.ensures.found c.take_front.ensures.found c.take_front.ensures.len

pub returns-clause-none : goal.returns-clause-none
returns-clause-none c =
    no_bytes c.take_front.result c.args.rest.now.now c.in_ok-len.len c.take_u32.new.rest.now c.in_ok-len.ensures.found c.in_ok-len.ensures.fits c.take_front.ensures.none
