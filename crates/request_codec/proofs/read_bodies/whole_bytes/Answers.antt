use Rattle.std.proofs.Common.{[], ◌∙◌, sym, append-nil}
use Rattle.request_codec.specs.Fields.{field}
use Rattle.request_codec.proofs.Fields.{left_field, if_none}
use Rattle.request_codec.proofs.read_bodies.whole_bytes.Goals as goal

pub returns-in_err-value-clause-none : goal.returns-in_err-value-clause-none
returns-in_err-value-clause-none c =
    if_none c.from_residual.result (λ value fits e. c.in_err-value.ensures.none value [] fits (e ∙ sym (append-nil (field value))))

pub returns-else-is_empty-clause-none : goal.returns-else-is_empty-clause-none
returns-else-is_empty-clause-none c = λ value fits e.
    left_field c.in_ok-value.value.now value c.take_bytes.new.rest.now c.args.bytes.now c.in_ok-value.ensures.fits fits c.in_ok-value.ensures.found c.if-is_empty.ensures e

pub returns-else-is_empty-clause-found : goal.returns-else-is_empty-clause-found
returns-else-is_empty-clause-found c = tt
