use Rattle.std.proofs.Common.{[], ◌∙◌, sym, append-nil}
use Rattle.request_codec.specs.Fields.{number}
use Rattle.request_codec.proofs.Fields.{left_number, if_none}
use Rattle.request_codec.proofs.read_bodies.whole_u32.Goals as goal

pub returns-in_err-n-clause-none : goal.returns-in_err-n-clause-none
returns-in_err-n-clause-none c = if_none c.from_residual.result (λ n e. c.in_err-n.ensures.none n [] (e ∙ sym (append-nil (number 4 n))))

pub returns-else-is_empty-clause-none : goal.returns-else-is_empty-clause-none
returns-else-is_empty-clause-none c = λ n e. left_number 4 c.in_ok-n.n n c.take_u32.new.rest.now c.args.bytes.now c.in_ok-n.ensures.found c.if-is_empty.ensures e
