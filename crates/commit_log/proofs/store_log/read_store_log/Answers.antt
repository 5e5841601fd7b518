use Rattle.std.proofs.Common.{rules, arith}
use Rattle.commit_log.proofs.Results.{passed}
use Rattle.commit_log.proofs.Storing.{is_store_log, length-headed, not_begun, not_broken, not_headed}
use Rattle.commit_log.proofs.store_log.read_store_log.Goals as goal

pub returns-in_default-clause-damaged : goal.returns-in_default-clause-damaged
returns-in_default-clause-damaged c = λ _. not_headed c.args.bytes.now c.in_default.ensures.none

pub returns-in_default-first_number-clause-damaged :
    goal.returns-in_default-first_number-clause-damaged
returns-in_default-first_number-clause-damaged c = λ _.
    not_begun c.args.bytes.now c.in-Some.frames.now c.in-Some.store c.in-Some.ensures.found c.in_default-first_number.ensures.none

pub returns-in_err-found-clause-damaged : goal.returns-in_err-found-clause-damaged
returns-in_err-found-clause-damaged c = λ e.
    not_broken c.args.bytes.now c.in-Some.frames.now c.in-Some.store c.in-Some-first_number.first c.in-Some.ensures.found c.in-Some-first_number.ensures.within c.in-Some-first_number.ensures.found
    (c.in_err-found.ensures.damaged (passed c.from_residual.result c.in_err-found.field-0.0 _ c.from_residual.ensures.1 e))

pub returns-clause-ok : goal.returns-clause-ok
returns-clause-ok c =
    is_store_log c.in-Some.store c.in-Some-first_number.first c.args.bytes.now c.in-Some.frames.now _ c.in_ok-found.found.end _ (search rules) c.in-Some-first_number.ensures.within c.in-Some.ensures.found c.in-Some-first_number.ensures.found c.in_ok-found.ensures.ok (search rules)

pub returns-clause-end : goal.returns-clause-end
returns-clause-end c = omega (arith, length-headed c.args.bytes.now c.in-Some.frames.now c.in-Some.store c.in-Some.ensures.found, c.in_ok-found.ensures.end)

pub returns-clause-few : goal.returns-clause-few
returns-clause-few c = omega (arith, length-headed c.args.bytes.now c.in-Some.frames.now c.in-Some.store c.in-Some.ensures.found, c.in_ok-found.ensures.few)
