use Rattle.std.proofs.Common.{rules, arith, sym, ◌∙◌}
use Rattle.commit_log.proofs.Numbering.{same_numbered}
use Rattle.commit_log.proofs.store_log.first_number.Goals as goal

pub returns-then-number-ge-NO_NUMBER-clause-none :
    goal.returns-then-number-ge-NO_NUMBER-clause-none
returns-then-number-ge-NO_NUMBER-clause-none c n p x low s same =
    let is = (same_numbered c.in-Some.number n c.in-Some.field-0-1.now p _ x (search rules) (omega (arith, low)) c.in-Some.ensures.found s (sym c.in-Some.ensures.front ∙ same)).0 in
    omega (arith, is, low, c.if-number-ge-NO_NUMBER.true)
