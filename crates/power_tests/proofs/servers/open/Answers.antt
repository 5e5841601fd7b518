use Rattle.power_tests.proofs.Kept.{with_log}
use Rattle.power_tests.proofs.servers.open.Goals as goal

pub returns-in-Err : goal.returns-in-Err
returns-in-Err g c = λ st reached keeps. (
  (λ damaged. c.in-Err.ensures.damaged (c.refusal_of.ensures.damaged damaged) keeps.records keeps.in_log),
  c.refusal_of.ensures.others,
  with_log c.in-Err.ensures.kept st keeps,
)

pub returns-in-Ok-open : goal.returns-in-Ok-open
returns-in-Ok-open g c = λ st reached keeps. c.in-Ok-open.ensures.kept st reached (with_log c.in-Ok.ensures.held st keeps)

pub returns-in-Err-open : goal.returns-in-Err-open
returns-in-Err-open g c = λ st reached keeps.
    let kept = c.in-Err-open.ensures.kept st reached (with_log c.in-Ok.ensures.held st keeps) in
    (kept.0, kept.1, rw c.into_file-log.ensures (with_log (λ records held. held.kept) st kept.2))
