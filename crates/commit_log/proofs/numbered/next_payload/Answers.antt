use Rattle.std.proofs.Common.{rules}
use Rattle.commit_log.proofs.Numbering.{other_number}
use Rattle.commit_log.proofs.numbered.next_payload.Goals as goal

pub returns-then-number-next-clause-none : goal.returns-then-number-next-clause-none
returns-then-number-next-clause-none c q behind also t same =
    other_number c.args.bytes.now _ _ c.in-Some.number c.args.next (search rules) c.in-Some.ensures.found c.in-Some.ensures.front (search rules) q behind also t same
