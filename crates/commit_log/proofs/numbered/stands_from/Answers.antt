use Rattle.std.proofs.Common.{rules}
use Rattle.commit_log.proofs.Numbering.{stands_as, stands_not, too_short}
use Rattle.commit_log.proofs.numbered.stands_from.Goals as goal

pub returns-in_default : goal.returns-in_default
returns-in_default c = (λ h. cc, λ here. absurd (too_short c.args.bytes.now c.args.next c.in_default.ensures.none here))

pub returns-then-not-is_next : goal.returns-then-not-is_next
returns-then-not-is_next c =
    (λ h. cc, λ here. absurd (stands_not c.args.bytes.now c.in-Some.number c.args.next (search rules) c.requires c.in-Some.ensures.found (λ next. let h = c.is_next.ensures.1 next in cc) here))

pub returns-in-Some-first_numbered : goal.returns-in-Some-first_numbered
returns-in-Some-first_numbered c = (
  λ h.
      stands_as c.args.bytes.now _ _ c.in-Some.number c.in-Some-first_numbered.field-0.0 c.args.next (search rules) (search rules) c.in-Some.ensures.found (c.is_next.ensures.0 (search rules)) c.in-Some-first_numbered.ensures.found c.in-Some-first_numbered.ensures.front,
  λ here. cc,
)
