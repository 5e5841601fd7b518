use Rattle.std.proofs.Common.{rules, arith, ap, subst, sym}
use Rattle.std.specs.Option.{IfNone}
use Rattle.commit_log.specs.Numbered.{HasLater}
use Rattle.commit_log.proofs.Windows.{first_of, later_back, later_from, none_later, none_short}
use Rattle.commit_log.proofs.numbered.next_place.Goals as goal

pub returns-then-bytes-lt-PREFIX-clause-none : goal.returns-then-bytes-lt-PREFIX-clause-none
returns-then-bytes-lt-PREFIX-clause-none c = none_short c.args.bytes.now c.args.next (search (rules, arith))

pub returns-in_err-place-clause-none : goal.returns-in_err-place-clause-none
returns-in_err-place-clause-none c =
    let none = none_later c.args.bytes.now c.behind-numbers.result.now c.args.next _ _ c.behind-numbers.ensures (ap first_of c.number_bytes.ensures) (ap first_of c.number_bytes-2.ensures) c.in_err-place.ensures in
    subst (λ r. IfNone r (¬ HasLater c.args.next c.args.bytes.now)) (sym c.from_residual.ensures) none

pub returns-clause-found : goal.returns-clause-found
returns-clause-found c = (
  λ later. subst (HasLater c.args.next) (sym c.behind.ensures) (later_from c.args.bytes.now c.behind-numbers.result.now c.args.next _ _ c.behind-numbers.ensures (ap first_of c.number_bytes.ensures) (ap first_of c.number_bytes-2.ensures) c.in_ok-place.place c.in_ok-place.ensures.0.before later),
  λ later. later_back c.args.bytes.now c.args.next c.in_ok-place.place (subst (HasLater c.args.next) c.behind.ensures later),
)
