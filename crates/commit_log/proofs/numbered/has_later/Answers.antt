use Rattle.std.proofs.Common.{subst, sym}
use Rattle.commit_log.specs.Numbered.{HasLater}
use Rattle.commit_log.proofs.Windows.{later_back, later_on}
use Rattle.commit_log.proofs.numbered.has_later.Goals as goal

pub loop-place-preserved : goal.loop-place-preserved
loop-place-preserved c = record {
  ahead = λ later. subst (HasLater c.args.next) (sym c.behind-rest.ensures) (later_on c.in-Some.place.now c.args.next (λ here. let h = c.if-stands_from.ensures.1 here in cc) (c.in-Some.ensures.found.0 (c.loop-place.invariant.ahead later)));
  back = λ later. c.loop-place.invariant.back (c.in-Some.ensures.found.1 (later_back c.in-Some.place.now c.args.next 1 (subst (HasLater c.args.next) c.behind-rest.ensures later)));
}
