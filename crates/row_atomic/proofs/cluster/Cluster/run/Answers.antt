-- Each outcome answers its command.
use Rattle.std.proofs.Common.{length, List, ap, sym, subst, arith, ◌∙◌}
use Rattle.std.specs.List.{AllByRecursion}
use Rattle.std.specs.Vec.Iter.{into_iter_items}
use Rattle.row_atomic.specs.Commands.{IsUnderRow}
use Rattle.row_atomic.specs.declared.commands.Command.{Command}
use Rattle.row_atomic.proofs.CommandSteps.{all_answered, answered, none_left}
use Rattle.row_atomic.proofs.cluster.Cluster.run.Goals as goal

pub answer-outcome-requires : goal.answer-outcome-requires
answer-outcome-requires g c = (subst (λ (cs : List Command). AllByRecursion IsUnderRow cs) c.in-Some.ensures.steps.0 c.loop-command.invariant.under).0

pub loop-command-preserved : goal.loop-command-preserved
loop-command-preserved g c =
    let first = c.in-Some.ensures.steps.0 in
    let shorter = ap length first in
    let rest = into_iter_items c.next.new.self in
    record {
      room = omega (arith, c.loop-command.invariant.room, shorter, c.push_reserved.ensures.len, c.push_reserved.ensures.capacity);
      under = (subst (λ (cs : List Command). AllByRecursion IsUnderRow cs) first c.loop-command.invariant.under).1;
      still = λ holds. c.answer-outcome.ensures.still (c.loop-command.invariant.still holds);
      answers =
          answered g.F.Files.contents g.F.Files.faults c.args.self.now c.loop-command.self c.answer-outcome.new.self
          c.args.commands.items (into_iter_items c.loop-command.command-iterator) rest c.in-Some.command c.loop-command.outcomes.items c.push_reserved.new.self.items c.answer-outcome.result
          first c.push_reserved.ensures.items c.answer-outcome.ensures c.loop-command.invariant.answers;
    }

pub returns-clause-answers : goal.returns-clause-answers
returns-clause-answers g c =
    all_answered g.F.Files.contents g.F.Files.faults c.args.self.now c.loop-command.self
    c.args.commands.items (into_iter_items c.loop-command.command-iterator) c.loop-command.outcomes.items
    (none_left (into_iter_items c.loop-command.command-iterator) (sym c.loop-command.command-iterator.rest.ok.0 ∙ c.in-None.ensures.steps.0)) c.loop-command.invariant.answers
