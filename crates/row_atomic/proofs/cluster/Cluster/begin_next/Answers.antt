-- None is due, or the next merge was begun, or it was refused.
use Rattle.std.proofs.Common.{refl}
use Rattle.row_atomic.specs.MergeSteps.{rests}
use Rattle.row_atomic.proofs.MergeSteps.{begun_shown, begun_steps, due_merge, not_begun, not_begun_shown}
use Rattle.row_atomic.proofs.cluster.Cluster.begin_next.Goals as goal

pub returns-in_default-clause-steps : goal.returns-in_default-clause-steps
returns-in_default-clause-steps g c = rests (record { none = c.requires.none; not_due = c.in_default.ensures.none }) refl

pub returns-in_default-begin_merge-clause-steps : goal.returns-in_default-begin_merge-clause-steps
returns-in_default-begin_merge-clause-steps g c =
    let none = rw (← c.self.view_is) at c.requires.none in
    let is = c.begin_merge.ensures in
    rw (← c.self.view_is) (not_begun g.F.Files.contents _ none c.begin_merge.new.self is.rest is.same is.later_name c.args.policy)

pub returns-in_default-begin_merge-clause-keeps : goal.returns-in_default-begin_merge-clause-keeps
returns-in_default-begin_merge-clause-keeps g c =
    let none = rw (← c.self.view_is) at c.requires.none in
    let is = c.begin_merge.ensures in
    rw (← c.self.view_is) (not_begun_shown g.F.Files.contents _ none c.begin_merge.new.self is.rest is.same is.later_name g.F.Files.faults is.later)

pub returns-clause-steps : goal.returns-clause-steps
returns-clause-steps g c =
    let found = rw (← c.self.view_is) at c.in-Some.ensures.found in
    let is = c.in-Ok.ensures in
    let due = due_merge c.args.policy c.self.inside.file_limit c.self.inside.next_name c.in-Some.count c.number_at-tablet.result c.in-Ok.merge c.self.inside.tablets.items
    (found.due c.number_at-tablet.result c.number_at-tablet.ensures.at) is.begun in
    rw (← c.self.view_is) (begun_steps g.F.Files.contents _ c.begin_merge.new.self _ c.self-2.view_is is.rest is.same c.in-Ok.merge c.args.policy is.used due)

pub returns-clause-keeps : goal.returns-clause-keeps
returns-clause-keeps g c =
    let is = c.in-Ok.ensures in
    rw (← c.self.view_is) (begun_shown g.F.Files.contents _ c.begin_merge.new.self _ c.self-2.view_is is.rest is.same c.in-Ok.merge g.F.Files.faults is.later is.can)
