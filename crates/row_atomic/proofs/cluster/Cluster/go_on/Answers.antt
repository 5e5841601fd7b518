-- The merge goes on, ends or is given up.
use Rattle.std.proofs.Common.{Some, refl, ap, ◌∙◌}
use Rattle.row_atomic.specs.MergeSteps.{continues}
use Rattle.std.proofs.lemmas.Result.{on_ok_weaker, on_err_weaker}
use Rattle.row_atomic.proofs.MergeSteps.{end_shown, ended, gave_up, joins_over, none_changed, others_over, roots_rest, unended_over, unended_rest, with_merge}
use Rattle.row_atomic.proofs.cluster.Cluster.go_on.Goals as goal

pub returns-in-Ok-default-true-clause-steps : goal.returns-in-Ok-default-true-clause-steps
returns-in-Ok-default-true-clause-steps g c = λ policy. continues (record {
  was = c.args.merge;
  is = c.in-Ok-default-true.merge;
  was_merge = refl;
  goes = c.in-Ok-default-true.ensures.goes;
  rest = with_merge c.args.self.now c.write_some.new.self _ c.self.view_is c.in-Ok-default-true.ensures.rest (Some c.in-Ok-default-true.merge);
  files = ap (λ s. g.F.Files.contents s.files) c.self.view_is ∙ c.in-Ok-default-true.ensures.same;
})

pub returns-in-Ok-default-true-clause-roots : goal.returns-in-Ok-default-true-clause-roots
returns-in-Ok-default-true-clause-roots g c = roots_rest g.F.Files.contents c.args.self.now _
    (ap (λ s. g.F.Files.contents s.files) c.self.view_is ∙ c.in-Ok-default-true.ensures.same)
    (ap (λ s. s.next_name) c.self.view_is ∙ ap (λ s. s.next_name) c.in-Ok-default-true.ensures.rest)

pub returns-in-Ok-default-false-clause-steps : goal.returns-in-Ok-default-false-clause-steps
returns-in-Ok-default-false-clause-steps g c = λ policy.
    let is = c.in-Ok-default-false.merge in
    let mid = c.write_some.new.self in
    let known = c.in-Ok-default-false.ensures in
    let old = c.args.self.now in
    let new = c.end_merge.new.self in
    let r = c.end_merge.result in
    rw c.is_ok.ensures.value (ended g.F.Files.contents policy old new c.args.merge c.requires.none is r known.goes
    (on_ok_weaker r (joins_over g.F.Files.contents old mid known.rest known.same is new) c.end_merge.ensures.joined)
    (on_err_weaker r (unended_over g.F.Files.contents old mid known.rest known.same is new) c.end_merge.ensures.unended)
    (others_over g.F.Files.contents old mid known.rest known.same is new c.end_merge.ensures.others))

pub returns-in-Ok-default-false-clause-keeps : goal.returns-in-Ok-default-false-clause-keeps
returns-in-Ok-default-false-clause-keeps g c =
    let known = c.in-Ok-default-false.ensures in
    end_shown g.F.Files.contents g.F.Files.faults c.args.self.now c.write_some.new.self c.end_merge.new.self c.args.merge c.in-Ok-default-false.merge c.requires.none known.rest known.same
    c.end_merge.ensures.keeps (known.done c.in-Ok-default-false.field-0-1-test) known.later c.end_merge.ensures.later

pub returns-in-Ok-default-false-clause-roots : goal.returns-in-Ok-default-false-clause-roots
returns-in-Ok-default-false-clause-roots g c = λ root cells has.
    let known = c.in-Ok-default-false.ensures in
    c.end_merge.ensures.roots root cells (roots_rest g.F.Files.contents c.args.self.now c.write_some.new.self known.same (ap (λ s. s.next_name) known.rest) root cells has)

pub returns-in-Err-clause-steps : goal.returns-in-Err-clause-steps
returns-in-Err-clause-steps g c = λ policy.
    gave_up g.F.Files.contents policy c.args.self.now c.write_some.new.self c.args.merge c.requires.none c.args.merge.name refl (unended_rest c.args.self.now c.write_some.new.self c.in-Err.ensures.rest)
    (none_changed c.args.merge.name (g.F.Files.contents c.args.self.now.files) (g.F.Files.contents c.write_some.new.self.files) c.in-Err.ensures.same)

pub returns-in-Err-clause-roots : goal.returns-in-Err-clause-roots
returns-in-Err-clause-roots g c = roots_rest g.F.Files.contents c.args.self.now c.write_some.new.self c.in-Err.ensures.same (ap (λ s. s.next_name) c.in-Err.ensures.rest)
