use Rattle.std.proofs.Common.{rules, ◌++◌, List, subst, sym, ◌∙◌}
use Rattle.cell_key.specs.Entries.{Entry, IsEntryList}
use Rattle.sorted_file.specs.Builder.{built}
use Rattle.sorted_file.specs.Grammar.{FitsIn}
use Rattle.sorted_file.specs.Written.{only_written}
use Rattle.sorted_file.proofs.InSteps.{at_none, at_some, step_goes, step_whole, written_list}
use Rattle.sorted_file.proofs.partial_file.PartialFile.go_on.Goals as goal

pub returns-in_err-next-clause-damaged : goal.returns-in_err-next-clause-damaged
returns-in_err-next-clause-damaged g c = λ err whole list is was hold.
    let m = g.F.Files.contents c.args.files.now in
    let keep = c.args.self.now.keep_erasures in
    let all = step_whole keep whole (g.S.Source.remaining m c.args.source.now) (built c.args.self.now.builder) c.args.self.now.next.items list.rising is was in
    c.in_err-next.ensures.damaged (search rules) hold (subst IsEntryList (sym all) (written_list keep whole list))

pub returns-in_err-next-clause-large : goal.returns-in_err-next-clause-large
returns-in_err-next-clause-large g c = λ err whole rising hold is was.
    let m = g.F.Files.contents c.args.files.now in
    let keep = c.args.self.now.keep_erasures in
    let all = step_whole keep whole (g.S.Source.remaining m c.args.source.now) (built c.args.self.now.builder) c.args.self.now.next.items rising is was in
    subst (λ (es : List Entry). ¬ FitsIn c.args.self.now.builder.opening.size es) all (c.in_err-next.ensures.large (search rules) hold)

pub returns-in-Some-clause-goes : goal.returns-in-Some-clause-goes
returns-in-Some-clause-goes g c = λ _ whole rising hold is was.
    let m = g.F.Files.contents c.args.files.now in
    let w = at_some _ c.in_ok-next.next c.in-Some.text c.in-Some.is c.in_ok-next.ensures.goes in
    step_goes c.args.self.now.keep_erasures whole (g.S.Source.remaining m c.args.source.now) (g.S.Source.remaining m c.pass_some.new.source) (built c.args.self.now.builder) (built c.pass_some.new.builder) w.step.passed w.step.last c.args.self.now.next.items c.in-Some.text.items rising is was (w.parts hold) w.step.behind w.written

pub returns-in-None-clause-done : goal.returns-in-None-clause-done
returns-in-None-clause-done g c = λ _ whole rising hold is was.
    let m = g.F.Files.contents c.args.files.now in
    let keep = c.args.self.now.keep_erasures in
    at_none _ c.in_ok-next.next c.in-None.is c.in_ok-next.ensures.rest hold
    ∙ step_whole keep whole (g.S.Source.remaining m c.args.source.now) (built c.args.self.now.builder) c.args.self.now.next.items rising is was
