-- The files are read first, and then one is written under a name that no root has.
use Rattle.std.proofs.Common.{ap, ◌∙◌}
use Rattle.std.proofs.lemmas.Result.{on_ok_weaker}
use Rattle.row_atomic.proofs.MergeSteps.{can_join_over, joins_over, keeps_over, others_over, roots_rest, roots_stay}
use Rattle.row_atomic.proofs.cluster.Cluster.end_merge.Goals as goal

pub join_file-requires-clause-can : goal.join_file-requires-clause-can
join_file-requires-clause-can g c = can_join_over g.F.Files.contents c.args.self.now c.room_to_end.new.self c.in-Ok.ensures.rest c.in-Ok.ensures.same c.args.merge c.in-Ok.index _ c.in-Ok.ensures.can

pub returns-in-Ok-clause-joined : goal.returns-in-Ok-clause-joined
returns-in-Ok-clause-joined g c = on_ok_weaker c.join_file.result (joins_over g.F.Files.contents c.args.self.now c.room_to_end.new.self c.in-Ok.ensures.rest c.in-Ok.ensures.same c.args.merge c.join_file.new.self) c.join_file.ensures.joined

pub returns-in-Ok-clause-keeps : goal.returns-in-Ok-clause-keeps
returns-in-Ok-clause-keeps g c = keeps_over g.F.Files.contents c.args.self.now c.room_to_end.new.self c.in-Ok.ensures.rest c.in-Ok.ensures.same c.args.merge c.join_file.new.self c.join_file.ensures.keeps

pub returns-in-Ok-clause-roots : goal.returns-in-Ok-clause-roots
returns-in-Ok-clause-roots g c =
    let others = others_over g.F.Files.contents c.args.self.now c.room_to_end.new.self c.in-Ok.ensures.rest c.in-Ok.ensures.same c.args.merge c.join_file.new.self c.join_file.ensures.others in
    roots_stay g.F.Files.contents c.args.self.now c.join_file.new.self c.unnamed_may_go.ensures c.args.merge.name c.in-Ok.ensures.can.used.0 c.in-Ok.ensures.can.unrooted others
    (ap (λ s. s.next_name) c.join_file.ensures.keeps.rest ∙ ap (λ s. s.next_name) c.in-Ok.ensures.rest)

pub returns-in-Err-clause-roots : goal.returns-in-Err-clause-roots
returns-in-Err-clause-roots g c = roots_rest g.F.Files.contents c.args.self.now _
    (c.give_up.ensures.same ∙ ap (λ s. g.F.Files.contents s.files) c.self.view_is ∙ c.in-Err.ensures.same)
    (ap (λ s. s.next_name) c.self.view_is ∙ ap (λ s. s.next_name) c.in-Err.ensures.rest)
