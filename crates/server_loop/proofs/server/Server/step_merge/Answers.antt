use Rattle.std.proofs.Common.{Some, inr, ap, subst, sym}
use Rattle.tablet.specs.declared.merge_policy.MergePolicy.TheVariants.{Levels}
use Rattle.server_loop.specs.Server.{cluster_of}
use Rattle.server_loop.specs.Tending.{Merges}
use Rattle.server_loop.proofs.server.Server.step_merge.Goals as goal

pub returns-then-not-merge_some-clause-merges : goal.returns-then-not-merge_some-clause-merges
returns-then-not-merge_some-clause-merges g c =
    subst (λ state. Merges g.F.Files.contents g.F.Files.faults (Some Levels) (cluster_of c.args.self.now) state) (sym (ap (λ s. s.rows.cluster) c.note_merged.ensures))
    (inr (c.merge_some.result, c.merge_some.ensures.steps, c.merge_some.ensures.roots))
