-- The root that was read is the one in the files.
use Rattle.std.proofs.Common.{◌≡◌, Option, Some, None, not, sym, ap, ◌∙◌, subst}
use Rattle.std.proofs.lemmas.Option.{same_Some}
use Rattle.metadata_table.specs.Table.{IsListed}
use Rattle.metadata_table.specs.declared.root.Root.{Root}
use Rattle.row_atomic.proofs.MergeSteps.{root_lacks}
use Rattle.row_atomic.proofs.cluster.Cluster.is_free.Goals as goal
use Rattle.row_atomic.proofs.cluster.Cluster.is_free.Goals.{in-Some, in-None}

none_read : (found : Option Root) (r : Root) → found ≡ None → found ≡ Some r → ⊥
none_read found r none some = cc

pub returns-clause-unrooted : goal.returns-clause-unrooted
returns-clause-unrooted g c = rw (← c.self.view_is) (elim c.match-branch-2.branch [
  | in-Some w ↦ rw w.result-is (λ free. root_lacks c.one_root.ensures g.F.Files.contents c.args.name _ c.in_ok-root.field-0 c.in_ok-root.ensures.finds
      (λ r is there.
      let same : w.in-Some.root ≡ r = same_Some w.in-Some.root r (sym w.in-Some.is ∙ is) in
      let yes = w.listed-in-Some.ensures.1 (subst (λ (root : Root). IsListed c.args.name root.table) (sym same) there) in
      let no = sym free ∙ ap not yes in
      cc))
  | in-None w ↦ rw w.result-is (λ free. root_lacks c.one_root.ensures g.F.Files.contents c.args.name _ c.in_ok-root.field-0 c.in_ok-root.ensures.finds
      (λ r is. absurd (none_read c.in_ok-root.field-0 r w.in-None.is is)))
])
