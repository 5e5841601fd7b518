use Rattle.std.proofs.Common.{◌≡◌, ◌++◌, ◌∙◌, ap, List, ℕ}
use Rattle.metadata_table.specs.Roots.{RootView, root_bytes}
use Rattle.metadata_table.specs.declared.root.format.RootFormat.TheVariants.{Two}
use Rattle.row_atomic.proofs.Lengths.{sum_of_root, zeros_counted}
use Rattle.row_atomic.proofs.cluster.Cluster.root_sum.Goals as goal

pub write_root-requires-clause-naming : goal.write_root-requires-clause-naming
write_root-requires-clause-naming g c = record { from = c.self.invariant.0.named_from; to = c.self.invariant.0.named_to; files = c.self.invariant.0.files }

pub write_root-requires-clause-measured : goal.write_root-requires-clause-measured
write_root-requires-clause-measured g c = zeros_counted _ _ (c.deref.ensures.value ∙ c.in_ok-lengths.ensures.zeros)

pub returns-clause-sum : goal.returns-clause-sum
returns-clause-sum g c =
    let root : RootView = record { top = c.args.top; floor = c.args.floor; next_name = c.self.inside.next_name; places = c.self.inside.table } in
    let wrote : c.write_root.new.out.items ≡ root_bytes Two root c.deref.result.now = c.in_ok-write_root.ensures.ok ∙ ap (λ (l : List ℕ). l ++ root_bytes Two root c.deref.result.now) c.new-image.ensures.items in
    rw (← c.self.view_is) (sum_of_root c.crc32.result root c.deref-2.result.now c.deref.result.now c.crc32.ensures (c.deref-2.ensures.value ∙ wrote) (c.deref.ensures.value ∙ c.in_ok-lengths.ensures.zeros))
