-- The lengths in a root are compared with its files' lengths.
use Rattle.std.proofs.Common.{rules, ◌≡◌, ◌∙◌, Option, IfSome, length, sym, ap, subst}
use Rattle.std.proofs.lemmas.List.{nil_from_length}
use Rattle.file_store.specs.Store.{Contents}
use Rattle.metadata_table.specs.Roots.{file_names}
use Rattle.row_atomic.specs.Roots.{AreMeasured}
use Rattle.row_atomic.proofs.Lengths.{either_wrong, none_measured, wrong_lengths}
use Rattle.row_atomic.proofs.OpenedRoots.{there_told}
use Rattle.row_atomic.proofs.cluster.open.load_root.Goals as goal

pub returns-then-is_empty-clause-measured : goal.returns-then-is_empty-clause-measured
returns-then-is_empty-clause-measured g c =
    let none : length c.args.root.now.lengths.items ≡ 0 = search rules in
    none_measured _ _ _ (nil_from_length c.args.root.now.lengths.items none)

pub returns-then-ne-clause-damaged : goal.returns-then-ne-clause-damaged
returns-then-ne-clause-damaged g c = λ is.
    let told = g.F.Files.contents c.args.files.now in
    let some : ¬ (length c.args.root.now.lengths.items ≡ 0) = search rules in
    let other : ¬ (c.as_slice.result.now ≡ c.as_slice-2.result.now) = search rules in
    let there = there_told c.files_are_there.ensures told c.in_ok-tablets.tablets.items c.args.root.now.table c.in_ok-tablets.ensures.loaded c.in_ok-tablets.ensures.holds in
    let are = subst (λ (o : Option Contents). IfSome o (λ m. AreMeasured m (file_names c.args.root.now.table) c.in_ok-lengths.lengths.items)) c.in_ok-tablets.ensures.reads.same c.in_ok-lengths.ensures.measured in
    either_wrong told c.args.root.now.table c.args.root.now.lengths.items
    (wrong_lengths told c.args.root.now.table c.args.root.now.lengths.items c.in_ok-lengths.lengths.items c.requires (λ e. some (ap length e)) c.in_ok-lengths.ensures.count
    (λ e. other (c.as_slice.ensures.value ∙ e ∙ sym c.as_slice-2.ensures.value)) there are)
