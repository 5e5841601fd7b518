-- The store opened from a root, and the causes of a refusal.
use Rattle.std.proofs.Common.{◌⊎◌, Option, IfSome, subst}
use Rattle.cell_key.specs.declared.refusals.Refusal.TheVariants.{Damaged}
use Rattle.file_store.specs.Store.{Contents}
use Rattle.metadata_table.specs.Roots.{file_names, root_of}
use Rattle.row_atomic.specs.Roots.{AreMeasured}
use Rattle.row_atomic.specs.Open.{LacksFile}
use Rattle.row_atomic.proofs.OpenedRoots.{bad_is_damaged, lacks_told, not_damaged, opened_holds, opened_kept, opened_store, opened_whole}
use Rattle.row_atomic.proofs.Outcomes.{err_of}
use Rattle.row_atomic.proofs.cluster.Cluster.open.Goals as goal

pub returns-in-Err-clause-kept : goal.returns-in-Err-clause-kept
returns-in-Err-clause-kept g c =
    not_damaged g.F.Files.contents c.one_root.ensures c.one_measure.ensures c.same_cells.ensures c.files_are_there.ensures (g.F.Files.contents c.args.files) _ (λ is. bad_is_damaged _ (c.in-Err.ensures.damaged (err_of c.in-Err.refusal Damaged is)))

pub returns-in-Ok-load_root-clause-store : goal.returns-in-Ok-load_root-clause-store
returns-in-Ok-load_root-clause-store g c =
    let root = c.in-Ok-Some.root in
    opened_store g.F.Files.contents c.one_root.ensures c.one_measure.ensures c.same_cells.ensures c.files_are_there.ensures c.args.files c.read_root.new.files c.load_root.new.files c.read_root.ensures.reads.same c.in-Ok-load_root.ensures.reads.same
    root.top root.floor c.args.file_limit root.next_name root.table c.in-Ok-load_root.tablets.items
    (rw c.in-Ok-Some.field-0-is at c.in-Ok-Some.ensures.sound) c.in-Ok-load_root.ensures.loaded root.lengths.items (rw c.in-Ok-Some.field-0-is at c.in-Ok-Some.ensures.finds) c.in-Ok-load_root.ensures.measured c.in-Ok-load_root.ensures.holds

pub returns-in-Ok-load_root-clause-holds : goal.returns-in-Ok-load_root-clause-holds
returns-in-Ok-load_root-clause-holds g c =
    let root = c.in-Ok-Some.root in
    opened_holds g.F.Files.contents c.one_root.ensures c.one_measure.ensures c.same_cells.ensures c.files_are_there.ensures c.args.files c.read_root.new.files c.load_root.new.files c.read_root.ensures.reads.same c.in-Ok-load_root.ensures.reads.same
    root.top root.floor c.args.file_limit root.next_name root.table c.in-Ok-load_root.tablets.items
    (rw c.in-Ok-Some.field-0-is at c.in-Ok-Some.ensures.sound) c.in-Ok-load_root.ensures.loaded root.lengths.items (rw c.in-Ok-Some.field-0-is at c.in-Ok-Some.ensures.finds) c.in-Ok-load_root.ensures.measured c.in-Ok-load_root.ensures.holds

pub returns-in-Ok-load_root-clause-whole : goal.returns-in-Ok-load_root-clause-whole
returns-in-Ok-load_root-clause-whole g c =
    let root = c.in-Ok-Some.root in
    opened_whole g.F.Files.contents c.one_root.ensures c.one_measure.ensures c.same_cells.ensures c.files_are_there.ensures c.args.files c.read_root.new.files c.load_root.new.files c.read_root.ensures.reads.same c.in-Ok-load_root.ensures.reads.same
    root.top root.floor c.args.file_limit root.next_name root.table c.in-Ok-load_root.tablets.items
    (rw c.in-Ok-Some.field-0-is at c.in-Ok-Some.ensures.sound) c.in-Ok-load_root.ensures.loaded root.lengths.items (rw c.in-Ok-Some.field-0-is at c.in-Ok-Some.ensures.finds) c.in-Ok-load_root.ensures.measured c.in-Ok-load_root.ensures.holds

pub returns-in-Ok-load_root-clause-kept : goal.returns-in-Ok-load_root-clause-kept
returns-in-Ok-load_root-clause-kept g c =
    let root = c.in-Ok-Some.root in
    opened_kept g.F.Files.contents c.one_root.ensures c.one_measure.ensures c.same_cells.ensures c.files_are_there.ensures c.args.files c.read_root.new.files c.load_root.new.files c.read_root.ensures.reads.same c.in-Ok-load_root.ensures.reads.same
    root.top root.floor c.args.file_limit root.next_name root.table c.in-Ok-load_root.tablets.items
    (rw c.in-Ok-Some.field-0-is at c.in-Ok-Some.ensures.sound) c.in-Ok-load_root.ensures.loaded root.lengths.items (rw c.in-Ok-Some.field-0-is at c.in-Ok-Some.ensures.finds) c.in-Ok-load_root.ensures.measured c.in-Ok-load_root.ensures.holds

pub returns-in-Err-load_root-clause-damaged : goal.returns-in-Err-load_root-clause-damaged
returns-in-Err-load_root-clause-damaged g c = λ is.
    lacks_told (g.F.Files.contents c.args.files) (root_of c.in-Ok-Some.root) c.in-Ok-Some.root.lengths.items (rw c.in-Ok-Some.field-0-is at c.in-Ok-Some.ensures.finds)
    (subst (λ (told : Option Contents). IfSome told (λ m. LacksFile m c.in-Ok-Some.root.table ⊎ (¬ AreMeasured m (file_names c.in-Ok-Some.root.table) c.in-Ok-Some.root.lengths.items))) c.read_root.ensures.reads.same (c.in-Err-load_root.ensures.damaged (err_of c.in-Err-load_root.refusal Damaged is)))

pub returns-in-Err-load_root-clause-kept : goal.returns-in-Err-load_root-clause-kept
returns-in-Err-load_root-clause-kept g c =
    not_damaged g.F.Files.contents c.one_root.ensures c.one_measure.ensures c.same_cells.ensures c.files_are_there.ensures (g.F.Files.contents c.args.files) _ (λ is.
    lacks_told (g.F.Files.contents c.args.files) (root_of c.in-Ok-Some.root) c.in-Ok-Some.root.lengths.items (rw c.in-Ok-Some.field-0-is at c.in-Ok-Some.ensures.finds)
    (subst (λ (told : Option Contents). IfSome told (λ m. LacksFile m c.in-Ok-Some.root.table ⊎ (¬ AreMeasured m (file_names c.in-Ok-Some.root.table) c.in-Ok-Some.root.lengths.items))) c.read_root.ensures.reads.same (c.in-Err-load_root.ensures.damaged (err_of c.in-Err-load_root.refusal Damaged is))))

pub returns-in-Err-clause-damaged : goal.returns-in-Err-clause-damaged
returns-in-Err-clause-damaged g c = λ is. bad_is_damaged _ (c.in-Err.ensures.damaged (err_of c.in-Err.refusal Damaged is))
