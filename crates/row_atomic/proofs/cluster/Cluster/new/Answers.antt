-- The first tablet shows nothing, and has all rows.
use Rattle.std.proofs.Common.{List, [], ◌∷◌, refl, sym, subst, ap, ◌∙◌}
use Rattle.metadata_table.specs.Places.{PlaceView}
use Rattle.tablet.specs.declared.tablet.Tablet.{Tablet}
use Rattle.row_atomic.specs.Clusters.{InOrder, IsMatched, cells_in}
use Rattle.row_atomic.specs.Memtables.{HaveAtMost}
use Rattle.row_atomic.proofs.Fresh.{new_cells, new_in_order, new_matched}
use Rattle.row_atomic.proofs.Memtables.{all_emptied}
use Rattle.row_atomic.proofs.PlaceCaches.{none_held}
use Rattle.row_atomic.proofs.cluster.Cluster.new.Goals as goal

pub invariant_of-result : goal.invariant_of-result
invariant_of-result g c =
    let first = c.in-Ok-first_tablet.ensures.tablet in (
      subst (λ (ts : List Tablet). IsMatched c.args.file_limit 1 c.in-Ok-first_tablet.table ts) (sym first.alone)
          (subst (λ (ps : List PlaceView). IsMatched c.args.file_limit 1 ps (first.tablet ∷ [])) (sym c.in-Ok-first_tablet.ensures.table)
          (new_matched first.tablet first.memory first.files c.args.file_limit c.requires.limit first.range)),
      none_held c.in-Ok-first_tablet.table c.in-Ok.place_cache.numbers.entries c.in-Ok.ensures.none,
      subst (HaveAtMost _) (sym first.alone) (all_emptied _ (first.tablet ∷ []) (first.memory, tt)),
    )

pub returns-in-Ok-first_tablet-clause-cells : goal.returns-in-Ok-first_tablet-clause-cells
returns-in-Ok-first_tablet-clause-cells g c =
    let first = c.in-Ok-first_tablet.ensures.tablet in
    ap (cells_in (g.F.Files.contents c.args.files)) first.alone ∙ new_cells first.tablet first.memory first.files (g.F.Files.contents c.args.files)

pub returns-in-Ok-first_tablet-clause-holds : goal.returns-in-Ok-first_tablet-clause-holds
returns-in-Ok-first_tablet-clause-holds g c =
    let first = c.in-Ok-first_tablet.ensures.tablet in
    λ told. (subst (λ (ts : List Tablet). InOrder (g.F.Files.contents c.args.files) 1 ts) (sym first.alone) (new_in_order first.tablet first.memory first.files (g.F.Files.contents c.args.files) 1 told), tt)

pub returns-in-Ok-first_tablet-clause-name : goal.returns-in-Ok-first_tablet-clause-name
returns-in-Ok-first_tablet-clause-name g c = refl
