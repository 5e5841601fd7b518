-- The table is copied and cut, and the lists get room for the tablet's names.
use Rattle.std.proofs.Common.{◌≡◌, ◌+◌, ◌<◌, ℕ, List, length, ap, ◌∙◌, subst, sym}
use Rattle.metadata_table.specs.Places.{PlaceView}
use Rattle.metadata_table.specs.Table.{BarsSplit, Cuts}
use Rattle.tablet.specs.Views.{names_of}
use Rattle.tablet.specs.declared.tablet.Tablet.{Tablet}
use Rattle.row_atomic.specs.ListRoom.{IsEmptyFor}
use Rattle.row_atomic.proofs.ChangedTablets.{is_there, numbered_at}
use Rattle.row_atomic.proofs.RowAnswers.{index_below}
use Rattle.row_atomic.proofs.cluster.Cluster.room_for_cut.Goals as goal

pub position-index-requires : goal.position-index-requires
position-index-requires g c = record { known = c.requires.known }

pub cut_at-requires : goal.cut_at-requires
cut_at-requires g c =
    let free = rw (← c.self.view_is) at c.requires.free in
    let copied : c.in_ok-table.table ≡ c.self.inside.table = c.in_ok-table.ensures.cases in
    record { free = λ bars. free (subst (λ (ps : List PlaceView). BarsSplit c.args.row.now ps) copied bars) }

pub index-requires : goal.index-requires
index-requires g c =
    let at = rw (← c.self.view_is) at c.position-index.ensures in
    subst (λ (n : ℕ). c.position-index.result < n) (sym c.self.inside.tablets.ok.0) (index_below c.self.inside.tablets.items c.position-index.result at.tablet at.there)

pub index-requires-2 : goal.index-requires-2
index-requires-2 g c =
    let at = rw (← c.self.view_is) at c.position-index.ensures in
    subst (λ (n : ℕ). c.position-index.result < n) (sym c.self.inside.tablets.ok.0) (index_below c.self.inside.tablets.items c.position-index.result at.tablet at.there)

pub returns-clause-number : goal.returns-clause-number
returns-clause-number g c =
    let copied : c.in_ok-table.table ≡ c.self.inside.table = c.in_ok-table.ensures.cases in
    rw (← c.self.view_is) (c.in_ok-left.ensures.number ∙ ap (λ (ps : List PlaceView). length ps + 1) copied)

pub returns-clause-cut : goal.returns-clause-cut
returns-clause-cut g c =
    let copied : c.in_ok-table.table ≡ c.self.inside.table = c.in_ok-table.ensures.cases in
    rw (← c.self.view_is) (subst (λ (ps : List PlaceView). Cuts c.args.row.now c.in_ok-left.left ps c.cut_at.new.self) copied c.in_ok-left.ensures.cut)

pub returns-clause-names : goal.returns-clause-names
returns-clause-names g c =
    let at = rw (← c.self.view_is) at c.position-index.ensures in
    let first = is_there c.self.inside.tablets.items c.position-index.result at.tablet c.index.result.now at.there c.index.ensures in
    let second = is_there c.self.inside.tablets.items c.position-index.result at.tablet c.index-2.result.now at.there c.index-2.ensures in
    rw (← c.self.view_is) (record {
      tablet = at.tablet;
      numbered = numbered_at c.self.inside.tablets.items c.args.holder c.position-index.result at.tablet at.number at.there;
      such = record {
        left = subst (λ (t : Tablet). IsEmptyFor (length (names_of t) + 1) c.in_ok-left_names.left_names) first (record { empty = c.in_ok-left_names.ensures.empty; room = c.in_ok-left_names.ensures.room });
        right = subst (λ (t : Tablet). IsEmptyFor (length (names_of t) + 1) c.in_ok-right_names.right_names) second (record { empty = c.in_ok-right_names.ensures.empty; room = c.in_ok-right_names.ensures.room });
      };
    })

pub returns-clause-tablets : goal.returns-clause-tablets
returns-clause-tablets g c =
    let len = c.len-count.ensures.len in
    rw (← c.self.view_is) (subst (λ (n : ℕ). IsEmptyFor (n + 1) c.in_ok-tablets.tablets) len (record { empty = c.in_ok-tablets.ensures.items; room = c.in_ok-tablets.ensures.capacity }))
