-- The room fits the tablet.
use Rattle.std.proofs.Common.{◌<◌, ℕ, subst, sym}
use Rattle.std.proofs.lemmas.Result.{IfOk-weaker}
use Rattle.tablet.specs.declared.tablet.Tablet.{Tablet}
use Rattle.row_atomic.specs.ListRoom.{HasOpenRoom}
use Rattle.row_atomic.proofs.ChangedTablets.{is_there, numbered_at}
use Rattle.row_atomic.proofs.RowAnswers.{index_below}
use Rattle.row_atomic.proofs.cluster.Cluster.room_for_move.Goals as goal

pub position-index-requires : goal.position-index-requires
position-index-requires g c = record { known = c.requires.known }

pub index-requires : goal.index-requires
index-requires g c =
    let at = rw (← c.self.view_is) at c.position-index.ensures in
    subst (λ (n : ℕ). c.position-index.result < n) (sym c.self.inside.tablets.ok.0) (index_below c.self.inside.tablets.items c.position-index.result at.tablet at.there)

pub returns-clause-room : goal.returns-clause-room
returns-clause-room g c =
    let at = rw (← c.self.view_is) at c.position-index.ensures in
    let found = is_there c.self.inside.tablets.items c.position-index.result at.tablet c.index.result.now at.there c.index.ensures in
    rw (← c.self.view_is) (IfOk-weaker c.room_to_open.result _ _ (λ room for. record {
      tablet = at.tablet;
      numbered = numbered_at c.self.inside.tablets.items c.args.tablet c.position-index.result at.tablet at.number at.there;
      such = subst (λ (t : Tablet). HasOpenRoom room 1 t) found for;
    }) c.room_to_open.ensures.room)
