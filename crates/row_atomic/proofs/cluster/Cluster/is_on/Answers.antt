use Rattle.std.proofs.Common.{inr, Bool, Err, IsErrOf, refl}
use Rattle.cell_key.specs.declared.refusals.Refusal.TheVariants.{UnknownServer, UnknownTablet}
use Rattle.metadata_table.specs.Places.{view_of}
use Rattle.row_atomic.proofs.MovedTablets.{on_same}
use Rattle.row_atomic.proofs.PassedRefusals.{below_only, none_answered, not_refused}
use Rattle.row_atomic.proofs.cluster.Cluster.is_on.Goals as goal

server_alone : ¬ IsErrOf {T = Bool} (Err UnknownServer) UnknownTablet
server_alone is = cc

pub returns-clause-on : goal.returns-clause-on
returns-clause-on g c =
    rw (← c.self.view_is) (on_same c.self.inside.table (view_of c.in_ok-from.field-0.now) c.args.tablet c.args.server c.in_ok-from.ensures.table c.in_ok-from.ensures.found c.in_ok-from.ensures.named _ refl)

pub returns-clause-known : goal.returns-clause-known
returns-clause-known g c = rw (← c.self.view_is) (view_of c.in_ok-from.field-0.now, c.in_ok-from.ensures.found, c.in_ok-from.ensures.named)

pub returns-clause-below : goal.returns-clause-below
returns-clause-below g c = c.if-server-ge-SERVERS.false

pub returns-clause-refusal : goal.returns-clause-refusal
returns-clause-refusal g c = tt

pub returns-clause-unknown : goal.returns-clause-unknown
returns-clause-unknown g c = rw (← c.self.view_is) ((λ is. absurd (not_refused _ UnknownTablet is)), (λ not. absurd (not (view_of c.in_ok-from.field-0.now, c.in_ok-from.ensures.found, c.in_ok-from.ensures.named))))

pub returns-clause-server : goal.returns-clause-server
returns-clause-server g c = (λ is. absurd (not_refused _ UnknownServer is), λ h. absurd (below_only _ _ c.if-server-ge-SERVERS.false h.1))

pub returns-then-server-ge-SERVERS-clause-known : goal.returns-then-server-ge-SERVERS-clause-known
returns-then-server-ge-SERVERS-clause-known g c = tt

pub returns-then-server-ge-SERVERS-clause-below : goal.returns-then-server-ge-SERVERS-clause-below
returns-then-server-ge-SERVERS-clause-below g c = tt

pub returns-then-server-ge-SERVERS-clause-on : goal.returns-then-server-ge-SERVERS-clause-on
returns-then-server-ge-SERVERS-clause-on g c = tt

pub returns-then-server-ge-SERVERS-clause-refusal : goal.returns-then-server-ge-SERVERS-clause-refusal
returns-then-server-ge-SERVERS-clause-refusal g c = inr refl

pub returns-then-server-ge-SERVERS-clause-unknown : goal.returns-then-server-ge-SERVERS-clause-unknown
returns-then-server-ge-SERVERS-clause-unknown g c = rw (← c.self.view_is) ((λ is. absurd (server_alone is)), (λ not. absurd (not (view_of c.in_ok-from.field-0.now, c.in_ok-from.ensures.found, c.in_ok-from.ensures.named))))

pub returns-then-server-ge-SERVERS-clause-server : goal.returns-then-server-ge-SERVERS-clause-server
returns-then-server-ge-SERVERS-clause-server g c = rw (← c.self.view_is) ((λ is. ((view_of c.in_ok-from.field-0.now, c.in_ok-from.ensures.found, c.in_ok-from.ensures.named), c.if-server-ge-SERVERS.true)), (λ h. refl))

pub returns-in_err-from-clause-known : goal.returns-in_err-from-clause-known
returns-in_err-from-clause-known g c = none_answered c.from_residual.result c.in_err-from.field-0.0 _ c.from_residual.ensures.1

pub returns-in_err-from-clause-below : goal.returns-in_err-from-clause-below
returns-in_err-from-clause-below g c = none_answered c.from_residual.result c.in_err-from.field-0.0 _ c.from_residual.ensures.1

pub returns-in_err-from-clause-on : goal.returns-in_err-from-clause-on
returns-in_err-from-clause-on g c = none_answered c.from_residual.result c.in_err-from.field-0.0 _ c.from_residual.ensures.1

pub returns-in_err-from-clause-table : goal.returns-in_err-from-clause-table
returns-in_err-from-clause-table g c = rw (← c.self.view_is) c.place.ensures.table

pub returns-then-server-ge-SERVERS-clause-table : goal.returns-then-server-ge-SERVERS-clause-table
returns-then-server-ge-SERVERS-clause-table g c = rw (← c.self.view_is) c.place.ensures.table

pub returns-clause-table : goal.returns-clause-table
returns-clause-table g c = rw (← c.self.view_is) c.place.ensures.table
