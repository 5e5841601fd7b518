use Rattle.std.proofs.Common.{◌≡◌, ℕ, List}
use Rattle.ownership.specs.Tables.{held_in, table_of}
use Rattle.server_loop.specs.Clients.{StopsEach}
use Rattle.server_loop.proofs.client_server.ClientServer.stop_all.Given as goal

abbrev pub decreases-loop : goal.decreases-loop
decreases-loop g l = held_in (table_of l.self.owners) l.client

-- some of the client's sessions were stopped
abbrev pub invariant-loop : goal.invariant-loop
invariant-loop g l =
    ((starts : List ℕ) × StopsEach g.A.Handler.shows g.A.Handler.says l.client l.fn.self starts l.self)
    × (l.self.admin ≡ l.fn.self.admin)
