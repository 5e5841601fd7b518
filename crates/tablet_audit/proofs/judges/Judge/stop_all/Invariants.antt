use Rattle.std.proofs.Common.{true}
use Rattle.ownership.specs.Tables.{held_in, table_of}
use Rattle.tablet_audit.specs.Judges.{JudgesStops}
use Rattle.tablet_audit.proofs.judges.Judge.stop_all.Given as goal

abbrev pub decreases-sessions : goal.decreases-sessions
decreases-sessions l = held_in (table_of l.self.owners) l.client

-- some of the client's sessions were stopped
abbrev pub invariant-sessions : goal.invariant-sessions
invariant-sessions l = JudgesStops l.fn.self l.self l.client true
