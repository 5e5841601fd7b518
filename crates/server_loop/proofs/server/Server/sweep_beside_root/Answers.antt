-- The state that is shown stays, and so does the way of the journal.
use Rattle.std.proofs.Common.{refl}
use Rattle.server_loop.proofs.UpkeepSteps.{same_spots, still_shown}
use Rattle.server_loop.proofs.server.Server.sweep_beside_root.Goals as goal

pub returns-clause-shown : goal.returns-clause-shown
returns-clause-shown g c = let o = c.sweep_beside_root.ensures in λ st shown.
    still_shown g.F.Files.contents _ _ (λ held. (o.still held, o.shown held)) (λ held follows. c.keeps_following.ensures.root_sweeps _ _ _ _ o held follows) refl refl refl refl st
    (same_spots c.args.self.now.rows.cluster c.sweep_beside_root.new.self c.sweep_beside_root.new.self.files c.sweep_beside_root.new.self.merge o.rest) shown
