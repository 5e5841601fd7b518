use Rattle.std.proofs.Common.{ap}
use Rattle.server_loop.specs.Server.{cluster_of, machine_places}
use Rattle.durable.proofs.Stored.{read_storage, stays_rooted, sweep_keeps, swept_sound}
use Rattle.durable.proofs.journaled_server.ServerJournaled.sweep_now.Goals as goal

pub returns-clause-refusal : goal.returns-clause-refusal
returns-clause-refusal g c = read_storage c.sweep_beside_root.result c.sweep_beside_root.ensures.swept.refusal

pub returns-clause-whole : goal.returns-clause-whole
returns-clause-whole g c = λ recording st shown. swept_sound g.F.Files.contents g.F.Files.faults c.root_outlasts_sweeps.ensures c.args.self.now c.sweep_beside_root.new.self c.sweep_beside_root.result c.sweep_beside_root.ensures.swept recording shown.in_order.1

pub returns-clause-keeps : goal.returns-clause-keeps
returns-clause-keeps g c = sweep_keeps g.F.Files.contents c.args.self.now c.sweep_beside_root.new.self c.sweep_beside_root.ensures.others

pub returns-clause-stays : goal.returns-clause-stays
returns-clause-stays g c = stays_rooted g.F.Files.contents c.args.self.now c.sweep_beside_root.new.self
    (λ root cells. c.root_outlasts_sweeps.ensures.stays root cells c.sweep_beside_root.result (cluster_of c.args.self.now) (cluster_of c.sweep_beside_root.new.self) c.sweep_beside_root.ensures.swept)
    (ap (λ s. machine_places s.places) c.sweep_beside_root.ensures.swept.rest)
