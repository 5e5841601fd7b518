-- The log failed between the flush and the put.
use Rattle.std.proofs.Common.{refl}
use Rattle.si_model.specs.Machine.{refuses}
use Rattle.si_model.specs.Refusing.{gives_up}
use Rattle.durable.specs.Answers.PutsRoot.{unlogged}
use Rattle.durable.proofs.server.DurableServer.name_next_root.Goals as goal

pub returns-in-Err-log_root-clause-answered : goal.returns-in-Err-log_root-clause-answered
returns-in-Err-log_root-clause-answered g c = unlogged refl refl (c.args.self.now.server, c.flush_now.new.self, g.met.S.Journaled.same_self c.args.self.now.server, c.in-Ok.ensures.rootless.says, g.met.S.Journaled.same_self c.flush_now.new.self)

pub returns-in-Err-log_root-clause-step : goal.returns-in-Err-log_root-clause-step
returns-in-Err-log_root-clause-step g c = λ before reached shown. (before, refuses (gives_up tt), c.in-Ok.ensures.shown before shown, λ e. cc)
