-- A sweep leaves the root, the journal and the log.
use Rattle.std.proofs.Common.{inl, refl}
use Rattle.durable.proofs.Logged.{lasts_on, logs_on, no_less, still_lasts}
use Rattle.durable.proofs.server.DurableServer.sweep_files.Goals as goal

pub returns-then-not-is_recording-clause-settles : goal.returns-then-not-is_recording-clause-settles
returns-then-not-is_recording-clause-settles g c = record {
  shown = λ st shown. shown;
  logged = λ now reached shown logs. inl refl;
  lasting = λ now reached shown logs st lasts. inl (lasts_on g.S.Journaled.view g.L.Log c.logs_edits.ensures c.names_roots.ensures c.args.self.now _ st (λ root base places is. is, no_less _) lasts lasts.kept.in_log.0 (inl refl));
}

pub returns-clause-settles : goal.returns-clause-settles
returns-clause-settles g c = let swept = c.sweep_now.ensures in record {
  shown = swept.shown;
  logged = λ now reached shown logs. logs_on g.S.Journaled.view g.L.Log c.logs_edits.ensures c.names_roots.ensures c.args.self.now c.sweep_now.new.self swept.stays swept.keeps.has logs;
  lasting = λ now reached shown logs st lasts. inl (still_lasts g.S.Journaled.view g.L.Log c.logs_edits.ensures c.names_roots.ensures c.args.self.now c.sweep_now.new.self st swept.stays.stored swept.keeps.has lasts);
}
