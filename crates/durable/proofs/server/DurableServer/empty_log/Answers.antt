use Rattle.std.proofs.Common.{inl, inr, refl, sym, ap}
use Rattle.std.specs.Prelude.{Err}
use Rattle.durable.proofs.Logged.{emptied_lasts, holds_root, lasts_on, lasts_still, no_less}
use Rattle.durable.proofs.server.DurableServer.empty_log.Goals as goal

pub returns-in-Ok-clause-kept : goal.returns-in-Ok-clause-kept
returns-in-Ok-clause-kept g c = λ st put holds last covered lasts.
    let stays = c.emptied.ensures.stays in
    let in_log = c.in-Ok.ensures.ok lasts.kept.records lasts.kept.in_log.0 in
    let root = g.S.Journaled.view.next_root c.args.self.now.server in (
      emptied_lasts g.S.Journaled.view g.L.Log c.logs_edits.ensures c.names_roots.ensures c.args.self.now.server _ root st put stays.stored holds.low holds.limit last in_log (inr (sym c.emptied.ensures.logged)),
      inr (root, stays.rooted root put.rooted, holds_root g.S.Journaled.view g.L.Log c.logs_edits.ensures c.names_roots.ensures _ root holds.low holds.limit covered in_log c.emptied.ensures.logged),
    )

pub returns-in-Err-NoMemory-clause-kept : goal.returns-in-Err-NoMemory-clause-kept
returns-in-Err-NoMemory-clause-kept g c = λ st put holds last covered lasts.
    lasts_still g.S.Journaled.view g.L.Log c.logs_edits.ensures c.names_roots.ensures c.args.self.now c.renew_log.new.log st (c.in-Err-NoMemory.ensures.unchanged (ap Err c.in-Err-NoMemory.field-0-is)) (inr (g.S.Journaled.view.next_root c.args.self.now.server, put.rooted, holds)) lasts

pub returns-in-Err-clause-kept : goal.returns-in-Err-clause-kept
returns-in-Err-clause-kept g c = λ st put holds last covered lasts. (
  elim (c.in-Err.ensures.err lasts.kept.records lasts.kept.in_log.0) [
    | inl same ↦ lasts_on g.S.Journaled.view g.L.Log c.logs_edits.ensures c.names_roots.ensures c.args.self.now _ st (λ root base places is. is, no_less _) lasts same (inl refl)
    | inr one ↦ emptied_lasts g.S.Journaled.view g.L.Log c.logs_edits.ensures c.names_roots.ensures c.args.self.now.server _ (g.S.Journaled.view.next_root c.args.self.now.server) st put (λ root base places is. is) holds.low holds.limit last one (inl refl)
  ],
  inl refl,
)
