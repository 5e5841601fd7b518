use Rattle.std.proofs.Common.{◌≡◌, ◌∙◌, ◌+◌, max, map, Option, refl, sym, subst, ap}
use Rattle.std.specs.Prelude.{is_some, if◌then◌else◌}
use Rattle.std.specs.BTreeMap as btree
use Rattle.si_model.specs.Machine as machine
use Rattle.audit.specs.Audits.{write_of}
use Rattle.audit.specs.Commits.{latest_of}
use Rattle.audit.specs.declared.audit.parts.Phase.{Phase}
use Rattle.audit.proofs.KeptMaps.{on_ok}
use Rattle.audit.proofs.audit.Audit.commit_writes.Goals as goal

pub returns-clause-ok : goal.returns-clause-ok
returns-clause-ok c = record {
  others = refl;
  begun = c.in_ok-was.ensures.updates.0;
  ended = record {
    at = c.remove.ensures.updates.0;
    len = subst (λ (o : Option Phase). btree.btree_map_len c.remove.new.self + (if is_some o then 1 else 0) ≡ btree.btree_map_len c.args.self.now.active) c.remove.ensures.value c.remove.ensures.len;
  };
  commit = record { start = c.args.session; stamp = c.args.stamp; writes = c.in_ok-copies.copies; latest = max (latest_of 0 c.args.self.now.commits) c.args.stamp };
  reads = ap (λ (ws : machine.Writes). record { start = c.args.session; stamp = c.args.stamp; writes = ws }) (c.in_ok-copies.ensures ∙ ap (map write_of) c.deref.ensures.value);
  added = on_ok c.push.result (sym c.is_err.ensures.value ∙ c.if-is_err.false) c.push.ensures.ok;
}
