use Rattle.std.proofs.Common.{refl}
use Rattle.servers_model.proofs.Changed.{result_changes}
use Rattle.servers_model.proofs.served.serve_step.Goals as goal

pub returns : goal.returns
returns g c = record {
  serves = λ holds. record {
    kind = refl;
    steps = c.step.ensures.step holds;
    changed = result_changes g.R.Rows.seen c.args.clients.now c.args.start c.args.rows.now c.step.new.rows holds g.S.Stamps.source c.args.stamps.now c.step.new.stamps
        c.step.result c.step.ensures.refused c.step.ensures.accepted;
  };
}
