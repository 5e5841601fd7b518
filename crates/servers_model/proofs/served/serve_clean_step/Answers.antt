use Rattle.std.proofs.Common.{refl}
use Rattle.servers_model.proofs.Changed.{cleaned_changes}
use Rattle.servers_model.proofs.served.serve_clean_step.Goals as goal

pub returns : goal.returns
returns g c = record {
  serves = λ holds. record {
    kind = refl;
    steps = c.step.ensures.step holds;
    changed = cleaned_changes g.R.Rows.seen c.args.cleaners.now c.args.number c.args.rows.now c.step.new.rows c.step.result c.step.ensures.same (c.step.ensures.made holds);
  };
}
