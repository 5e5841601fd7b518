use Rattle.std.proofs.Common.{◌≡◌, ℕ, Err, IsErrOf, inl, inr, ap, sym}
use Rattle.si_model.specs.Machine.{Refused, accepts, refuses, sweeps, tells}
use Rattle.si_model.specs.Refusing.{gives_up}
use Rattle.si_model.specs.Transactions.{Said, steps}
use Rattle.cell_key.specs.declared.refusals.Refusal.{Refusal}
use Rattle.cell_key.specs.declared.refusals.Refusal.TheVariants.{Damaged}
use Rattle.durable.specs.Answers.{swept}
use Rattle.durable.proofs.server.DurableServer.sweep.Goals as goal

-- a reply's refusal is the call's
named : (refusal : Refusal) → Said (Refused refusal) ≡ Said (Refused Damaged) → IsErrOf {T = ℕ} (Err refusal) Damaged
named refusal is = cc

pub returns-in-Ok-clause-says : goal.returns-in-Ok-clause-says
returns-in-Ok-clause-says g c = record {
  answered = (c.sweep_files.result, sym (ap swept c.in-Ok.is), c.sweep_files.ensures.swept);
  goes_on = λ now reached shown. record {
    next = now;
    goes = steps (accepts (λ refusal applies. elim applies [ ]) (tells sweeps));
    shown = c.sweep_files.ensures.settles.shown now shown;
    whole = λ is. cc;
    logged = c.sweep_files.ensures.settles.logged now reached shown;
    lasting = λ logs st lasts. elim (c.sweep_files.ensures.settles.lasting now reached shown logs st lasts) [ inl same ↦ inl same | inr is ↦ inr (inl is) ];
  };
}

pub returns-in-Err-clause-says : goal.returns-in-Err-clause-says
returns-in-Err-clause-says g c = record {
  answered = (c.sweep_files.result, sym (ap swept c.in-Err.is), c.sweep_files.ensures.swept);
  goes_on = λ now reached shown. record {
    next = now;
    goes = steps (refuses (gives_up c.in-Err.ensures.refusal));
    shown = c.sweep_files.ensures.settles.shown now shown;
    whole = λ is. c.in-Err.ensures.whole now shown (named c.in-Err.refusal is);
    logged = c.sweep_files.ensures.settles.logged now reached shown;
    lasting = λ logs st lasts. elim (c.sweep_files.ensures.settles.lasting now reached shown logs st lasts) [ inl same ↦ inl same | inr is ↦ inr (inl is) ];
  };
}
