use Rattle.std.proofs.Common.{refl}
use Rattle.si_model.specs.Messages.{Reported}
use Rattle.request_codec.proofs.Fields.{on_err}
use Rattle.request_codec.proofs.decode_replies.decode_status.Goals as goal

pub returns-in_err-from_slice-clause-needed : goal.returns-in_err-from_slice-clause-needed
returns-in_err-from_slice-clause-needed c = on_err c.from_residual.result (Reported c.args.fields.now, record { numbers = tt; bytes = tt; whole = refl }, tt)
