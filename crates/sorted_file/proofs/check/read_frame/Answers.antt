use Rattle.std.proofs.Common.{refl}
use Rattle.cell_key.proofs.Passed.{passed_on}
use Rattle.sorted_file.proofs.check.read_frame.Goals as goal

pub returns-in_err-at-clause-damaged : goal.returns-in_err-at-clause-damaged
returns-in_err-at-clause-damaged g c = λ is. c.in_err-at.ensures.damaged (passed_on c.from_residual.result _ c.in_err-at.field-0.0 _ c.from_residual.ensures.1 refl is)
