use Rattle.std.proofs.Common.{◌∙◌, sym}
use Rattle.request_codec.proofs.Fields.{same_cell, if_none}
use Rattle.request_codec.proofs.read_bodies.whole_lock.Goals as goal

pub returns-in_err-start-clause-none : goal.returns-in_err-start-clause-none
returns-in_err-start-clause-none c =
    if_none c.from_residual-in_err-start.result (λ cell start fits e.
    c.in_err-start.ensures.none start (same_cell _ cell _ _ c.in_ok-row.ensures.fits fits (sym c.in_ok-row.ensures.found ∙ e)).1)
