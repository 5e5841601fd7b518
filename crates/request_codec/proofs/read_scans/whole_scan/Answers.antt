use Rattle.std.proofs.Common.{◌∙◌, sym, ap, drop}
use Rattle.request_codec.specs.Fields.{number}
use Rattle.request_codec.proofs.Fields.{past_number, if_none}
use Rattle.request_codec.proofs.Scans.{same_range}
use Rattle.request_codec.proofs.read_scans.whole_scan.Goals as goal

pub returns-in_err-keys_only-clause-none : goal.returns-in_err-keys_only-clause-none
returns-in_err-keys_only-clause-none c =
    if_none c.from_residual-in_err-keys_only.result (λ start keys_only range cells fits e.
    c.in_err-keys_only.ensures.none keys_only _ (past_number 8 c.in_ok-start.start start _ _ (sym c.in_ok-start.ensures.found ∙ e)))

pub returns-in_err-range-clause-none : goal.returns-in_err-range-clause-none
returns-in_err-range-clause-none c =
    if_none c.from_residual-in_err-range.result (λ start keys_only range cells fits e.
    c.in_err-range.ensures.none range (number 4 cells) fits
    (ap (drop 1) (sym c.in_ok-keys_only.ensures.found ∙ past_number 8 c.in_ok-start.start start _ _ (sym c.in_ok-start.ensures.found ∙ e))))

pub returns-in_err-cells-clause-none : goal.returns-in_err-cells-clause-none
returns-in_err-cells-clause-none c =
    if_none c.from_residual-in_err-cells.result (λ start keys_only range cells fits e.
    c.in_err-cells.ensures.none cells
    (same_range _ range _ _ c.in_ok-range.ensures.fits fits
    (sym c.in_ok-range.ensures.found
    ∙ ap (drop 1) (sym c.in_ok-keys_only.ensures.found ∙ past_number 8 c.in_ok-start.start start _ _ (sym c.in_ok-start.ensures.found ∙ e)))).1)
