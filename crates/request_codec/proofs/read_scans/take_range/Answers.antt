use Rattle.std.proofs.Common.{List, ℕ, ◌++◌, ◌∙◌, ap, sym}
use Rattle.si_model.specs.Reads.{cell_of}
use Rattle.si_model.specs.Replies.{range_of}
use Rattle.request_codec.specs.Fields.{field, optional, cell_fields, FitsCell, FitsField}
use Rattle.request_codec.proofs.Fields.{if_none}
use Rattle.request_codec.proofs.Scans.{range-append, same_optional_cell, same_optional_bytes, fits_mapped}
use Rattle.request_codec.proofs.read_scans.take_range.Goals as goal

pub returns-in_err-after-clause-none : goal.returns-in_err-after-clause-none
returns-in_err-after-clause-none c =
    if_none c.from_residual.result (λ range after fits e. c.in_err-after.ensures.none range.after _ fits.after (e ∙ range-append range after))

pub returns-in_err-end-clause-none : goal.returns-in_err-end-clause-none
returns-in_err-end-clause-none c =
    let a = c.in_ok-after in
    let a_fits = fits_mapped a.after (λ p. cell_of p.0.now p.1.now) (λ cell. FitsCell cell) a.ensures.fits in
    if_none c.from_residual-in_err-end.result (λ range after fits e.
    c.in_err-end.ensures.none range.end _ fits.end
    (same_optional_cell _ range.after _ _ a_fits fits.after (sym a.ensures.found ∙ e ∙ range-append range after)).1)

pub returns-in_err-family-clause-none : goal.returns-in_err-family-clause-none
returns-in_err-family-clause-none c =
    let a = c.in_ok-after in
    let b = c.in_ok-end in
    let a_fits = fits_mapped a.after (λ p. cell_of p.0.now p.1.now) (λ cell. FitsCell cell) a.ensures.fits in
    let b_fits = fits_mapped b.end (λ bytes. bytes.now) (λ bytes. FitsField bytes) b.ensures.fits in
    if_none c.from_residual-in_err-family.result (λ range after fits e.
    c.in_err-family.ensures.none range.family after fits.family
    (same_optional_bytes _ range.end _ _ b_fits fits.end
    (sym b.ensures.found ∙ (same_optional_cell _ range.after _ _ a_fits fits.after (sym a.ensures.found ∙ e ∙ range-append range after)).1)).1)

pub returns-clause-found : goal.returns-clause-found
returns-clause-found c =
    let range = range_of (record { after = c.in_ok-after.after; end = c.in_ok-end.end; family = c.in_ok-family.family }) in
    c.in_ok-after.ensures.found
    ∙ ap (λ (t : List ℕ). optional cell_fields range.after ++ t) (c.in_ok-end.ensures.found ∙ ap (λ (t : List ℕ). optional field range.end ++ t) c.in_ok-family.ensures.found)
    ∙ sym (range-append range c.take_optional_bytes-2.new.rest.now)
