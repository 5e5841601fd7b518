use Rattle.std.proofs.Common.{rules, ◌∙◌, sym, subst}
use Rattle.si_model.specs.Reads.{cell_of}
use Rattle.si_model.specs.Takings.{IsNamed}
use Rattle.request_codec.proofs.Fields.{same_cell}
use Rattle.request_codec.proofs.Scans.{named_fits}
use Rattle.request_codec.proofs.read_items.take_named.Goals as goal

pub returns-else-is_named-clause-none : goal.returns-else-is_named-clause-none
returns-else-is_named-clause-none c = λ cell after named e.
    let unnamed : ¬ IsNamed (cell_of c.in_ok-row.row.now c.in_ok-row.family.now) = search rules in
    let same = same_cell _ cell _ _ c.in_ok-row.ensures.fits (named_fits cell named) (sym c.in_ok-row.ensures.found ∙ e) in
    unnamed (subst IsNamed (sym same.0) named)
