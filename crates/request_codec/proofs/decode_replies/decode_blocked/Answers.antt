use Rattle.std.proofs.Common.{rules, ℕ, List, ◌∷◌, ◌∙◌, ap, sym, subst}
use Rattle.cell_key.specs.Names.{IsRow, IsFamily}
use Rattle.si_model.specs.Messages.{Blocked}
use Rattle.si_model.specs.declared.replies.Cell.{Cell}
use Rattle.request_codec.proofs.Fields.{on_err, same_cell}
use Rattle.request_codec.proofs.Names.{cell_fits}
use Rattle.request_codec.proofs.OneReply.{blocked_only}
use Rattle.request_codec.proofs.decode_replies.decode_blocked.Goals as goal

pub returns-in_err-cell-clause-needed : goal.returns-in_err-cell-clause-needed
returns-in_err-cell-clause-needed c =
    let found = c.in-Some.ensures in
    let named : IsRow c.in-Some.row.now × IsFamily c.in-Some.family.now = search rules in
    on_err c.from_residual.result (
      Blocked (record { row = c.in-Some.row.now; family = c.in-Some.family.now }) c.in-Some.start,
      record { numbers = found.number; bytes = named; whole = ap (λ (t : List ℕ). 0x89 ∷ 0x02 ∷ t) found.found },
      tt,
    )

pub returns-in_default-2-clause-none : goal.returns-in_default-2-clause-none
returns-in_default-2-clause-none c = λ reply is.
    let found = c.in-Some.ensures in
    let unnamed : ¬ (IsRow c.in-Some.row.now × IsFamily c.in-Some.family.now) = search rules in
    let b = blocked_only reply c.args.rest.now is in
    let same = same_cell _ b.cell _ _ found.cell (cell_fits b.cell b.row b.family) (sym found.found ∙ b.fields) in
    unnamed (subst (λ (d : Cell). IsRow d.row × IsFamily d.family) (sym same.0) (b.row, b.family))
