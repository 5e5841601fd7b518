use Rattle.std.proofs.Common.{rules, IsErrOf}
use Rattle.cell_key.specs.Names.{IsRow}
use Rattle.cell_key.specs.declared.refusals.Refusal.TheVariants.{BadColumn}
use Rattle.request_codec.proofs.Names.{family_stable}
use Rattle.request_codec.proofs.Fields.{on_err}
use Rattle.request_codec.proofs.decode_replies.cell_of.Goals as goal

pub returns-in_err-family-clause-needed : goal.returns-in_err-family-clause-needed
returns-in_err-family-clause-needed c =
    let row : IsRow c.args.row.now = search rules in
    let good : ¬ IsErrOf c.new-2.result BadColumn = search rules in
    on_err c.from_residual-in_err-family.result (row, family_stable c.args.family.now (λ no. good (c.new-2.ensures.bad.1 no)))
